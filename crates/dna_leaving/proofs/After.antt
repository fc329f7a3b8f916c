-- All links after effects: what is left of them goes along, stays as it is where the link is left out, and fits.
use Rattle.dna_leaving.proofs.Prelude.{◌≡◌, ℕ, Bool, true, false, Option, Some, None, List, [], ◌∷◌, map, length, refl, sym, ap, ◌∙◌, subst}
use Rattle.dna_leaving.proofs.Prelude.{option_map, inr, length-set, length-append, ◌≤◌, arith, slice_get, IfSome, map-append, map-set, length-map}
use Rattle.dna_leaving.proofs.Prelude.{slice_get-map, same_Some, Queues, HasAddress, SegmentBook, LinkOf, LinksOf, with_link, begun, changed}
use Rattle.dna_leaving.proofs.Prelude.{forgotten, freed, booted, booted_link, settled, Effect, GiveAddress, EndAll, Settle, after, all_set}
use Rattle.dna_leaving.proofs.Prelude.{all_pushed, judged_of, rank, LeftOut, Judged, link_left, links_left, LinkFits, AreFit}
use Rattle.dna_leaving.proofs.Judged.{judged_set, out_set, judged_more, out_more, judged_map}
use Rattle.dna_leaving.proofs.LookUps.{NamesOwn, its_port, port_is, look_holds, seen_holds, seen_left, none_left}
use Rattle.dna_leaving.proofs.Effects.{forgotten_left, all_booted_left, settled_left, AllFit, as_before, settled_fit, forgotten_fit, booted_fit}

-- ---- one link

module _ {D : Type 0} (judged : Judged) (s : LinksOf D) where
  abbrev with_links : List (LinkOf D) → LinksOf D
  with_links links = record s { links = links }

  pub changed_left : (n : ℕ) (l : LinkOf D) → judged.here n ≡ true →
      links_left judged (changed n l s) ≡ changed (rank judged.here n) (link_left judged.there l) (links_left judged s)
  changed_left n l is =
      ap with_links
      (ap (map (link_left judged.there)) (judged_set judged.here s.links n l is)
      ∙ map-set (link_left judged.there) (judged_of judged.here s.links) (rank judged.here n) l)

  pub changed_out : (n : ℕ) (l : LinkOf D) → judged.here n ≡ false → links_left judged (changed n l s) ≡ links_left judged s
  changed_out n l is = ap with_links (ap (map (link_left judged.there)) (out_set judged.here s.links n l is))

  pub begun_left : (l : LinkOf D) → judged.here (length s.links) ≡ true →
      links_left judged (begun l s) ≡ begun (link_left judged.there l) (links_left judged s)
  begun_left l is =
      ap with_links
      (ap (map (link_left judged.there)) (judged_more judged.here s.links l is)
      ∙ map-append (link_left judged.there) (judged_of judged.here s.links) (l ∷ []))

  pub begun_out : (l : LinkOf D) → judged.here (length s.links) ≡ false → links_left judged (begun l s) ≡ links_left judged s
  begun_out l is = ap with_links (ap (map (link_left judged.there)) (out_more judged.here s.links l is))

module _ {D : Type 0} (out : LeftOut) (judged : Judged) (s : LinksOf D) (fit : AreFit out judged s) where
  pub changed_fit : (b : Bool) (n : ℕ) (l : LinkOf D) → judged.here n ≡ b → LinkFits out judged.there b l → AreFit out judged (changed n l s)
  changed_fit b n l is fits =
      all_set (λ (i : ℕ) (x : LinkOf D). LinkFits out judged.there (judged.here i) x) s.links n l
      (subst (λ (c : Bool). LinkFits out judged.there c l) (sym is) fits) fit

  pub begun_fit : (b : Bool) (l : LinkOf D) → judged.here (length s.links) ≡ b → LinkFits out judged.there b l → AreFit out judged (begun l s)
  begun_fit b l is fits =
      all_pushed (λ (i : ℕ) (x : LinkOf D). LinkFits out judged.there (judged.here i) x) s.links l
      (subst (λ (c : Bool). LinkFits out judged.there c l) (sym is) fits) fit

-- ---- all links

at_mapped : {X Y : Type 0} (P : Y → Type 0) (f : X → Y) (xs : List X) (n : ℕ) (y : Y) → slice_get (map f xs) n ≡ Some y →
    ((x : X) → slice_get xs n ≡ Some x → P (f x)) → P y
at_mapped {X} P f xs n y there all = go (slice_get xs n) refl (sym (slice_get-map f xs n) ∙ there)
  where
    go : (o : Option X) → slice_get xs n ≡ o → option_map f o ≡ Some y → P y
    go None e at = absurd cc
    go (Some x) e at = subst P (same_Some (f x) y at) (all x e)

module _ {D K : Type 0} (queues : Queues) (book : SegmentBook D K) where
  pub size_freed : (own : ℕ) (s : LinksOf D) → length (freed book queues own s).links ≡ length s.links
  size_freed own s =
      look_holds (λ (r : LinksOf D). length r.links ≡ length s.links) its_port (HasAddress own) s s
      (λ n l. changed n (forgotten book queues l) s) refl (λ n l there passed. length-set s.links n (forgotten book queues l))

  -- no link is ever forgotten
  pub after_grows : (s : LinksOf D) (effects : List Effect) (number : Option ℕ) (link : LinkOf D) (known : K) →
      length s.links ≤ length (after queues book s effects number link known).links
  after_grows s [] number link known = omega arith
  after_grows s (Settle own ∷ effects) number link known =
      look_holds (λ (r : LinksOf D). length s.links ≤ length r.links) its_port (HasAddress own) s s
      (λ n l. changed n (settled book l.queue.waits l) s) (omega arith)
      (λ n l there passed. let e = length-set s.links n (settled book l.queue.waits l) in omega (arith, e))
  after_grows s (EndAll ∷ effects) number link known = let e = length-map s.links (booted_link book queues) in omega (arith, e)
  after_grows s (GiveAddress own ∷ effects) None link known =
      let e = size_freed own s in let f = length-append (freed book queues own s).links (link ∷ []) in omega (arith, e, f)
  after_grows s (GiveAddress own ∷ effects) (Some n) link known =
      let e = size_freed own s in let f = length-set (freed book queues own s).links n link in omega (arith, e, f)
  after_grows s (effect ∷ effects) None link known = let f = length-append s.links (link ∷ []) in omega (arith, f)
  after_grows s (effect ∷ effects) (Some n) link known = let f = length-set s.links n link in omega (arith, f)

  -- nor does a node become another
  pub record SameNodes (s left : LinksOf D) : Type 0 where
    pub node : left.node ≡ s.node
    pub peer : left.peer ≡ s.peer

  nodes_freed : (own : ℕ) (s : LinksOf D) → SameNodes s (freed book queues own s)
  nodes_freed own s =
      look_holds (SameNodes s) its_port (HasAddress own) s s (λ n l. changed n (forgotten book queues l) s)
      (record { node = refl; peer = refl }) (λ n l there passed. record { node = refl; peer = refl })

  pub after_nodes : (s : LinksOf D) (effects : List Effect) (number : Option ℕ) (link : LinkOf D) (known : K) →
      SameNodes s (after queues book s effects number link known)
  after_nodes s [] number link known = record { node = refl; peer = refl }
  after_nodes s (Settle own ∷ effects) number link known =
      look_holds (SameNodes s) its_port (HasAddress own) s s (λ n l. changed n (settled book l.queue.waits l) s)
      (record { node = refl; peer = refl }) (λ n l there passed. record { node = refl; peer = refl })
  after_nodes s (EndAll ∷ effects) number link known = record { node = refl; peer = refl }
  after_nodes s (GiveAddress own ∷ effects) None link known =
      record { node = (nodes_freed own s).node; peer = (nodes_freed own s).peer }
  after_nodes s (GiveAddress own ∷ effects) (Some n) link known =
      record { node = (nodes_freed own s).node; peer = (nodes_freed own s).peer }
  after_nodes s (effect ∷ effects) None link known = record { node = refl; peer = refl }
  after_nodes s (effect ∷ effects) (Some n) link known = record { node = refl; peer = refl }

  pub boot_left : (judged : Judged) (s : LinksOf D) → links_left judged (booted book queues s) ≡ booted book queues (links_left judged s)
  boot_left judged s =
      ap (λ (links : List (LinkOf D)). record s { links = links })
      (ap (map (link_left judged.there)) (judged_map (booted_link book queues) judged.here s.links)
      ∙ all_booted_left queues book judged.there (judged_of judged.here s.links))

  module _ (out : LeftOut) (judged : Judged) (s : LinksOf D) (fit : AreFit out judged s) where
    pub boot_fit : AreFit out judged (booted book queues s)
    boot_fit n l there =
        at_mapped (LinkFits out judged.there (judged.here n)) (booted_link book queues) s.links n l there
        (λ x e. booted_fit out judged.there (judged.here n) queues book queues x (fit n x e))

    freed_left : (own : ℕ) → NamesOwn out true own → links_left judged (freed book queues own s) ≡ freed book queues own (links_left judged s)
    freed_left own names =
        seen_left out judged s fit its_port port_is (HasAddress own) refl (links_left judged) s (links_left judged s)
        (λ n l. changed n (forgotten book queues l) s) (λ n l. changed n (forgotten book queues l) (links_left judged s)) names refl
        (λ n l there is. changed_left judged s n (forgotten book queues l) is
        ∙ ap (λ (x : LinkOf D). changed (rank judged.here n) x (links_left judged s)) (forgotten_left queues book judged.there queues l))

    freed_out : (own : ℕ) → NamesOwn out false own → links_left judged (freed book queues own s) ≡ links_left judged s
    freed_out own names =
        seen_holds out judged s fit its_port port_is (HasAddress own) (λ (r : LinksOf D). links_left judged r ≡ links_left judged s) false names s
        (λ n l. changed n (forgotten book queues l) s) refl (λ n l there is. changed_out judged s n (forgotten book queues l) is)

    freed_fit : (own : ℕ) → AreFit out judged (freed book queues own s)
    freed_fit own =
        look_holds (AreFit out judged) its_port (HasAddress own) s s (λ n l. changed n (forgotten book queues l) s) fit
        (λ n l there passed. changed_fit out judged s fit (judged.here n) n (forgotten book queues l) refl
        (forgotten_fit out judged.there (judged.here n) queues book queues l (fit n l there)))

    -- what came for the link with this address was acted on
    abbrev settling : LinksOf D → ℕ → LinkOf D → LinksOf D
    settling all n l = changed n (settled book l.queue.waits l) all

    settle_out : (own : ℕ) → NamesOwn out false own →
        links_left judged (with_link (HasAddress own) s s (settling s)) ≡ links_left judged s
    settle_out own names =
        seen_holds out judged s fit its_port port_is (HasAddress own) (λ (r : LinksOf D). links_left judged r ≡ links_left judged s) false names s
        (settling s) refl (λ n l there is. changed_out judged s n (settled book l.queue.waits l) is)

    settle_left : (own : ℕ) →
        links_left judged (with_link (HasAddress own) s s (settling s))
        ≡ with_link (HasAddress own) (links_left judged s) (links_left judged s) (settling (links_left judged s))
    settle_left own = go (out.own own) refl
      where
        go : (b : Bool) → out.own own ≡ b →
            links_left judged (with_link (HasAddress own) s s (settling s))
            ≡ with_link (HasAddress own) (links_left judged s) (links_left judged s) (settling (links_left judged s))
        go false is_judged =
            seen_left out judged s fit its_port port_is (HasAddress own) refl (links_left judged) s (links_left judged s) (settling s)
            (settling (links_left judged s)) (inr is_judged) refl
            (λ n l there is. changed_left judged s n (settled book l.queue.waits l) is
            ∙ ap (λ (x : LinkOf D). changed (rank judged.here n) x (links_left judged s)) (settled_left queues book judged.there l.queue.waits l))
        go true is_out =
            settle_out own (inr is_out)
            ∙ sym (none_left out judged s fit its_port port_is (HasAddress own) refl (links_left judged s) (settling (links_left judged s))
            (inr is_out))

    settle_fit : (own : ℕ) → AreFit out judged (with_link (HasAddress own) s s (settling s))
    settle_fit own =
        look_holds (AreFit out judged) its_port (HasAddress own) s s (settling s) fit
        (λ n l there passed. changed_fit out judged s fit (judged.here n) n (settled book l.queue.waits l) refl
        (as_before out judged.there (judged.here n) l (settled book l.queue.waits l)
        (settled_fit out judged.there (judged.here n) queues book l.queue.waits l) (fit n l there)))

    -- the number of the record's link, if there is one, has this mark; so has that of the next link
    module _ (partner : Option ℕ) (known : K) where
      pub after_left : (effects : List Effect) (number : Option ℕ) (link : LinkOf D) → AllFit out judged.there true partner effects →
          IfSome number (λ n. judged.here n ≡ true) → judged.here (length s.links) ≡ true →
          links_left judged (after queues book s effects number link known)
          ≡ after queues book (links_left judged s) effects (option_map (rank judged.here) number) (link_left judged.there link) known
      after_left [] number link fits is next = refl
      after_left (Settle own ∷ effects) number link fits is next = settle_left own
      after_left (EndAll ∷ effects) number link fits is next = boot_left judged s
      after_left (GiveAddress own ∷ effects) None link fits is next =
          begun_left judged (freed book queues own s) link (ap judged.here (size_freed own s) ∙ next)
          ∙ ap (begun (link_left judged.there link)) (freed_left own (inr fits.0.1))
      after_left (GiveAddress own ∷ effects) (Some n) link fits is next =
          changed_left judged (freed book queues own s) n link is
          ∙ ap (changed (rank judged.here n) (link_left judged.there link)) (freed_left own (inr fits.0.1))
      after_left (effect ∷ effects) None link fits is next = begun_left judged s link next
      after_left (effect ∷ effects) (Some n) link fits is next = changed_left judged s n link is

      pub after_out : (effects : List Effect) (number : Option ℕ) (link : LinkOf D) → AllFit out judged.there false partner effects →
          IfSome number (λ n. judged.here n ≡ false) → judged.here (length s.links) ≡ false →
          links_left judged (after queues book s effects number link known) ≡ links_left judged s
      after_out [] number link fits is next = refl
      after_out (Settle own ∷ effects) number link fits is next = settle_out own (fits.0 refl)
      after_out (EndAll ∷ effects) number link fits is next = let never = fits.0 in absurd cc
      after_out (GiveAddress own ∷ effects) None link fits is next =
          begun_out judged (freed book queues own s) link (ap judged.here (size_freed own s) ∙ next) ∙ freed_out own (inr fits.0.1)
      after_out (GiveAddress own ∷ effects) (Some n) link fits is next =
          changed_out judged (freed book queues own s) n link is ∙ freed_out own (inr fits.0.1)
      after_out (effect ∷ effects) None link fits is next = begun_out judged s link next
      after_out (effect ∷ effects) (Some n) link fits is next = changed_out judged s n link is

      pub after_fit : (b : Bool) (effects : List Effect) (number : Option ℕ) (link : LinkOf D) → LinkFits out judged.there b link →
          IfSome number (λ n. judged.here n ≡ b) → judged.here (length s.links) ≡ b →
          AreFit out judged (after queues book s effects number link known)
      after_fit b [] number link fits is next = fit
      after_fit b (Settle own ∷ effects) number link fits is next = settle_fit own
      after_fit b (EndAll ∷ effects) number link fits is next = boot_fit
      after_fit b (GiveAddress own ∷ effects) None link fits is next =
          begun_fit out judged (freed book queues own s) (freed_fit own) b link (ap judged.here (size_freed own s) ∙ next) fits
      after_fit b (GiveAddress own ∷ effects) (Some n) link fits is next =
          changed_fit out judged (freed book queues own s) (freed_fit own) b n link is fits
      after_fit b (effect ∷ effects) None link fits is next = begun_fit out judged s fit b link next fits
      after_fit b (effect ∷ effects) (Some n) link fits is next = changed_fit out judged s fit b n link is fits
