-- What may be done with links goes along with forgetting their partners, with queues or without, whatever a link keeps of its segments.
use Rattle.std.proofs.Common.{◌≡◌, ℕ, Bool, true, false, Option, Some, None, List, [], ◌∷◌, map, Result, Ok, Err, refl, sym, ap, ap₂}
use Rattle.std.proofs.Common.{◌∙◌, subst, option_map}
use Rattle.std.specs.Prelude.{slice_get, position, fold}
use Rattle.std.proofs.lemmas.List.{map-append, map-set}
use Rattle.std.proofs.lemmas.Option.{slice_get-map}
use Rattle.dna_station.specs.declared.link_refusal.LinkRefusal.{LinkRefusal}
use Rattle.dna_links.specs.declared.queue.Queues.{Queues}
use Rattle.dna_links.specs.declared.queue.Queues.TheVariants.{Without, With}
use Rattle.dna_links.specs.declared.tag.LinkTag.{LinkTag}
use Rattle.dna_links.specs.declared.port.Phase.{Phase}
use Rattle.dna_links.specs.declared.port.Phase.TheVariants.{Running, Disconnecting}
use Rattle.dna_links.specs.declared.port.LinkTest.{LinkTest}
use Rattle.dna_links.specs.declared.port.LinkTest.TheVariants.{HasAddress}
use Rattle.dna_links.specs.LookUps.{passes, is_live}
use Rattle.dna_links.specs.SegmentBook.{SegmentBook}
use Rattle.dna_links.specs.Links.{LinkOf, LinksOf, LinkTruth, on_link, at_number, with_link, with_seen, begun, changed}
use Rattle.dna_links.specs.Queues.{in_use, with_in_use, may_send, goes_on, goes_to, ends_by_message, drops, forgotten, freed, booted_link, shows_by}
use Rattle.dna_links.specs.Queues.{settled}
use Rattle.dna_links.specs.Table.{Effect, GiveAddress, GoTo, End, Drop, EndAll, Settle}
use Rattle.dna_links.specs.LinkBook.{does, others, after}
use Rattle.dna_links.specs.Sending.{Sent}
use Rattle.dna_node.specs.WireLayers as layers
use Rattle.dna_links.proofs.Cut.LookUps.{position-map}

abbrev pub forget_tag : LinkTag → LinkTag
forget_tag tag = record { link = tag.link; partner = None }

-- the truth of a message of which nothing is known but its bytes
abbrev pub truth_alone : {K : Type 0} → LinkTruth K → LinkTruth K
truth_alone truth = record { tag = layers.of_no_link; known = truth.known }

module _ {D : Type 0} where
  abbrev pub forget_link : LinkOf D → LinkOf D
  forget_link l = record { port = l.port; partner = None; segsize = l.segsize; segments = l.segments; queue = l.queue }

  abbrev pub forget_links : LinksOf D → LinksOf D
  forget_links s = record { node = s.node; peer = s.peer; links = map forget_link s.links }

-- ---- look-ups, and changes of one link

module _ {D : Type 0} where
  -- two ways to go on, which belong together at each link
  module _ {R R' : Type 0} (P : R → R' → Type 0) (s : LinksOf D) (otherwise : R) (otherwise' : R') (next : ℕ → LinkOf D → R)
      (next' : ℕ → LinkOf D → R') (none : P otherwise otherwise') (one : (n : ℕ) (l : LinkOf D) → P (next n l) (next' n (forget_link l))) where
    on_both : (n : ℕ) (o : Option (LinkOf D)) → P (on_link n o otherwise next) (on_link n (option_map forget_link o) otherwise' next')
    on_both n None = none
    on_both n (Some l) = one n l

    at_both : (o : Option ℕ) → P (at_number s.links o otherwise next) (at_number (map forget_link s.links) o otherwise' next')
    at_both None = none
    at_both (Some n) =
        subst (λ (o : Option (LinkOf D)). P (on_link n (slice_get s.links n) otherwise next) (on_link n o otherwise' next'))
        (sym (slice_get-map forget_link s.links n)) (on_both n (slice_get s.links n))

    found_both : (p : LinkOf D → Bool) → P (at_number s.links (position (λ (l : LinkOf D). p (forget_link l)) s.links) otherwise next)
        (at_number (map forget_link s.links) (position p (map forget_link s.links)) otherwise' next')
    found_both p =
        subst (λ (o : Option ℕ). P (at_number s.links (position (λ (l : LinkOf D). p (forget_link l)) s.links) otherwise next)
        (at_number (map forget_link s.links) o otherwise' next'))
        (sym (position-map p forget_link s.links)) (at_both (position (λ (l : LinkOf D). p (forget_link l)) s.links))

    pub with_both : (test : LinkTest) → P (with_link test s otherwise next) (with_link test (forget_links s) otherwise' next')
    with_both test = found_both (λ (l : LinkOf D). passes test l.port)

    pub seen_both : (test : LinkTest) →
        P (with_seen (in_use With) test s otherwise next) (with_seen (in_use With) test (forget_links s) otherwise' next')
    seen_both test = found_both (λ (l : LinkOf D). passes test (in_use With l))

  pub in_use_both : (queues : Queues) {R R' : Type 0} (P : R → R' → Type 0) (test : LinkTest) (s : LinksOf D) (otherwise : R) (otherwise' : R')
      (next : ℕ → LinkOf D → R) (next' : ℕ → LinkOf D → R') → P otherwise otherwise' →
      ((n : ℕ) (l : LinkOf D) → P (next n l) (next' n (forget_link l))) →
      P (with_in_use queues test s otherwise next) (with_in_use queues test (forget_links s) otherwise' next')
  in_use_both Without P test s otherwise otherwise' next next' none one = with_both P s otherwise otherwise' next next' none one test
  in_use_both With P test s otherwise otherwise' next next' none one =
      with_both P s (with_seen (in_use With) test s otherwise next) (with_seen (in_use With) test (forget_links s) otherwise' next') next next'
      (seen_both P s otherwise otherwise' next next' none one test) one test

  changed_along : (n : ℕ) (l : LinkOf D) (s : LinksOf D) → forget_links (changed n l s) ≡ changed n (forget_link l) (forget_links s)
  changed_along n l s = ap (λ (links : List (LinkOf D)). record (forget_links s) { links = links }) (map-set forget_link s.links n l)

  begun_along : (l : LinkOf D) (s : LinksOf D) → forget_links (begun l s) ≡ begun (forget_link l) (forget_links s)
  begun_along l s = ap (λ (links : List (LinkOf D)). record (forget_links s) { links = links }) (map-append forget_link s.links (l ∷ []))

  -- ---- one link

  pub use_along : (queues : Queues) (l : LinkOf D) → in_use queues (forget_link l) ≡ in_use queues l
  use_along Without l = refl
  use_along With l = refl

  pub may_along : (queues : Queues) (phase : Phase) (l : LinkOf D) → may_send queues phase (forget_link l) ≡ may_send queues phase l
  may_along Without phase l = refl
  may_along With phase l = refl

  -- what becomes of the links
  abbrev pub forget_result : Result (LinksOf D) LinkRefusal → Result (LinksOf D) LinkRefusal
  forget_result (Ok s) = Ok (forget_links s)
  forget_result (Err refusal) = Err refusal

module _ {D K : Type 0} where
  abbrev pub forget_one : Sent D K → Sent D K
  forget_one sent = record { links = forget_links sent.links; truth = record { tag = forget_tag sent.truth.tag; known = sent.truth.known } }

  abbrev pub forget_sent : Result (Sent D K) LinkRefusal → Result (Sent D K) LinkRefusal
  forget_sent (Ok sent) = Ok (forget_one sent)
  forget_sent (Err refusal) = Err refusal

module _ {D K : Type 0} (queues : Queues) (book : SegmentBook D K) where
  goes_on_along : (live : Bool) (phase : Phase) (l : LinkOf D) → goes_on book live phase (forget_link l) ≡ forget_link (goes_on book live phase l)
  goes_on_along true phase l = refl
  goes_on_along false phase l = refl

  goes_along : (queues : Queues) (phase : Phase) (l : LinkOf D) →
      goes_to book queues phase (forget_link l) ≡ forget_link (goes_to book queues phase l)
  goes_along Without phase l = refl
  goes_along With phase l = goes_on_along (is_live l.port.phase) phase l

  ends_along : (queues : Queues) (l : LinkOf D) → ends_by_message book queues (forget_link l) ≡ forget_link (ends_by_message book queues l)
  ends_along Without l = refl
  ends_along With l = refl

  drops_along : (queues : Queues) (l : LinkOf D) → drops book queues (forget_link l) ≡ forget_link (drops book queues l)
  drops_along Without l = refl
  drops_along With l = refl

  forgotten_along : (queues : Queues) (l : LinkOf D) → forgotten book queues (forget_link l) ≡ forget_link (forgotten book queues l)
  forgotten_along Without l = refl
  forgotten_along With l = refl

  booted_along : (links : List (LinkOf D)) →
      map (booted_link book queues) (map forget_link links) ≡ map forget_link (map (booted_link book queues) links)
  booted_along [] = refl
  booted_along (l ∷ links) =
      ap₂ (λ (x : LinkOf D) (all : List (LinkOf D)). x ∷ all)
      (ap (forgotten book queues) (drops_along queues l) ∙ forgotten_along queues (drops book queues l)) (booted_along links)

  shows_along : (phase : Phase) (l : LinkOf D) → shows_by book phase (forget_link l) ≡ forget_link (shows_by book phase l)
  shows_along Running l = refl
  shows_along Disconnecting l = refl
  shows_along phase l = refl

  settled_along : (waits : Option Phase) (l : LinkOf D) → settled book waits (forget_link l) ≡ forget_link (settled book waits l)
  settled_along None l = shows_along l.port.phase l
  settled_along (Some phase) l = refl

  -- what one effect makes of it, and what all do
  module _ (truth : LinkTruth K) where
    does_along : (effect : Effect) (l : LinkOf D) →
        does queues book (truth_alone truth) (forget_link l) effect ≡ forget_link (does queues book truth l effect)
    does_along (GoTo phase) l = goes_along queues phase l
    does_along End l = ends_along queues l
    does_along Drop l = drops_along queues l
    does_along effect l = refl

    pub all_along : (effects : List Effect) (l : LinkOf D) →
        fold (does queues book (truth_alone truth)) (forget_link l) effects ≡ forget_link (fold (does queues book truth) l effects)
    all_along [] l = refl
    all_along (effect ∷ effects) l =
        ap (λ (x : LinkOf D). fold (does queues book (truth_alone truth)) x effects) (does_along effect l)
        ∙ all_along effects (does queues book truth l effect)

  -- ---- all links

  module _ (s : LinksOf D) where
    freed_along : (own : ℕ) → forget_links (freed book queues own s) ≡ freed book queues own (forget_links s)
    freed_along own =
        with_both (λ (x y : LinksOf D). forget_links x ≡ y) s s (forget_links s) (λ n l. changed n (forgotten book queues l) s)
        (λ n l. changed n (forgotten book queues l) (forget_links s)) refl
        (λ n l. changed_along n (forgotten book queues l) s
        ∙ ap (λ (x : LinkOf D). changed n x (forget_links s)) (sym (forgotten_along queues l))) (HasAddress own)

    others_along : (effects : List Effect) → forget_links (others queues book effects s) ≡ others queues book effects (forget_links s)
    others_along [] = refl
    others_along (GiveAddress own ∷ effects) = freed_along own
    others_along (effect ∷ effects) = refl

    changes_along : (effects : List Effect) (number : ℕ) (l : LinkOf D) →
        changed number (forget_link l) (others queues book effects (forget_links s)) ≡ forget_links (changed number l (others queues book effects s))
    changes_along effects number l =
        ap (changed number (forget_link l)) (sym (others_along effects)) ∙ sym (changed_along number l (others queues book effects s))

    begins_along : (effects : List Effect) (l : LinkOf D) →
        begun (forget_link l) (others queues book effects (forget_links s)) ≡ forget_links (begun l (others queues book effects s))
    begins_along effects l = ap (begun (forget_link l)) (sym (others_along effects)) ∙ sym (begun_along l (others queues book effects s))

    pub after_along : (effects : List Effect) (number : Option ℕ) (l : LinkOf D) (known : K) →
        after queues book (forget_links s) effects number (forget_link l) known ≡ forget_links (after queues book s effects number l known)
    after_along [] number l known = refl
    after_along (Settle own ∷ effects) number l known =
        with_both (λ (x y : LinksOf D). y ≡ forget_links x) s s (forget_links s) (λ n x. changed n (settled book x.queue.waits x) s)
        (λ n x. changed n (settled book x.queue.waits x) (forget_links s)) refl
        (λ n x. ap (λ (y : LinkOf D). changed n y (forget_links s)) (settled_along x.queue.waits x)
        ∙ sym (changed_along n (settled book x.queue.waits x) s)) (HasAddress own)
    after_along (EndAll ∷ effects) number l known =
        ap (λ (links : List (LinkOf D)). record (forget_links s) { links = links }) (booted_along s.links)
    after_along (effect ∷ effects) None l known = begins_along (effect ∷ effects) l
    after_along (effect ∷ effects) (Some number) l known = changes_along (effect ∷ effects) number l
