-- Both sides' links, beside all that was first sent: what holds of them at any time is kept by each step.
use Rattle.std.proofs.Common.{◌≡◌, ℕ, zero, suc, ◌≤◌, true, ◌⊎◌, inl, inr, Option, Some, None, List, [], ◌∷◌, ◌++◌, length}
use Rattle.std.proofs.Common.{map, option_map, refl, sym, ap, ◌∙◌, subst, arith, append-nil, length-append}
use Rattle.std.specs.Prelude.{slice_get, slice_set}
use Rattle.std.proofs.lemmas.Bool.{cases_eq}
use Rattle.std.proofs.lemmas.Option.{same_Some, slice_get_within, slice_get-map}
use Rattle.two_nodes.proofs.Order.{slice_get-append}
use Rattle.dna_links.specs.LookUps.{is_calling}
use Rattle.dna_links.specs.Segmentation.{Piece}
use Rattle.dna_links.specs.Links.{LinkOf, changed}
use Rattle.dna_links.specs.TrueSegments.{TrueSegments, empty, highest_given, highest_received}
use Rattle.dna_links.specs.TrueLinks.{Links}
use Rattle.dna_links.specs.Runs.{SentMessage, LinkSide, sends}
use Rattle.dna_links.specs.Delivery.{HeldFrom}
use Rattle.two_nodes.proofs.Numbered.{AreNumbered, IsPresent}
use Rattle.two_nodes.proofs.NumberedSteps.{numbered_beside, present_beside, present_new, at_pushed}
use Rattle.dna_links.proofs.Tables.Words.{limits}
use Rattle.dna_links.proofs.Runs.Sends.{AreSoundSegments}
use Rattle.dna_links.proofs.Runs.Ends.{sender_name, nobody, numbers_of, view, GrownAt, Grows, IsTold, told_grown, IsSoundEnd}
use Rattle.dna_links.proofs.Runs.Ends.{end_grown, end_beside}

-- ---- lists of links

module _ {X : Type 0} where
  pub set_same : (xs : List X) (n : ℕ) (x y : X) → slice_get xs n ≡ Some x → slice_get (slice_set xs n y) n ≡ Some y
  set_same [] n x y at = absurd cc
  set_same (z ∷ xs) zero x y at = refl
  set_same (z ∷ xs) (suc n) x y at = set_same xs n x y at

  pub set_other : (xs : List X) (n m : ℕ) (y : X) → (m ≡ n → ⊥) → slice_get (slice_set xs n y) m ≡ slice_get xs m
  set_other [] n m y differs = refl
  set_other (z ∷ xs) zero zero y differs = absurd (differs refl)
  set_other (z ∷ xs) zero (suc m) y differs = refl
  set_other (z ∷ xs) (suc n) zero y differs = refl
  set_other (z ∷ xs) (suc n) (suc m) y differs = set_other xs n m y (λ e. differs (ap suc e))

  -- an item of the changed list is the new one in its place, or an old one in another
  pub at_set : (xs : List X) (n m : ℕ) (y z : X) → slice_get (slice_set xs n y) m ≡ Some z → ((m ≡ n) × (y ≡ z)) ⊎
      ((m ≡ n → ⊥) × (slice_get xs m ≡ Some z))
  at_set xs n m y z at = go (cases_eq m n)
    where
      old : (x : X) (o : Option X) → slice_get xs n ≡ o → m ≡ n → ((m ≡ n) × (y ≡ z)) ⊎ ((m ≡ n → ⊥) × (slice_get xs m ≡ Some z))
      old x None none e = absurd (gone xs n none (ap (slice_get (slice_set xs n y)) (sym e) ∙ at))
        where
          gone : (xs : List X) (n : ℕ) → slice_get xs n ≡ None → slice_get (slice_set xs n y) n ≡ Some z → ⊥
          gone [] n none at = cc
          gone (x ∷ xs) zero none at = cc
          gone (x ∷ xs) (suc n) none at = gone xs n none at
      old x (Some w) there e = inl (e, same_Some y z (sym (set_same xs n w y there) ∙ ap (slice_get (slice_set xs n y)) (sym e) ∙ at))

      go : (m ≡ n) ⊎ (m ≡ n → ⊥) → ((m ≡ n) × (y ≡ z)) ⊎ ((m ≡ n → ⊥) × (slice_get xs m ≡ Some z))
      go (inl e) = old y _ refl e
      go (inr d) = inr (d, sym (set_other xs n m y d) ∙ at)

  -- of every item
  pub all_set : (P : ℕ → X → Type 0) (xs : List X) (n : ℕ) (y : X) → P n y → ((i : ℕ) (x : X) → slice_get xs i ≡ Some x → P i x) → (i : ℕ) (x : X) →
      slice_get (slice_set xs n y) i ≡ Some x → P i x
  all_set P xs n y here all i x at = go (at_set xs n i y x at)
    where
      go : ((i ≡ n) × (y ≡ x)) ⊎ ((i ≡ n → ⊥) × (slice_get xs i ≡ Some x)) → P i x
      go (inl e) = subst (λ (j : ℕ). P j x) (sym e.0) (subst (P n) e.1 here)
      go (inr e) = all i x e.1

  pub all_pushed : (P : ℕ → X → Type 0) (xs : List X) (y : X) → P (length xs) y → ((i : ℕ) (x : X) → slice_get xs i ≡ Some x → P i x) →
      (i : ℕ) (x : X) → slice_get (xs ++ y ∷ []) i ≡ Some x → P i x
  all_pushed P xs y here all i x at = go (at_pushed xs y x i at)
    where
      go : (slice_get xs i ≡ Some x) ⊎ ((i ≡ length xs) × (y ≡ x)) → P i x
      go (inl a) = all i x a
      go (inr e) = subst (λ (j : ℕ). P j x) (sym e.0) (subst (P (length xs)) e.1 here)

-- of every item, where each becomes f of itself
pub all_map : {X Y : Type 0} (P : ℕ → Y → Type 0) (f : X → Y) (xs : List X) → ((i : ℕ) (x : X) → slice_get xs i ≡ Some x → P i (f x)) →
    (i : ℕ) (y : Y) → slice_get (map f xs) i ≡ Some y → P i y
all_map {X} {Y} P f xs all i y at = go (slice_get xs i) refl (sym (slice_get-map f xs i) ∙ at)
  where
    go : (o : Option X) → slice_get xs i ≡ o → option_map f o ≡ Some y → P i y
    go None there e = absurd cc
    go (Some x) there e = subst (P i) (same_Some (f x) y e) (all i x there)

pub grows_same : (links : List (LinkOf TrueSegments)) → Grows links links
grows_same links i l at = record { link = l; there = at; more = []; given = sym (append-nil l.segments.given) }

pub grows_set : (links further : List (LinkOf TrueSegments)) (number : ℕ) (l y : LinkOf TrueSegments) (more : List Piece) → Grows links further →
    slice_get links number ≡ Some l → y.segments.given ≡ l.segments.given ++ more → Grows links (slice_set further number y)
grows_set links further number l y more grows there given i k at = go (cases_eq i number)
  where
    go : (i ≡ number) ⊎ (i ≡ number → ⊥) → GrownAt (slice_set further number y) i k
    go (inl e) =
        let same : l ≡ k = same_Some l k (sym there ∙ ap (slice_get links) (sym e) ∙ at) in
        let g = grows number l there in
        record {
          link = y;
          there = ap (slice_get (slice_set further number y)) e ∙ set_same further number g.link y g.there;
          more = more;
          given =
              given ∙ ap (λ (x : LinkOf TrueSegments). x.segments.given ++ more) same;
        }
    go (inr d) = let g = grows i k at in record { link = g.link; there = set_other further number i y d ∙ g.there; more = g.more; given = g.given }

pub grows_pushed : (links further : List (LinkOf TrueSegments)) (y : LinkOf TrueSegments) → Grows links further → Grows links (further ++ y ∷ [])
grows_pushed links further y grows i l at = let g = grows i l at in
    record { link = g.link; there = slice_get-append further (y ∷ []) i g.link g.there; more = g.more; given = g.given }

-- ---- a side beside the other

pub record IsSoundSide (own other : LinkSide) : Type 0 where
  pub met : own.front ≤ length other.sent
  pub messages : AreNumbered view limits own.sent other.sent
  pub nobody : IsPresent view limits own.sent other.sent own.front nobody
  pub told : (k : ℕ) (u : SentMessage) → slice_get own.sent k ≡ Some (Some u) → IsTold own.links.links u
  pub ends : (i : ℕ) (l : LinkOf TrueSegments) → slice_get own.links.links i ≡ Some l → IsSoundEnd own.sent other.sent own.front other.links.links i l

-- the other side's links grow
pub side_grown : (own other : LinkSide) (links : Links) (front : ℕ) → Grows other.links.links links.links → IsSoundSide own other →
    IsSoundSide own (record { links = links; sent = other.sent; front = front })
side_grown own other links front grows h = record {
  met = h.met;
  messages = h.messages;
  nobody = h.nobody;
  told = h.told;
  ends = λ i l at. end_grown own.sent other.sent own.front other.links.links i l (h.ends i l at) links.links grows;
}

-- and it sends a packet
pub side_beside : (own other : LinkSide) (links : Links) (x : Option SentMessage) → Grows other.links.links links.links → IsSoundSide own other →
    IsSoundSide own (sends other links x)
side_beside own other links x grows h = record {
  met = let e = length-append other.sent (x ∷ []) in let m = h.met in omega arith;
  messages = numbered_beside view limits other.sent x own.sent h.messages;
  nobody = present_beside view limits other.sent x own.sent own.front nobody h.nobody;
  told = h.told;
  ends = λ i l at. end_beside own.sent other.sent own.front links.links i l
      (end_grown own.sent other.sent own.front other.links.links i l (h.ends i l at) links.links grows) x;
}

-- this side's links change and grow
pub side_changed : (own other : LinkSide) (links : Links) → Grows own.links.links links.links → IsSoundSide own other →
    ((i : ℕ) (l : LinkOf TrueSegments) → slice_get links.links i ≡ Some l → IsSoundEnd own.sent other.sent own.front other.links.links i l) →
    IsSoundSide (record { links = links; sent = own.sent; front = own.front }) other
side_changed own other links grows h ends = record {
  met = h.met;
  messages = h.messages;
  nobody = h.nobody;
  told = λ k u at. told_grown own.links.links links.links u grows (h.told k u at);
  ends = ends;
}

-- a new link: nothing is given, received or acknowledged
pub empty_sound : AreSoundSegments empty
empty_sound = record {
  acknowledged = omega arith;
  few = omega arith;
  last = omega arith;
  recent = omega arith;
  cut = record { all = refl; none_left = λ e. refl };
  passed = record { first = []; rest = []; are = refl; many = refl; make = refl; wholly = refl };
}

module _ (own other : LinkSide) (h : IsSoundSide own other) where
  -- all messages are of links that are there
  no_later : (k : ℕ) (m : Option SentMessage) → slice_get own.sent k ≡ Some m → (view m).sender.name ≤ length own.links.links
  no_later k None at = omega arith
  no_later k (Some u) at = go u.truth.tag.link refl
    where
      go : (o : Option ℕ) → u.truth.tag.link ≡ o → sender_name o ≤ length own.links.links
      go None e = omega arith
      go (Some number) e = let t = (h.told k u at).sender number e in let w = slice_get_within own.links.links number t.0 t.1 in omega arith

  pub end_new : (number : ℕ) (l : LinkOf TrueSegments) → length own.links.links ≤ number → l.segments ≡ empty →
      (is_calling l.port.phase ≡ true → l.partner ≡ None) → HeldFrom l.partner [] other.links.links →
      IsSoundEnd own.sent other.sent own.front other.links.links number l
  end_new number l fresh is_empty calling held =
      let given : highest_given l.segments ≡ 0 = ap highest_given is_empty in
      let received : highest_received l.segments ≡ 0 = ap highest_received is_empty in
      let acknowledged : l.segments.acknowledged ≡ 0 = ap (λ (f : TrueSegments). f.acknowledged) is_empty in
      record {
        segments = subst AreSoundSegments (sym is_empty) empty_sound;
        present = present_new view limits own.sent other.sent own.front (numbers_of number l) received acknowledged (omega arith)
            (λ i m at same. let n = no_later i m at in absurd (omega arith));
        came = inl (ap (λ (f : TrueSegments). length f.received) is_empty);
        calling = calling;
        held = subst
            (λ (x : List (Option Piece)). HeldFrom l.partner x other.links.links) (sym (ap (λ (f : TrueSegments). f.received) is_empty)) held;
        none = λ e. acknowledged;
      }
