-- Look-ups, and changes of one link, go along with the cut of all links.
use Rattle.std.proofs.Common.{◌≡◌, ℕ, zero, suc, ◌+◌, ◌<◌, Bool, true, false, not, ltb, cond, Option, Some, None, List, [], ◌∷◌, map, length, refl}
use Rattle.std.proofs.Common.{sym, ap, ap₂, ◌∙◌, arith, option_map, subst, lt-ltb, le-ltb, ◌≤◌, ◌⊎◌, inl, inr}
use Rattle.std.specs.Prelude.{slice_get, position}
use Rattle.std.specs.List.{prefix_len}
use Rattle.std.proofs.lemmas.List.{length-map, map-append, map-set}
use Rattle.std.proofs.lemmas.Option.{slice_get-map, same_Some, none-some}
use Rattle.std.proofs.lemmas.Bool.{cases_lt}
use Rattle.dna_links.specs.declared.port.LinkTest.{LinkTest}
use Rattle.dna_links.specs.declared.queue.Queues.{Queues}
use Rattle.dna_links.specs.LookUps.{passes}
use Rattle.dna_links.specs.Links.{LinkOf, number_of, on_link, at_number, with_link, begun, changed}
use Rattle.dna_links.specs.TrueSegments.{TrueSegments}
use Rattle.dna_links.specs.WireSegments.{WireSegments}
use Rattle.dna_links.specs.TrueLinks.{Links}
use Rattle.dna_links.specs.CutLinks.{cut_link, cut_links}

-- ---- the first item that passes

module _ {X Y : Type 0} (p : Y → Bool) (f : X → Y) where
  prefix-map : (xs : List X) → prefix_len (λ y. not (p y)) (map f xs) ≡ prefix_len (λ x. not (p (f x))) xs
  prefix-map [] = refl
  prefix-map (x ∷ xs) = ap (λ n. cond (not (p (f x))) (1 + n) 0) (prefix-map xs)

  pub position-map : (xs : List X) → position p (map f xs) ≡ position (λ x. p (f x)) xs
  position-map xs = ap₂ (λ (n m : ℕ). cond (ltb n m) (Some n) None) (prefix-map xs) (length-map xs f)

module _ {X : Type 0} (p : X → Bool) where
  -- where there is one, it passes; where there is none, no item does
  abbrev pub IsFound : List X → Option ℕ → Type 0
  IsFound xs None = (n : ℕ) (x : X) → slice_get xs n ≡ Some x → p x ≡ false
  IsFound xs (Some n) = (x : X) × ((slice_get xs n ≡ Some x) × (p x ≡ true))

  abbrev at_first : List X → ℕ
  at_first xs = prefix_len (λ x. not (p x)) xs

  -- an item in front that does not pass
  behind : (x : X) (xs : List X) → p x ≡ false → (c : Bool) (k : ℕ) → IsFound xs (cond c (Some k) None) →
      IsFound (x ∷ xs) (cond c (Some (suc k)) None)
  behind x xs fails true k (y, held) = (y, held)
  behind x xs fails false k none = λ n z e. at_place n z e
    where
      at_place : (n : ℕ) (z : X) → slice_get (x ∷ xs) n ≡ Some z → p z ≡ false
      at_place zero z e = ap p (sym (same_Some x z e)) ∙ fails
      at_place (suc n) z e = none n z e

  same_lt : (k len : ℕ) → ltb k len ≡ ltb (1 + k) (suc len)
  same_lt k len = go (cases_lt k len)
    where
      go : (k < len) ⊎ (len ≤ k) → ltb k len ≡ ltb (1 + k) (suc len)
      go (inl l) = let a = lt-ltb k len l in let b = lt-ltb (1 + k) (suc len) (omega arith) in cc
      go (inr m) = let a = le-ltb k len m in let b = le-ltb (1 + k) (suc len) (omega arith) in cc

  found_step : (x : X) (xs : List X) (b : Bool) → p x ≡ b → (k len : ℕ) → IsFound xs (cond (ltb k len) (Some k) None)
      → IsFound (x ∷ xs) (cond (ltb (cond (not b) (1 + k) 0) (suc len)) (Some (cond (not b) (1 + k) 0)) None)
  found_step x xs true e k len rest =
      let first : ltb 0 (suc len) ≡ true = lt-ltb 0 (suc len) (omega arith) in
      subst (λ (t : Bool). IsFound (x ∷ xs) (cond t (Some 0) None)) (sym first) (x, (refl, e))
  found_step x xs false e k len rest =
      let next : suc k ≡ 1 + k = omega arith in
      subst (λ (n : ℕ). IsFound (x ∷ xs) (cond (ltb (1 + k) (suc len)) (Some n) None)) next
      (subst (λ (t : Bool). IsFound (x ∷ xs) (cond t (Some (suc k)) None)) (same_lt k len) (behind x xs e (ltb k len) k rest))

  none_found : IsFound [] (cond (ltb 0 0) (Some 0) None)
  none_found = let none : ltb 0 0 ≡ false = le-ltb 0 0 (omega arith) in
      subst (λ (t : Bool). IsFound [] (cond t (Some 0) None)) (sym none) (λ n x e. absurd (none-some x e))

  pub found : (xs : List X) → IsFound xs (position p xs)
  found [] = none_found
  found (x ∷ xs) = found_step x xs (p x) refl (at_first xs) (length xs) (found xs)

-- ---- one look-up

-- the test of a look-up
abbrev passed_by : LinkTest → LinkOf TrueSegments → Bool
passed_by test l = passes test l.port

-- no link passes
abbrev pub NoneFor : LinkTest → Links → Type 0
NoneFor test s = (n : ℕ) (l : LinkOf TrueSegments) → slice_get s.links n ≡ Some l → passes test l.port ≡ false

-- a way to go on with a link commutes, wherever a link stands there and passes
abbrev pub GoesAlong : (queues : Queues) {R R' : Type 0} (g : R → R') → LinkTest → Links → (ℕ → LinkOf TrueSegments → R) →
    (ℕ → LinkOf WireSegments → R') → Type 0
GoesAlong queues g test s next next' = (n : ℕ) (l : LinkOf TrueSegments) → slice_get s.links n ≡ Some l → passes test l.port ≡ true →
    g (next n l) ≡ next' n (cut_link queues l)

number_same : (queues : Queues) (test : LinkTest) (s : Links) → number_of test (cut_links queues s) ≡ number_of test s
number_same queues test s = position-map (λ (l : LinkOf WireSegments). passes test l.port) (cut_link queues) s.links

module _ (queues : Queues) {R R' : Type 0} (g : R → R') (test : LinkTest) (s : Links) (otherwise : R) (otherwise' : R')
    (next : ℕ → LinkOf TrueSegments → R)
    (next' : ℕ → LinkOf WireSegments → R') where
  at_same : (NoneFor test s → g otherwise ≡ otherwise') → GoesAlong queues g test s next next' → (o : Option ℕ) → IsFound (passed_by test) s.links o
      → g (at_number s.links o otherwise next) ≡ at_number (map (cut_link queues) s.links) o otherwise' next'
  at_same none along None nobody = none nobody
  at_same none along (Some n) (l, here) =
      ap (λ (o : Option (LinkOf TrueSegments)). g (on_link n o otherwise next)) here.0
      ∙ along n l here.0 here.1
      ∙ ap (λ (o : Option (LinkOf WireSegments)). on_link n o otherwise' next')
      (sym (slice_get-map (cut_link queues) s.links n ∙ ap (option_map (cut_link queues)) here.0))

  pub with_link_same : (NoneFor test s → g otherwise ≡ otherwise') → GoesAlong queues g test s next next' →
      g (with_link test s otherwise next) ≡ with_link test (cut_links queues s) otherwise' next'
  with_link_same none along =
      at_same none along (number_of test s) (found (passed_by test) s.links)
      ∙ ap (λ (o : Option ℕ). at_number (map (cut_link queues) s.links) o otherwise' next') (sym (number_same queues test s))

-- ---- changes

pub changed_same : (queues : Queues) (n : ℕ) (l : LinkOf TrueSegments) (s : Links) →
    cut_links queues (changed n l s) ≡ changed n (cut_link queues l) (cut_links queues s)
changed_same queues n l s =
    ap (λ (links : List (LinkOf WireSegments)). record (cut_links queues s) { links = links }) (map-set (cut_link queues) s.links n l)

pub begun_same : (queues : Queues) (l : LinkOf TrueSegments) (s : Links) →
    cut_links queues (begun l s) ≡ begun (cut_link queues l) (cut_links queues s)
begun_same queues l s =
    ap (λ (links : List (LinkOf WireSegments)). record (cut_links queues s) { links = links }) (map-append (cut_link queues) s.links (l ∷ []))
