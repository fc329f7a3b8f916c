-- Fronts of a text, and its parts before and behind a mark.
use Rattle.std.proofs.Common.{◌≡◌, ◌≢◌, ℕ, zero, suc, ◌+◌, ◌<◌, eqb, List, [], ◌∷◌, ◌++◌, length, get_or, take, drop, Option, Some, None, refl, sym}
use Rattle.std.proofs.Common.{ap, ◌∙◌, inl, inr, arith}
use Rattle.std.specs.Prelude.{MatchOption}
use Rattle.std.specs.Option.{option_map}
use Rattle.std.proofs.lemmas.Bool.{cases_Bool, eqb-true, eq-eqb, ne_eqb}
use Rattle.std.proofs.lemmas.Option.{same_Some}
use denote.Ref.{Bor}
use Rattle.capture.specs.Reading.{after, cut_at, with_first}

-- no such byte stands in the text
abbrev pub HasNo : ℕ → List ℕ → Type 0
HasNo mark [] = Unit {0}
HasNo mark (b ∷ text) = (b ≢ mark) × HasNo mark text

pub HasNo-append : (mark : ℕ) (a b : List ℕ) → HasNo mark a → HasNo mark b → HasNo mark (a ++ b)
HasNo-append mark [] b p q = q
HasNo-append mark (x ∷ a) b p q = (p.0, HasNo-append mark a b p.1 q)

pub after_again : (front rest : List ℕ) → after front (front ++ rest) ≡ Some rest
after_again [] rest = refl
after_again (p ∷ front) rest = rw (eq-eqb p p refl) (after_again front rest)

pub after_takes : (front text rest : List ℕ) → after front text ≡ Some rest → text ≡ front ++ rest
after_takes [] text rest e = same_Some text rest e
after_takes (p ∷ front) [] rest e = absurd cc
after_takes (p ∷ front) (b ∷ text) rest e =
    elim (cases_Bool (eqb b p)) [
      | inl same ↦
          let found : after front text ≡ Some rest = rw same at e in
          let head : b ≡ p = eqb-true b p same in
          let tail : text ≡ front ++ rest = after_takes front text rest found in
          cc
      | inr other ↦ absurd (let none : None ≡ Some rest = rw other at e in cc)
    ]

none_or_some : {A : Type 0} (o : Option A) → ((x : A) → o ≡ Some x → ⊥) → o ≡ None
none_or_some None h = refl
none_or_some (Some x) h = absurd (h x refl)

-- what `strip_prefix` finds is what `after` gives
pub after_stripped : (front text : List ℕ) (r : Option (Bor (List ℕ)))
    → MatchOption r ((rest : List ℕ) → text ≢ front ++ rest) (λ x. text ≡ front ++ x.now) → option_map (λ x. x.now) r ≡ after front text
after_stripped front text None h = sym (none_or_some (after front text) (λ rest e. h rest (after_takes front text rest e)))
after_stripped front text (Some x) h = sym (ap (after front) h ∙ after_again front x.now)

-- ---- a cut at a mark

pub cut_again : (mark : ℕ) (a b : List ℕ) → HasNo mark a → cut_at mark (a ++ mark ∷ b) ≡ Some (a, b)
cut_again mark [] b h = rw (eq-eqb mark mark refl) refl
cut_again mark (x ∷ a) b h = rw (ne_eqb x mark h.0, cut_again mark a b h.1) refl

pub map_some : {A B : Type 0} (f : A → B) (o : Option A) (y : B) → option_map f o ≡ Some y → (x : A) × (o ≡ Some x) × (f x ≡ y)
map_some f None y e = absurd cc
map_some f (Some x) y e = (x, refl, same_Some (f x) y e)

pub cut_takes : (mark : ℕ) (text : List ℕ) (parts : List ℕ × List ℕ) → cut_at mark text ≡ Some parts → text ≡ parts.0 ++ mark ∷ parts.1
cut_takes mark [] parts e = absurd cc
cut_takes mark (b ∷ text) parts e =
    elim (cases_Bool (eqb b mark)) [
      | inl same ↦
          let found : Some ([], text) ≡ Some parts = rw same at e in
          let is : ([], text) ≡ parts = same_Some _ parts found in
          let head : b ≡ mark = eqb-true b mark same in
          rw (head, ← is) refl
      | inr other ↦
          let found : option_map (with_first b) (cut_at mark text) ≡ Some parts = rw other at e in
          let m = map_some (with_first b) (cut_at mark text) parts found in
          let tail : text ≡ m.0.0 ++ mark ∷ m.0.1 = cut_takes mark text m.0 m.1 in
          rw (← m.2) (ap (λ (t : List ℕ). b ∷ t) tail)
    ]

-- the mark stands first at k
pub cut_found : (mark : ℕ) (text : List ℕ) (k : ℕ) → k < length text → get_or text k 0 ≡ mark → ((j : ℕ) → j < k → get_or text j 0 ≢ mark)
    → cut_at mark text ≡ Some (take k text, drop (k + 1) text)
cut_found mark [] k lt at none = absurd (omega arith)
cut_found mark (b ∷ text) zero lt at none = rw (eq-eqb b mark at) refl
cut_found mark (b ∷ text) (suc k) lt at none =
    let ih = cut_found mark text k (omega arith) at (λ j l. none (suc j) (omega arith)) in
    let next : suc k + 1 ≡ suc (k + 1) = omega arith in
    rw (ne_eqb b mark (none 0 (omega arith)), ih, next) refl

pub cut_none : (mark : ℕ) (text : List ℕ) → ((j : ℕ) → j < length text → get_or text j 0 ≢ mark) → cut_at mark text ≡ None
cut_none mark [] none = refl
cut_none mark (b ∷ text) none =
    let ih = cut_none mark text (λ j l. none (suc j) (omega arith)) in
    rw (ne_eqb b mark (none 0 (omega arith)), ih) refl
