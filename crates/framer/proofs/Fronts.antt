-- What stands at the front of some bytes: its cases, and that more bytes change it only where it is cut.
use Rattle.std.proofs.Common.{◌≡◌, ℕ, ◌<◌, ◌≤◌, ◌⊎◌, true, false, Option, Some, None, List, [], ◌∷◌, ◌++◌, length, get_or, take, refl, sym}
use Rattle.std.proofs.Common.{◌∙◌, inl, inr, arith}
use Rattle.std.specs.Prelude.{nat_eq, nat_lt}
use Rattle.std.proofs.lemmas.Bool.{cond_both, both_ways, ltb-true, ltb-false, le-ltb, eqb-true}
use Rattle.std.proofs.lemmas.List.{length-append, take-append-le, get_or_append_left}
use Rattle.wire_base.specs.BlockCheck.{is_good}
use Rattle.framer.specs.declared.kind.Kind.{Kind}
use Rattle.framer.specs.declared.kind.Kind.TheVariants.{Control, Data, Maintenance}
use Rattle.framer.specs.declared.front.Front.{Front}
use Rattle.framer.specs.declared.front.Front.TheVariants.{Between, Stray, Whole, Cut}
use Rattle.framer.specs.Framing.{is_between, kind_of, unit_len, front_of_kind, front_from, front}

-- ---- the cases

pub kind_cases : (kind : Kind) (bytes : List ℕ) (P : Front → Type 0) → (length bytes < 8 → P Cut) →
    (8 ≤ length bytes → is_good (take 8 bytes) ≡ false → P Stray) →
    (8 ≤ length bytes → is_good (take 8 bytes) ≡ true → length bytes < unit_len kind bytes → P Cut) →
    (8 ≤ length bytes → is_good (take 8 bytes) ≡ true → unit_len kind bytes ≤ length bytes → P (Whole (unit_len kind bytes))) →
    P (front_of_kind kind bytes)
kind_cases kind bytes P short bad cut whole =
    cond_both (nat_lt (length bytes) 8) Cut _ P (λ e. short (ltb-true _ _ e))
    (λ e. cond_both (is_good (take 8 bytes)) _ Stray P
    (λ g. cond_both (nat_lt (length bytes) (unit_len kind bytes)) Cut (Whole (unit_len kind bytes)) P
    (λ l. cut (ltb-false _ _ e) g (ltb-true _ _ l)) (λ l. whole (ltb-false _ _ e) g (ltb-false _ _ l)))
    (λ g. bad (ltb-false _ _ e) g))

from_cases : (byte : ℕ) (bytes : List ℕ) (P : Front → Type 0) (o : Option Kind) → kind_of byte ≡ o → (kind_of byte ≡ None → P Stray) →
    ((kind : Kind) → kind_of byte ≡ Some kind → P (front_of_kind kind bytes)) → P (front_from o bytes)
from_cases byte bytes P None e none some = none e
from_cases byte bytes P (Some kind) e none some = some kind e

pub front_cases : (byte : ℕ) (bytes : List ℕ) (P : Front → Type 0) → (is_between byte ≡ true → P Between) →
    (is_between byte ≡ false → kind_of byte ≡ None → P Stray) →
    ((kind : Kind) → kind_of byte ≡ Some kind → P (front_of_kind kind (byte ∷ bytes))) → P (front (byte ∷ bytes))
unfolding front
front_cases byte bytes P between stray start =
    cond_both (is_between byte) Between (front_from (kind_of byte) (byte ∷ bytes)) P between
    (λ e. from_cases byte (byte ∷ bytes) P (kind_of byte) refl (stray e) start)

-- a byte that may stand between units starts none
start_cases : (byte : ℕ) (kind : Kind) → kind_of byte ≡ Some kind → (byte ≡ 5) ⊎ ((byte ≡ 129) ⊎ (byte ≡ 144))
start_cases byte kind =
    cond_both (nat_eq byte 5) (Some Control) _ (λ o. o ≡ Some kind → (byte ≡ 5) ⊎ ((byte ≡ 129) ⊎ (byte ≡ 144)))
    (λ e _. inl (eqb-true _ _ e))
    (λ _. cond_both (nat_eq byte 129) (Some Data) _ (λ o. o ≡ Some kind → (byte ≡ 5) ⊎ ((byte ≡ 129) ⊎ (byte ≡ 144)))
    (λ e _. inr (inl (eqb-true _ _ e)))
    (λ _. cond_both (nat_eq byte 144) (Some Maintenance) None (λ o. o ≡ Some kind → (byte ≡ 5) ⊎ ((byte ≡ 129) ⊎ (byte ≡ 144)))
    (λ e _. inr (inr (eqb-true _ _ e))) (λ _ f. absurd (none_is kind f))))
  where
    none_is : (kind : Kind) → None ≡ Some kind → ⊥
    none_is kind f = cc

starts_none : (byte : ℕ) (kind : Kind) → kind_of byte ≡ Some kind → is_between byte ≡ false
starts_none byte kind e =
    elim (start_cases byte kind e) as (λ _. is_between byte ≡ false)
    [ inl a ↦ rw a refl | inr b ↦ elim b as (λ _. is_between byte ≡ false) [ inl c ↦ rw c refl | inr d ↦ rw d refl ] ]

-- ---- a header that is good

pub record Begins (kind : Kind) (bytes : List ℕ) : Type 0 where
  pub start : kind_of (get_or bytes 0 0) ≡ Some kind
  pub long : 8 ≤ length bytes
  pub good : is_good (take 8 bytes) ≡ true

pub front_start : (byte : ℕ) (bytes : List ℕ) (kind : Kind) → kind_of byte ≡ Some kind → front (byte ∷ bytes) ≡ front_of_kind kind (byte ∷ bytes)
unfolding front
front_start byte bytes kind e = rw (starts_none byte kind e, e) refl

pub begins_whole : (kind : Kind) (bytes : List ℕ) → Begins kind bytes → unit_len kind bytes ≤ length bytes →
    front bytes ≡ Whole (unit_len kind bytes)
begins_whole kind [] b h = absurd (omega (arith, b.long))
begins_whole kind (byte ∷ bytes) b h =
    front_start byte bytes kind b.start ∙
    kind_cases kind (byte ∷ bytes) (λ f. f ≡ Whole (unit_len kind (byte ∷ bytes)))
    (λ short. absurd (omega (arith, b.long))) (λ _ bad. absurd (both_ways _ bad b.good)) (λ _ _ cut. absurd (omega arith)) (λ _ _ _. refl)

pub begins_cut : (kind : Kind) (bytes : List ℕ) → Begins kind bytes → length bytes < unit_len kind bytes → front bytes ≡ Cut
begins_cut kind [] b h = absurd (omega (arith, b.long))
begins_cut kind (byte ∷ bytes) b h =
    front_start byte bytes kind b.start ∙
    kind_cases kind (byte ∷ bytes) (λ f. f ≡ Cut)
    (λ short. absurd (omega (arith, b.long))) (λ _ bad. absurd (both_ways _ bad b.good)) (λ _ _ _. refl) (λ _ _ whole. absurd (omega arith))

-- what is whole or cut, said of its parts
pub record IsWhole (bytes : List ℕ) (len : ℕ) : Type 0 where
  pub kind : Kind
  pub begins : Begins kind bytes
  pub len_is : len ≡ unit_len kind bytes
  pub within : len ≤ length bytes

pub record IsCut (bytes : List ℕ) : Type 0 where
  pub kind : Kind
  pub begins : Begins kind bytes
  pub more : length bytes < unit_len kind bytes

whole_is : (a b : ℕ) → Whole a ≡ Whole b → a ≡ b
whole_is a b e = cc

pub front_nil : front [] ≡ Cut
unfolding front
front_nil = refl

pub whole_parts : (bytes : List ℕ) (len : ℕ) → front bytes ≡ Whole len → IsWhole bytes len
whole_parts [] len = λ e. let f = front_nil in absurd cc
whole_parts (byte ∷ bytes) len =
    front_cases byte bytes (λ f. f ≡ Whole len → IsWhole (byte ∷ bytes) len) (λ _ e. absurd cc) (λ _ _ e. absurd cc)
    (λ kind start. kind_cases kind (byte ∷ bytes) (λ f. f ≡ Whole len → IsWhole (byte ∷ bytes) len) (λ _ e. absurd cc) (λ _ _ e. absurd cc)
    (λ _ _ _ e. absurd cc)
    (λ long good h e. record {
      kind = kind;
      begins = record { start = start; long = long; good = good };
      len_is = sym (whole_is _ _ e);
      within = let f = whole_is _ _ e in omega arith;
    }))

pub cut_parts : (bytes : List ℕ) → front bytes ≡ Cut → 8 ≤ length bytes → IsCut bytes
cut_parts [] = λ e h. absurd (omega arith)
cut_parts (byte ∷ bytes) =
    front_cases byte bytes (λ f. f ≡ Cut → 8 ≤ length (byte ∷ bytes) → IsCut (byte ∷ bytes)) (λ _ e _. absurd cc) (λ _ _ e _. absurd cc)
    (λ kind start. kind_cases kind (byte ∷ bytes) (λ f. f ≡ Cut → 8 ≤ length (byte ∷ bytes) → IsCut (byte ∷ bytes))
    (λ short _ h. absurd (omega arith)) (λ _ _ e _. absurd cc)
    (λ long good h e _. record { kind = kind; begins = record { start = start; long = long; good = good }; more = h }) (λ _ _ _ e _. absurd cc))

pub unit_len_least : (kind : Kind) (bytes : List ℕ) → 8 ≤ unit_len kind bytes
unit_len_least Control bytes = omega arith
unit_len_least Data bytes = omega arith
unit_len_least Maintenance bytes = omega arith

pub unit_len_most : (kind : Kind) (bytes : List ℕ) → get_or bytes 1 0 < 256 → unit_len kind bytes ≤ 16393
unit_len_most Control bytes h = omega arith
unit_len_most Data bytes h = omega arith
unit_len_most Maintenance bytes h = omega arith

-- a unit has eight bytes at least, and they are there
pub whole_len : (bytes : List ℕ) (len : ℕ) → front bytes ≡ Whole len → (8 ≤ len) × (len ≤ length bytes)
whole_len bytes len e =
    let w = whole_parts bytes len e in
    let least = unit_len_least w.kind bytes in
    let same = w.len_is in
    (omega arith, w.within)

-- with fewer than eight bytes nothing is whole
pub short_cut : (bytes : List ℕ) (kind : Kind) → kind_of (get_or bytes 0 0) ≡ Some kind → length bytes < 8 → front bytes ≡ Cut
short_cut [] kind e h = front_nil
short_cut (byte ∷ bytes) kind e h =
    front_start byte bytes kind e ∙
    kind_cases kind (byte ∷ bytes) (λ f. f ≡ Cut) (λ _. refl) (λ long _. absurd (omega arith)) (λ long _ _. absurd (omega arith))
    (λ long _ _. absurd (omega arith))

-- ---- more bytes

pub unit_len-append : (kind : Kind) (bytes more : List ℕ) → 8 ≤ length bytes → unit_len kind (bytes ++ more) ≡ unit_len kind bytes
unit_len-append Control bytes more h = refl
unit_len-append Data bytes more h = rw (get_or_append_left bytes more 0 1 (omega arith), get_or_append_left bytes more 0 2 (omega arith)) refl
unit_len-append Maintenance bytes more h = rw (get_or_append_left bytes more 0 1 (omega arith), get_or_append_left bytes more 0 2 (omega arith)) refl

kind_more : (kind : Kind) (bytes more : List ℕ) → (front_of_kind kind bytes ≡ Cut → ⊥) →
    front_of_kind kind (bytes ++ more) ≡ front_of_kind kind bytes
kind_more kind bytes more =
    kind_cases kind bytes (λ f. (f ≡ Cut → ⊥) → front_of_kind kind (bytes ++ more) ≡ f)
    (λ _ other. absurd (other refl))
    (λ long bad _. at_bad long bad)
    (λ _ _ _ other. absurd (other refl))
    (λ long good h _. at_good long good h)
  where
    at_bad : 8 ≤ length bytes → is_good (take 8 bytes) ≡ false → front_of_kind kind (bytes ++ more) ≡ Stray
    at_bad long bad =
        let far : 8 ≤ length (bytes ++ more) = omega (arith, length-append bytes more) in
        rw (le-ltb (length (bytes ++ more)) 8 far, take-append-le 8 bytes more long, bad) refl

    at_good : 8 ≤ length bytes → is_good (take 8 bytes) ≡ true → unit_len kind bytes ≤ length bytes →
        front_of_kind kind (bytes ++ more) ≡ Whole (unit_len kind bytes)
    at_good long good h =
        let far : 8 ≤ length (bytes ++ more) = omega (arith, length-append bytes more) in
        let whole : unit_len kind bytes ≤ length (bytes ++ more) = omega (arith, length-append bytes more) in
        rw (
          le-ltb (length (bytes ++ more)) 8 far,
          take-append-le 8 bytes more long,
          good,
          unit_len-append kind bytes more long,
          le-ltb (length (bytes ++ more)) (unit_len kind bytes) whole,
        ) refl

pub front_more : (bytes more : List ℕ) → (front bytes ≡ Cut → ⊥) → front (bytes ++ more) ≡ front bytes
unfolding front
front_more [] more = λ other. absurd (other front_nil)
front_more (byte ∷ bytes) more =
    front_cases byte bytes (λ f. (f ≡ Cut → ⊥) → front (byte ∷ (bytes ++ more)) ≡ f)
    (λ e _. at_between e) (λ e n _. at_none e n)
    (λ kind start other. front_start byte (bytes ++ more) kind start ∙ kind_more kind (byte ∷ bytes) more other)
  where
    at_between : is_between byte ≡ true → front (byte ∷ (bytes ++ more)) ≡ Between
    at_between e = rw e refl

    at_none : is_between byte ≡ false → kind_of byte ≡ None → front (byte ∷ (bytes ++ more)) ≡ Stray
    at_none e n = rw (e, n) refl
