-- A unit that is cut, with the bytes that come next.
use Rattle.std.proofs.Common.{◌≡◌, ℕ, ◌+◌, ◌<◌, ◌≤◌, ◌⊎◌, Option, Some, None, List, [], ◌++◌, length, get_or, ap}
use Rattle.std.proofs.Common.{subst, ◌∙◌, inl, inr, arith}
use Rattle.std.proofs.lemmas.List.{length-append, take-append-le, get_or_append_left}
use Rattle.framer.specs.declared.kind.Kind.{Kind}
use Rattle.framer.specs.declared.front.Front.TheVariants.{Whole}
use Rattle.framer.specs.Framing.{kind_of, unit_len, front}
use Rattle.framer.specs.inner.Held.{IsHeld, IsBegun, StandsAt}
use Rattle.framer.proofs.Fronts.{Begins, IsWhole, IsCut, begins_whole, begins_cut, whole_parts, whole_len, cut_parts, unit_len-append}
use Rattle.framer.proofs.Fronts.{front_nil}

-- ---- the header

pub stands_begun : (bytes : List ℕ) (len : Option ℕ) → StandsAt (front bytes) len → length bytes ≤ 8 → IsBegun bytes
stands_begun bytes None e h = inl e
stands_begun bytes (Some len) e h =
    let w = whole_len bytes len e in
    let same : len ≡ length bytes = omega arith in
    inr (e ∙ ap Whole same)

pub held_none : IsHeld []
held_none = record { cut = front_nil; short = omega arith }

-- with fewer than eight bytes it is cut
pub begun_short : (bytes : List ℕ) → IsBegun bytes → length bytes < 8 → IsHeld bytes
begun_short bytes begun h =
    elim begun as (λ _. IsHeld bytes) [
      | inl e ↦ record { cut = e; short = omega arith }
      | inr e ↦ let w = whole_len bytes (length bytes) e in absurd (omega arith)
    ]

-- ---- the unit

-- a unit of this kind, whole or cut, and nothing behind it
pub record IsOpen (kind : Kind) (bytes : List ℕ) : Type 0 where
  pub begins : Begins kind bytes
  pub within : length bytes ≤ unit_len kind bytes

same_kind : (a b : Kind) (o : Option Kind) → o ≡ Some a → o ≡ Some b → a ≡ b
same_kind a b o e f = cc

pub begun_open : (kind : Kind) (bytes : List ℕ) → IsBegun bytes → 8 ≤ length bytes → kind_of (get_or bytes 0 0) ≡ Some kind → IsOpen kind bytes
begun_open kind bytes begun long start =
    elim begun as (λ _. IsOpen kind bytes) [ inl e ↦ at_cut (cut_parts bytes e long) | inr e ↦ at_whole (whole_parts bytes (length bytes) e) ]
  where
    at_cut : IsCut bytes → IsOpen kind bytes
    at_cut c =
        let same = same_kind c.kind kind (kind_of (get_or bytes 0 0)) c.begins.start start in
        let h : length bytes ≤ unit_len c.kind bytes = let m = c.more in omega arith in
        record { begins = subst (λ (k : Kind). Begins k bytes) same c.begins; within = subst (λ (k : Kind). length bytes ≤ unit_len k bytes) same h }

    at_whole : IsWhole bytes (length bytes) → IsOpen kind bytes
    at_whole w =
        let same = same_kind w.kind kind (kind_of (get_or bytes 0 0)) w.begins.start start in
        let h : length bytes ≤ unit_len w.kind bytes = let m = w.len_is in omega arith in
        record { begins = subst (λ (k : Kind). Begins k bytes) same w.begins; within = subst (λ (k : Kind). length bytes ≤ unit_len k bytes) same h }

pub begun_starts : (bytes : List ℕ) → IsBegun bytes → 8 ≤ length bytes → kind_of (get_or bytes 0 0) ≡ None → ⊥
begun_starts bytes begun long none =
    elim begun as (λ _. ⊥) [
      | inl e ↦ let c = cut_parts bytes e long in let s = c.begins.start in none_starts c.kind (kind_of (get_or bytes 0 0)) none s
      | inr e ↦ let w = whole_parts bytes (length bytes) e in let s = w.begins.start in none_starts w.kind (kind_of (get_or bytes 0 0)) none s
    ]
  where
    none_starts : (kind : Kind) (o : Option Kind) → o ≡ None → o ≡ Some kind → ⊥
    none_starts kind o e f = absurd cc

-- a whole unit starts as one of the kinds does
pub whole_starts : (bytes : List ℕ) (len : ℕ) → front bytes ≡ Whole len → kind_of (get_or bytes 0 0) ≡ None → ⊥
whole_starts bytes len e none = let w = whole_parts bytes len e in let s = w.begins.start in some_none w.kind (kind_of (get_or bytes 0 0)) none s
  where
    some_none : (kind : Kind) (o : Option Kind) → o ≡ None → o ≡ Some kind → ⊥
    some_none kind o f g = absurd cc

pub Begins-append : (kind : Kind) (bytes more : List ℕ) → Begins kind bytes → Begins kind (bytes ++ more)
Begins-append kind bytes more b =
    let long = b.long in
    record {
      start = rw (get_or_append_left bytes more 0 0 (omega arith)) b.start;
      long = omega (arith, length-append bytes more);
      good = rw (take-append-le 8 bytes more b.long) b.good;
    }

pub open_cut : (kind : Kind) (bytes more : List ℕ) → IsOpen kind bytes → length bytes + length more < unit_len kind bytes →
    unit_len kind bytes ≤ 16393 → IsHeld (bytes ++ more)
open_cut kind bytes more o h most =
    let long = length-append bytes more in
    let same = unit_len-append kind bytes more o.begins.long in
    record { cut = begins_cut kind (bytes ++ more) (Begins-append kind bytes more o.begins) (omega arith); short = omega arith }

pub open_whole : (kind : Kind) (bytes more : List ℕ) → IsOpen kind bytes → length bytes + length more ≡ unit_len kind bytes →
    (front (bytes ++ more) ≡ Whole (length (bytes ++ more))) × (kind_of (get_or (bytes ++ more) 0 0) ≡ Some kind)
open_whole kind bytes more o h =
    let long = length-append bytes more in
    let same = unit_len-append kind bytes more o.begins.long in
    let b = Begins-append kind bytes more o.begins in
    let len : unit_len kind (bytes ++ more) ≡ length (bytes ++ more) = omega arith in
    (begins_whole kind (bytes ++ more) b (omega arith) ∙ ap Whole len, b.start)

-- where something is held that is no header yet, the piece is used up
pub used_up : (held : List ℕ) (count len : ℕ) → (held ≡ []) ⊎ ((8 ≤ length held) ⊎ (count ≡ len)) → 1 ≤ length held → length held < 8 → count ≡ len
used_up held count len (inl e) some short = let none = ap length e in absurd (omega arith)
used_up held count len (inr (inl h)) some short = absurd (omega arith)
used_up held count len (inr (inr e)) some short = e
