-- Which pieces went first, and which calls passed, after one unit more; and what is noted of that accuses alike.
use Rattle.accusing_segments.proofs.Prelude.{◌≡◌, ℕ, zero, suc, ◌+◌, Bool, true, false, ◌&&◌, ◌||◌, not, Option, Some, None, List, [], ◌∷◌, ◌++◌}
use Rattle.accusing_segments.proofs.Prelude.{refl, sym, ap, ap₂, ◌∙◌, Result, Ok, Err, OnOk, SegmentValue, NspValue, DataSegment, LinkService}
use Rattle.accusing_segments.proofs.Prelude.{DataAck, OtherDataAck, ConnectAck, NoOperation, ConnectInitiate, ConnectConfirm, DisconnectInitiate}
use Rattle.accusing_segments.proofs.Prelude.{DisconnectConfirm, Piece, piece_of, REACH, wire, Passed, Own, Other, message_in, in_unit, by_other}
use Rattle.accusing_segments.proofs.Prelude.{History, history, is_covered, first_of, first_sent, piece_with, piece_in, calls, called_twice, Repeats}
use Rattle.accusing_segments.proofs.Prelude.{repeats, differs, is_one_link, is_changed, is_changed_in, is_changed_unit, first_noted, shown, Sight}
use Rattle.accusing_segments.proofs.Prelude.{IsAfter, seen}
use Rattle.accusing_segments.proofs.Passing.{other_more}

-- ---- what may be acknowledged

pub covered_same : (named other : ℕ → Bool) → ((m : ℕ) → named m ≡ other m) → (number count : ℕ) →
    is_covered named number count ≡ is_covered other number count
unfolding is_covered
covered_same named other same number zero = refl
covered_same named other same number (suc count) =
    ap₂ (λ (a b : Bool). a || b) (same (wire (number + count))) (covered_same named other same number count)

pub covered_less : (named other : ℕ → Bool) → ((m : ℕ) → named m ≡ true → other m ≡ true) → (number count : ℕ) →
    is_covered other number count ≡ false → is_covered named number count ≡ false
unfolding is_covered
covered_less named other more number zero e = refl
covered_less named other more number (suc count) e =
    go (named (wire (number + count))) (other (wire (number + count))) (is_covered other number count) refl refl e
    (covered_less named other more number count)
  where
    go : (a b c : Bool) → named (wire (number + count)) ≡ a → other (wire (number + count)) ≡ b → (b || c) ≡ false →
        (c ≡ false → is_covered named number count ≡ false) → (a || is_covered named number count) ≡ false
    go true true c one two f later = absurd cc
    go true false c one two f later = let also = more (wire (number + count)) one in absurd cc
    go false true c one two f later = absurd cc
    go false false c one two f later = later f

-- ---- one unit more

first_then : (a b c : Option Piece) → first_of a (first_of b c) ≡ first_of (first_of a b) c
first_then None b c = refl
first_then (Some p) b c = refl

module _ (own far number : ℕ) where
  pub first_more : (passed : List Passed) (unit : List ℕ) →
      first_sent (passed ++ Own unit ∷ []) own far number ≡ first_of (first_sent passed own far number) (piece_in (message_in unit) own far number)
  first_more [] unit = go (piece_in (message_in unit) own far number)
    where
      go : (o : Option Piece) → first_of o None ≡ o
      go None = refl
      go (Some p) = refl
  first_more (Own first ∷ passed) unit =
      ap (λ (o : Option Piece). first_of (piece_in (message_in first) own far number) o) (first_more passed unit)
      ∙ first_then (piece_in (message_in first) own far number) (first_sent passed own far number) (piece_in (message_in unit) own far number)
  first_more (Other first ∷ passed) unit = first_more passed unit

  pub first_same : (passed : List Passed) (unit : List ℕ) →
      first_sent (passed ++ Other unit ∷ []) own far number ≡ first_sent passed own far number
  first_same [] unit = refl
  first_same (Own first ∷ passed) unit =
      ap (λ (o : Option Piece). first_of (piece_in (message_in first) own far number) o) (first_same passed unit)
  first_same (Other first ∷ passed) unit = first_same passed unit

  module _ (what : ℕ) where
    abbrev this : List ℕ → Bool
    this unit = in_unit calls unit own far number what

    pub twice_more : (passed : List Passed) (unit : List ℕ) → called_twice (passed ++ Other unit ∷ []) own far number what
        ≡ ((this unit && by_other calls passed own far number what) || called_twice passed own far number what)
    twice_more [] unit = go (this unit)
      where
        go : (a : Bool) → ((a && false) || false) ≡ ((a && false) || false)
        go a = refl
    twice_more (Own first ∷ passed) unit = twice_more passed unit
    twice_more (Other first ∷ passed) unit =
        ap₂ (λ (a b : Bool). (this first && a) || b) (other_more calls own far number what passed unit) (twice_more passed unit)
        ∙ go (this first) (this unit) (by_other calls passed own far number what) (called_twice passed own far number what)
      where
        go : (a u c t : Bool) → ((a && (u || c)) || ((u && c) || t)) ≡ ((u && (a || c)) || ((a && c) || t))
        go true true true t = refl
        go true true false t = refl
        go true false true t = refl
        go true false false t = refl
        go false true true t = refl
        go false true false t = refl
        go false false c t = refl

    pub twice_same : (passed : List Passed) (unit : List ℕ) →
        called_twice (passed ++ Own unit ∷ []) own far number what ≡ called_twice passed own far number what
    twice_same [] unit = refl
    twice_same (Own first ∷ passed) unit = twice_same passed unit
    twice_same (Other first ∷ passed) unit =
        ap₂ (λ (a b : Bool). (this first && a) || b) (other_own passed) (twice_same passed unit)
      where
        other_own : (passed : List Passed) → by_other calls (passed ++ Own unit ∷ []) own far number what ≡ by_other calls passed own far number what
        other_own [] = refl
        other_own (Own first ∷ passed) = other_own passed
        other_own (Other first ∷ passed) = ap (λ (b : Bool). this first || b) (other_own passed)

-- ---- what is noted accuses alike

module _ (h k : History) (r t : Repeats) (words : (o f n w : ℕ) → h.words o f n w ≡ k.words o f n w)
    (firsts : (o f n : ℕ) → is_covered (λ m. k.words o f m 0) n REACH ≡ false → r.firsts o f n ≡ t.firsts o f n)
    (called : (o f n w : ℕ) → r.called o f n w ≡ t.called o f n w) (again : (o f n w : ℕ) → r.again o f n w ≡ t.again o f n w) where
  one_same : (own far : ℕ) → is_one_link r own far ≡ is_one_link t own far
  one_same own far =
      ap not (ap₂ (λ (a b : Bool). a || b) (again 0 far 0 0) (ap₂ (λ (a b : Bool). a || b) (again own far 0 0)
      (ap₂ (λ (a b : Bool). a && b) (called 0 far 0 0) (called own far 0 0))))

  segment_same : (s : SegmentValue) → is_changed h r s ≡ is_changed k t s
  segment_same s =
      go (is_covered (λ m. h.words s.srcaddr s.dstaddr m 0) s.number REACH) (is_covered (λ m. k.words s.srcaddr s.dstaddr m 0) s.number REACH)
      (covered_same (λ m. h.words s.srcaddr s.dstaddr m 0) (λ m. k.words s.srcaddr s.dstaddr m 0) (λ m. words s.srcaddr s.dstaddr m 0) s.number REACH)
      (firsts s.srcaddr s.dstaddr s.number)
    where
      nothing : (a b : Bool) → (a && (b && false)) ≡ false
      nothing true true = refl
      nothing true false = refl
      nothing false b = refl

      go : (x y : Bool) → x ≡ y →
          (y ≡ false → r.firsts s.srcaddr s.dstaddr s.number ≡ t.firsts s.srcaddr s.dstaddr s.number) →
          (differs (r.firsts s.srcaddr s.dstaddr s.number) (piece_of s) && (is_one_link r s.srcaddr s.dstaddr && not x))
          ≡ (differs (t.firsts s.srcaddr s.dstaddr s.number) (piece_of s) && (is_one_link t s.srcaddr s.dstaddr && not y))
      go true true same first = nothing _ _ ∙ sym (nothing _ _)
      go false false same first =
          ap₂ (λ (o : Option Piece) (b : Bool). differs o (piece_of s) && (b && true)) (first refl) (one_same s.srcaddr s.dstaddr)
      go true false same first = absurd cc
      go false true same first = absurd cc

  in_same : (o : Option NspValue) → is_changed_in h r o ≡ is_changed_in k t o
  in_same None = refl
  in_same (Some (DataSegment s)) = segment_same s
  in_same (Some (LinkService interrupt dst src rest)) = refl
  in_same (Some (DataAck dst src acks)) = refl
  in_same (Some (OtherDataAck dst src rest)) = refl
  in_same (Some (ConnectAck dst)) = refl
  in_same (Some (NoOperation rest)) = refl
  in_same (Some (ConnectInitiate retransmitted src services info segsize user_data)) = refl
  in_same (Some (ConnectConfirm dst src services info segsize user_data)) = refl
  in_same (Some (DisconnectInitiate dst src reason user_data)) = refl
  in_same (Some (DisconnectConfirm dst src reason)) = refl

pub changed_same : (sight : Sight) (passed : List Passed) → IsAfter sight passed → (unit : List ℕ) →
    is_changed_unit (seen sight) (shown sight.noted) unit ≡ is_changed_unit (history passed) (repeats passed) unit
changed_same sight passed is unit =
    in_same (seen sight) (history passed) (shown sight.noted) (repeats passed) is.words is.firsts is.called is.again (message_in unit)

-- a message that is no data segment
pub first_unchanged : (firsts : List ((ℕ × ℕ × ℕ) × Piece)) (unit : List ℕ) (m : NspValue) → message_in unit ≡ Some m →
    ((o f n : ℕ) → piece_with m o f n ≡ None) → (o f n : ℕ) →
    first_noted firsts o f n ≡ first_of (first_noted firsts o f n) (piece_in (message_in unit) o f n)
first_unchanged firsts unit m is none o f n =
    same (first_noted firsts o f n) ∙ ap (λ (x : Option Piece). first_of (first_noted firsts o f n) x)
    (sym (ap (λ (x : Option NspValue). piece_in x o f n) is ∙ none o f n))
  where
    same : (x : Option Piece) → x ≡ first_of x None
    same None = refl
    same (Some p) = refl

pub on_any : {X Y : Type 0} (r : Result X Y) (P : Type 0) → P → OnOk r P
on_any {X} {Y} (Ok x) P is = is
on_any {X} {Y} (Err y) P is = tt
