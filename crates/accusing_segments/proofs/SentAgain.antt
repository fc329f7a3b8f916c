-- What goes under a number, new or again, has the same marks and the same bytes as what was sent under it, where that can't be acknowledged.
use Rattle.accusing_segments.proofs.Prelude.{◌≡◌, ℕ, ◌+◌, ◌-◌, ◌<◌, ◌≤◌, Bool, true, false, ◌&&◌, ◌||◌, not, cond, leb, ltb, Option, Some, None}
use Rattle.accusing_segments.proofs.Prelude.{Result, Ok, Err, [], ◌∷◌, ◌++◌, length, refl, sym, subst, ap, ◌∙◌, arith, ◌⊎◌, inl, inr, length-append}
use Rattle.accusing_segments.proofs.Prelude.{eqb-true, ltb-true, slice_get, and_parts, leb-true, leb-false, SegmentValue, LinkRefusal, WrongSegment}
use Rattle.accusing_segments.proofs.Prelude.{WrongAck, SegmentTooLong, LinkWindowFull, LinkOf, Piece, piece_of, is_next_piece, Sending, Late}
use Rattle.accusing_segments.proofs.Prelude.{with_gap, wider, REACH, wire, distance, WireSegments, LastSent, LateSent, last_of, all_named}
use Rattle.accusing_segments.proofs.Prelude.{with_last, sending, with_new, sends_new, is_given, is_repeat, sends_again, is_new, segment_named}
use Rattle.accusing_segments.proofs.Prelude.{sends_segment, all_named_late, went_on, new_late, sends_late, highest_given, Good, good_ok, good_err}
use Rattle.accusing_segments.proofs.Prelude.{good_check, SentBy, AtOnce, Waited}
use Rattle.accusing_segments.proofs.Gave.{Passings, same_more, Gave}
use Rattle.accusing_segments.proofs.SegmentSends.{Gone, same_is, near, within, stands}
use Rattle.accusing_segments.proofs.SentPieces.{Covered, Shown, IsOut, Fits, at_less, at_more, at_end, at_same}

-- ---- a segment is sent; `T` is what was sent then

module _ (S T : Shown) (Q : Passings) (f : WireSegments) (gave : Gave Q f) (is : Fits S Q.word f) (s : SegmentValue) (small : s.number < 4096)
    (gone : Gone Q s) (grows : (n : ℕ) (p : Piece) → T n p → S n p ⊎ ((n ≡ s.number) × (p ≡ piece_of s))) where
  -- what was sent under its number before is the same, or may be acknowledged
  abbrev pub Agrees : Type 0
  Agrees = (p : Piece) → S s.number p → (p ≡ piece_of s) ⊎ Covered Q.word s.number

  abbrev pub IsKept : Sending WireSegments (Unit {0}) → Type 0
  IsKept sent = Fits T Q.word sent.segments × Agrees

  -- ---- a new one

  module _ (new : is_new s f.variables ≡ true) (room : ltb (length f.variables.outstanding) REACH ≡ true) where
    number_is : s.number ≡ wire (f.variables.acknowledged + length f.variables.outstanding + 1)
    number_is = let e = eqb-true s.number (wire (highest_given f.variables + 1)) new in omega (arith, e)

    size : length (f.variables.outstanding ++ piece_of s ∷ []) ≡ length f.variables.outstanding + 1
    size = length-append f.variables.outstanding (piece_of s ∷ [])

    new_agrees : Agrees
    new_agrees p sent = go (is.each s.number p sent)
      where
        go : IsOut f.variables s.number p ⊎ Covered Q.word s.number → (p ≡ piece_of s) ⊎ Covered Q.word s.number
        go (inr covered) = inr covered
        go (inl (i, (at, there))) =
            let l = at_less f.variables.outstanding i p at in
            let m = ltb-true (length f.variables.outstanding) REACH room in
            absurd (omega (arith, l, m, there, number_is))

    new_each : (last : LastSent) (n : ℕ) (p : Piece) → S n p ⊎ ((n ≡ s.number) × (p ≡ piece_of s)) →
        IsOut (with_last last (with_new (piece_of s) f)).variables n p ⊎ Covered Q.word n
    new_each last n p (inl sent) = go (is.each n p sent)
      where
        go : IsOut f.variables n p ⊎ Covered Q.word n → IsOut (with_last last (with_new (piece_of s) f)).variables n p ⊎ Covered Q.word n
        go (inr covered) = inr covered
        go (inl (i, (at, there))) = inl (i, (at_more f.variables.outstanding (piece_of s) i p at, there))
    new_each last n p (inr (same, this)) = inl (
      length f.variables.outstanding,
      (
        subst (λ (x : Piece). slice_get (f.variables.outstanding ++ piece_of s ∷ []) (length f.variables.outstanding) ≡ Some x) (sym this)
            (at_end f.variables.outstanding (piece_of s)),
        same ∙ number_is,
      ),
    )

    new_kept : (last : LastSent) → IsKept (sending (with_last last (with_new (piece_of s) f)))
    new_kept last = (
      record {
        small = let m = ltb-true (length f.variables.outstanding) REACH room in omega (arith, m, size);
        each = λ n p sent. new_each last n p (grows n p sent);
      },
      new_agrees,
    )

  new_good : (segsize : ℕ) (last : LastSent) → is_new s f.variables ≡ true → Good IsKept (sends_new segsize (piece_of s) last f)
  new_good segsize last new =
      good_check IsKept (ltb (length f.variables.outstanding) REACH) LinkWindowFull _ (λ e.
      good_check IsKept (leb (length s.body) segsize) SegmentTooLong _ (λ g.
      good_check IsKept (is_next_piece (piece_of s) f.variables.unsent) WrongSegment _ (λ h.
      good_ok IsKept (sending (with_last last (with_new (piece_of s) f))) (new_kept new e last))))

  -- ---- one that goes again

  abbrev below : ℕ
  below = distance s.number (highest_given f.variables)

  module _ (reach : ltb below REACH ≡ true) (some : (f.gave_many || ltb below (highest_given f.variables)) ≡ true) where
    so_near : below < REACH
    so_near = near Q Q (same_more Q) f gave s small gone reach some

    so_within : below < gave.acked + length f.variables.outstanding
    so_within = within Q Q (same_more Q) f gave s small gone reach some

    so_stands : s.number ≡ wire (gave.acked + length f.variables.outstanding - below)
    so_stands = stands Q Q (same_more Q) f gave s small gone reach some

    again_out : is_repeat below (piece_of s) f.variables.outstanding ≡ true → IsOut f.variables s.number (piece_of s) ⊎ Covered Q.word s.number
    again_out e = go (leb (length f.variables.outstanding) below) refl e
      where
        by_piece : leb (length f.variables.outstanding) below ≡ false → (o : Option Piece) →
            slice_get f.variables.outstanding (length f.variables.outstanding - 1 - below) ≡ o → is_given o (piece_of s) ≡ true →
            IsOut f.variables s.number (piece_of s) ⊎ Covered Q.word s.number
        by_piece less None at g = absurd cc
        by_piece less (Some first) at g =
            let l = leb-false (length f.variables.outstanding) below less in
            let h = gave.here in
            let same = same_is (piece_of s) first g in
            inl (
              length f.variables.outstanding - 1 - below,
              (
                at ∙ ap (λ (x : Piece). Some x) same,
                omega (arith, l, h, so_stands),
              ),
            )

        by_word : length f.variables.outstanding ≤ below → (gave.acked ≡ 0) ⊎ Q.word (wire gave.acked) →
            IsOut f.variables s.number (piece_of s) ⊎ Covered Q.word s.number
        by_word l (inl none) = absurd (omega (arith, l, none, so_within))
        by_word l (inr word) =
            let to : wire gave.acked ≡ wire (s.number + (gave.acked - (gave.acked + length f.variables.outstanding - below))) =
            omega (arith, l, so_stands, so_within) in
            inr (
              gave.acked - (gave.acked + length f.variables.outstanding - below),
              (omega (arith, l, so_near, so_within), subst Q.word to word),
            )

        go : (b : Bool) → leb (length f.variables.outstanding) below ≡ b →
            (b || is_given (slice_get f.variables.outstanding (length f.variables.outstanding - 1 - below)) (piece_of s)) ≡ true →
            IsOut f.variables s.number (piece_of s) ⊎ Covered Q.word s.number
        go true l g = by_word (leb-true (length f.variables.outstanding) below l) gave.word
        go false l g = by_piece l _ refl g

    module _ (again : is_repeat below (piece_of s) f.variables.outstanding ≡ true) where
      again_agrees : Agrees
      again_agrees p sent = go (is.each s.number p sent) (again_out again)
        where
          go : IsOut f.variables s.number p ⊎ Covered Q.word s.number → IsOut f.variables s.number (piece_of s) ⊎ Covered Q.word s.number →
              (p ≡ piece_of s) ⊎ Covered Q.word s.number
          go (inr covered) out = inr covered
          go (inl there) (inr covered) = inr covered
          go (inl (i, (at, there))) (inl (j, (here, this))) =
              let l = at_less f.variables.outstanding i p at in
              let m = at_less f.variables.outstanding j (piece_of s) here in
              let most = is.small in
              let same : i ≡ j = omega (arith, l, m, most, there, this) in
              inl (at_same f.variables.outstanding i j p (piece_of s) at here same)

      again_each : (n : ℕ) (p : Piece) → S n p ⊎ ((n ≡ s.number) × (p ≡ piece_of s)) → IsOut f.variables n p ⊎ Covered Q.word n
      again_each n p (inl sent) = is.each n p sent
      again_each n p (inr (same, this)) =
          subst (λ (x : ℕ). IsOut f.variables x p ⊎ Covered Q.word x) (sym same)
          (subst (λ (x : Piece). IsOut f.variables s.number x ⊎ Covered Q.word s.number) (sym this) (again_out again))

      again_kept : (last : LastSent) → IsKept (sending (with_last last f))
      again_kept last = (record { small = is.small; each = λ n p sent. again_each n p (grows n p sent) }, again_agrees)

  again_good : (last : LastSent) → Good IsKept (sends_again below (piece_of s) last f)
  again_good last =
      good_check IsKept (ltb below REACH && (f.gave_many || ltb below (highest_given f.variables))) WrongSegment _ (λ e.
      good_check IsKept (is_repeat below (piece_of s) f.variables.outstanding) WrongSegment _ (λ g.
      let parts = and_parts (ltb below REACH) (f.gave_many || ltb below (highest_given f.variables)) e in
      good_ok IsKept (sending (with_last last f)) (again_kept parts.0 parts.1 g last)))

  -- ---- any

  named_good : (segsize : ℕ) (o : Option LastSent) → Good IsKept (segment_named o segsize s f)
  named_good segsize None = good_err IsKept WrongAck
  named_good segsize (Some last) = go (is_new s f.variables) refl
    where
      go : (b : Bool) → is_new s f.variables ≡ b →
          Good IsKept (cond b (sends_new segsize (piece_of s) last f) (sends_again below (piece_of s) last f))
      go true new = new_good segsize last new
      go false old = again_good last

  segment_kept : (segsize : ℕ) → Good IsKept (sends_segment segsize s f)
  segment_kept segsize = named_good segsize (all_named (not (is_new s f.variables)) f.variables.received s.acks (last_of f))

  abbrev IsLateKept : Late WireSegments (Unit {0}) → Type 0
  IsLateKept late = IsKept late.sent

  gap_kept : (gap : Sending WireSegments (Unit {0}) → ℕ) (r : Result (Sending WireSegments (Unit {0})) LinkRefusal) →
      Good IsKept r → Good IsLateKept (with_gap gap r)
  gap_kept gap (Ok sent) good = good_ok IsLateKept (record { sent = sent; gap = gap sent }) (good sent refl)
  gap_kept gap (Err refusal) good = good_err IsLateKept refusal

  new_late_kept : (segsize : ℕ) (o : Option LateSent) → is_new s f.variables ≡ true → Good IsLateKept (new_late o segsize s f)
  new_late_kept segsize None new = good_err IsLateKept WrongAck
  new_late_kept segsize (Some next) new =
      gap_kept (λ sent. next.gap) (sends_new segsize (piece_of s) next.sent f) (new_good segsize next.sent new)

  late_kept : (gap segsize : ℕ) → Good IsLateKept (sends_late gap segsize s f)
  late_kept gap segsize = go (is_new s f.variables) refl
    where
      go : (b : Bool) → is_new s f.variables ≡ b →
          Good IsLateKept (cond b
          (new_late (all_named_late f.variables.received s.acks (record { sent = last_of f; gap = gap })) segsize s f)
          (with_gap (λ sent. wider gap (went_on f sent.segments)) (sends_segment segsize s f)))
      go true new = new_late_kept segsize (all_named_late f.variables.received s.acks (record { sent = last_of f; gap = gap })) new
      go false old = gap_kept (λ sent. wider gap (went_on f sent.segments)) (sends_segment segsize s f) (segment_kept segsize)

-- what is left where it is sent
module _ (S T : Shown) (Q : Passings) (s : SegmentValue) (small : s.number < 4096) (gone : Gone Q s)
    (grows : (n : ℕ) (p : Piece) → T n p → S n p ⊎ ((n ≡ s.number) × (p ≡ piece_of s))) where
  pub sent_kept : (l : LinkOf WireSegments) (f : WireSegments) (gave : Gave Q l.segments) (is : Fits S Q.word l.segments) → SentBy s l f →
      Fits T Q.word f × Agrees S T Q l.segments gave is s small gone grows
  sent_kept l f gave is (AtOnce made e) = segment_kept S T Q l.segments gave is s small gone grows l.segsize made e
  sent_kept l f gave is (Waited made e) = late_kept S T Q l.segments gave is s small gone grows l.queue.gap l.segsize made e
