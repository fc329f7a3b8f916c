-- Of a link: what was sent under a number is outstanding as it was sent, or may be acknowledged; and stays so, whatever is acknowledged.
use Rattle.accusing_segments.proofs.Prelude.{◌≡◌, ℕ, zero, suc, ◌+◌, ◌-◌, ◌<◌, ◌≤◌, Bool, true, false, ◌&&◌, cond, leb, Option, Some, None, List}
use Rattle.accusing_segments.proofs.Prelude.{[], ◌∷◌, ◌++◌, length, drop, refl, subst, ◌∙◌, arith, ◌⊎◌, inl, inr, slice_get, AllByRecursion}
use Rattle.accusing_segments.proofs.Prelude.{leb-true, leb-false, length-drop, AckWord, IsAckWord, SegmentValue, WrongAck, Piece, piece_of, Whole}
use Rattle.accusing_segments.proofs.Prelude.{next_message, Sending, REACH, wire, distance, is_of_data, LinkVariables, WireSegments, LastSent}
use Rattle.accusing_segments.proofs.Prelude.{last_of, all_named, with_last, sending, acks_named, sends_acks, acknowledged_to, acknowledged_by}
use Rattle.accusing_segments.proofs.Prelude.{acknowledged_by_all, takes_acks, takes_segment, with_segment, held, with_pieces, delivers}
use Rattle.accusing_segments.proofs.Prelude.{delivers_whole, delivered_as, Good, good_ok, good_err, dropped_get}
use Rattle.accusing_segments.proofs.Gave.{Passings, GaveOf, Gave, WordsPassed, word_gave}

-- it may be acknowledged: a word named this number, or one so little above it
abbrev pub Covered : (ℕ → Type 0) → ℕ → Type 0
Covered W n = (on : ℕ) × ((on < REACH) × W (wire (n + on)))

-- which pieces were sent, by their numbers modulo 4,096
abbrev pub Shown : Type 1
Shown = ℕ → Piece → Type 0

abbrev pub IsOut : LinkVariables → Shown
IsOut k n p = (i : ℕ) × ((slice_get k.outstanding i ≡ Some p) × (n ≡ wire (k.acknowledged + i + 1)))

pub record FitsOf (S : Shown) (W : ℕ → Type 0) (k : LinkVariables) : Type 0 where
  pub small : length k.outstanding ≤ REACH
  pub each : (n : ℕ) (p : Piece) → S n p → IsOut k n p ⊎ Covered W n

abbrev pub Fits : Shown → (ℕ → Type 0) → WireSegments → Type 0
Fits S W f = FitsOf S W f.variables

pub covered_more : (W V : ℕ → Type 0) → ((n : ℕ) → W n → V n) → (n : ℕ) → Covered W n → Covered V n
covered_more W V more n is = (is.0, (is.1.0, more _ is.1.1))

pub fits_more : (S : Shown) (W V : ℕ → Type 0) → ((n : ℕ) → W n → V n) → (f : WireSegments) → Fits S W f → Fits S V f
fits_more S W V more f is = record { small = is.small; each = λ n p sent. go n p (is.each n p sent) }
  where
    go : (n : ℕ) (p : Piece) → IsOut f.variables n p ⊎ Covered W n → IsOut f.variables n p ⊎ Covered V n
    go n p (inl out) = inl out
    go n p (inr covered) = inr (covered_more W V more n covered)

-- ---- places

pub at_less : {X : Type 0} (xs : List X) (i : ℕ) (x : X) → slice_get xs i ≡ Some x → i < length xs
at_less {X} [] i x e = absurd cc
at_less {X} (first ∷ xs) zero x e = omega arith
at_less {X} (first ∷ xs) (suc i) x e = let l = at_less xs i x e in omega (arith, l)

pub at_more : {X : Type 0} (xs : List X) (y : X) (i : ℕ) (x : X) → slice_get xs i ≡ Some x → slice_get (xs ++ y ∷ []) i ≡ Some x
at_more {X} [] y i x e = absurd cc
at_more {X} (first ∷ xs) y zero x e = e
at_more {X} (first ∷ xs) y (suc i) x e = at_more xs y i x e

pub at_end : {X : Type 0} (xs : List X) (x : X) → slice_get (xs ++ x ∷ []) (length xs) ≡ Some x
at_end {X} [] x = refl
at_end {X} (first ∷ xs) x = at_end xs x

pub at_same : {X : Type 0} (xs : List X) (i j : ℕ) (x y : X) → slice_get xs i ≡ Some x → slice_get xs j ≡ Some y → i ≡ j → x ≡ y
at_same {X} xs i j x y e g same = let f : slice_get xs j ≡ Some x = subst (λ (n : ℕ). slice_get xs n ≡ Some x) same e in cc

-- ---- what is acknowledged

module _ (S : Shown) (Q : Passings) where
  module _ (k : LinkVariables) (many : Bool) (number : ℕ) (gave : GaveOf Q k many) (is : FitsOf S Q.word k) (small : number < 4096)
      (came : Q.word number) where
    abbrev on : ℕ
    on = distance k.acknowledged number

    goes_on : number ≡ wire (k.acknowledged + on)
    goes_on = let h = gave.here in omega (arith, h, small)

    left : (n : ℕ) (p : Piece) → on ≤ length k.outstanding → IsOut k n p ⊎ Covered Q.word n →
        IsOut (record k { acknowledged = wire number; outstanding = drop on k.outstanding }) n p ⊎ Covered Q.word n
    left n p l (inr covered) = inr covered
    left n p l (inl (i, (at, number_is))) = by (leb on i) refl
      where
        most : i < length k.outstanding
        most = at_less k.outstanding i p at

        by : (b : Bool) → leb on i ≡ b →
            IsOut (record k { acknowledged = wire number; outstanding = drop on k.outstanding }) n p ⊎ Covered Q.word n
        by true e =
            let m = leb-true on i e in
            let place : i ≡ on + (i - on) = omega (arith, m) in
            inl (
              i - on,
              (
                dropped_get on k.outstanding (i - on) ∙ subst (λ (x : ℕ). slice_get k.outstanding x ≡ Some p) place at,
                omega (arith, m, number_is, goes_on),
              ),
            )
        by false e =
            let m = leb-false on i e in
            let s = is.small in
            let to : number ≡ wire (n + (on - i - 1)) = omega (arith, m, number_is, goes_on) in
            inr (on - i - 1, (omega (arith, m, s, l, most), subst Q.word to came))

    dropped : on ≤ length k.outstanding → FitsOf S Q.word (record k { acknowledged = wire number; outstanding = drop on k.outstanding })
    dropped l = record {
      small = let s = is.small in let less = length-drop on k.outstanding in omega (arith, s, less);
      each = λ n p sent. left n p l (is.each n p sent);
    }

    by_test : (b : Bool) → (b ≡ true → on ≤ length k.outstanding) → FitsOf S Q.word (acknowledged_to b k number)
    by_test true fits = dropped (fits refl)
    by_test false fits = is

  word_fits : (word : AckWord) (k : LinkVariables) (many : Bool) → IsAckWord word → (is_of_data word.qualifier ≡ true → Q.word word.number) →
      GaveOf Q k many → FitsOf S Q.word k → FitsOf S Q.word (acknowledged_by k word)
  word_fits word k many small came gave is = go (is_of_data word.qualifier) refl
    where
      go : (b : Bool) → is_of_data word.qualifier ≡ b →
          FitsOf S Q.word (acknowledged_to (b && leb (distance k.acknowledged word.number) (length k.outstanding)) k word.number)
      go true e =
          by_test k many word.number gave is small (came e) (leb (distance k.acknowledged word.number) (length k.outstanding))
          (λ g. leb-true (distance k.acknowledged word.number) (length k.outstanding) g)
      go false e = is

  words_fit : (words : List AckWord) (k : LinkVariables) (many : Bool) → AllByRecursion IsAckWord words → WordsPassed Q.word words →
      GaveOf Q k many → FitsOf S Q.word k → FitsOf S Q.word (acknowledged_by_all words k)
  words_fit [] k many small came gave is = is
  words_fit (word ∷ words) k many small came gave is =
      words_fit words (acknowledged_by k word) many small.1 came.1 (word_gave Q word k many small.0 came.0 gave)
      (word_fits word k many small.0 came.0 gave is)

  pub acks_fit : (words : List AckWord) (f : WireSegments) → AllByRecursion IsAckWord words → WordsPassed Q.word words → Gave Q f →
      Fits S Q.word f → Fits S Q.word (takes_acks words tt f)
  acks_fit words f small came gave is = words_fit words f.variables f.gave_many small came gave is

  pub segment_fits : (s : SegmentValue) (f : WireSegments) → AllByRecursion IsAckWord s.acks → WordsPassed Q.word s.acks → Gave Q f →
      Fits S Q.word f → Fits S Q.word (takes_segment s tt f)
  segment_fits s f small came gave is =
      go (acknowledged_by_all s.acks f.variables) (distance (acknowledged_by_all s.acks f.variables).received s.number)
      (words_fit s.acks f.variables f.gave_many small came gave is)
    where
      go : (k : LinkVariables) (above : ℕ) → FitsOf S Q.word k → FitsOf S Q.word (with_segment above (piece_of s) k)
      go k above fits = by (leb 1 above && leb above REACH)
        where
          by : (b : Bool) → FitsOf S Q.word (cond b (with_pieces (held above (piece_of s) k) k) k)
          by true = record { small = fits.small; each = fits.each }
          by false = fits

  pub delivers_fit : (message : List ℕ) (f d : WireSegments) → delivers message f ≡ Some d → Fits S Q.word f → Fits S Q.word d
  delivers_fit message f d e is = go (next_message f.variables.pieces) e
    where
      by : (b : Bool) (w : Whole) → delivered_as b w f ≡ Some d → Fits S Q.word d
      by true w g =
          let same : record f { variables = record f.variables { pieces = drop w.pieces f.variables.pieces } } ≡ d = cc in
          subst (Fits S Q.word) same (record { small = is.small; each = is.each })
      by false w g = absurd cc

      go : (o : Option Whole) → delivers_whole o message f ≡ Some d → Fits S Q.word d
      go None g = absurd cc
      go (Some w) g = by _ w g

  pub acks_sent_fit : (words : List AckWord) (f : WireSegments) → Fits S Q.word f →
      Good (λ (sent : Sending WireSegments (Unit {0})). Fits S Q.word sent.segments) (sends_acks words f)
  acks_sent_fit words f is = go (all_named false f.variables.received words (last_of f))
    where
      go : (o : Option LastSent) → Good (λ (sent : Sending WireSegments (Unit {0})). Fits S Q.word sent.segments) (acks_named o f)
      go None = good_err (λ (sent : Sending WireSegments (Unit {0})). Fits S Q.word sent.segments) WrongAck
      go (Some last) =
          good_ok (λ (sent : Sending WireSegments (Unit {0})). Fits S Q.word sent.segments) (sending (with_last last f))
          (record { small = is.small; each = is.each })
