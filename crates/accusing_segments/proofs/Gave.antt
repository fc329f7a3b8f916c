-- What the segments of a link have given was sent: of the numbers that passed, by predicates on numbers modulo 4,096.
use Rattle.accusing_segments.proofs.Prelude.{◌≡◌, ℕ, ◌+◌, ◌<◌, ◌≤◌, Bool, true, false, ◌&&◌, not, cond, leb, Option, Some, None, List, [], ◌∷◌}
use Rattle.accusing_segments.proofs.Prelude.{length, drop, refl, sym, subst, ◌∙◌, arith, ◌⊎◌, inl, inr, slice_get, AllByRecursion, leb-true}
use Rattle.accusing_segments.proofs.Prelude.{length-drop, AckWord, IsAckWord, SegmentValue, Piece, piece_of, REACH, wire, distance, is_of_data}
use Rattle.accusing_segments.proofs.Prelude.{LinkVariables, WireSegments, empty, acknowledged_to, acknowledged_by, acknowledged_by_all, takes_acks}
use Rattle.accusing_segments.proofs.Prelude.{takes_segment, with_segment, held, with_pieces, ends, delivers, delivers_whole, delivered_as, Whole}
use Rattle.accusing_segments.proofs.Prelude.{next_message, distance_on, dropped_get}

-- of one link: the numbers of the segments that were sent, with whether one ended its message; the numbers that were acknowledged; and for how many
-- data bytes the other side has room in a segment
pub record Passings : Type 1 where
  pub ends : ℕ → Bool → Type 0
  pub word : ℕ → Type 0
  pub room : ℕ → Type 0

abbrev pub never : Passings
never = record { ends = λ n e. ⊥; word = λ n. ⊥; room = λ n. ⊥ }

-- more passed
pub record More (Q R : Passings) : Type 0 where
  pub ends : (n : ℕ) (e : Bool) → Q.ends n e → R.ends n e
  pub word : (n : ℕ) → Q.word n → R.word n
  pub room : (n : ℕ) → Q.room n → R.room n

-- a segment that begins a message, or does not, may follow the one with this number: it is the first, or that one ended its message exactly if so
abbrev pub Follows : Passings → ℕ → Bool → Type 0
Follows Q number begins = ((number ≡ 0) × (begins ≡ true)) ⊎ Q.ends (wire number) begins

-- All numbers that were given were sent; each piece that is outstanding followed the one before, with room for it, and the next piece may follow the
-- last one
pub record Holds (Q : Passings) (acknowledged : ℕ) (outstanding : List Piece) (begun many : Bool) : Type 0 where
  pub acked : ℕ
  pub here : acknowledged ≡ wire acked
  pub all : (n : ℕ) → 1 ≤ n → n ≤ acked + length outstanding → (e : Bool) × Q.ends (wire n) e
  pub each : (i : ℕ) (p : Piece) → slice_get outstanding i ≡ Some p → Follows Q (acked + i) p.begins × Q.room (length p.body)
  pub last : Follows Q (acked + length outstanding) (not begun)
  pub word : (acked ≡ 0) ⊎ Q.word (wire acked)
  pub reaches : many ≡ true → REACH ≤ acked + length outstanding

abbrev pub GaveOf : Passings → LinkVariables → Bool → Type 0
GaveOf Q k many = Holds Q k.acknowledged k.outstanding k.unsent.begun many

abbrev pub Gave : Passings → WireSegments → Type 0
Gave Q f = GaveOf Q f.variables f.gave_many

-- a word acknowledges what was acknowledged
abbrev pub WordsPassed : (ℕ → Type 0) → List AckWord → Type 0
WordsPassed W [] = Unit {0}
WordsPassed W (word ∷ words) = (is_of_data word.qualifier ≡ true → W word.number) × WordsPassed W words

pub follows_more : (Q R : Passings) → More Q R → (number : ℕ) (begins : Bool) → Follows Q number begins → Follows R number begins
follows_more Q R more number begins (inl first) = inl first
follows_more Q R more number begins (inr sent) = inr (more.ends (wire number) begins sent)

pub weaker : (Q R : Passings) (acknowledged : ℕ) (outstanding : List Piece) (begun many : Bool) → More Q R →
    Holds Q acknowledged outstanding begun many → Holds R acknowledged outstanding begun many
weaker Q R acknowledged outstanding begun many more is = record {
  acked = is.acked;
  here = is.here;
  all = λ n l m. let found = is.all n l m in (found.0, more.ends (wire n) found.0 found.1);
  each = λ i p e. let found = is.each i p e in (follows_more Q R more (is.acked + i) p.begins found.0, more.room (length p.body) found.1);
  last = follows_more Q R more (is.acked + length outstanding) (not begun) is.last;
  word = words is.word;
  reaches = is.reaches;
}
  where
    words : (is.acked ≡ 0) ⊎ Q.word (wire is.acked) → (is.acked ≡ 0) ⊎ R.word (wire is.acked)
    words (inl none) = inl none
    words (inr came) = inr (more.word _ came)

pub gave_more : (Q R : Passings) (f : WireSegments) → More Q R → Gave Q f → Gave R f
gave_more Q R f more is = weaker Q R _ _ _ _ more is

pub never_less : (Q : Passings) → More never Q
never_less Q = record { ends = λ n e none. absurd none; word = λ n none. absurd none; room = λ n none. absurd none }

pub same_more : (Q : Passings) → More Q Q
same_more Q = record { ends = λ n e is. is; word = λ n is. is; room = λ n is. is }

module _ (Q : Passings) where
  nothing_given : Holds Q 0 [] false false
  nothing_given = record {
    acked = 0;
    here = refl;
    all = λ n l m. absurd (omega (arith, l, m));
    each = λ i p e. absurd cc;
    last = inl (refl, refl);
    word = inl refl;
    reaches = λ e. absurd cc;
  }

  pub empty_gave : Gave Q empty
  empty_gave = nothing_given

  pub ends_gave : (f : WireSegments) → Gave Q (ends f)
  ends_gave f = nothing_given

  -- ---- what is delivered

  pub delivers_gave : (message : List ℕ) (f d : WireSegments) → delivers message f ≡ Some d → Gave Q f → Gave Q d
  delivers_gave message f d e is = go (next_message f.variables.pieces) e
    where
      by_test : (b : Bool) (w : Whole) → delivered_as b w f ≡ Some d → Gave Q d
      by_test true w g =
          let same : record f { variables = record f.variables { pieces = drop w.pieces f.variables.pieces } } ≡ d = cc in
          subst (Gave Q) same is
      by_test false w g = absurd cc

      go : (o : Option Whole) → delivers_whole o message f ≡ Some d → Gave Q d
      go None g = absurd cc
      go (Some w) g = by_test _ w g

  -- ---- what is acknowledged

  module _ (k : LinkVariables) (many : Bool) (number : ℕ) (is : GaveOf Q k many) (small : number < 4096) (came : Q.word number) where
    abbrev on : ℕ
    on = distance k.acknowledged number

    goes_on : number ≡ wire (is.acked + on)
    goes_on = subst (λ (x : ℕ). number ≡ wire (is.acked + distance x number)) (sym is.here) (distance_on is.acked number small)

    same_highest : on ≤ length k.outstanding → is.acked + on + length (drop on k.outstanding) ≡ is.acked + length k.outstanding
    same_highest l = let less = length-drop on k.outstanding in omega (arith, less, l)

    dropped_gave : on ≤ length k.outstanding → Holds Q (wire number) (drop on k.outstanding) k.unsent.begun many
    dropped_gave l = record {
      acked = is.acked + on;
      here = omega (arith, goes_on, small);
      all = λ n first most. is.all n first (omega (arith, same_highest l, most));
      each = λ i p e.
          let at : is.acked + (on + i) ≡ is.acked + on + i = omega arith in
          subst (λ (x : ℕ). Follows Q x p.begins × Q.room (length p.body)) at (is.each (on + i) p (sym (dropped_get on k.outstanding i) ∙ e));
      last = subst (λ (x : ℕ). Follows Q x (not k.unsent.begun)) (sym (same_highest l)) is.last;
      word = inr (subst Q.word goes_on came);
      reaches = λ e. subst (λ (x : ℕ). REACH ≤ x) (sym (same_highest l)) (is.reaches e);
    }

    by_test : (b : Bool) → (b ≡ true → on ≤ length k.outstanding) → GaveOf Q (acknowledged_to b k number) many
    by_test true within = dropped_gave (within refl)
    by_test false within = is

  pub word_gave : (word : AckWord) (k : LinkVariables) (many : Bool) → IsAckWord word → (is_of_data word.qualifier ≡ true → Q.word word.number) →
      GaveOf Q k many → GaveOf Q (acknowledged_by k word) many
  word_gave word k many small came is = go (is_of_data word.qualifier) refl
    where
      go : (b : Bool) → is_of_data word.qualifier ≡ b →
          GaveOf Q (acknowledged_to (b && leb (distance k.acknowledged word.number) (length k.outstanding)) k word.number) many
      go true e =
          by_test k many word.number is small (came e) (leb (distance k.acknowledged word.number) (length k.outstanding))
          (λ g. leb-true (distance k.acknowledged word.number) (length k.outstanding) g)
      go false e = is

  pub words_gave : (words : List AckWord) (k : LinkVariables) (many : Bool) → AllByRecursion IsAckWord words → WordsPassed Q.word words →
      GaveOf Q k many → GaveOf Q (acknowledged_by_all words k) many
  words_gave [] k many small came is = is
  words_gave (word ∷ words) k many small came is =
      words_gave words (acknowledged_by k word) many small.1 came.1 (word_gave word k many small.0 came.0 is)

  pub acks_gave : (words : List AckWord) (f : WireSegments) → AllByRecursion IsAckWord words → WordsPassed Q.word words → Gave Q f →
      Gave Q (takes_acks words tt f)
  acks_gave words f small came is = words_gave words f.variables f.gave_many small came is

  held_gave : (above : ℕ) (p : Piece) (k : LinkVariables) (many : Bool) → GaveOf Q k many → GaveOf Q (with_segment above p k) many
  held_gave above p k many is = go (leb 1 above && leb above REACH)
    where
      go : (b : Bool) → GaveOf Q (cond b (with_pieces (held above p k) k) k) many
      go true = is
      go false = is

  pub segment_gave : (s : SegmentValue) (f : WireSegments) → AllByRecursion IsAckWord s.acks → WordsPassed Q.word s.acks → Gave Q f →
      Gave Q (takes_segment s tt f)
  segment_gave s f small came is =
      held_gave (distance (acknowledged_by_all s.acks f.variables).received s.number) (piece_of s) (acknowledged_by_all s.acks f.variables)
      f.gave_many
      (words_gave s.acks f.variables f.gave_many small came is)
