-- A set of what is known has one more after it was put in; and histories that answer alike accuse alike.
use Rattle.accusing_segments.proofs.Prelude.{◌≡◌, ℕ, zero, suc, ◌+◌, Bool, true, false, ◌&&◌, ◌||◌, not, eqb, Option, Some, None, List, [], ◌∷◌}
use Rattle.accusing_segments.proofs.Prelude.{◌++◌, refl, sym, subst, ap, ap₂, ◌∙◌, arith, Ordering, Less, Equal, Greater, nat_cmp, Result, Ok, Err}
use Rattle.accusing_segments.proofs.Prelude.{OnOk, option_map, length, take, get_or, ◌<◌, list_any, exact_unsigned, take_more, ordering_then}
use Rattle.accusing_segments.proofs.Prelude.{AckWord, SegmentValue, NspValue, DataSegment, LinkService, DataAck, OtherDataAck, ConnectAck}
use Rattle.accusing_segments.proofs.Prelude.{NoOperation, ConnectInitiate, ConnectConfirm, DisconnectInitiate, DisconnectConfirm, view}
use Rattle.accusing_segments.proofs.Prelude.{segment_view, Nsp, Segment, Piece, REACH, wire, Passed, Own, Other, fits, has, bit, message_in}
use Rattle.accusing_segments.proofs.Prelude.{end_sent, is_named, words_name, acknowledges, has_room, in_unit, said, by_other, History, history}
use Rattle.accusing_segments.proofs.Prelude.{before, is_covered, is_acknowledged, is_first, is_next, is_right, is_wrong_message, is_wrong_in}
use Rattle.accusing_segments.proofs.Prelude.{is_wrong_unit, is_in_room, is_long_message, is_long_in, is_long_unit, first_of, piece_in, calls}
use Rattle.accusing_segments.proofs.Prelude.{first_noted, Sight, IsAfter, seen}
use Rattle.dna_packet.specs.declared.nsp.Nsp.TheVariants as rust
use Rattle.dna_packet.specs.declared.nsp.DataAck.{DataAck as DataAckOf}
use Rattle.accusing_segments.proofs.Passing.{own_more, own_same, other_more, other_same, other_stays}
use Rattle.accusing_segments.proofs.NotedAfter.{covered_same, covered_less, first_more, first_same, twice_more, twice_same}

-- ---- by the order of four numbers

abbrev pub Four : Type 0
Four = ℕ × ℕ × ℕ × ℕ

abbrev pub four_compared : Four → Four → Ordering
four_compared x y = ordering_then (ordering_then (ordering_then (nat_cmp x.0 y.0) (nat_cmp x.1 y.1)) (nat_cmp x.2 y.2)) (nat_cmp x.3 y.3)

both_equal : (a b : Ordering) → ordering_then a b ≡ Equal → (a ≡ Equal) × (b ≡ Equal)
both_equal Less b e = absurd cc
both_equal Equal b e = (refl, e)
both_equal Greater b e = absurd cc

same_four : (x y : Four) → x.0 ≡ y.0 → x.1 ≡ y.1 → x.2 ≡ y.2 → x.3 ≡ y.3 → x ≡ y
same_four (a, b, c, d) (e, f, g, h) one two three four =
    let one : a ≡ e = one in
    let two : b ≡ f = two in
    let three : c ≡ g = three in
    let four : d ≡ h = four in
    cc

pub four_exact : (x y : Four) → four_compared x y ≡ Equal → x ≡ y
four_exact x y e =
    let all = both_equal (ordering_then (ordering_then (nat_cmp x.0 y.0) (nat_cmp x.1 y.1)) (nat_cmp x.2 y.2)) (nat_cmp x.3 y.3) e in
    let three = both_equal (ordering_then (nat_cmp x.0 y.0) (nat_cmp x.1 y.1)) (nat_cmp x.2 y.2) all.0 in
    let two = both_equal (nat_cmp x.0 y.0) (nat_cmp x.1 y.1) three.0 in
    same_four x y (exact_unsigned x.0 y.0 two.0) (exact_unsigned x.1 y.1 two.1) (exact_unsigned x.2 y.2 three.1) (exact_unsigned x.3 y.3 all.1)

-- ---- words one after the other

any_more : {X : Type 0} (test : X → Bool) (xs : List X) (x : X) → list_any test (xs ++ x ∷ []) ≡ (list_any test (x ∷ []) || list_any test xs)
any_more {X} test [] x = go (test x)
  where
    go : (a : Bool) → (a || false) ≡ ((a || false) || false)
    go true = refl
    go false = refl
any_more {X} test (first ∷ xs) x = go (test first) (test x) _ (any_more test xs x)
  where
    go : (a b c : Bool) → list_any test (xs ++ x ∷ []) ≡ ((b || false) || c) →
        (a || list_any test (xs ++ x ∷ [])) ≡ ((b || false) || (a || c))
    go true true c e = refl
    go true false c e = refl
    go false b c e = e

pub one_word_more : (own far : ℕ) (words : List AckWord) (word : AckWord) (o f n w : ℕ) →
    words_name own far (words ++ word ∷ []) o f n w ≡ (words_name own far (word ∷ []) o f n w || words_name own far words o f n w)
one_word_more own far words word o f n w = go (eqb own o) (eqb far f) _ _ _ (any_more (is_named n w) words word)
  where
    go : (a b c d e : Bool) → c ≡ (d || e) → (a && (b && c)) ≡ ((a && (b && d)) || (a && (b && e)))
    go true true c d e same = same
    go true false c d e same = refl
    go false b c d e same = refl

-- ---- numbers that were acknowledged

pub none_covered : (named : ℕ → Bool) (number : ℕ) → is_covered named number 0 ≡ false
unfolding is_covered
none_covered named number = refl

pub one_more_covered : (named : ℕ → Bool) (number count : ℕ) → named (wire (number + count)) ≡ false → is_covered named number count ≡ false →
    is_covered named number (count + 1) ≡ false
unfolding is_covered
one_more_covered named number count this earlier =
    let same : suc count ≡ count + 1 = omega arith in
    subst (λ (x : ℕ). is_covered named number x ≡ false) same (ap₂ (λ (a b : Bool). a || b) this earlier)

-- ---- a segment by what was asked of it

module _ (h : History) (s : SegmentValue) (first : is_first s ≡ false) where
  pub right_by_next : is_next h s ≡ true → true ≡ is_right h s
  right_by_next next = sym (ap₂ (λ (a b : Bool). a || (b || is_acknowledged h s)) first next)

  pub right_else : is_next h s ≡ false → (r : Bool) → r ≡ is_acknowledged h s → r ≡ is_right h s
  right_else next r is = is ∙ sym (ap₂ (λ (a b : Bool). a || (b || is_acknowledged h s)) first next)

-- ---- histories that answer alike

words_covered : (h k : History) → ((o f n w : ℕ) → h.words o f n w ≡ k.words o f n w) → (own far number count : ℕ) →
    is_covered (λ n. h.words own far n 0) number count ≡ is_covered (λ n. k.words own far n 0) number count
unfolding is_covered
words_covered h k words own far number zero = refl
words_covered h k words own far number (suc count) =
    ap₂ (λ (a b : Bool). a || b) (words own far (wire (number + count)) 0) (words_covered h k words own far number count)

module _ (h k : History) (ends : (o f n w : ℕ) → h.ends o f n w ≡ k.ends o f n w)
    (words : (o f n w : ℕ) → h.words o f n w ≡ k.words o f n w) where
  right_same : (s : SegmentValue) → is_right h s ≡ is_right k s
  right_same s =
      ap (λ (b : Bool). (eqb s.number 1 && s.begins) || b)
      (ap₂ (λ (a b : Bool). a || b) (ends s.srcaddr s.dstaddr (before s.number) (bit s.begins))
      (ap₂ (λ (a b : Bool). a && b)
      (ap₂ (λ (a b : Bool). a || b) (ends s.srcaddr s.dstaddr s.number 0) (ends s.srcaddr s.dstaddr s.number 1))
      (words_covered h k words s.srcaddr s.dstaddr s.number REACH)))

  message_same : (m : NspValue) → is_wrong_message h m ≡ is_wrong_message k m
  message_same (DataSegment s) = ap not (right_same s)
  message_same (DataAck dst src acks) = refl
  message_same (LinkService interrupt dst src rest) = refl
  message_same (OtherDataAck dst src rest) = refl
  message_same (ConnectAck dst) = refl
  message_same (NoOperation rest) = refl
  message_same (ConnectInitiate retransmitted src services info segsize user_data) = refl
  message_same (ConnectConfirm dst src services info segsize user_data) = refl
  message_same (DisconnectInitiate dst src reason user_data) = refl
  message_same (DisconnectConfirm dst src reason) = refl

  in_same : (o : Option NspValue) → is_wrong_in h o ≡ is_wrong_in k o
  in_same None = refl
  in_same (Some m) = message_same m

  pub unit_same : (unit : List ℕ) → is_wrong_unit h unit ≡ is_wrong_unit k unit
  unit_same unit = in_same (message_in unit)

-- so of what is too long
module _ (h k : History) (words : (o f n w : ℕ) → h.words o f n w ≡ k.words o f n w) (rooms : (o f b w : ℕ) → h.rooms o f b w ≡ k.rooms o f b w) where
  room_same : (s : SegmentValue) → is_in_room h s ≡ is_in_room k s
  room_same s =
      ap₂ (λ (a b : Bool). a || b)
      (ap₂ (λ (a b : Bool). a || b) (rooms 0 s.dstaddr (length s.body) 0) (rooms s.srcaddr s.dstaddr (length s.body) 0))
      (words_covered h k words s.srcaddr s.dstaddr s.number REACH)

  long_message_same : (m : NspValue) → is_long_message h m ≡ is_long_message k m
  long_message_same (DataSegment s) = ap not (room_same s)
  long_message_same (DataAck dst src acks) = refl
  long_message_same (LinkService interrupt dst src rest) = refl
  long_message_same (OtherDataAck dst src rest) = refl
  long_message_same (ConnectAck dst) = refl
  long_message_same (NoOperation rest) = refl
  long_message_same (ConnectInitiate retransmitted src services info segsize user_data) = refl
  long_message_same (ConnectConfirm dst src services info segsize user_data) = refl
  long_message_same (DisconnectInitiate dst src reason user_data) = refl
  long_message_same (DisconnectConfirm dst src reason) = refl

  long_in_same : (o : Option NspValue) → is_long_in h o ≡ is_long_in k o
  long_in_same None = refl
  long_in_same (Some m) = long_message_same m

pub long_same : (sight : Sight) (passed : List Passed) → IsAfter sight passed → (unit : List ℕ) →
    is_long_unit (seen sight) unit ≡ is_long_unit (history passed) unit
long_same sight passed is unit = long_in_same (seen sight) (history passed) is.words is.rooms (message_in unit)

pub known_same : (sight : Sight) (passed : List Passed) → IsAfter sight passed → (unit : List ℕ) →
    is_wrong_unit (seen sight) unit ≡ is_wrong_unit (history passed) unit
known_same sight passed is unit = unit_same (seen sight) (history passed) is.ends is.words unit

-- ---- what is known after a unit

module _ {X Y : Type 0} where
  pub other_noted : (passed : List Passed) (unit : List ℕ) (old new : Sight) (result : Result X Y) → IsAfter old passed →
      new.ends ≡ old.ends →
      ((o f n w : ℕ) → OnOk result (has new.words o f n w ≡ (in_unit acknowledges unit o f n w || has old.words o f n w))) →
      ((o f b w : ℕ) → OnOk result (fits new.rooms o f b w ≡ (in_unit has_room unit o f b w || fits old.rooms o f b w))) →
      ((o f n w : ℕ) → OnOk result (has new.noted.called o f n w ≡ (in_unit calls unit o f n w || has old.noted.called o f n w))) →
      ((o f n w : ℕ) → OnOk result (has new.noted.again o f n w
      ≡ ((in_unit calls unit o f n w && has old.noted.called o f n w) || has old.noted.again o f n w))) →
      ((o f n : ℕ) → OnOk result (is_covered (λ m. has new.words o f m 0) n REACH ≡ false →
      first_noted new.noted.firsts o f n ≡ first_noted old.noted.firsts o f n)) →
      OnOk result (IsAfter new (passed ++ Other unit ∷ []))
  other_noted passed unit old new (Ok x) is ends words rooms called again firsts = record {
    ends = λ o f n w. ap (λ (ids : List Four). has ids o f n w) ends ∙ is.ends o f n w ∙ sym (own_same end_sent o f n w passed unit);
    words = words_now;
    rooms = λ o f b w.
        rooms o f b w ∙ ap (λ (x : Bool). in_unit has_room unit o f b w || x) (is.rooms o f b w) ∙ sym (other_more has_room o f b w passed unit);
    firsts = λ o f n none.
        firsts o f n (covered_same (λ m. has new.words o f m 0) _ (λ m. words_now o f m 0) n REACH ∙ none)
        ∙ (is.firsts o f n (covered_less (λ m. by_other acknowledges passed o f m 0) (λ m. by_other acknowledges (passed ++ Other unit ∷ []) o f m 0)
        (λ m e. other_stays acknowledges o f m 0 passed (Other unit) e) n REACH none) ∙ sym (first_same o f n passed unit));
    called = λ o f n w.
        called o f n w ∙ (ap (λ (b : Bool). in_unit calls unit o f n w || b) (is.called o f n w) ∙ sym (other_more calls o f n w passed unit));
    again = λ o f n w.
        again o f n w ∙ (ap₂ (λ (a b : Bool). (in_unit calls unit o f n w && a) || b) (is.called o f n w) (is.again o f n w)
        ∙ sym (twice_more o f n w passed unit));
  }
    where
      words_now : (o f n w : ℕ) → has new.words o f n w ≡ by_other acknowledges (passed ++ Other unit ∷ []) o f n w
      words_now o f n w =
          words o f n w ∙ ap (λ (b : Bool). in_unit acknowledges unit o f n w || b) (is.words o f n w)
          ∙ sym (other_more acknowledges o f n w passed unit)
  other_noted passed unit old new (Err y) is ends words rooms called again firsts = tt

  pub own_noted : (passed : List Passed) (unit : List ℕ) (old new : Sight) (result : Result X Y) → IsAfter old passed →
      new.words ≡ old.words → new.rooms ≡ old.rooms → new.noted.called ≡ old.noted.called → new.noted.again ≡ old.noted.again →
      ((o f n w : ℕ) → OnOk result (has new.ends o f n w ≡ (in_unit end_sent unit o f n w || has old.ends o f n w))) →
      ((o f n : ℕ) → OnOk result (first_noted new.noted.firsts o f n
      ≡ first_of (first_noted old.noted.firsts o f n) (piece_in (message_in unit) o f n))) →
      OnOk result (IsAfter new (passed ++ Own unit ∷ []))
  own_noted passed unit old new (Ok x) is words rooms called again ends firsts = record {
    ends = λ o f n w.
        ends o f n w ∙ ap (λ (b : Bool). in_unit end_sent unit o f n w || b) (is.ends o f n w) ∙ sym (own_more end_sent o f n w passed unit);
    words = λ o f n w. ap (λ (ids : List Four). has ids o f n w) words ∙ is.words o f n w ∙ sym (other_same acknowledges o f n w passed unit);
    rooms = λ o f b w.
        ap (λ (sizes : List ((ℕ × ℕ) × ℕ)). fits sizes o f b w) rooms ∙ is.rooms o f b w ∙ sym (other_same has_room o f b w passed unit);
    firsts = λ o f n none.
        firsts o f n ∙ (ap (λ (p : Option Piece). first_of p (piece_in (message_in unit) o f n))
        (is.firsts o f n (covered_same (λ m. by_other acknowledges passed o f m 0) _ (λ m. sym (other_same acknowledges o f m 0 passed unit)) n REACH
        ∙ none)) ∙ sym (first_more o f n passed unit));
    called = λ o f n w. ap (λ (ids : List Four). has ids o f n w) called ∙ is.called o f n w ∙ sym (other_same calls o f n w passed unit);
    again = λ o f n w. ap (λ (ids : List Four). has ids o f n w) again ∙ is.again o f n w ∙ sym (twice_same o f n w passed unit);
  }
  own_noted passed unit old new (Err y) is words rooms called again ends firsts = tt

-- ---- the message that was found

pub segment_found : (found : Option Nsp) (message : Nsp) (segment : Segment) (unit : List ℕ) → option_map view found ≡ message_in unit →
    found ≡ Some message → message ≡ rust.DataSegment segment → message_in unit ≡ Some (DataSegment (segment_view segment))
segment_found found message segment unit is some data_segment =
    sym is ∙ ap (λ (o : Option Nsp). option_map view o) some ∙ ap (λ (m : Nsp). Some (view m)) data_segment

pub ack_found : (found : Option Nsp) (message : Nsp) (ack : DataAckOf) (unit : List ℕ) → option_map view found ≡ message_in unit →
    found ≡ Some message → message ≡ rust.DataAck ack → message_in unit ≡ Some (DataAck ack.dstaddr ack.srcaddr ack.acks.items)
ack_found found message ack unit is some data_ack =
    sym is ∙ ap (λ (o : Option Nsp). option_map view o) some ∙ ap (λ (m : Nsp). Some (view m)) data_ack

pub message_found : (found : Option Nsp) (message other : Nsp) (unit : List ℕ) → option_map view found ≡ message_in unit → found ≡ Some message →
    message ≡ other → message_in unit ≡ Some (view other)
message_found found message other unit is some same =
    sym is ∙ ap (λ (o : Option Nsp). option_map view o) some ∙ ap (λ (m : Nsp). Some (view m)) same

-- a SEGSIZE was told
pub room_told : {X Y : Type 0} (result : Result X Y) (before old new : List ((ℕ × ℕ) × ℕ)) (unit : List ℕ) (m : NspValue) → message_in unit ≡ Some m →
    before ≡ old → (o f b w : ℕ) → OnOk result (fits new o f b w ≡ (has_room m o f b w || fits before o f b w)) →
    OnOk result (fits new o f b w ≡ (in_unit has_room unit o f b w || fits old o f b w))
room_told {X} {Y} (Ok x) before old new unit m is same o f b w e =
    e ∙ ap₂ (λ (message : Option NspValue) (sizes : List ((ℕ × ℕ) × ℕ)). said has_room message o f b w || fits sizes o f b w) (sym is) same
room_told {X} {Y} (Err y) before old new unit m is same o f b w e = tt

-- ---- one word more of a list

pub next_word : (own far : ℕ) (words : List AckWord) (i : ℕ) (d : AckWord) → i < length words → (now before b : Bool) (o f n w : ℕ) →
    now ≡ (words_name own far (get_or words i d ∷ []) o f n w || before) → before ≡ (words_name own far (take i words) o f n w || b) →
    now ≡ (words_name own far (take (i + 1) words) o f n w || b)
next_word own far words i d less now before b o f n w this were =
    this ∙ (ap (λ (x : Bool). words_name own far (get_or words i d ∷ []) o f n w || x) were
    ∙ (go (words_name own far (get_or words i d ∷ []) o f n w) (words_name own far (take i words) o f n w)
    ∙ ap (λ (x : Bool). x || b) (sym (one_word_more own far (take i words) (get_or words i d) o f n w)
    ∙ ap (λ (xs : List AckWord). words_name own far xs o f n w) (sym (take_more words i d less)))))
  where
    go : (x y : Bool) → (x || (y || b)) ≡ ((x || y) || b)
    go true y = refl
    go false y = refl
