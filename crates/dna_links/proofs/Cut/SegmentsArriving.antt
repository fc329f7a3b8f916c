-- Cutting a link's segments to what a node keeps commutes with what is delivered, and with what comes, where its numbers are near theirs.
use Rattle.std.proofs.Common.{◌≡◌, ℕ, ◌+◌, ◌-◌, ◌<◌, ◌≤◌, Bool, true, false, ◌&&◌, ltb, leb, cond, Option, Some, None, List, [], ◌∷◌, map, fold}
use Rattle.std.proofs.Common.{length, drop, refl, sym, ap, ap₂, ◌∙◌, arith, length-drop, drop-drop, option_map, lt-ltb, le-ltb, le-leb, ◌⊎◌, inl, inr}
use Rattle.std.specs.Str.{bytes_eq}
use Rattle.std.proofs.lemmas.Bool.{cases_lt, lt-leb, and_parts, ltb-true, leb-true}
use Rattle.dna_packet.specs.declared.ack_word.AckWord.{AckWord}
use Rattle.dna_packet.specs.Nsp.{SegmentValue}
use Rattle.dna_links.specs.Segmentation.{Piece, piece_of, in_order, hold, Whole, next_message}
use Rattle.dna_links.specs.SegmentBook.{REACH, wire, distance, is_of_data}
use Rattle.dna_links.specs.TrueSegments.{TrueSegments, Numbers, highest_given, highest_received, delivered_as, delivers_whole, delivers}
use Rattle.dna_links.specs.TrueSegments.{acknowledged_through}
use Rattle.dna_links.specs.TrueSegments.{takes_acks, with_segment, takes_segment}
use Rattle.dna_links.specs.WireSegments.{LinkVariables, WireSegments}
use Rattle.dna_links.specs.WireSegments as wire
use Rattle.dna_links.specs.CutSegments.{cut, IsOrdered, data_numbers, Spells, AckIsNear, AcksAreNear, SegmentIsNear}
use Rattle.dna_links.proofs.Tables.Numbers.{distance_ahead, distance_behind, wire-wire, wire-add}
use Rattle.dna_links.proofs.Cut.Pieces.{hold_again, in_order-hold, drop-hold, in_order-drop}

-- ---- what is delivered

module _ (f : TrueSegments) where
  delivered_same : (b : Bool) (w : Whole) → option_map cut (delivered_as b w f) ≡ wire.delivered_as b w (cut f)
  delivered_same true w =
      ap (λ (pieces : List (Option Piece)). Some (record (cut f) { variables = record (cut f).variables { pieces = pieces } }))
      (sym (drop-drop w.pieces f.passed f.received))
  delivered_same false w = refl

  whole_same : (o : Option Whole) (message : List ℕ) → option_map cut (delivers_whole o message f) ≡ wire.delivers_whole o message (cut f)
  whole_same None message = refl
  whole_same (Some w) message = delivered_same (bytes_eq message w.message) w

  pub delivers_same : (message : List ℕ) → option_map cut (delivers message f) ≡ wire.delivers message (cut f)
  delivers_same message = whole_same (next_message (drop f.passed f.received)) message

-- ---- acknowledgements

-- a number that comes, by whether it counts
abbrev acknowledged_by : Bool → TrueSegments → ℕ → TrueSegments
acknowledged_by b f number = cond b (record f { acknowledged = number }) f

-- the same, as a node reads it
abbrev pub step : LinkVariables → ℕ → LinkVariables
step k number = wire.acknowledged_to (leb (distance k.acknowledged number) (length k.outstanding)) k number

-- with what is kept of the segments given
abbrev with_kept : WireSegments → LinkVariables → WireSegments
with_kept w k = record w { variables = k }

module _ (f : TrueSegments) (n : ℕ) (ordered : IsOrdered f) (near : AckIsNear f n) where
  outstanding : length (drop f.acknowledged f.given) ≡ highest_given f - f.acknowledged
  outstanding = length-drop f.acknowledged f.given

  -- the fields that change
  abbrev acknowledging : ℕ → List Piece → LinkVariables
  acknowledging number pieces = record (cut f).variables { acknowledged = number; outstanding = pieces }

  -- by whether it counts, on true numbers and as a node reads it
  counted : (b c : Bool) (m : ℕ) (pieces : List Piece)
      → cut (acknowledged_by b f n) ≡ with_kept (cut f) (acknowledging m pieces)
      → acknowledging m pieces ≡ wire.acknowledged_to c (cut f).variables (wire n)
      → (ltb f.acknowledged n && leb n (highest_given f)) ≡ b →
      leb (distance (wire f.acknowledged) (wire n)) (length (drop f.acknowledged f.given)) ≡ c
      → cut (acknowledged_through f n) ≡ with_kept (cut f) (step (cut f).variables (wire n))
  counted b c m pieces left right eb ec =
      ap (λ (t : Bool). cut (acknowledged_by t f n)) eb ∙ left ∙ ap (with_kept (cut f)) right ∙
      ap (λ (t : Bool). with_kept (cut f) (wire.acknowledged_to t (cut f).variables (wire n))) (sym ec)

  ack_same : cut (acknowledged_through f n) ≡ with_kept (cut f) (step (cut f).variables (wire n))
  ack_same = by_place (cases_lt f.acknowledged n) (cases_lt n f.acknowledged)
    where
      by_place : (f.acknowledged < n) ⊎ (n ≤ f.acknowledged) → (n < f.acknowledged) ⊎ (f.acknowledged ≤ n) →
          cut (acknowledged_through f n) ≡ with_kept (cut f) (step (cut f).variables (wire n))
      by_place (inl above) other =
          let h = outstanding in let few = ordered.few in let most = near.most in
          let d = distance_ahead f.acknowledged n (omega arith) (omega arith) in
          let p = lt-ltb f.acknowledged n above in let q = le-leb n (highest_given f) most in
          let eb : (ltb f.acknowledged n && leb n (highest_given f)) ≡ true = cc in
          let ec = le-leb (distance (wire f.acknowledged) (wire n)) (length (drop f.acknowledged f.given)) (omega arith) in
          let place : n ≡ f.acknowledged + distance (wire f.acknowledged) (wire n) = omega arith in
          let dropped = ap (λ k. drop k f.given) place ∙ sym (drop-drop (distance (wire f.acknowledged) (wire n)) f.acknowledged f.given) in
          counted true true (wire n) (drop n f.given) refl (ap₂ acknowledging (sym (wire-wire n)) dropped) eb ec
      by_place (inr l) (inl below) =
          let h = outstanding in let few = ordered.few in let least = near.least in
          let d = distance_behind f.acknowledged n below least in
          let p = le-ltb f.acknowledged n l in
          let eb : (ltb f.acknowledged n && leb n (highest_given f)) ≡ false = cc in
          let ec = lt-leb (distance (wire f.acknowledged) (wire n)) (length (drop f.acknowledged f.given)) (omega arith) in
          counted false false (wire f.acknowledged) (drop f.acknowledged f.given) refl refl eb ec
      by_place (inr l) (inr m) =
          let d : distance (wire f.acknowledged) (wire n) ≡ 0 = omega arith in
          let p = le-ltb f.acknowledged n l in
          let eb : (ltb f.acknowledged n && leb n (highest_given f)) ≡ false = cc in
          let ec = le-leb (distance (wire f.acknowledged) (wire n)) (length (drop f.acknowledged f.given)) (omega arith) in
          let same : wire f.acknowledged ≡ wire (wire n) = omega arith in
          counted false true (wire f.acknowledged) (drop f.acknowledged f.given) refl
          (ap₂ acknowledging same (ap (λ k. drop k (drop f.acknowledged f.given)) (sym d))) eb ec

  -- the segments' own numbers stay in order
  by_ordered : (b : Bool) → (ltb f.acknowledged n && leb n (highest_given f)) ≡ b → IsOrdered (acknowledged_by b f n)
  by_ordered true e =
      let both = and_parts (ltb f.acknowledged n) (leb n (highest_given f)) e in
      let above = ltb-true f.acknowledged n both.0 in let most = leb-true n (highest_given f) both.1 in let few = ordered.few in
      record { given = most; few = omega arith; last = ordered.last; passed = ordered.passed }
  by_ordered false e = ordered

  ack_ordered : IsOrdered (acknowledged_through f n)
  ack_ordered = by_ordered (ltb f.acknowledged n && leb n (highest_given f)) refl

-- Nothing but the acknowledged number changes
same_received : (b : Bool) (f : TrueSegments) (n : ℕ) → (acknowledged_by b f n).received ≡ f.received
same_received true f n = refl
same_received false f n = refl

abbrev through_all : TrueSegments → List ℕ → TrueSegments
through_all f numbers = fold acknowledged_through f numbers

pub received_same : (numbers : List ℕ) (f : TrueSegments) → (through_all f numbers).received ≡ f.received
received_same [] f = refl
received_same (n ∷ ns) f = received_same ns (acknowledged_through f n) ∙ same_received (ltb f.acknowledged n && leb n (highest_given f)) f n

pub all_ordered : (numbers : List ℕ) (f : TrueSegments) → IsOrdered f → AcksAreNear f numbers → IsOrdered (through_all f numbers)
all_ordered [] f ordered near = ordered
all_ordered (n ∷ ns) f ordered near = all_ordered ns (acknowledged_through f n) (ack_ordered f n ordered near.0) near.1

-- all numbers, one after the other
numbers_same : (numbers : List ℕ) (f : TrueSegments) → IsOrdered f → AcksAreNear f numbers
    → cut (through_all f numbers) ≡ with_kept (cut f) (fold step (cut f).variables (map wire numbers))
numbers_same [] f ordered near = refl
numbers_same (n ∷ ns) f ordered near =
    let first = ack_same f n ordered near.0 in
    numbers_same ns (acknowledged_through f n) (ack_ordered f n ordered near.0) near.1
    ∙ ap (λ (w : WireSegments). with_kept w (fold step w.variables (map wire ns))) first

-- the words, by their numbers
word_same : (b : Bool) (k : LinkVariables) (n : ℕ) (ns : List ℕ) →
    fold step (wire.acknowledged_to (b && leb (distance k.acknowledged n) (length k.outstanding)) k n) ns ≡ fold step k (cond b (n ∷ ns) ns)
word_same true k n ns = refl
word_same false k n ns = refl

words_same : (words : List AckWord) (k : LinkVariables) → wire.acknowledged_by_all words k ≡ fold step k (data_numbers words)
words_same [] k = refl
words_same (word ∷ words) k =
    words_same words (wire.acknowledged_by k word) ∙ word_same (is_of_data word.qualifier) k word.number (data_numbers words)

module _ (words : List AckWord) (known : Numbers) (f : TrueSegments) (ordered : IsOrdered f) (spells : Spells words known.acknowledgements)
    (near : AcksAreNear f known.acknowledgements) where
  pub takes_acks_same : cut (takes_acks words known f) ≡ wire.takes_acks words tt (cut f)
  takes_acks_same =
      numbers_same known.acknowledgements f ordered near
      ∙ ap (λ (ns : List ℕ). with_kept (cut f) (fold step (cut f).variables ns)) (sym spells)
      ∙ ap (with_kept (cut f)) (sym (words_same words (cut f).variables))

-- ---- segments

module _ (f : TrueSegments) (n : ℕ) (p : Piece) (ordered : IsOrdered f) (near : SegmentIsNear f n) where
  in_order_pieces : in_order (drop f.passed f.received) ≡ highest_received f - f.passed
  in_order_pieces = in_order-drop f.passed f.received ordered.passed

  abbrev above : ℕ
  above = distance (wire (highest_received f)) (wire n)

  -- the fields that change
  abbrev receiving : ℕ → List (Option Piece) → WireSegments
  receiving number pieces = with_kept (cut f) (record (cut f).variables { received = number; pieces = pieces })

  by_test : (b : Bool) → (leb 1 above && leb above REACH) ≡ b →
      cut (with_segment n p f)
      ≡ with_kept (cut f) (cond b (wire.with_pieces (wire.held above p (cut f).variables) (cut f).variables) (cut f).variables)
      → cut (with_segment n p f) ≡ with_kept (cut f) (wire.with_segment above p (cut f).variables)
  by_test b e same = same ∙
      ap (λ (t : Bool). with_kept (cut f) (cond t (wire.with_pieces (wire.held above p (cut f).variables) (cut f).variables) (cut f).variables))
      (sym e)

  segment_same : cut (with_segment n p f) ≡ with_kept (cut f) (wire.with_segment above p (cut f).variables)
  segment_same = by_place (cases_lt (highest_received f) n) (cases_lt n (highest_received f))
    where
      by_place : (highest_received f < n) ⊎ (n ≤ highest_received f) → (n < highest_received f) ⊎ (highest_received f ≤ n)
          → cut (with_segment n p f) ≡ with_kept (cut f) (wire.with_segment above p (cut f).variables)
      by_place (inl l) other =
          let d = distance_ahead (highest_received f) n (omega arith) near.most in
          let q = le-leb 1 above (omega arith) in let t = le-leb above REACH (omega (arith, d, near.most)) in
          let e : (leb 1 above && leb above REACH) ≡ true = cc in
          let passed = ordered.passed in let whole = in_order_pieces in
          let place : n - 1 - f.passed ≡ in_order (drop f.passed f.received) + above - 1 = omega arith in
          let pieces = drop-hold f.passed (n - 1) p f.received (omega arith) ∙ ap (λ k. hold k p (drop f.passed f.received)) place in
          let grows = in_order-hold (n - 1) p f.received in
          let left = in_order-drop f.passed (hold (n - 1) p f.received) (omega arith) in
          let now = ap in_order pieces in
          let more : in_order (hold (n - 1) p f.received) - highest_received f ≡ in_order
          (hold (in_order (drop f.passed f.received) + above - 1) p (drop f.passed f.received)) - in_order (drop f.passed f.received) =
          omega arith in
          let received = sym (wire-add (highest_received f) (in_order (hold (n - 1) p f.received)) grows) ∙
          ap (λ k. wire (wire (highest_received f) + k)) more in
          by_test true e (ap₂ receiving received pieces)
      by_place (inr l) (inl below) =
          let d = distance_behind (highest_received f) n below near.least in
          let q = lt-leb above REACH (omega (arith, d, near.least)) in
          let t = le-leb 1 above (omega (arith, d, near.least)) in
          let e : (leb 1 above && leb above REACH) ≡ false = cc in
          by_test false e (ap (λ (pieces : List (Option Piece)). cut (record f { received = pieces }))
          (hold_again (n - 1) p f.received (omega (arith, l, near.first))))
      by_place (inr l) (inr m) =
          let d : above ≡ 0 = omega (arith, l, m) in
          let q = lt-leb 1 above (omega (arith, d)) in
          let e : (leb 1 above && leb above REACH) ≡ false = cc in
          by_test false e (ap (λ (pieces : List (Option Piece)). cut (record f { received = pieces }))
          (hold_again (n - 1) p f.received (omega (arith, l, near.first))))

-- the words first, and then the piece
module _ (s : SegmentValue) (known : Numbers) (f : TrueSegments) (ordered : IsOrdered f) where
  near_after : AcksAreNear f known.acknowledgements → SegmentIsNear f known.segment → SegmentIsNear (takes_acks s.acks known f) known.segment
  near_after acks near =
      let e = ap in_order (received_same known.acknowledgements f) in
      let least = near.least in let most = near.most in
      record { first = near.first; least = omega arith; most = omega arith }

  pub takes_segment_same : Spells s.acks known.acknowledgements → s.number ≡ wire known.segment → AcksAreNear f known.acknowledgements →
      SegmentIsNear f known.segment
      → cut (takes_segment s known f) ≡ wire.takes_segment s tt (cut f)
  takes_segment_same spells number acks near =
      segment_same (takes_acks s.acks known f) known.segment (piece_of s) (all_ordered known.acknowledgements f ordered acks) (near_after acks near)
      ∙ ap (λ (k : ℕ). with_kept (cut (takes_acks s.acks known f))
      (wire.with_segment (distance (wire (highest_received (takes_acks s.acks known f))) k) (piece_of s) (cut (takes_acks s.acks known f)).variables))
      (sym number)
      ∙ ap (λ (w : WireSegments). with_kept w (wire.segment_taken s w.variables)) (takes_acks_same s.acks known f ordered spells acks)
