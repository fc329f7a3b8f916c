-- The book of segments that a node keeps: what is let go is let go once, what is left delivers as all did, and what may be sent may be sent late.
use Rattle.std.proofs.Common.{◌≡◌, ℕ, zero, suc, ◌+◌, Bool, true, false, cond, Option, Some, None, List, [], ◌∷◌, length}
use Rattle.std.proofs.Common.{take, drop, refl, sym, ap, ap₂, ◌∙◌, arith, option_map}
use Rattle.std.specs.Str.{bytes_eq}
use Rattle.std.proofs.Math.Nat.{min-le_left}
use Rattle.std.proofs.lemmas.List.{length-take, take_all}
use Rattle.dna_packet.specs.declared.ack_word.AckWord.{AckWord}
use Rattle.dna_packet.specs.Nsp.{SegmentValue}
use Rattle.dna_links.specs.Segmentation.{Piece, piece_of, Whole, next_message, one_more, in_whole_messages}
use Rattle.dna_links.specs.SegmentBook.{with_gap, wider, is_of_data}
use Rattle.dna_links.specs.TrueSegments as on_true
use Rattle.dna_links.specs.CutSegments.{cut}
use Rattle.dna_links.specs.WireSegments.{WireSegments, with_pieces_alone, ends, wire_segments, delivers_whole, delivered_as, LastSent, LateSent}
use Rattle.dna_links.specs.WireSegments.{is_ahead, moved_to, last_named, last_named_late, after_first, all_named, last_of, gap_at, after_first_late}
use Rattle.dna_links.specs.WireSegments.{all_named_late}
use Rattle.dna_links.specs.WireSegments.{is_new, sends_new, segment_named, sends_segment, went_on, new_late}
use Rattle.dna_links.proofs.Cut.Ended.{ended_delivers}
use Rattle.dna_links.proofs.AsMuch.Plain.{DeliversAll, IsLate, gap_late, LetsGo}

-- ---- what is let go

-- the pieces in whole messages are in whole messages
whole_first : (p : Piece) (xs : List (Option Piece)) (b : Bool) → p.ends ≡ b → (k : ℕ) → in_whole_messages (take k xs) ≡ k →
    in_whole_messages (take (cond b (k + 1) (one_more k)) (Some p ∷ xs)) ≡ cond b (k + 1) (one_more k)
whole_first p xs true e k rest =
    let next : k + 1 ≡ suc k = omega arith in
    ap (λ (n : ℕ). in_whole_messages (take n (Some p ∷ xs))) next ∙ ap₂ (λ (b : Bool) (n : ℕ). cond b (n + 1) (one_more n)) e rest
whole_first p xs false e zero rest = refl
whole_first p xs false e (suc k) rest =
    let next : k + 2 ≡ suc (suc k) = omega arith in
    ap (λ (n : ℕ). in_whole_messages (take n (Some p ∷ xs))) next ∙ ap₂ (λ (b : Bool) (n : ℕ). cond b (n + 1) (one_more n)) e rest

whole_left : (ps : List (Option Piece)) → in_whole_messages (take (in_whole_messages ps) ps) ≡ in_whole_messages ps
whole_left [] = refl
whole_left (None ∷ ps) = refl
whole_left (Some p ∷ ps) = whole_first p ps p.ends refl (in_whole_messages ps) (whole_left ps)

all_left : (n : ℕ) (ps : List (Option Piece)) → take n (take n ps) ≡ take n ps
all_left n ps = let l = length-take n ps in let m = min-le_left n (length ps) in take_all n (take n ps) (omega arith)

ends_twice : (f : WireSegments) → ends (ends f) ≡ ends f
ends_twice f =
    let ps = f.variables.pieces in
    ap with_pieces_alone
    (ap (λ (n : ℕ). take n (take (in_whole_messages ps) ps)) (whole_left ps) ∙ all_left (in_whole_messages ps) ps)

-- ---- what is left delivers as all did

module _ (message : List ℕ) (f left : WireSegments) where
  -- these pieces received, on true numbers
  abbrev received : on_true.TrueSegments
  received = record on_true.empty { received = f.variables.pieces }

  by_bytes : (w : Whole) (b : Bool) → bytes_eq message w.message ≡ b → next_message f.variables.pieces ≡ Some w →
      option_map (λ (g : on_true.TrueSegments). ends (cut g)) (on_true.delivered_as b w received) ≡ Some left →
      DeliversAll wire_segments message f left
  by_bytes w true same next e =
      let from_0 : 0 + w.pieces ≡ w.pieces = omega arith in
      record {
        all = record f { variables = record f.variables { pieces = drop w.pieces f.variables.pieces } };
        is = ap (λ (o : Option Whole). delivers_whole o message f) next ∙ ap (λ (b : Bool). delivered_as b w f) same;
        same = ap (λ (n : ℕ). with_pieces_alone (take (in_whole_messages (drop n f.variables.pieces)) (drop n f.variables.pieces))) (sym from_0)
            ∙ same_left _ e;
      }
    where
      same_left : (x : WireSegments) → ◌≡◌ {A = Option WireSegments} (Some x) (Some left) → x ≡ left
      same_left x e = cc
  by_bytes w false same next e = absurd cc

  by_next : (o : Option Whole) → next_message f.variables.pieces ≡ o →
      option_map (λ (g : on_true.TrueSegments). ends (cut g)) (on_true.delivers_whole o message received) ≡ Some left →
      DeliversAll wire_segments message f left
  by_next None next e = absurd cc
  by_next (Some w) next e = by_bytes w (bytes_eq message w.message) refl next e

  delivers_all : wire_segments.delivers message (ends f) ≡ Some left → DeliversAll wire_segments message f left
  delivers_all e = by_next (next_message f.variables.pieces) refl (ended_delivers received message ∙ e)

-- ---- what may be sent may be sent late

abbrev NamesToo : Option LastSent → Option LateSent → Type 0
NamesToo None o = Unit {0}
NamesToo (Some sent) o = (left : ℕ) × (o ≡ Some (record { sent = sent; gap = left }))

module _ (received : ℕ) where
  abbrev WordsToo : List AckWord → Type 0
  WordsToo words = (gap : ℕ) (sent : LastSent) →
      NamesToo (all_named false received words sent) (all_named_late received words (record { sent = sent; gap = gap }))

  module _ (word : AckWord) (words : List AckWord) (rest : WordsToo words) (gap : ℕ) (sent : LastSent) where
    abbrev first : Option LastSent → Option LastSent
    first o = after_first o (λ next. all_named false received words next)

    abbrev first_late : Option LastSent → Option LateSent
    first_late o = after_first_late o (λ next. all_named_late received words (record { sent = next; gap = gap_at received word.number sent }))

    by_ahead : (ahead : Bool) (next : LastSent) (behind : Option LastSent) →
        NamesToo (first (cond ahead (Some next) None)) (first_late (cond ahead (Some next) behind))
    by_ahead true next behind = rest (gap_at received word.number sent) next
    by_ahead false next behind = tt

    by_data : (judged : Bool) → NamesToo (cond judged (first (last_named false received word.number sent)) (all_named false received words sent))
        (cond judged (first_late (last_named_late received word.number (record { sent = sent; gap = gap })))
        (all_named_late received words (record { sent = sent; gap = gap })))
    by_data true = by_ahead (is_ahead received word.number sent) (moved_to word.number sent) _
    by_data false = rest gap sent

  words_too : (words : List AckWord) → WordsToo words
  words_too [] gap sent = (gap, refl)
  words_too (word ∷ words) gap sent = by_data word words (λ g next. words_too words g next) gap sent (is_of_data word.qualifier)

module _ (gap segsize : ℕ) (s : SegmentValue) (f : WireSegments) where
  by_names : (names : Option LastSent) (late : Option LateSent) → NamesToo names late → is_new s f.variables ≡ true →
      IsLate (segment_named names segsize s f) (new_late late segsize s f)
  by_names None late too new = tt
  by_names (Some names) late too new = rw (new, too.1) (gap_late (λ sent. too.0) (sends_new segsize (piece_of s) names f))

  by_new : (new : Bool) → is_new s f.variables ≡ new → IsLate (sends_segment segsize s f)
      (cond new (new_late (all_named_late f.variables.received s.acks (record { sent = last_of f; gap = gap })) segsize s f)
      (with_gap (λ sent. wider gap (went_on f sent.segments)) (sends_segment segsize s f)))
  by_new true new = rw new (by_names _ _ (words_too f.variables.received s.acks gap (last_of f)) new)
  by_new false new = gap_late _ (sends_segment segsize s f)

pub wire_lets_go : LetsGo wire_segments
wire_lets_go = record {
  twice = ends_twice;
  forgets = λ f. refl;
  delivers = delivers_all;
  late = λ gap segsize segment f. by_new gap segsize segment f (is_new segment f.variables) refl;
}
