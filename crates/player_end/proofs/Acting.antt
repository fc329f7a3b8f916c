-- What comes for a link, in the order in which the code takes it.
use Rattle.std.proofs.Common.{◌≡◌, ℕ, ◌-◌, Bool, true, false, ◌&&◌, cond, List, refl, sym, ap, ◌∙◌, arith}
use Rattle.std.specs.Prelude.{nat_le}
use Rattle.wire_base.specs.Window.{WindowView}
use Rattle.dna_packet.specs.declared.ack_word.AckWord.{AckWord}
use Rattle.dna_packet.specs.Nsp.{SegmentValue}
use Rattle.dna_links.specs.declared.port.Phase.TheVariants.{Running}
use Rattle.dna_links.specs.SegmentBook.{REACH, distance}
use Rattle.dna_links.specs.Segmentation.{Piece, piece_of}
use Rattle.dna_links.specs.WireSegments.{LinkVariables, acknowledged_by_all, with_pieces, segment_taken, held}
use Rattle.dna_play.specs.LinkOwed.{LinkOwed, DataAckDuty, nothing, same_phase, unless_left, lowered}
use Rattle.dna_play.specs.NextSent.{LinkEnd}
use Rattle.dna_play.specs.StoredLinks.{in_phase, acted_on, took_acks, took_segment, owes}
use Rattle.link_segments.specs.Outstanding.{acknowledged_words}
use Rattle.player_end.specs.inner.Links.{acknowledged_as, acknowledged}
use Rattle.link_segments.proofs.Acknowledged.{with_window, same_words}

-- what is owed is lowered and dropped in either order
left_lowered : (stays : Bool) (count : ℕ) (owed : LinkOwed) → unless_left stays (lowered count owed) ≡ lowered count (unless_left stays owed)
left_lowered true count owed = refl
left_lowered false count owed = let none : 0 ≡ 0 - count = omega arith in ap (λ (n : ℕ). record nothing { ahead = n }) none

runs_after : (after : LinkVariables) (l : LinkEnd) → in_phase Running (acknowledged_as after l) ≡ acted_on after l
runs_after after l =
    ap (λ (owed : LinkOwed). record l { port = record l.port { phase = Running }; variables = after; owed = owed })
    (left_lowered (same_phase l.port.phase Running) (distance l.variables.acknowledged after.acknowledged) l.owed)

pub acks_run : (words : List AckWord) (l : LinkEnd) → in_phase Running (acknowledged words l) ≡ took_acks words l
acks_run words l = runs_after (acknowledged_by_all words l.variables) l

-- ---- a segment: its piece and its words in either order

abbrev window_of : LinkVariables → WindowView Piece
window_of k = record { first = k.acknowledged; items = k.outstanding; capacity = 0 }

piece_beside : (b : Bool) (p : Piece) (above : ℕ) (v : WindowView Piece) (k : LinkVariables) →
    cond b (with_pieces (held above p k) (with_window v k)) (with_window v k) ≡ with_window v (cond b (with_pieces (held above p k) k) k)
piece_beside true p above v k = refl
piece_beside false p above v k = refl

beside_window : (s : SegmentValue) (v : WindowView Piece) (k : LinkVariables) → segment_taken s (with_window v k) ≡ with_window v (segment_taken s k)
beside_window s v k = piece_beside (nat_le 1 (distance k.received s.number) && nat_le (distance k.received s.number) REACH) (piece_of s)
    (distance k.received s.number) v k

either_order : (s : SegmentValue) (words : List AckWord) (k : LinkVariables) → acknowledged_by_all words (segment_taken s k) ≡ segment_taken s
    (acknowledged_by_all words k)
either_order s words k =
    let w = window_of k in
    ap (acknowledged_by_all words) (beside_window s w k)
    ∙ same_words words w (segment_taken s k)
    ∙ sym (beside_window s (acknowledged_words words w) k)
    ∙ ap (segment_taken s) (sym (same_words words w k))

same_acknowledged : (s : SegmentValue) (k : LinkVariables) → (segment_taken s k).acknowledged ≡ k.acknowledged
same_acknowledged s k = ap (λ (l : LinkVariables). l.acknowledged) (beside_window s (window_of k) k)

pub segment_and_acks : (s : SegmentValue) (l : LinkEnd) →
    owes DataAckDuty (took_acks s.acks (record l { variables = segment_taken s l.variables })) ≡ took_segment s l
segment_and_acks s l =
    ap (λ (after : LinkVariables). owes DataAckDuty (acted_on after (record l { variables = segment_taken s l.variables })))
    (either_order s s.acks l.variables)
    ∙ ap (λ (n : ℕ). owes DataAckDuty (record (in_phase Running l) {
      variables = segment_taken s (acknowledged_by_all s.acks l.variables);
      owed = lowered (distance n (segment_taken s (acknowledged_by_all s.acks l.variables)).acknowledged) (in_phase Running l).owed;
    })) (same_acknowledged s l.variables)
