-- A segment that came twice changes nothing.
use Rattle.std.proofs.Common.{◌≡◌, ℕ, ◌+◌, ◌-◌, ◌<◌, Bool, true, false, ◌&&◌, cond, Option, List, refl, sym, ap, ◌∙◌, arith}
use Rattle.std.specs.Prelude.{nat_le}
use Rattle.dna_packet.specs.Nsp.{SegmentValue}
use Rattle.dna_links.specs.SegmentBook.{REACH, wire, distance}
use Rattle.dna_links.specs.Segmentation.{Piece, piece_of, in_order}
use Rattle.dna_links.specs.WireSegments.{LinkVariables, with_pieces, with_segment, segment_taken, held}
use Rattle.link_segments.specs.Received.{is_missing_at}
use Rattle.link_segments.proofs.Arrived.{hold_there}

stays : (k : LinkVariables) → k.received < 4096 → with_pieces k.pieces k ≡ k
stays k h = ap (λ (n : ℕ). record k { received = n }) same where
  same : wire (k.received + (in_order k.pieces - in_order k.pieces)) ≡ k.received
  same = omega arith

either : (b : Bool) (k l : LinkVariables) → l ≡ k → cond b l k ≡ k
either true k l e = e
either false k l e = refl

kept_there : (above : ℕ) (p : Piece) (k : LinkVariables) → k.received < 4096 → is_missing_at (in_order k.pieces + above - 1) k.pieces ≡ false →
    with_segment above p k ≡ k
kept_there above p k h there =
    either (nat_le 1 above && nat_le above REACH) k (with_pieces (held above p k) k)
    (ap (λ (pieces : List (Option Piece)). with_pieces pieces k) (hold_there (in_order k.pieces + above - 1) p k.pieces there) ∙ stays k h)

pub held_there : (above : ℕ) (s : SegmentValue) (k : LinkVariables) → above ≡ distance k.received s.number → k.received < 4096 →
    is_missing_at (in_order k.pieces + above - 1) k.pieces ≡ false → segment_taken s k ≡ k
held_there above s k is h there = ap (λ (n : ℕ). with_segment n (piece_of s) k) (sym is) ∙ kept_there above (piece_of s) k h there
