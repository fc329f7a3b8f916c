-- Every row keeps it that what the links of a node have given in segments was sent, where none is sent and no acknowledgement comes.
use Rattle.accusing_segments.proofs.Prelude.{◌≡◌, ℕ, Some, slice_get, Queues, LinkOf, LinkTruth, with_segments, with_queue, further, drops}
use Rattle.accusing_segments.proofs.Prelude.{Ask, SendsSegment, WireSegments, wire_segments, WireLinks, each_at, OfRow, IsKept, AreKept, settled_by}
use Rattle.accusing_segments.proofs.Prelude.{each_keeps}
use Rattle.accusing_segments.proofs.{Gave.never, Gave.delivers_gave, SegmentSends.acks_sent}
use Rattle.accusing_segments.proofs.RightLinks.{Links, IsLinkRight, blank_right, IsCalm, does_right, AreRight, dropped_right, forgotten_right}
use Rattle.accusing_segments.proofs.RightLinks.{requeued_right}

-- no segment is sent
abbrev pub IsQuiet : Ask → Type 0
IsQuiet (SendsSegment segment) = ⊥
IsQuiet ask = Unit {0}

module _ (Q : Links) (queues : Queues) where
  abbrev Is : LinkOf WireSegments → Type 0
  Is l = IsLinkRight Q l

  pub gap_right : (gap : ℕ) (l : LinkOf WireSegments) → Is l → Is (with_queue (record l.queue { gap = gap }) l)
  gap_right gap l is =
      record { early = λ e. record { gave = (is.early e).gave; ran = (is.early e).ran }; both = is.both; room = is.room }

  abbrev pub Now : OfRow
  Now n l = Is l

  abbrev pub Are : WireLinks → Type 0
  Are x = AreRight Q queues x.links

  module _ (s : WireLinks) (are : AreRight Q queues s.links) where
    pub there : (n : ℕ) (l : LinkOf WireSegments) → slice_get s.links n ≡ Some l → Is l
    there n l at = each_at Is s.links n l are at

    pub keeps : (truth : LinkTruth (Unit {0})) → IsKept queues s Now IsQuiet (IsCalm Q queues) truth
    keeps truth = record {
      none = blank_right Q queues;
      there = there;
      delivered = λ message n l d made is. record {
        early = λ e. record { gave = delivers_gave never message l.segments d made (is.early e).gave; ran = (is.early e).ran };
        both = λ own far e f. delivers_gave (Q own far) message l.segments d made (is.both own far e f);
        room = is.room;
      };
      sent = λ segment n l f gap quiet made is. absurd quiet;
      acks = λ acks n l sent gap quiet made is. gap_right gap (with_segments sent.segments l) (record {
        early = λ e. record { gave = acks_sent never acks l.segments (is.early e).gave sent made; ran = (is.early e).ran };
        both = λ own far e f. acks_sent (Q own far) acks l.segments (is.both own far e f) sent made;
        room = is.room;
      });
      does = λ n l effect calm is. does_right Q queues truth l effect calm is;
    }

    pub all_keep : AreKept queues s Now Are
    all_keep =
        each_keeps queues s Is are (λ l is. forgotten_right Q queues queues l is)
        (λ l is. settled_by Is l.queue.waits l (requeued_right Q queues _ l.queue.said l is)
        (λ said. requeued_right Q queues l.queue.waits (further said l.queue.said) l is) is)
        (λ l is. forgotten_right Q queues queues (drops wire_segments queues l) (dropped_right Q queues queues l is))
