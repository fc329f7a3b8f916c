-- Every row keeps it that what the links of a node received passed, where no segment comes and none gets an address.
use Rattle.accusing_links.proofs.Prelude.{◌≡◌, ℕ, Some, slice_get, AllByRecursion, IsAckWord, Queues, LinkOf, LinkTruth, further, drops, Ask}
use Rattle.accusing_links.proofs.Prelude.{SendsSegment, SendsAcks, WireSegments, wire_segments, WireLinks}
use Rattle.accusing_links.proofs.{Received.delivers_received, Sends.sends_acks_good, Sends.sent_left, Each.each_at, Along.OfRow}
use Rattle.accusing_links.proofs.Rows.{IsKept, AreKept, settled_by, each_keeps}
use Rattle.accusing_links.proofs.RightLinks.{Numbers, Never, IsLinkRight, blank_right, IsCalm, does_right, AreRight, forgotten_right, requeued_right}

-- the words in what is asked have 12 bits
abbrev pub IsSmall : Ask → Type 0
IsSmall (SendsSegment segment) = AllByRecursion IsAckWord segment.acks
IsSmall (SendsAcks acks) = AllByRecursion IsAckWord acks
IsSmall ask = Unit {0}

module _ (Q : Numbers) (queues : Queues) where
  abbrev Is : LinkOf WireSegments → Type 0
  Is l = IsLinkRight Q l

  abbrev pub Now : OfRow
  Now n l = Is l

  abbrev pub Are : WireLinks → Type 0
  Are x = AreRight Q queues x.links

  module _ (s : WireLinks) (are : AreRight Q queues s.links) where
    pub there : (n : ℕ) (l : LinkOf WireSegments) → slice_get s.links n ≡ Some l → Is l
    there n l at = each_at Is s.links n l are at

    pub keeps : (truth : LinkTruth (Unit {0})) → IsKept queues s Now IsSmall (IsCalm Q queues) truth
    keeps truth = record {
      none = blank_right Q queues;
      there = there;
      delivered = λ message n l d made is. record {
        early = λ e. delivers_received 0 Never message l.segments d made (is.early e);
        both = λ own far e f. delivers_received 0 (Q own far) message l.segments d made (is.both own far e f);
      };
      sent = λ segment n l f gap small made is. record {
        early = λ e. (sent_left 0 Never segment l f small (is.early e) made).1;
        both = λ own far e g. (sent_left 0 (Q own far) segment l f small (is.both own far e g) made).1;
      };
      acks = λ acks n l sent gap small made is. record {
        early = λ e. (sends_acks_good 0 Never l.segments (is.early e) acks small sent made).1;
        both = λ own far e f. (sends_acks_good 0 (Q own far) l.segments (is.both own far e f) acks small sent made).1;
      };
      does = λ n l effect calm is. does_right Q queues truth l effect calm is;
    }

    pub all_keep : AreKept queues s Now Are
    all_keep =
        each_keeps queues s Is are (λ l is. forgotten_right Q queues queues l)
        (λ l is. settled_by Is l.queue.waits l (requeued_right Q queues _ l.queue.said l is)
        (λ said. requeued_right Q queues l.queue.waits (further said l.queue.said) l is) is)
        (λ l is. forgotten_right Q queues queues (drops wire_segments queues l))
