-- What is sent keeps it that what the links received passed for them, and what its words acknowledge passed.
use Rattle.accusing_links.proofs.Prelude.{ℕ, NspValue, DataSegment, DataAck, IsInRange, TheLink, Queues, LinkOf, Carried, sending_row, WireSegments}
use Rattle.accusing_links.proofs.Prelude.{wire_segments, WireLinks, wire_links_sent, of_none, Sent}
use Rattle.accusing_links.proofs.{Answered.Good, Finds.IsInUse, Finds.the_link, Along.SendShows, Along.sent_tells, Received.Received}
use Rattle.accusing_links.proofs.{Sends.sends_acks_good, Sends.sent_left, LinkSteps.AcksFine}
use Rattle.accusing_links.proofs.Rows.{IsCalmRow, calm_sends, sent_kept, always_sends}
use Rattle.accusing_links.proofs.RightLinks.{Numbers, IsCalm, AreRight}
use Rattle.accusing_links.proofs.LinkRows.{IsSmall, Now, Are, there, keeps, all_keep}

module _ (Q : Numbers) (queues : Queues) (s : WireLinks) (are : AreRight Q queues s.links) where
  -- ---- what is sent

  calm : (m : NspValue) → IsCalmRow IsSmall (IsCalm Q queues) (sending_row m) →
      SendShows queues (of_none queues wire_segments) s (λ es. Now Q queues) (sending_row m)
  calm m is =
      calm_sends queues s (Now Q queues) IsSmall (IsCalm Q queues) (of_none queues wire_segments)
      (keeps Q queues s are (of_none queues wire_segments))
      (sending_row m) is

  message_shows : (m : NspValue) → IsInRange m → SendShows queues (of_none queues wire_segments) s (λ es. Now Q queues) (sending_row m)
  message_shows (DataSegment segment) small = calm (DataSegment segment) (assumption small)
  message_shows (DataAck dst src acks) small = calm (DataAck dst src acks) (assumption small)
  message_shows m small = calm m assumption

  pub sent_right : (packet : Carried) → IsInRange packet.message →
      Good (λ (made : Sent WireSegments (Unit {0})). Are Q queues made.links) (wire_links_sent queues s packet)
  sent_right packet small =
      sent_kept queues s (Now Q queues) (Are Q queues) (all_keep Q queues s are) packet (message_shows packet.message small)

  -- ---- what the words acknowledge

  received_by : (own far n : ℕ) (l : LinkOf WireSegments) → IsInUse queues s (TheLink own far) n l → Received 0 (Q own far) l.segments
  received_by own far n l used =
      let both = the_link own far n l used in (there Q queues s are n l used.there).both own far both.0 both.1

  message_fine : (m : NspValue) → IsInRange m → SendShows queues (of_none queues wire_segments) s (λ es n l. AcksFine Q m) (sending_row m)
  message_fine (DataSegment segment) small = λ n l used turn f gap made.
      (sent_left 0 (Q segment.srcaddr segment.dstaddr) segment l f small.0 (received_by segment.srcaddr segment.dstaddr n l used) made).0
  message_fine (DataAck dst src acks) small = λ n l used turn sent gap made.
      (sends_acks_good 0 (Q src dst) l.segments (received_by src dst n l used) acks small.0 sent made).0
  message_fine m small = always_sends queues s (Unit {0}) tt (of_none queues wire_segments) (sending_row m)

  pub sent_fine : (packet : Carried) → IsInRange packet.message →
      Good (λ (made : Sent WireSegments (Unit {0})). AcksFine Q packet.message) (wire_links_sent queues s packet)
  sent_fine packet small = sent_tells queues s packet (AcksFine Q packet.message) (message_fine packet.message small)
