-- What holds at any time in a run of one side's links beside the other: what makes numbers modulo 4,096 tell all.
use Rattle.std.specs.Prelude.{◌≡◌, ℕ, ◌≤◌, Some, slice_get}
use Rattle.dna_packet.specs.Nsp.{IsInRange}
use Rattle.dna_links.specs.declared.queue.Queues.{Queues}
use Rattle.dna_links.specs.Links.{LinkOf, Carried}
use Rattle.dna_links.specs.User.{LinkEventValue}
use Rattle.dna_links.specs.Arriving.{of_partner}
use Rattle.dna_links.specs.TrueSegments.{TrueSegments}
use Rattle.dna_links.specs.TrueLinks.{links_user, links_sent, links_arrived}
use Rattle.dna_links.specs.WireLinks.{wire_links_user, wire_links_sent, wire_links_arrived}
use Rattle.dna_links.specs.Runs.{SentMessage, LinkSide}
use Rattle.dna_links.specs.CutSegments.{IsAnswered}
use Rattle.dna_links.specs.CutLinks.{cut_links, cut_result, cut_sent, AreOrdered, ArrivesNear}

-- Each link's own numbers are in order, and its highest number received is at most 2,047 above the last acknowledgement that it sent;
-- and each message in a packet that may still be kept, with fields in range, is near the numbers of the link of its pair that acts on it: a segment
-- number differs from the highest received by -2,047 to 2,047, and an acknowledgement is from 2,047 below the highest acknowledged
-- through the highest given
pub record AreLinksBounded (own other : LinkSide) : Type 0 where
  pub ordered : AreOrdered own.links
  pub answered : (i : ℕ) (link : LinkOf TrueSegments) → slice_get own.links.links i ≡ Some link → IsAnswered link.segments
  pub near : (place : ℕ) (unit : SentMessage) → own.front ≤ place → slice_get other.sent place ≡ Some (Some unit) → IsInRange unit.packet.message →
      ArrivesNear of_partner own.links unit.packet.message unit.truth

-- What a side keeps of its links goes along with all that may happen there: an event of its user, a message that it sends, and a message
-- with fields in range in a packet that may still be kept
pub record AreCutInStep (queues : Queues) (own other : LinkSide) : Type 0 where
  pub user : (event : LinkEventValue) →
      cut_result queues (links_user queues own.links event) ≡ wire_links_user queues (cut_links queues own.links) event
  pub sent : (packet : Carried) → cut_sent queues (links_sent queues own.links packet) ≡ wire_links_sent queues (cut_links queues own.links) packet
  pub kept : (place : ℕ) (unit : SentMessage) → own.front ≤ place → slice_get other.sent place ≡ Some (Some unit) → IsInRange unit.packet.message →
      cut_result queues (links_arrived queues of_partner own.links unit.packet unit.truth) ≡
      wire_links_arrived queues of_partner (cut_links queues own.links) unit.packet
      unit.truth.tag
