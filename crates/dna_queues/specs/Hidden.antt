-- A node whose links act on what was kept, and compose what they send, at times that no record shows (NSP 4.0 between its queues and those of
-- Routing and DDCMP): each link goes by the tables as a process of its own, as in a node without queues.
use Rattle.std.specs.Prelude.{◌≡◌, ℕ, Bool, true, false, if◌then◌else◌, Option, Some, None, List, [], ◌∷◌, ◌++◌, slice_get, Ok}
use Rattle.dna_packet.specs.Nsp.{NspValue, DataSegment, LinkService, DataAck, OtherDataAck, ConnectAck, NoOperation, ConnectConfirm}
use Rattle.dna_packet.specs.Nsp.{DisconnectInitiate, DisconnectConfirm, IsInRange}
use Rattle.dna_links.specs.declared.queue.Queues.TheVariants.{Without}
use Rattle.dna_links.specs.SegmentBook.{SegmentBook, Sending, Late, wider}
use Rattle.dna_links.specs.declared.port.LinkTest.TheVariants.{BegunBy}
use Rattle.dna_links.specs.LookUps.{passes}
use Rattle.dna_links.specs.PacketAddresses.{goes}
use Rattle.dna_links.specs.Links.{LinkOf, LinksOf}
use Rattle.dna_links.specs.LinkBook.{are_same, on_ok}
use Rattle.dna_links.specs.Sending.{Sent, sent_step}
use Rattle.dna_links.specs.Arriving.{of_partner, arrived_step}
use Rattle.dna_links.specs.TrueSegments.{TrueSegments, Numbers, true_segments}
use Rattle.dna_links.specs.Runs.{SentMessage}

-- ---- the one rule that differs: words of new segments

-- New segments wait in a list of their own, in their order, and acknowledgements overtake them. So a word of a new segment may name a number below
-- the last one sent, but not below the highest that an earlier new segment of the link named, and at most 2,047 below the last
pub record LateSegments : Type 0 where
  pub segments : TrueSegments
  -- how far the highest that new segments named lies below the last one sent, at most 2,047
  pub gap : ℕ

abbrev pub over : LateSegments → TrueSegments → LateSegments
over d segments = record d { segments = segments }

abbrev pub delivered_over : LateSegments → Option TrueSegments → Option LateSegments
delivered_over d None = None
delivered_over d (Some segments) = Some (over d segments)

abbrev pub late_sent : Late TrueSegments Numbers → Sending LateSegments Numbers
late_sent late = record { segments = record { segments = late.sent.segments; gap = late.gap }; known = late.sent.known }

abbrev pub acks_sent : LateSegments → Sending TrueSegments Numbers → Sending LateSegments Numbers
acks_sent d sent = record {
  segments = record { segments = sent.segments; gap = wider d.gap (true_segments.went_on d.segments sent.segments) };
  known = sent.known;
}

abbrev pub late_segments : SegmentBook LateSegments Numbers
late_segments = record {
  empty = record { segments = true_segments.empty; gap = 0 };
  hands_in = λ message d. over d (true_segments.hands_in message d.segments);
  delivers = λ message d. delivered_over d (true_segments.delivers message d.segments);
  sends_segment = λ segsize segment d. on_ok (true_segments.sends_late d.gap segsize segment d.segments) (λ late. Ok (late_sent late));
  sends_acks = λ acks d. on_ok (true_segments.sends_acks acks d.segments) (λ sent. Ok (acks_sent d sent));
  sends_other = λ d. true_segments.sends_other d.segments;
  -- without queues nothing asks for these two
  sends_late = λ gap segsize segment d. on_ok (true_segments.sends_late d.gap segsize segment d.segments)
      (λ late. Ok (record { sent = late_sent late; gap = late.gap }));
  went_on = λ before after. true_segments.went_on before.segments after.segments;
  takes_segment = λ segment known d. over d (true_segments.takes_segment segment known d.segments);
  takes_acks = λ acks known d. over d (true_segments.takes_acks acks known d.segments);
  ends = λ d. d;
  forgets = λ d. d;
}

abbrev pub Links : Type 0
Links = LinksOf LateSegments

-- ---- the queues

pub record Node : Type 0 where
  pub links : Links
  -- packets that were kept and not acted on yet, in the order in which they were kept
  pub kept : List SentMessage
  -- messages that were composed and not sent yet, with what was true of each then, in the order in which they were composed
  pub composed : List SentMessage

-- DSTADDR: for which link a message waits. A CI is acted on at once, since else it would not be known which link it begins; a connect ack and a no
-- operation do nothing
abbrev pub dstaddr : NspValue → Option ℕ
dstaddr (ConnectConfirm dst src services info segsize user_data) = Some dst
dstaddr (DisconnectInitiate dst src reason user_data) = Some dst
dstaddr (DisconnectConfirm dst src reason) = Some dst
dstaddr (DataSegment segment) = Some segment.dstaddr
dstaddr (DataAck dst src acks) = Some dst
dstaddr (LinkService interrupt dst src rest) = Some dst
dstaddr (OtherDataAck dst src rest) = Some dst
dstaddr m = None

abbrev pub link_it_is_for : SentMessage → Option ℕ
link_it_is_for unit = dstaddr unit.packet.message

abbrev pub link_it_is_of : SentMessage → Option ℕ
link_it_is_of unit = unit.truth.tag.link

-- those that wait at the same link
abbrev pub waiting : (SentMessage → Option ℕ) → Option ℕ → List SentMessage → List SentMessage
waiting link_of link [] = []
waiting link_of link (unit ∷ units) =
    if are_same (link_of unit) link then unit ∷ waiting link_of link units else waiting link_of link units

-- the first of its link is taken away
pub data Takes (link_of : SentMessage → Option ℕ) : List SentMessage → SentMessage → List SentMessage → Type 0 where
  First : (unit : SentMessage) (units : List SentMessage) → Takes link_of (unit ∷ units) unit units
  Behind : (other unit : SentMessage) (units left : List SentMessage) → are_same (link_of other) (link_of unit) ≡ false →
      Takes link_of units unit left → Takes link_of (other ∷ units) unit (other ∷ left)

-- ---- steps that no record shows

-- a DC is the answer to what came, and is not composed ahead; nor is a no operation. A connect ack has a rule of its own
abbrev pub is_composed : NspValue → Bool
is_composed (ConnectAck dst) = false
is_composed (DisconnectConfirm dst src reason) = false
is_composed (NoOperation rest) = false
is_composed m = true

pub data HiddenStep (n : Node) : Node → Type 0 where
  -- the first packet that waits for a link is acted on
  Acts : (unit : SentMessage) (left : List SentMessage) (links : Links) → Takes link_it_is_for n.kept unit left →
      arrived_step Without late_segments of_partner n.links unit.packet unit.truth ≡ Ok links →
      HiddenStep n (record { links = links; kept = left; composed = n.composed })
  -- a message is composed that may be sent now
  Composes : (unit : SentMessage) (made : Sent LateSegments Numbers) → is_composed unit.packet.message ≡ true → IsInRange unit.packet.message →
      sent_step Without late_segments n.links unit.packet ≡ Ok made → unit.truth ≡ made.truth →
      HiddenStep n (record { links = made.links; kept = n.kept; composed = n.composed ++ unit ∷ [] })
  -- so is a connect ack, of any link that a CI from its address began: no byte tells of which
  Acknowledges : (unit : SentMessage) (dst number : ℕ) (link : LinkOf LateSegments) → unit.packet.message ≡ ConnectAck dst →
      goes {R = Links} unit.packet n.links.node n.links.peer (Ok n.links) ≡ Ok n.links → slice_get n.links.links number ≡ Some link →
      passes (BegunBy dst) link.port ≡ true → link_it_is_of unit ≡ Some number →
      HiddenStep n (record { links = n.links; kept = n.kept; composed = n.composed ++ unit ∷ [] })

-- what all would come to: the links once all that was kept is acted on
pub data ComesTo : Node → Links → Type 0 where
  AllActed : (n : Node) → n.kept ≡ [] → ComesTo n n.links
  Next : (n : Node) (unit : SentMessage) (left : List SentMessage) (links further : Links) → Takes link_it_is_for n.kept unit left →
      arrived_step Without late_segments of_partner n.links unit.packet unit.truth ≡ Ok links →
      ComesTo (record { links = links; kept = left; composed = n.composed }) further → ComesTo n further
