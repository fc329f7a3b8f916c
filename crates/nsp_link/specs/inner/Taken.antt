-- What a message that came makes of the links, if they gave a permit for it, and what holds of its link then; for private contracts and for proofs.
use Rattle.std.specs.Prelude.{◌≡◌, ℕ, ◌<◌, Bool, true, None, Some, length, slice_get}
use Rattle.dna_packet.specs.Nsp.{SegmentValue, NspValue, DataSegment, LinkService, DataAck, OtherDataAck, ConnectInitiate}
use Rattle.dna_packet.specs.Nsp.{ConnectConfirm, DisconnectInitiate, DisconnectConfirm}
use Rattle.dna_links.specs.declared.port.LinkTest.TheVariants.{LiveTo}
use Rattle.dna_links.specs.declared.queue.Queues.{Queues}
use Rattle.dna_links.specs.declared.tag.LinkTag.{LinkTag}
use Rattle.dna_links.specs.Arriving.{of_partner}
use Rattle.dna_links.specs.LookUps.{is_calling}
use Rattle.dna_links.specs.Links.{LinkOf, begun, changed, number_of}
use Rattle.dna_links.specs.Queues.{ends_by_message}
use Rattle.dna_links.specs.inner.Forms.{called}
use Rattle.dna_links.specs.WireSegments.{WireSegments, wire_segments, takes_acks, takes_segment}
use Rattle.dna_links.specs.WireLinks.{WireLinks}
use Rattle.nsp_link.specs.Segments.{is_held}
use Rattle.nsp_link.specs.declared.permit.LinkArrivalPermit.{LinkArrivalPermit}
use Rattle.nsp_link.specs.declared.permit.LinkArrivalPermit.TheVariants.{Ignored, Begins, OfLink}
use Rattle.nsp_link.specs.inner.Acted.{at_its_link}
use Rattle.nsp_link.specs.inner.Indexing.{LivesAt}
use Rattle.nsp_link.specs.inner.Rows.{confirmed, runs}

-- the link that acts on it
abbrev pub acts_on : Queues → NspValue → LinkTag → LinkOf WireSegments → LinkOf WireSegments
acts_on queues (ConnectConfirm dst src services info segsize user_data) tag link = confirmed queues src segsize tag link
acts_on queues (DataSegment segment) tag link = runs queues (takes_segment segment tt) link
acts_on queues (DataAck dst src acks) tag link = runs queues (takes_acks acks tt) link
acts_on queues (LinkService interrupt dst src rest) tag link = runs queues (λ segments. segments) link
acts_on queues (OtherDataAck dst src rest) tag link = runs queues (λ segments. segments) link
acts_on queues (DisconnectInitiate dst src reason user_data) tag link = ends_by_message wire_segments queues link
acts_on queues (DisconnectConfirm dst src reason) tag link = ends_by_message wire_segments queues link
acts_on queues m tag link = link

abbrev pub begins : NspValue → LinkTag → WireLinks → WireLinks
begins (ConnectInitiate retransmitted src services info segsize user_data) tag s = begun (called wire_segments of_partner src segsize tag) s
begins m tag s = s

abbrev pub taken : Queues → NspValue → LinkTag → WireLinks → LinkArrivalPermit → WireLinks
taken queues m tag s Ignored = s
taken queues m tag s Begins = begins m tag s
taken queues m tag s (OfLink number) = at_its_link number s (λ link. changed number (acts_on queues m tag link) s)

-- ---- what holds of the link

abbrev pub CallingIn : ℕ → WireLinks → Type 0
CallingIn number s = (link : LinkOf WireSegments) → slice_get s.links number ≡ Some link → is_calling link.port.phase ≡ true

-- it takes memory for the segment, or does not
abbrev pub HoldsAs : SegmentValue → (memory : Bool) → ℕ → WireLinks → Type 0
HoldsAs segment memory number s =
    (link : LinkOf WireSegments) → slice_get s.links number ≡ Some link → is_held segment link.segments.variables ≡ memory

abbrev pub FitsLink : NspValue → (memory : Bool) → ℕ → WireLinks → Type 0
FitsLink (ConnectConfirm dst src services info segsize user_data) memory number s = CallingIn number s
FitsLink (DataSegment segment) memory number s = LivesAt number s × HoldsAs segment memory number s
FitsLink (DataAck dst src acks) memory number s = LivesAt number s
FitsLink (LinkService interrupt dst src rest) memory number s = LivesAt number s
FitsLink (OtherDataAck dst src rest) memory number s = LivesAt number s
FitsLink (DisconnectInitiate dst src reason user_data) memory number s = LivesAt number s
FitsLink (DisconnectConfirm dst src reason) memory number s = LivesAt number s
FitsLink m memory number s = ⊥

abbrev pub FitsCall : NspValue → (memory : Bool) → WireLinks → Type 0
FitsCall (ConnectInitiate retransmitted src services info segsize user_data) memory s = (number_of (LiveTo src) s ≡ None) × (memory ≡ true)
FitsCall m memory s = ⊥

abbrev pub FitsArrival : NspValue → (memory : Bool) → WireLinks → LinkArrivalPermit → Type 0
FitsArrival m memory s Ignored = Unit {0}
FitsArrival m memory s Begins = FitsCall m memory s
FitsArrival m memory s (OfLink number) = (number < length s.links) × FitsLink m memory number s
