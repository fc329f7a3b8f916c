-- The phase that a message asks for.
use Rattle.std.specs.Prelude.{ℕ, Bool, true, false}
use Rattle.dna_packet.specs.Nsp.{SegmentValue, NspValue, DataSegment, ConnectInitiate}
use Rattle.dna_links.specs.declared.port.Phase.{Phase}
use Rattle.dna_links.specs.declared.port.Phase.TheVariants.{Calling, Confirming, Running, Disconnecting}
use Rattle.dna_links.specs.LookUps.{is_calling, is_confirming, is_running, is_disconnecting}
use Rattle.dna_links.specs.declared.port.LinkTest.TheVariants.{TheLink, LiveTo, ActedOn}
use Rattle.dna_links.specs.declared.queue.Queues.{Queues}
use Rattle.dna_links.specs.Links.{with_link}
use Rattle.dna_links.specs.Queues.{with_in_use}
use Rattle.dna_links.specs.User.{LinkEventValue, Open, Accept, Reject, In}
use Rattle.dna_links.specs.WireSegments.{is_new}
use Rattle.dna_links.specs.WireLinks.{WireLinks}
use Rattle.nsp_link.specs.Segments.{is_held}

-- messages ask for Calling, Confirming, RUN or DI
abbrev pub is_in : Phase → Phase → Bool
is_in Calling = is_calling
is_in Confirming = is_confirming
is_in Running = is_running
is_in Disconnecting = is_disconnecting
is_in phase = λ other. false

-- ---- which calls may take memory

-- they begin a link, give it an address or keep a message
abbrev pub event_takes_memory : LinkEventValue → Bool
event_takes_memory (Open link) = true
event_takes_memory (Accept partner link) = true
event_takes_memory (Reject partner link) = true
event_takes_memory (In link message) = true
event_takes_memory event = false

-- a segment that is new is kept; a repeat and any other message is not
abbrev pub gives_new : Queues → WireLinks → SegmentValue → Bool
gives_new queues s segment =
    with_in_use queues (TheLink segment.srcaddr segment.dstaddr) s false (λ number link. is_new segment link.segments.variables)

abbrev pub sending_takes_memory : Queues → WireLinks → NspValue → Bool
sending_takes_memory queues s (DataSegment segment) = gives_new queues s segment
sending_takes_memory queues s m = false

-- a segment that is held is kept; a CI that is no repeat begins a link
abbrev pub holds_segment : WireLinks → SegmentValue → Bool
holds_segment s segment = with_link (ActedOn segment.dstaddr segment.srcaddr) s false (λ number link. is_held segment link.segments.variables)

abbrev pub begins_link : WireLinks → (far : ℕ) → Bool
begins_link s far = with_link (LiveTo far) s true (λ number link. false)

abbrev pub arrival_takes_memory : WireLinks → NspValue → Bool
arrival_takes_memory s (DataSegment segment) = holds_segment s segment
arrival_takes_memory s (ConnectInitiate retransmitted src services info segsize user_data) = begins_link s src
arrival_takes_memory s m = false
