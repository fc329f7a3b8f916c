-- The links of one node as it keeps them. Of a message that comes it knows the bytes and the tag.
use Rattle.std.specs.Prelude.{ℕ, Result}
use Rattle.dna_station.specs.declared.link_refusal.LinkRefusal.{LinkRefusal}
use Rattle.dna_links.specs.declared.tag.LinkTag.{LinkTag}
use Rattle.dna_links.specs.Links.{LinksOf, Carried, no_links}
use Rattle.dna_links.specs.declared.queue.Queues.{Queues}
use Rattle.dna_links.specs.User.{LinkEventValue}
use Rattle.dna_links.specs.LinkBook.{user_step}
use Rattle.dna_links.specs.Sending.{Sent, sent_step}
use Rattle.dna_links.specs.Arriving.{PartnerRule, arrived_step}
use Rattle.dna_links.specs.WireSegments.{WireSegments, wire_segments}

abbrev pub WireLinks : Type 0
WireLinks = LinksOf WireSegments

abbrev pub new_wire_links : (node peer : ℕ) → WireLinks
new_wire_links node peer = no_links node peer

-- what the user does, a message that is sent, a message that comes: what becomes of the links, or the first refusal. Of a message
-- that is sent, `truth.tag` is its tag
abbrev pub wire_links_user : Queues → WireLinks → LinkEventValue → Result WireLinks LinkRefusal
wire_links_user queues s event = user_step queues wire_segments s event

abbrev pub wire_links_sent : Queues → WireLinks → Carried → Result (Sent WireSegments (Unit {0})) LinkRefusal
wire_links_sent queues s packet = sent_step queues wire_segments s packet

abbrev pub wire_links_arrived : Queues → PartnerRule → WireLinks → Carried → LinkTag → Result WireLinks LinkRefusal
wire_links_arrived queues rule s packet tag = arrived_step queues wire_segments rule s packet (record { tag = tag; known = tt })
