-- The links of one node on numbers without a bound.
use Rattle.std.specs.Prelude.{ℕ, Result}
use Rattle.dna_station.specs.declared.link_refusal.LinkRefusal.{LinkRefusal}
use Rattle.dna_links.specs.Links.{LinksOf, Carried, LinkTruth, no_links}
use Rattle.dna_links.specs.declared.queue.Queues.{Queues}
use Rattle.dna_links.specs.User.{LinkEventValue}
use Rattle.dna_links.specs.LinkBook.{user_step}
use Rattle.dna_links.specs.Sending.{Sent, sent_step}
use Rattle.dna_links.specs.Arriving.{PartnerRule, arrived_step}
use Rattle.dna_links.specs.TrueSegments.{TrueSegments, Numbers, true_segments}

abbrev pub Links : Type 0
Links = LinksOf TrueSegments

abbrev pub new_links : (node peer : ℕ) → Links
new_links node peer = no_links node peer

-- what the user does, a message that is sent, a message that comes: what becomes of the links, or the first refusal
abbrev pub links_user : Queues → Links → LinkEventValue → Result Links LinkRefusal
links_user queues s event = user_step queues true_segments s event

abbrev pub links_sent : Queues → Links → Carried → Result (Sent TrueSegments Numbers) LinkRefusal
links_sent queues s packet = sent_step queues true_segments s packet

abbrev pub links_arrived : Queues → PartnerRule → Links → Carried → LinkTruth Numbers → Result Links LinkRefusal
links_arrived queues rule s packet truth = arrived_step queues true_segments rule s packet truth
