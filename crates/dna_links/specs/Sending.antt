-- What the links of a node may send, and what is answered of it.
use Rattle.std.specs.Prelude.{ℕ, Bool, Option, List, Result}
use Rattle.dna_packet.specs.Nsp.{NspValue}
use Rattle.dna_station.specs.declared.link_refusal.LinkRefusal.{LinkRefusal}
use Rattle.dna_links.specs.SegmentBook.{SegmentBook}
use Rattle.dna_links.specs.PacketAddresses.{goes}
use Rattle.dna_links.specs.Links.{LinkOf, LinksOf, Carried, LinkTruth}
use Rattle.dna_links.specs.Table.{Effect, sending_row}
use Rattle.dna_links.specs.declared.queue.Queues.{Queues}
use Rattle.dna_links.specs.LinkBook.{after, by_row, of_none}

-- what a message that may be sent makes of the links, and what is true of it
pub record Sent (D K : Type 0) : Type 0 where
  pub links : LinksOf D
  pub truth : LinkTruth K

module _ {D K : Type 0} (queues : Queues) (book : SegmentBook D K) where
  abbrev pub truth_as : Option ℕ → LinkOf D → K → LinkTruth K
  truth_as number link known = record { tag = record { link = number; partner = link.partner }; known = known }

  -- of a message of the link with this number, or of none
  abbrev pub sent_as : LinksOf D → List Effect → Option ℕ → LinkOf D → K → Sent D K
  sent_as s effects number link known =
      record { links = after queues book s effects number link known; truth = truth_as number link known }

  abbrev pub message_sent : LinksOf D → NspValue → Result (Sent D K) LinkRefusal
  message_sent s m = by_row queues book (λ test. test) (of_none queues book) s (sent_as s) (sending_row m)

  -- from this node to the other, else 16; then by message
  abbrev pub sent_step : LinksOf D → Carried → Result (Sent D K) LinkRefusal
  sent_step s packet = goes packet s.node s.peer (message_sent s packet.message)
