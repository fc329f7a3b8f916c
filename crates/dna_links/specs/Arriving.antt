-- What a message that comes does to the links of a node, by a rule on partners: that a message which is acted on is of this pair of links, else 25,
-- is known of the message beside its bytes.
use Rattle.std.specs.Prelude.{ℕ, Bool, true, ◌&&◌, Option, is_some, Result}
use Rattle.dna_packet.specs.Nsp.{NspValue}
use Rattle.dna_station.specs.declared.link_refusal.LinkRefusal.{LinkRefusal}
use Rattle.dna_links.specs.declared.tag.LinkTag.{LinkTag}
use Rattle.dna_links.specs.LookUps.{is_at}
use Rattle.dna_links.specs.SegmentBook.{SegmentBook}
use Rattle.dna_links.specs.PacketAddresses.{goes}
use Rattle.dna_links.specs.Links.{LinksOf, Carried, LinkTruth}
use Rattle.dna_links.specs.Table.{arrival_row}
use Rattle.dna_links.specs.declared.queue.Queues.{Queues}
use Rattle.dna_links.specs.LinkBook.{are_same, after, by_row}

-- what to make of the test whether a message that is acted on is of this pair of links: the judge asks for it, a player's node does not
abbrev pub PartnerRule : Type 0
PartnerRule = Bool → Bool

abbrev pub of_partner : PartnerRule
of_partner test = test

abbrev pub of_anyone : PartnerRule
of_anyone test = true

-- the message is of a link, and the partner of that is this link
abbrev pub is_for : ℕ → LinkTag → Bool
is_for number tag = is_some tag.link && is_at tag.partner number

-- and that link is the partner of this one
abbrev pub is_of_pair : ℕ → Option ℕ → LinkTag → Bool
is_of_pair number partner tag = are_same partner tag.link && is_at tag.partner number

module _ {D K : Type 0} (queues : Queues) (book : SegmentBook D K) (rule : PartnerRule) where
  abbrev pub message_arrived : LinksOf D → NspValue → LinkTruth K → Result (LinksOf D) LinkRefusal
  message_arrived s m truth = by_row queues book rule truth s (after queues book s) (arrival_row m)

  -- from the other node to this one, else 16; then by message
  abbrev pub arrived_step : LinksOf D → Carried → LinkTruth K → Result (LinksOf D) LinkRefusal
  arrived_step s packet truth = goes packet s.peer s.node (message_arrived s packet.message truth)
