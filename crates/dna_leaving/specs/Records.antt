-- The records of one end, as its links meet them, and what the links make of each: over any book of segments, with queues or without, and by any
-- rule on partners.
use Rattle.std.specs.Prelude.{List, [], ◌∷◌, Result, Ok, Err}
use Rattle.dna_station.specs.declared.link_refusal.LinkRefusal.{LinkRefusal}
use Rattle.dna_links.specs.declared.queue.Queues.{Queues}
use Rattle.dna_links.specs.SegmentBook.{SegmentBook}
use Rattle.dna_links.specs.Links.{LinksOf, Carried, LinkTruth}
use Rattle.dna_links.specs.User.{LinkEventValue}
use Rattle.dna_links.specs.LinkBook.{on_ok, user_step}
use Rattle.dna_links.specs.Sending.{Sent, sent_step}
use Rattle.dna_links.specs.Arriving.{PartnerRule, of_partner, arrived_step}
use Rattle.dna_links.specs.TrueSegments.{TrueSegments, Numbers, true_segments}

-- by what links go beside the tables
pub record LinkRules (D K : Type 0) : Type 0 where
  pub queues : Queues
  pub partners : PartnerRule
  pub book : SegmentBook D K

-- on true numbers, and with messages of this pair of links alone
abbrev pub true_rules : Queues → LinkRules TrueSegments Numbers
true_rules queues = record { queues = queues; partners = of_partner; book = true_segments }

pub data LinkRecord (K : Type 0) : Type 0 where
  -- the user of the links does something
  OfUser : (event : LinkEventValue) → LinkRecord K
  -- a packet with a message of the links is first sent
  Sends : (packet : Carried) → LinkRecord K
  -- one is kept, with what is true of its message
  Keeps : (packet : Carried) (truth : LinkTruth K) → LinkRecord K
  -- any other record
  OfNoLink : LinkRecord K

abbrev pub links_then : {D K : Type 0} → Result (Sent D K) LinkRefusal → Result (LinksOf D) LinkRefusal
links_then (Ok made) = Ok made.links
links_then (Err refusal) = Err refusal

module _ {D K : Type 0} (rules : LinkRules D K) where
  -- what the links become, or why they refuse it
  abbrev pub next_links : LinksOf D → LinkRecord K → Result (LinksOf D) LinkRefusal
  next_links s (OfUser event) = user_step rules.queues rules.book s event
  next_links s (Sends packet) = links_then (sent_step rules.queues rules.book s packet)
  next_links s (Keeps packet truth) = arrived_step rules.queues rules.book rules.partners s packet truth
  next_links s OfNoLink = Ok s

  -- what all of them come to, or the first refusal
  abbrev pub made : LinksOf D → List (LinkRecord K) → Result (LinksOf D) LinkRefusal
  made s [] = Ok s
  made s (one ∷ later) = on_ok (next_links s one) (λ left. made left later)
