-- Both rules that a judge of two captures asks and no node of the pair can see: on periods (`PeriodRule` of the station), and on partners (`Arriving`
-- of the links), a message of the links that is acted on is of this pair of links.
use Rattle.dna_station.specs.PeriodRule.{PeriodRule, of_period, of_any_period}
use Rattle.dna_links.specs.declared.queue.Queues.{Queues}
use Rattle.dna_links.specs.declared.queue.Queues.TheVariants.{Without}
use Rattle.dna_links.specs.Arriving.{PartnerRule, of_partner, of_anyone}

pub record Rules : Type 0 where
  pub periods : PeriodRule
  pub partners : PartnerRule
  -- and whether its NSP has queues
  pub queues : Queues

-- a node of a pair that is judged goes by both
abbrev pub judged_by : Queues → Rules
judged_by queues = record { periods = of_period; partners = of_partner; queues = queues }

abbrev pub judged : Rules
judged = judged_by Without

-- a node that knows of a message nothing but its bytes goes by neither
abbrev pub by_bytes_with : Queues → Rules
by_bytes_with queues = record { periods = of_any_period; partners = of_anyone; queues = queues }

abbrev pub by_bytes : Rules
by_bytes = by_bytes_with Without
