-- What a packet carries, by what was found of it without reading its message.
use Rattle.std.specs.Prelude.{Option, Some, None, Result, Ok}
use Rattle.dna_packet.specs.ReadingNsp.{nsp_at}
use Rattle.dna_station.specs.declared.refusal.StepRefusal.{StepRefusal}
use Rattle.dna_node.specs.Content.{message_in}
use Rattle.dna_links.specs.Links.{Carried}
use Rattle.pair_judge.specs.declared.packet.Carried.{Carried as Lent}

-- what its bytes say
abbrev pub lent_content : Lent → Result (Option Carried) StepRefusal
lent_content lent = message_in lent.dst lent.src (nsp_at lent.message.now)

abbrev pub content_in : Option Lent → Result (Option Carried) StepRefusal
content_in None = Ok None
content_in (Some lent) = lent_content lent
