-- What a packet carries, by what was found of it without reading its message.
use Rattle.std.specs.Prelude.{Option, None, Result, Ok, Err}
use Rattle.dna_packet.specs.ReadingNsp.{nsp_at}
use Rattle.dna_station.specs.declared.refusal.StepRefusal.{StepRefusal}
use Rattle.dna_station.specs.declared.refusal.StepRefusal.TheVariants.{BadPacket}
use Rattle.dna_links.specs.Links.{Carried}
use Rattle.dna_node.specs.Content.{message_in}
use Rattle.accusing_links.specs.declared.found.Found.{Found}
use Rattle.accusing_links.specs.declared.found.Found.TheVariants.{Unreadable, Nothing, Message}

abbrev pub content_found : Found → Result (Option Carried) StepRefusal
content_found Unreadable = Err BadPacket
content_found Nothing = Ok None
content_found (Message dst src nsp) = message_in dst src (nsp_at nsp.now)
