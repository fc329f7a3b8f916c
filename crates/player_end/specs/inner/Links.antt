-- What becomes of the links of an end, in the parts in which the code does it.
use Rattle.std.specs.Prelude.{ℕ, Bool, false, List, Option, Some, None}
use Rattle.dna_packet.specs.declared.ack_word.AckWord.{AckWord}
use Rattle.dna_links.specs.declared.port.LinkTest.{LinkTest}
use Rattle.dna_links.specs.LookUps.{passes}
use Rattle.dna_links.specs.SegmentBook.{distance}
use Rattle.dna_links.specs.WireSegments.{LinkVariables, acknowledged_by_all}
use Rattle.dna_links.specs.declared.port.Phase.TheVariants.{Ended}
use Rattle.dna_play.specs.LinkOwed.{LinkOwed, Duty, lowered, nothing, retried}
use Rattle.dna_play.specs.NextSent.{LinkEnd, duty_of}
use Rattle.dna_play.specs.StoredEnd.{StoredLinks}
use Rattle.dna_play.specs.StoredLinks.{changed, no_segments}

-- ---- one link

abbrev pub with_change : Option (LinkOwed → LinkOwed) → LinkEnd → Option LinkEnd
with_change None link = None
with_change (Some change) link = Some (record link { owed = change link.owed })

-- what stays at the number of one that has ended
abbrev pub gone : LinkEnd
gone = record { port = record { phase = Ended; opened = false; own = None; far = None }; variables = no_segments; owed = nothing }

-- its timer runs out, if it can
abbrev pub retried_end : LinkEnd → Option LinkEnd
retried_end link = with_change (retried link.port.phase) link

-- what these words acknowledge is no longer outstanding, nor among the segments sent in this go
abbrev pub acknowledged_as : LinkVariables → LinkEnd → LinkEnd
acknowledged_as after link = record link { variables = after; owed = lowered (distance link.variables.acknowledged after.acknowledged) link.owed }

abbrev pub acknowledged : List AckWord → LinkEnd → LinkEnd
acknowledged words link = acknowledged_as (acknowledged_by_all words link.variables) link

-- ---- among the others

-- whether there is a link, and it passes
abbrev pub passes_there : LinkTest → Option LinkEnd → Bool
passes_there test None = false
passes_there test (Some link) = passes test link.port

-- what it has to send, if there is one
abbrev pub duty_there : Option LinkEnd → Option Duty
duty_there None = None
duty_there (Some link) = duty_of link

abbrev pub changed_to : ℕ → Option LinkEnd → StoredLinks → Option StoredLinks
changed_to place None s = None
changed_to place (Some link) s = Some (changed place link s)
