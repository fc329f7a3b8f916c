-- What is shown of a link at a side where a record is refused (NSP 4.0, ports).
use Rattle.std.specs.Prelude.{ℕ, ◌==◌, not, ◌||◌, nat_lt, Bool, true, false, Option, Some, None}
use Rattle.dna_links.specs.declared.port.Phase.{Phase}
use Rattle.dna_links.specs.declared.port.Phase.TheVariants.{Calling, Running, Ended}
use Rattle.nsp_link.specs.declared.view.LinkNumbers.{LinkNumbers}

-- SEGSIZE is known once a CI or a CC was acted on, which is not so in Calling
abbrev pub known_segsize : Phase → ℕ → Option ℕ
known_segsize Calling segsize = None
known_segsize phase segsize = Some segsize

-- whether a link may still have numbers: an ended one has none
abbrev pub is_live : Phase → Bool
is_live Ended = false
is_live phase = true

-- an answer is awaited or owed: of a CI, a CC or a DI, of a segment, or of what was received
abbrev pub has_open : Phase → LinkNumbers → Bool
has_open Running n = nat_lt 0 n.outstanding || not (n.received == n.last_sent)
has_open Ended n = false
has_open phase n = true
