-- Which link of a node a message or an event is about: nine look-ups, each a test on ports (NSP 4.0, ports).
use Rattle.std.specs.Prelude.{ℕ, Bool, true, false, ◌&&◌, not, ◌==◌, Option, Some, None}
use Rattle.dna_station.specs.declared.link_refusal.LinkRefusal.{LinkRefusal}
use Rattle.dna_station.specs.declared.link_refusal.LinkRefusal.TheVariants.{NoLink}
use Rattle.dna_links.specs.declared.port.Phase.{Phase}
use Rattle.dna_links.specs.declared.port.Phase.TheVariants.{Calling, Called, Confirming, Running, Disconnecting, Ended}
use Rattle.dna_links.specs.declared.port.Port.{Port}
use Rattle.dna_links.specs.declared.port.LinkTest.{LinkTest}
use Rattle.dna_links.specs.declared.port.LinkTest.TheVariants.{HasAddress, LiveAt, TheLink, LiveTo, OpenedAt, CallingAt, CalledBy, BegunBy, ActedOn}

-- ---- phases

abbrev pub is_live : Phase → Bool
is_live Ended = false
is_live phase = true

abbrev pub is_in : (wanted phase : Phase) → Bool
is_in Calling Calling = true
is_in Called Called = true
is_in Confirming Confirming = true
is_in Running Running = true
is_in Disconnecting Disconnecting = true
is_in Ended Ended = true
is_in wanted phase = false

abbrev pub is_calling : Phase → Bool
is_calling phase = is_in Calling phase

abbrev pub is_called : Phase → Bool
is_called phase = is_in Called phase

abbrev pub is_confirming : Phase → Bool
is_confirming phase = is_in Confirming phase

abbrev pub is_running : Phase → Bool
is_running phase = is_in Running phase

abbrev pub is_disconnecting : Phase → Bool
is_disconnecting phase = is_in Disconnecting phase

-- both sides have agreed: segments that come are acted on, and the user may close the link
abbrev pub is_connected : Phase → Bool
is_connected Confirming = true
is_connected Running = true
is_connected phase = false

-- the user may hand messages in
abbrev pub takes_messages : Phase → Bool
takes_messages Calling = true
takes_messages phase = is_connected phase

-- a link in Called has no own address yet: one that has, and is seen so, is a call that its user gave up, and there is none for him
abbrev pub refused_in : Phase → LinkRefusal → LinkRefusal
refused_in Called refusal = NoLink
refused_in phase refusal = refusal

-- ---- addresses

-- this is known, and it is that number
abbrev pub is_at : Option ℕ → ℕ → Bool
is_at None number = false
is_at (Some known) number = known == number

abbrev pub has_both : Port → ℕ → ℕ → Bool
has_both port own far = is_at port.own own && is_at port.far far

-- ---- the tests

abbrev pub passes : LinkTest → Port → Bool
passes (HasAddress own) port = is_at port.own own
passes (LiveAt own) port = is_live port.phase && is_at port.own own
passes (TheLink own far) port = is_live port.phase && has_both port own far
passes (LiveTo far) port = is_live port.phase && is_at port.far far
passes (OpenedAt own) port = is_live port.phase && (port.opened && is_at port.own own)
passes (CallingAt own) port = is_in Calling port.phase && is_at port.own own
passes (CalledBy far) port = is_in Called port.phase && is_at port.far far
passes (BegunBy far) port = is_live port.phase && (not port.opened && is_at port.far far)
passes (ActedOn own far) port = is_connected port.phase && has_both port own far
