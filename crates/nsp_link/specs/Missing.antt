-- What is shown of a link that is asked for and that there is not; and the refusal in an answer, if it is one.
use Rattle.std.specs.Prelude.{ℕ, Bool, false, Option, Some, None, is_some, Result, Ok, Err}
use Rattle.dna_links.specs.declared.port.LinkTest.{LinkTest}
use Rattle.dna_links.specs.declared.port.LinkTest.TheVariants.{HasAddress, LiveAt, TheLink, LiveTo, OpenedAt, CallingAt, CalledBy, BegunBy, ActedOn}
use Rattle.dna_links.specs.Links.{number_of}
use Rattle.dna_links.specs.WireLinks.{WireLinks}
use Rattle.nsp_link.specs.declared.failed.MissingLink.{MissingLink}

-- the own address that a test asks for, and the far one
abbrev pub own_in : LinkTest → Option ℕ
own_in (HasAddress own) = Some own
own_in (LiveAt own) = Some own
own_in (TheLink own far) = Some own
own_in (LiveTo far) = None
own_in (OpenedAt own) = Some own
own_in (CallingAt own) = Some own
own_in (CalledBy far) = None
own_in (BegunBy far) = None
own_in (ActedOn own far) = Some own

abbrev pub far_in : LinkTest → Option ℕ
far_in (HasAddress own) = None
far_in (LiveAt own) = None
far_in (TheLink own far) = Some far
far_in (LiveTo far) = Some far
far_in (OpenedAt own) = None
far_in (CallingAt own) = None
far_in (CalledBy far) = Some far
far_in (BegunBy far) = Some far
far_in (ActedOn own far) = Some far

abbrev pub live_at : WireLinks → Option ℕ → Option ℕ
live_at s None = None
live_at s (Some own) = number_of (LiveAt own) s

abbrev pub is_live_to : WireLinks → Option ℕ → Bool
is_live_to s None = false
is_live_to s (Some far) = is_some (number_of (LiveTo far) s)

abbrev pub missing : LinkTest → WireLinks → MissingLink
missing test s = record { wanted = test; with_own = live_at s (own_in test); with_far = is_live_to s (far_in test) }

abbrev pub refusal_in : {R E : Type 0} → Result R E → Option E
refusal_in (Ok made) = None
refusal_in (Err refusal) = Some refusal
