-- How the links of an end are found without a look at all that ever were. An end keeps each link that ever was at its number, and looks at those
-- that live.
use Rattle.std.specs.Prelude.{◌≡◌, ℕ, zero, suc, Bool, true, false, List, [], ◌∷◌, Option, Some, None, length, slice_get, if◌then◌else◌}
use Rattle.std.specs.List.{filter}
use Rattle.dna_links.specs.declared.port.LinkTest.{LinkTest}
use Rattle.dna_links.specs.declared.port.LinkTest.TheVariants.{HasAddress, LiveAt, TheLink, LiveTo, OpenedAt, CallingAt, CalledBy, BegunBy, ActedOn}
use Rattle.dna_links.specs.LookUps.{is_live}
use Rattle.dna_play.specs.LinkOwed.{Duty}
use Rattle.dna_play.specs.NextSent.{LinkEnd, LinkChoice, Confirms, OfLink, duty_of}
use Rattle.dna_play.specs.StoredEnd.{StoredLinks}

-- those that live, of all that ever were
abbrev pub live_ends : List LinkEnd → List LinkEnd
live_ends links = filter (λ (l : LinkEnd). is_live l.port.phase) links

abbrev pub live_of : StoredLinks → StoredLinks
live_of s = record s { links = live_ends s.links }

-- how many live in front of this number: the place among those that live
abbrev pub place_among : ℕ → List LinkEnd → ℕ
place_among zero links = 0
place_among (suc n) [] = 0
place_among (suc n) (link ∷ links) = if is_live link.port.phase then suc (place_among n links) else place_among n links

abbrev pub among_live : List LinkEnd → LinkChoice → LinkChoice
among_live links (Confirms confirm) = Confirms confirm
among_live links (OfLink number duty) = OfLink (place_among number links) duty

-- the link with this number lives
abbrev pub LivesAt : ℕ → StoredLinks → Type 0
LivesAt number s = (link : LinkEnd) → slice_get s.links number ≡ Some link → is_live link.port.phase ≡ true

-- no link that has ended passes
abbrev pub needs_life : LinkTest → Bool
needs_life (HasAddress own) = false
needs_life test = true

-- the own address that each link has which passes, or the far one
abbrev pub own_asked : LinkTest → Option ℕ
own_asked (HasAddress own) = Some own
own_asked (LiveAt own) = Some own
own_asked (TheLink own far) = Some own
own_asked (OpenedAt own) = Some own
own_asked (CallingAt own) = Some own
own_asked (ActedOn own far) = Some own
own_asked (LiveTo far) = None
own_asked (CalledBy far) = None
own_asked (BegunBy far) = None

abbrev pub far_asked : LinkTest → Option ℕ
far_asked (LiveTo far) = Some far
far_asked (CalledBy far) = Some far
far_asked (BegunBy far) = Some far
far_asked test = None

-- each link that has something to send is marked
abbrev pub AreMarked : List LinkEnd → (marks : List ℕ) → Type 0
AreMarked links marks = (number : ℕ) (link : LinkEnd) (duty : Duty) → slice_get links number ≡ Some link → duty_of link ≡ Some duty →
    slice_get marks number ≡ Some 1

pub record IsIndexed (links : List LinkEnd) (owns fars : (address number : ℕ) → Bool) (marks : List ℕ) : Type 0 where
  -- the addresses of each link are known beside its number
  pub own : (number address : ℕ) (link : LinkEnd) → slice_get links number ≡ Some link → link.port.own ≡ Some address → owns address number ≡ true
  pub far : (number address : ℕ) (link : LinkEnd) → slice_get links number ≡ Some link → link.port.far ≡ Some address → fars address number ≡ true
  pub marked : AreMarked links marks
  -- a link that has something to send lives
  pub lives : (number : ℕ) (link : LinkEnd) (duty : Duty) → slice_get links number ≡ Some link → duty_of link ≡ Some duty →
      is_live link.port.phase ≡ true
  -- each has a mark
  pub long : length marks ≡ length links
