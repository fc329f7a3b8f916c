-- The user names links from 1 on, so no link has the address 0.
use Rattle.accusing_links.proofs.Prelude.{◌≡◌, ℕ, ◌≤◌, Bool, true, false, not, eqb, Option, Some, None, refl, arith, EventNumbersFit, Event}
use Rattle.accusing_links.proofs.Prelude.{LinkEventValue, Open, Accept, Reject, link_event}
use Rattle.std.proofs.Common.{eqb-true}
use Rattle.capture_record.specs.declared.event.Event.TheVariants as events

abbrev pub IsAddress : ℕ → Type 0
IsAddress own = not (eqb own 0) ≡ true

-- the address that a link gets by this event
abbrev pub NamesOwn : LinkEventValue → Type 0
NamesOwn (Open own) = IsAddress own
NamesOwn (Accept far own) = IsAddress own
NamesOwn (Reject far own) = IsAddress own
NamesOwn event = Unit {0}

abbrev pub NamesIn : Option LinkEventValue → Type 0
NamesIn None = Unit {0}
NamesIn (Some event) = NamesOwn event

from_one : (own : ℕ) → 1 ≤ own → IsAddress own
from_one own least = go (eqb own 0) refl
  where
    go : (b : Bool) → eqb own 0 ≡ b → not b ≡ true
    go true e = let none = eqb-true own 0 e in absurd (omega (arith, least, none))
    go false e = refl

pub names_in : (event : Event) → EventNumbersFit event → NamesIn (link_event event)
names_in events.Start fits = tt
names_in events.Halt fits = tt
names_in (events.Open link) fits = from_one link fits.least
names_in (events.Accept partner link) fits = from_one link fits.1.least
names_in (events.Reject partner link) fits = from_one link fits.1.least
names_in (events.In link message) fits = tt
names_in (events.Up link message) fits = tt
names_in (events.Close link) fits = tt
names_in events.Boot fits = tt
names_in (events.Abort link) fits = tt
names_in (events.Composed packet) fits = tt
names_in (events.Interrupt link message) fits = tt
names_in (events.Interrupted link message) fits = tt
