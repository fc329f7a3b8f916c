-- The records of one end, as its links meet them, and what the links with queues make of each.
use Rattle.std.specs.Prelude.{◌≡◌, ℕ, List, [], ◌∷◌, Some, slice_get, Result, Ok, Err}
use Rattle.dna_packet.specs.Nsp.{IsInRange}
use Rattle.dna_station.specs.declared.link_refusal.LinkRefusal.{LinkRefusal}
use Rattle.dna_links.specs.declared.queue.Queues.TheVariants.{Without, With}
use Rattle.dna_links.specs.Links.{LinkOf, Carried}
use Rattle.dna_links.specs.User.{LinkEventValue, Abort}
use Rattle.dna_links.specs.User as user
use Rattle.dna_links.specs.LinkBook.{on_ok}
use Rattle.dna_links.specs.Sending.{Sent}
use Rattle.dna_links.specs.Arriving.{of_partner}
use Rattle.dna_links.specs.TrueSegments.{TrueSegments, Numbers}
use Rattle.dna_links.specs.CutSegments.{IsAnswered}
use Rattle.dna_links.specs.CutLinks.{ArrivesNear}
use Rattle.dna_links.specs.TrueLinks.{Links, links_user, links_sent, links_arrived}
use Rattle.dna_links.specs.Runs.{SentMessage}

pub data LinkRecord : Type 0 where
  -- the user of the links does something
  OfUser : (event : LinkEventValue) → LinkRecord
  -- a packet with a message of the links is first sent
  Sends : (packet : Carried) → LinkRecord
  -- one is kept, with what is true of its message
  Keeps : (unit : SentMessage) → LinkRecord
  -- any other record
  OfNoLink : LinkRecord

-- ---- what links with queues make of it, in one pass

abbrev pub links_left : Result (Sent TrueSegments Numbers) LinkRefusal → Result Links LinkRefusal
links_left (Ok made) = Ok made.links
links_left (Err refusal) = Err refusal

abbrev pub next_links : Links → LinkRecord → Result Links LinkRefusal
next_links s (OfUser event) = links_user With s event
next_links s (Sends packet) = links_left (links_sent With s packet)
next_links s (Keeps unit) = links_arrived With of_partner s unit.packet unit.truth
next_links s OfNoLink = Ok s

abbrev pub MadeByMachine : Links → List LinkRecord → Type 0
MadeByMachine s [] = Unit {0}
MadeByMachine s (one ∷ later) = (left : Links) × (next_links s one ≡ Ok left) × MadeByMachine left later

-- what they come to, or the first refusal
abbrev pub left_by_machine : Links → List LinkRecord → Result Links LinkRefusal
left_by_machine s [] = Ok s
left_by_machine s (one ∷ later) = on_ok (next_links s one) (λ left. left_by_machine left later)

-- ---- what links without queues make of them

abbrev pub made_without : Links → List LinkRecord → Result Links LinkRefusal
made_without s [] = Ok s
made_without s (OfUser event ∷ later) = on_ok (links_user Without s event) (λ left. made_without left later)
made_without s (Sends packet ∷ later) = on_ok (links_left (links_sent Without s packet)) (λ left. made_without left later)
made_without s (Keeps unit ∷ later) = on_ok (links_arrived Without of_partner s unit.packet unit.truth) (λ left. made_without left later)
made_without s (OfNoLink ∷ later) = made_without s later

-- what is sent has fields in range, as any message that has bytes
abbrev pub AreInRange : List LinkRecord → Type 0
AreInRange [] = Unit {0}
AreInRange (Sends packet ∷ later) = IsInRange packet.message × AreInRange later
AreInRange (other ∷ later) = AreInRange later

-- and so has what the user does: addresses are from 1, which a DC with SRCADDR 0 relies on
abbrev pub EventsAreInRange : List LinkRecord → Type 0
EventsAreInRange [] = Unit {0}
EventsAreInRange (OfUser event ∷ later) = user.IsInRange event × EventsAreInRange later
EventsAreInRange (other ∷ later) = EventsAreInRange later

-- No call is given up. With queues the machine takes a call for answered once the answer is kept, and the node only once it acts on that: so the node
-- may give up a call, and send its CI after that, where the machine refuses both
abbrev pub IsNoAbort : LinkRecord → Type 0
IsNoAbort (OfUser (Abort own)) = ⊥
IsNoAbort one = Unit {0}

abbrev pub NoneGivesUp : List LinkRecord → Type 0
NoneGivesUp [] = Unit {0}
NoneGivesUp (one ∷ later) = IsNoAbort one × NoneGivesUp later

-- ---- what holds of these numbers beside a right other end

-- Each number that came is near the numbers of the link that acts on it: no acknowledgement is of a segment that was not sent yet, and the highest
-- received is at most 2,047 above the last acknowledgement sent. In each run of both ends this is so (`links_within_bounds`); of one end alone it
-- has to be asked
abbrev pub AreAnswered : Links → Type 0
AreAnswered s = (i : ℕ) (link : LinkOf TrueSegments) → slice_get s.links i ≡ Some link → IsAnswered link.segments

abbrev pub IsNear : Links → LinkRecord → Type 0
IsNear s (Keeps unit) = ArrivesNear of_partner s unit.packet.message unit.truth
IsNear s record_of_own = Unit {0}

abbrev pub AreNear : Links → List LinkRecord → Type 0
AreNear s [] = AreAnswered s
AreNear s (one ∷ later) = AreAnswered s × IsNear s one × ((left : Links) → next_links s one ≡ Ok left → AreNear left later)
