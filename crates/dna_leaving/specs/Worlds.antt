-- What is left of both ends: of their links, of what each sent, and of a run of them.
use Rattle.std.specs.Prelude.{◌≡◌, ℕ, ◌≤◌, true, not, if◌then◌else◌, Option, Some, None, List, [], ◌∷◌, map, length, slice_get}
use Rattle.dna_links.specs.declared.queue.Queues.{Queues}
use Rattle.dna_links.specs.User.{LinkEventValue}
use Rattle.dna_links.specs.User as user
use Rattle.dna_links.specs.TrueSegments.{Numbers}
use Rattle.dna_links.specs.Runs.{SentMessage, LinkSide, LinkWorld, LinkStep, Reached, Start, ByA, ByB}
use Rattle.dna_links.specs.Runs as runs
use Rattle.dna_leaving.specs.Marks.{Marks, and_then}
use Rattle.dna_leaving.specs.Records.{LinkRecord, OfUser, Sends, Keeps, OfNoLink}
use Rattle.dna_leaving.specs.LeftOut.{LeftOut, event_out, message_out, is_out}
use Rattle.dna_leaving.specs.Left.{Judged, links_left, truth_left}
use Rattle.dna_leaving.specs.Right.{EventBinds}

-- ---- the other end

abbrev pub other_out : LeftOut → LeftOut
other_out out = record { own = out.far; far = out.own }

abbrev pub other_judged : Judged → Judged
other_judged judged = record { here = judged.there; there = judged.here }

-- ---- what is left of a side

-- a packet of a message that is left out has no message of the links
abbrev pub message_left : LeftOut → Judged → Option SentMessage → Option SentMessage
message_left out judged None = None
message_left out judged (Some unit) =
    if message_out out unit.packet.message then None else Some (record unit { truth = truth_left judged.here judged.there unit.truth })

abbrev pub side_left : LeftOut → Judged → LinkSide → LinkSide
side_left out judged own = record { links = links_left judged own.links; sent = map (message_left out judged) own.sent; front = own.front }

-- of side a this is left out and judged, and of side b as its other end
abbrev pub world_left : LeftOut → Judged → LinkWorld → LinkWorld
world_left out judged w = record { a = side_left out judged w.a; b = side_left (other_out out) (other_judged judged) w.b }

abbrev pub events_left : LeftOut → List LinkEventValue → List LinkEventValue
events_left out [] = []
events_left out (event ∷ events) = if event_out out event then events_left out events else event ∷ events_left out events

-- each event is in range, and none binds a judged address to one that is left out
abbrev pub AreBound : LeftOut → List LinkEventValue → Type 0
AreBound out [] = Unit {0}
AreBound out (event ∷ events) = (user.IsInRange event × EventBinds out event) × AreBound out events

-- ---- which links are judged

abbrev pub record_of : {queues : Queues} {own other left : LinkSide} {events : List LinkEventValue} → LinkStep queues own other events left →
    LinkRecord Numbers
record_of (runs.ByUser event links e) = OfUser event
record_of (runs.Sends packet made e) = Sends packet
record_of runs.SendsNone = OfNoLink
record_of (runs.Composes packet made e) = Sends packet
record_of (runs.Keeps place unit links after there e) = Keeps unit.packet unit.truth
record_of (runs.Passes place after there) = OfNoLink

-- a link that a step begins is judged where the step's record is
abbrev pub marks_of_a : {queues : Queues} {start w : LinkWorld} {of_a of_b : List LinkEventValue} → LeftOut → Reached queues start w of_a of_b →
    Marks
marks_of_a out Start n = true
marks_of_a out (ByA {w = w} run step) n = and_then (marks_of_a out run) (length w.a.links.links) (not (is_out out (record_of step))) n
marks_of_a out (ByB run step) n = marks_of_a out run n

abbrev pub marks_of_b : {queues : Queues} {start w : LinkWorld} {of_a of_b : List LinkEventValue} → LeftOut → Reached queues start w of_a of_b →
    Marks
marks_of_b out Start n = true
marks_of_b out (ByA run step) n = marks_of_b out run n
marks_of_b out (ByB {w = w} run step) n =
    and_then (marks_of_b out run) (length w.b.links.links) (not (is_out (other_out out) (record_of step))) n

abbrev pub judged_of_run : {queues : Queues} {start w : LinkWorld} {of_a of_b : List LinkEventValue} → LeftOut → Reached queues start w of_a of_b →
    Judged
judged_of_run out run = record { here = marks_of_a out run; there = marks_of_b out run }

-- ---- what may be next

-- A record of this side beside the other that may be next: an event, a packet that is to be sent, or one that the other end sent and that may be
-- kept
abbrev pub MayBeNext : (own other : LinkSide) → LeftOut → LinkRecord Numbers → Type 0
MayBeNext own other out (OfUser event) = user.IsInRange event × EventBinds out event
MayBeNext own other out (Sends packet) = Unit {0}
MayBeNext own other out (Keeps packet truth) =
    (place : ℕ) × (own.front ≤ place) × (slice_get other.sent place ≡ Some (Some (record { packet = packet; truth = truth })))
MayBeNext own other out OfNoLink = Unit {0}
