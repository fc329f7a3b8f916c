-- What each step of a script makes of an end of the player, beside what is on the line to it; or why it can't be made.
use Rattle.std.specs.Prelude.{ℕ, ◌+◌, Bool, true, false, nat_lt, nat_le, ◌&&◌, if◌then◌else◌, Option, Some, None, List, [], ◌∷◌, length, map, Result}
use Rattle.std.specs.Prelude.{Ok, Err}
use Rattle.ddcmp_msg.specs.Message.{MessageValue}
use Rattle.ddcmp_msg.specs.Reading.{ReadingValue, reading, HeaderBad, DataBad}
use Rattle.ddcmp_msg.specs.Spelling.{spelling}
use Rattle.dna_packet.specs.Nsp.{NspValue, DataSegment}
use Rattle.capture_record.specs.declared.limit.TheConstants.{MAX_HINT, MAX_LINK, MAX_UNIT, MAX_MESSAGE}
use Rattle.capture_record.specs.declared.event.Event.{Event}
use Rattle.capture_record.specs.declared.event.Event.TheVariants as events
use Rattle.capture_record.specs.declared.fate.Fate.{Fate}
use Rattle.capture_record.specs.declared.fate.Fate.TheVariants.{NotKept, Kept, Dropped}
use Rattle.capture_record.specs.Fates.{is_kept, is_met}
use Rattle.capture_record.specs.declared.record.Record.{Record}
use Rattle.capture_record.specs.declared.record.Record.TheVariants.{Sent, Received, User}
use Rattle.capture_record.specs.declared.record.Record.TheVariants as recorded
use Rattle.dna_station.specs.declared.state.StationEvent.TheVariants as station_events
use Rattle.dna_station.specs.declared.refusal.StationRefusal.{StationRefusal}
use Rattle.dna_links.specs.declared.port.Phase.TheVariants.{Confirming, Disconnecting}
use Rattle.dna_links.specs.declared.port.LinkTest.TheVariants.{LiveAt, CalledBy}
use Rattle.dna_station.specs.Table.{user_refusal}
use Rattle.dna_links.specs.LookUps.{is_calling, is_connected, takes_messages}
use Rattle.dna_play.specs.Script.{StepValue, Start, Halt, Boot, Timer, Send, Deliver, Refuse, Drop, Lose, Damage, Noise, Open, Accept, Reject, In}
use Rattle.dna_play.specs.Script.{Close, Abort, Retry}
use Rattle.dna_play.specs.Owed.{Debt, OwesStrt, timer_debt}
use Rattle.dna_play.specs.LinkOwed.{LinkOwed, ConfirmDuty, DisconnectDuty, retried}
use Rattle.dna_play.specs.NextSent.{LinkEnd, Choice, SendNew, link_choice, choice}
use Rattle.dna_play.specs.Compose.{message_of}
use Rattle.dna_play.specs.Stop.{Stop, BadStep, Full}
use Rattle.dna_play.specs.Receipt.{carried, is_damage, damaged}
use Rattle.dna_play.specs.StoredEnd.{StoredStation, StoredLinks, StoredEnd, no_stored_links}
use Rattle.dna_play.specs.StoredStation as stations
use Rattle.dna_play.specs.StoredLinks.{Delivering, delivering_none, arrives, with_end, changed, ended, begun, opened, answered, handed, closed}
use Rattle.dna_play.specs.StoredLinks as of_links

-- What a step makes of an end: the end after it, the units that it sends, and the records that it adds to that end's capture
pub record StoredStepped : Type 0 where
  pub end : StoredEnd
  pub sent : List (List ℕ)
  pub records : List Record

abbrev pub silent : StoredEnd → Result StoredStepped Stop
silent e = Ok (record { end = e; sent = []; records = [] })

abbrev pub made : Event → StoredEnd → Result StoredStepped Stop
made event e = Ok (record { end = e; sent = []; records = User event ∷ [] })

abbrev pub with_links : StoredLinks → StoredEnd → StoredEnd
with_links links e = record e { links = links }

abbrev pub with_station : StoredStation → StoredEnd → StoredEnd
with_station station e = record e { station = station }

-- ---- the user

abbrev pub unless_refused : Option StationRefusal → Result StoredStepped Stop → Result StoredStepped Stop
unless_refused None next = next
unless_refused (Some refusal) next = Err BadStep

-- in HALTED
abbrev pub starts : StoredEnd → Result StoredStepped Stop
starts e = unless_refused (user_refusal e.station.variables.state station_events.Start)
    (made events.Start (with_station (stations.owing (Some OwesStrt) (stations.after_event station_events.Start e.station)) e))

abbrev pub halts : StoredEnd → Result StoredStepped Stop
halts e = made events.Halt (with_station (stations.after_event station_events.Halt e.station) e)

-- the node starts anew: its station is halted, it has no links and owes them nothing, and no address is given
abbrev pub boots : StoredEnd → Result StoredStepped Stop
boots e = made events.Boot
    (record e { station = stations.after_event station_events.Halt e.station; links = no_stored_links; addresses = 0 })

-- with the next address, if one is left
abbrev pub giving : StoredEnd → (StoredEnd → (address : ℕ) → Result StoredStepped Stop) → Result StoredStepped Stop
giving e next = if nat_lt e.addresses MAX_LINK then next (record e { addresses = e.addresses + 1 }) (e.addresses + 1) else Err Full

abbrev pub opens : StoredEnd → Result StoredStepped Stop
opens e = giving e (λ end address. made (events.Open address) (with_links (begun (opened address) e.links) end))

-- the link that calls from this address; its answer gets the next address
abbrev pub answers : StoredEnd → (partner : ℕ) → ((address : ℕ) → LinkEnd → LinkEnd) → ((address : ℕ) → Event) → Result StoredStepped Stop
answers e partner change event = with_end (CalledBy partner) e.links (Err BadStep)
    (λ place link. giving e (λ end address. made (event address) (with_links (changed place (change address link) e.links) end)))

abbrev pub accepts : StoredEnd → (partner : ℕ) → Result StoredStepped Stop
accepts e partner = answers e partner (answered Confirming ConfirmDuty) (events.Accept partner)

abbrev pub rejects : StoredEnd → (partner : ℕ) → Result StoredStepped Stop
rejects e partner = answers e partner (answered Disconnecting DisconnectDuty) (events.Reject partner)

-- a link in a phase of this kind; and a message that has a line
abbrev pub if_so : Bool → Result StoredStepped Stop → Result StoredStepped Stop
if_so true next = next
if_so false next = Err BadStep

abbrev pub hands_in : StoredEnd → (own : ℕ) → (message : List ℕ) → Result StoredStepped Stop
hands_in e own message = with_end (LiveAt own) e.links (Err BadStep) (λ place link.
    if_so (takes_messages link.port.phase && nat_le (length message) MAX_MESSAGE)
    (made (events.In own message) (with_links (changed place (handed message link) e.links) e)))

abbrev pub closes : StoredEnd → (own : ℕ) → Result StoredStepped Stop
closes e own = with_end (LiveAt own) e.links (Err BadStep) (λ place link.
    if_so (is_connected link.port.phase) (made (events.Close own) (with_links (changed place (closed link) e.links) e)))

-- a call of its own, to which no answer came, is given up: the link is over
abbrev pub aborts : StoredEnd → (own : ℕ) → Result StoredStepped Stop
aborts e own = with_end (LiveAt own) e.links (Err BadStep) (λ place link.
    if_so (is_calling link.port.phase) (made (events.Abort own) (with_links (ended place e.links) e)))

-- ---- timers

abbrev pub timed : StoredEnd → Option Debt → Result StoredStepped Stop
timed e None = Err BadStep
timed e (Some debt) = silent (with_station (stations.owing (Some debt) e.station) e)

abbrev pub times_out : StoredEnd → Result StoredStepped Stop
times_out e = timed e (timer_debt e.station.variables.state e.station.variables)

abbrev pub retrying : StoredEnd → ℕ → LinkEnd → Option (LinkOwed → LinkOwed) → Result StoredStepped Stop
retrying e place link None = Err BadStep
retrying e place link (Some change) = silent (with_links (changed place (record link { owed = change link.owed }) e.links) e)

abbrev pub retries : StoredEnd → (own : ℕ) → Result StoredStepped Stop
retries e own = with_end (LiveAt own) e.links (Err BadStep) (λ place link. retrying e place link (retried link.port.phase))

-- ---- sending

abbrev pub links_sent : Choice → StoredLinks → StoredLinks
links_sent (SendNew message) s = of_links.after_sent message s
links_sent next s = s

abbrev pub sends_message : StoredEnd → Choice → Option MessageValue → Result StoredStepped Stop
sends_message e next None = Err BadStep
sends_message e next (Some m) = Ok (record {
  end = record e { station = stations.after_sent next m e.station; links = links_sent next e.links };
  sent = spelling m ∷ [];
  records = Sent (spelling m) ∷ [];
})

abbrev pub sends_choice : StoredEnd → Option Choice → Result StoredStepped Stop
sends_choice e None = Err BadStep
sends_choice e (Some next) = sends_message e next (message_of next e.head e.station.variables e.links.links)

abbrev pub sends : StoredEnd → Result StoredStepped Stop
sends e = sends_choice e (choice e.station.variables e.station.owed (link_choice e.links.confirms e.links.links))

-- ---- what comes

-- the links, where the packet was kept and has a message of them
abbrev pub arrived : Option NspValue → StoredLinks → Delivering
arrived None s = delivering_none s
arrived (Some m) s = arrives m s

-- the own address of a segment's link
abbrev pub up_address : Option NspValue → ℕ
up_address (Some (DataSegment segment)) = segment.dstaddr
up_address m = 0

abbrev pub ups : (own : ℕ) → List (List ℕ) → List Record
ups own messages = map (λ (message : List ℕ). User (events.Up own message)) messages

-- each has a line
abbrev pub all_short : List (List ℕ) → Bool
all_short [] = true
all_short (message ∷ later) = nat_le (length message) MAX_MESSAGE && all_short later

abbrev pub came_as : StoredEnd → Record → StoredStation → (own : ℕ) → Delivering → Result StoredStepped Stop
came_as e r station own delivering = if all_short delivering.messages then Ok (record {
  end = record e { station = station; links = delivering.links; passed = e.passed + 1 };
  sent = [];
  records = r ∷ ups own delivering.messages;
}) else Err BadStep

-- the links meet it where it was not lost before them
abbrev pub receives : StoredEnd → List ℕ → ReadingValue → Fate → Result StoredStepped Stop
receives e bytes read fate = if nat_le e.passed MAX_HINT
    then came_as e (Received e.passed fate bytes) (stations.after_arrival read (is_kept fate) e.station) (up_address (carried (is_met fate) read))
    (arrived (carried (is_met fate) read) e.links)
    else Err BadStep

abbrev pub kept_or_not : (kept : Bool) → Fate
kept_or_not true = Kept
kept_or_not false = NotKept

abbrev pub comes : StoredEnd → (buffer : Bool) → List ℕ → Result StoredStepped Stop
comes e buffer bytes = receives e bytes (reading bytes) (kept_or_not (stations.keeps buffer (reading bytes) e.station))

-- its packet is kept, and lost before the links; where it can't be taken it can't
abbrev pub drops : StoredEnd → List ℕ → Result StoredStepped Stop
drops e bytes = if_so (stations.can_keep (reading bytes) e.station) (receives e bytes (reading bytes) Dropped)

-- no script has so many steps that its units pass the last hint
abbrev pub loses : StoredEnd → Result StoredStepped Stop
loses e = if nat_le e.passed MAX_HINT then silent (record e { passed = e.passed + 1 }) else Err BadStep

abbrev pub comes_damaged : StoredEnd → (place value : ℕ) → List ℕ → Result StoredStepped Stop
comes_damaged e place value bytes = if is_damage place value bytes then comes e true (damaged place value bytes) else Err BadStep

-- bytes that nobody sent
abbrev pub heard : StoredEnd → List ℕ → ReadingValue → Result StoredStepped Stop
heard e bytes read =
    Ok (record { end = with_station (stations.after_arrival read false e.station) e; sent = []; records = recorded.Noise bytes ∷ [] })

-- a block check shows that they are damaged, else it can't; and they have a line
abbrev pub hears_as : StoredEnd → List ℕ → ReadingValue → Result StoredStepped Stop
hears_as e bytes HeaderBad = heard e bytes HeaderBad
hears_as e bytes DataBad = heard e bytes DataBad
hears_as e bytes read = Err BadStep

abbrev pub hears : StoredEnd → List ℕ → ReadingValue → Result StoredStepped Stop
hears e bytes read = if_so (nat_le (length bytes) MAX_UNIT) (hears_as e bytes read)

-- the next unit on the line, else it can't
abbrev pub with_next : List (List ℕ) → (List ℕ → Result StoredStepped Stop) → Result StoredStepped Stop
with_next [] next = Err BadStep
with_next (bytes ∷ later) next = next bytes

-- ---- the steps

unfoldable pub stored_plays : StoredEnd → (coming : List (List ℕ)) → StepValue → Result StoredStepped Stop
stored_plays e coming Start = starts e
stored_plays e coming Halt = halts e
stored_plays e coming Boot = boots e
stored_plays e coming Timer = times_out e
stored_plays e coming Send = sends e
stored_plays e coming Deliver = with_next coming (comes e true)
stored_plays e coming Refuse = with_next coming (comes e false)
stored_plays e coming Drop = with_next coming (drops e)
stored_plays e coming Lose = with_next coming (λ bytes. loses e)
stored_plays e coming (Damage place value) = with_next coming (comes_damaged e place value)
stored_plays e coming (Noise bytes) = hears e bytes (reading bytes)
stored_plays e coming Open = opens e
stored_plays e coming (Accept partner) = accepts e partner
stored_plays e coming (Reject partner) = rejects e partner
stored_plays e coming (In link message) = hands_in e link message
stored_plays e coming (Close link) = closes e link
stored_plays e coming (Abort link) = aborts e link
stored_plays e coming (Retry link) = retries e link
