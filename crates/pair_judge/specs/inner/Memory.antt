-- Which records may take memory, and so find that there is none.
use Rattle.std.specs.Prelude.{◌≡◌, Bool, true, false, Option, Some, None, IsOk}
use Rattle.ddcmp_msg.specs.Reading.{ReadingValue, reading, Sound, HeaderBad, DataBad, Malformed}
use Rattle.capture_record.specs.declared.record.Record.{Record}
use Rattle.capture_record.specs.declared.record.Record.TheVariants.{Sent, Received, Noise, User}
use Rattle.capture_record.specs.declared.event.Event.{Event}
use Rattle.capture_record.specs.declared.event.Event.TheVariants.{Composed}
use Rattle.capture_record.specs.declared.fate.Fate.{Fate}
use Rattle.capture_record.specs.Fates.{is_met}
use Rattle.dna_node.specs.Content.{link_event}
use Rattle.dna_links.specs.User.{LinkEventValue}
use Rattle.dna_station.specs.Machine.{Machine}
use Rattle.dna_station.specs.WireBook.{wire_sending_refusal}
use Rattle.dna_node.specs.WireLayers.{LayersTag, WireLayers}
use Rattle.nsp_link.specs.Phases.{event_takes_memory}
use Rattle.pair_judge.specs.declared.step_fault.StepFault.{StepFault}
use Rattle.pair_judge.specs.declared.step_fault.StepFault.TheVariants.{Refused, OutOfMemory}
use Rattle.pair_judge.specs.Counting.{shows_damage}

-- a fact of want of memory, where that is answered
abbrev pub IfNoMemory : Type 0 → StepFault → Type 0
IfNoMemory P (Refused refusal) = Unit {0}
IfNoMemory P OutOfMemory = P

-- a message that the station may send: for its unit on the line, for a new packet, and for the piece in that
abbrev pub MaySend : WireLayers → ReadingValue → Type 0
MaySend s (Sound message) = wire_sending_refusal s.station message ≡ None
MaySend s HeaderBad = ⊥
MaySend s DataBad = ⊥
MaySend s (Malformed departure) = ⊥

-- what shows no damage and is met by the links: for the link that its packet begins, or the piece in that
abbrev pub MayKeep : Fate → (damaged : Bool) → Type 0
MayKeep fate damaged = (is_met fate ≡ true) × (damaged ≡ false)

module _ (machine : Machine WireLayers LayersTag) where
  -- an event that a node of this machine allows, and that begins a link, gives it an address or hands a message in
  abbrev pub MayEnter : WireLayers → Event → Option LinkEventValue → Type 0
  MayEnter s event None = ⊥
  MayEnter s event (Some of_links) = IsOk (machine.user s event) × (event_takes_memory of_links ≡ true)

  -- so may a packet that it composes, for the piece in that
  abbrev pub MayHappen : WireLayers → Event → Type 0
  MayHappen s (Composed packet) = Unit {0}
  MayHappen s event = MayEnter s event (link_event event)

  -- no other record does: not a start, halt, delivery or close, not noise, not a receipt that is damaged or not met, and no event that
  -- breaks a rule
  abbrev pub MayTakeMemory : WireLayers → Record → Type 0
  MayTakeMemory s (Sent bytes) = MaySend s (reading bytes)
  MayTakeMemory s (Received hint fate bytes) = MayKeep fate (shows_damage (reading bytes))
  MayTakeMemory s (Noise bytes) = ⊥
  MayTakeMemory s (User event) = MayHappen s event
