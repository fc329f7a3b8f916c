-- One end alone: its node makes the records of its capture without the other one. What came is taken as what the other end sent: the line gives what
-- is in the receipt, and the node goes by none of the two rules that ask what no byte tells. A record that can't be made so is in no run.
use Rattle.std.specs.Prelude.{◌≡◌, ℕ, ◌+◌, Bool, true, false, Option, Some, None, Result, Ok, Err, List, [], ◌∷◌, if◌then◌else◌, nat_lt}
use Rattle.ddcmp_msg.specs.Message.{MessageValue}
use Rattle.ddcmp_msg.specs.Reading.{ReadingValue, reading, Malformed}
use Rattle.ddcmp_msg.specs.Reading as read
use Rattle.capture_record.specs.declared.fate.Fate.{Fate}
use Rattle.capture_record.specs.declared.fate.Fate.TheVariants.{NotKept}
use Rattle.capture_record.specs.Fates.{is_met}
use Rattle.capture_record.specs.declared.record.Record.{Record}
use Rattle.capture_record.specs.declared.record.Record.TheVariants.{Sent, Received, Noise, User}
use Rattle.dna_station.specs.declared.head.Head.{Head}
use Rattle.dna_station.specs.declared.tag.Tag.{Tag}
use Rattle.dna_links.specs.declared.queue.Queues.{Queues}
use Rattle.dna_links.specs.declared.queue.Queues.TheVariants.{Without}
use Rattle.dna_links.specs.declared.tag.LinkTag.{LinkTag}
use Rattle.dna_station.specs.declared.refusal.StationRefusal.TheVariants.{CrossedPeriod}
use Rattle.dna_station.specs.declared.refusal.StepRefusal.{StepRefusal}
use Rattle.dna_station.specs.declared.refusal.StepRefusal.TheVariants.{NotAMessage, HintOrder, Undetected, Station as OfStation, Links as OfLinks}
use Rattle.dna_station.specs.declared.link_refusal.LinkRefusal.TheVariants.{CrossedLink}
use Rattle.dna_station.specs.Book.{Sound, HeaderBad, DataBad}
use Rattle.dna_station.specs.Line.{damage}
use Rattle.dna_station.specs.Machine.{Machine, NodeOf, noise_comes}
use Rattle.dna_station.specs.PeriodRule.{of_any_period}
use Rattle.dna_station.specs.WireStation.{WireStation}
use Rattle.dna_station.specs.WireNode.{WireNode, wire_machine, new_wire_node}
use Rattle.dna_node.specs.TagRules.{by_bytes_with}
use Rattle.dna_node.specs.WireLayers.{WireLayers, LayersTag, WireLayersNode, of_no_link, wire_layers_machine, new_wire_layers_node}
use Rattle.dna_node.specs.Accusing.{wrong_unit, wrong_taken, wrong_response_of}

-- who broke a rule
pub data Accused : Type 0 where
  ThisEnd : Accused
  OtherEnd : Accused

-- What becomes of a record: it is made and leaves this node, or it can't be, for this reason
pub data StepAlone (S : Type 0) : Type 0 where
  Makes : (node : NodeOf S) → StepAlone S
  Refuses : (accused : Accused) (reason : StepRefusal) → StepAlone S

-- One end over any machine, with what it takes as known of each unit, and what accuses the other end: of a unit that comes, and of a packet that
-- is taken
pub record EndOf (S K : Type 0) : Type 0 where
  pub machine : Machine S K
  pub unknown : K
  pub wrong_unit : S → MessageValue → Option StepRefusal
  pub wrong_taken : S → MessageValue → Option StepRefusal

-- What the links refuse of a packet that comes goes between other nodes, and so is the other end's
abbrev pub accused_by : StepRefusal → Accused
accused_by (OfLinks refusal) = OtherEnd
accused_by refusal = ThisEnd

-- so of a record
abbrev pub accused_of : Record → StepRefusal → Accused
accused_of (Received hint fate bytes) refusal = accused_by refusal
accused_of (Sent bytes) refusal = ThisEnd
accused_of (Noise bytes) refusal = ThisEnd
accused_of (User event) refusal = ThisEnd

module _ {S : Type 0} where
  abbrev pub does : NodeOf S → Result S StepRefusal → StepAlone S
  does n (Ok s) = Makes (record n { station = s })
  does n (Err refusal) = Refuses ThisEnd refusal

  -- what is known of a unit that this end sends goes nowhere
  abbrev pub sends : {K : Type 0} → NodeOf S → Result (S × K) StepRefusal → StepAlone S
  sends n (Ok after) = Makes (record n { station = after.0 })
  sends n (Err refusal) = Refuses ThisEnd refusal

  -- what came is met, and the front goes on to this one
  abbrev pub meets : NodeOf S → (front : ℕ) → Result S StepRefusal → StepAlone S
  meets n front (Ok s) = Makes (record n { station = s; front = front })
  meets n front (Err refusal) = Refuses (accused_by refusal) refusal

  -- unless the other end is accused
  abbrev pub unless_wrong : Option StepRefusal → StepAlone S → StepAlone S
  unless_wrong None made = made
  unless_wrong (Some reason) made = Refuses OtherEnd reason

  -- what the end made of it comes first
  abbrev pub then_unless_wrong : Option StepRefusal → StepAlone S → StepAlone S
  then_unless_wrong wrong (Makes n) = unless_wrong wrong (Makes n)
  then_unless_wrong wrong (Refuses accused reason) = Refuses accused reason

-- asked of what the links meet
abbrev pub if_met : Bool → Option StepRefusal → Option StepRefusal
if_met true wrong = wrong
if_met false wrong = None

module _ {S K : Type 0} (one : EndOf S K) where
  abbrev pub sent_alone : NodeOf S → ReadingValue → StepAlone S
  sent_alone n (read.Sound m) = sends n (one.machine.sends n.station m)
  sent_alone n bad = Refuses ThisEnd NotAMessage

  abbrev pub sound_comes : NodeOf S → (front : ℕ) → Fate → MessageValue → StepAlone S
  sound_comes n front fate m =
      unless_wrong (one.wrong_unit n.station m)
      (then_unless_wrong (if_met (is_met fate) (one.wrong_taken n.station m))
      (meets n front (one.machine.arrives n.station (Sound m one.unknown) fate)))

  -- bytes with good checks that are no message are not damage: the other end sent them (1)
  abbrev pub comes_alone : NodeOf S → (front : ℕ) → Fate → ReadingValue → StepAlone S
  comes_alone n front fate (read.Sound m) = sound_comes n front fate m
  comes_alone n front fate read.HeaderBad = meets n front (one.machine.arrives n.station HeaderBad fate)
  comes_alone n front fate read.DataBad = meets n front (one.machine.arrives n.station DataBad fate)
  comes_alone n front fate (Malformed departure) = Refuses OtherEnd NotAMessage

  abbrev pub receives_alone : NodeOf S → ℕ → Fate → ReadingValue → StepAlone S
  receives_alone n hint fate bytes = if nat_lt hint n.front then Refuses ThisEnd HintOrder else comes_alone n (hint + 1) fate bytes

  abbrev pub step_alone : NodeOf S → Record → StepAlone S
  step_alone n (Sent bytes) = sent_alone n (reading bytes)
  step_alone n (Received hint fate bytes) = receives_alone n hint fate (reading bytes)
  step_alone n (Noise bytes) = does n (noise_comes one.machine n.station (damage (reading bytes)))
  step_alone n (User event) = does n (one.machine.user n.station event)

-- ---- all records of a capture

-- What becomes of records one after another: all are made, and leave this node; or the one at this place, counted from 0, is the first that can't be
pub data EndingAlone (S : Type 0) : Type 0 where
  Passed : (node : NodeOf S) → EndingAlone S
  Refused : (place : ℕ) (accused : Accused) (reason : StepRefusal) → EndingAlone S

abbrev pub goes_on : {S : Type 0} → StepAlone S → (place : ℕ) → (NodeOf S → EndingAlone S) → EndingAlone S
goes_on (Makes n) place later = later n
goes_on (Refuses accused reason) place later = Refused place accused reason

abbrev pub ends_from : {S K : Type 0} → EndOf S K → NodeOf S → (place : ℕ) → List Record → EndingAlone S
ends_from one n place [] = Passed n
ends_from one n place (r ∷ records) = goes_on (step_alone one n r) place (λ next. ends_from one next (place + 1) records)

-- ---- the end over both layers

-- of a unit that comes no period is known
abbrev pub unknown_period : Tag
unknown_period = record { period = 0; partner = None }

-- and no link
abbrev pub unknown_tag : LayersTag
unknown_tag = record { station = unknown_period; link = Some of_no_link }

-- With queues too all that is asked of the other end is asked at the receipt; an acknowledgement (21) of the live link that acts on the message
abbrev pub layers_end_by : Queues → EndOf WireLayers LayersTag
layers_end_by queues = record {
  machine = wire_layers_machine (by_bytes_with queues);
  unknown = unknown_tag;
  wrong_unit = wrong_unit;
  wrong_taken = wrong_taken;
}

abbrev pub layers_end : EndOf WireLayers LayersTag
layers_end = layers_end_by Without

-- the capture with this head and these records
abbrev pub judged_alone_by : Queues → Head → List Record → EndingAlone WireLayers
judged_alone_by queues head records = ends_from (layers_end_by queues) (new_wire_layers_node head) 0 records

abbrev pub judged_alone : Head → List Record → EndingAlone WireLayers
judged_alone head records = judged_alone_by Without head records

-- ---- the end over its station alone: a packet is any bytes and is not read, and the links' events change nothing

-- of a sound unit its RESP alone accuses the other end (8), and no packet that is taken does
abbrev pub station_end : EndOf (WireStation LinkTag) Tag
station_end = record {
  machine = wire_machine of_any_period;
  unknown = unknown_period;
  wrong_unit = λ (w : WireStation LinkTag) (m : MessageValue). wrong_response_of w.variables m;
  wrong_taken = λ (w : WireStation LinkTag) (m : MessageValue). None;
}

-- the capture with this head and these records
abbrev pub judged_station_alone : Head → List Record → EndingAlone (WireStation LinkTag)
judged_station_alone head records = ends_from station_end (new_wire_node head) 0 records

-- ---- what is said of both

-- all of them are made
abbrev pub PassesBy : Queues → Head → List Record → Type 0
PassesBy queues head records = (node : WireLayersNode) × (judged_alone_by queues head records ≡ Passed node)

abbrev pub Passes : Head → List Record → Type 0
Passes head records = PassesBy Without head records

abbrev pub StationPasses : Head → List Record → Type 0
StationPasses head records = (node : WireNode LinkTag) × (judged_station_alone head records ≡ Passed node)

-- A refusal that does not speak of what the other end alone has: the unit that was sent (5), its period (13), its link (25)
abbrev pub is_seen_alone : StepRefusal → Bool
is_seen_alone Undetected = false
is_seen_alone (OfStation CrossedPeriod) = false
is_seen_alone (OfLinks CrossedLink) = false
is_seen_alone refusal = true
