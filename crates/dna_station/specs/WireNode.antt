-- The wire node: its station is the wire station, and of a unit it knows the bytes and the tag alone.
use Rattle.std.specs.Prelude.{ℕ, Bool, None, Result, List, map}
use Rattle.two_nodes.specs.Nodes.{Answer, Nodes, World, start_world}
use Rattle.two_nodes.specs.Cutting.{Cut}
use Rattle.ddcmp_msg.specs.Reading.{ReadingValue}
use Rattle.capture_record.specs.declared.fate.Fate.{Fate}
use Rattle.capture_record.specs.declared.record.Record.{Record}
use Rattle.capture_record.specs.declared.event.Event.{Event}
use Rattle.dna_station.specs.declared.head.Head.{Head}
use Rattle.dna_station.specs.declared.tag.Tag.{Tag}
use Rattle.dna_station.specs.declared.refusal.StepRefusal.{StepRefusal}
use Rattle.dna_station.specs.PeriodRule.{PeriodRule, of_period}
use Rattle.dna_station.specs.Line.{UnitOf, SentUnit}
use Rattle.dna_station.specs.Machine.{Machine, NodeOf, user_step, sent_step, receives, step, pair_of, station_alone}
use Rattle.dna_station.specs.Node.{Node}
use Rattle.dna_station.specs.WireStation.{HeldPacket, WireStation, new_wire_station}
use Rattle.dna_station.specs.WireBook.{wire_book}
use Rattle.dna_station.specs.Cut.{cut}

-- a unit with its tag alone
abbrev pub WireUnit : Type 0
WireUnit = UnitOf Tag

abbrev pub WireNode : Type 0 → Type 0
WireNode L = NodeOf (WireStation L)

module _ {L : Type 0} where
  abbrev pub new_wire_node : Head → WireNode L
  new_wire_node head = record { head = head; station = new_wire_station; front = 0 }

  abbrev pub wire_machine : PeriodRule → Machine (WireStation L) Tag
  wire_machine rule = station_alone rule wire_book

  abbrev pub wire_user_step : WireNode L → Event → Answer (WireNode L) WireUnit StepRefusal
  wire_user_step n event = user_step (wire_machine of_period) n event

  abbrev pub wire_sent_step : WireNode L → List ℕ → ReadingValue → Answer (WireNode L) WireUnit StepRefusal
  wire_sent_step n bytes read = sent_step (wire_machine of_period) n bytes read

  abbrev pub wire_receives : PeriodRule → WireNode L → ℕ → Fate → List ℕ → WireUnit → Result (WireNode L) StepRefusal
  wire_receives rule n hint fate bytes unit = receives (wire_machine rule) n hint fate bytes unit

  abbrev pub wire_step : PeriodRule → WireNode L → Record → Answer (WireNode L) WireUnit StepRefusal
  wire_step rule n r = step (wire_machine rule) n r

  -- ---- what a wire node sees of a node on true numbers; no packet has a label

  abbrev pub unlabelled : List (List ℕ) → List (HeldPacket L)
  unlabelled packets = map (λ (body : List ℕ). record { body = body; label = None }) packets

  abbrev pub cut_node : Node → WireNode L
  cut_node n = record { head = n.head; station = cut (unlabelled n.station.packets) n.station; front = n.front }

abbrev pub cut_unit : SentUnit → WireUnit
cut_unit unit = record { bytes = unit.bytes; message = unit.message; known = unit.known.tag }

module _ {L : Type 0} where
  -- what a wire node sees of the true one
  abbrev pub seen : Cut Node SentUnit (WireNode L) WireUnit
  seen = record { of_state = cut_node; of_unit = cut_unit }

  -- both nodes go by the rules that a judge asks
  abbrev pub wire_pair : Nodes (WireNode L) Record WireUnit StepRefusal
  wire_pair = pair_of (wire_machine of_period)

  abbrev pub wire_start : (head_a head_b : Head) → World (WireNode L) WireUnit
  wire_start head_a head_b = start_world (new_wire_node head_a) (new_wire_node head_b)
