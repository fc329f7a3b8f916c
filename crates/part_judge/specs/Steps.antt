-- What becomes of the records of a part of a run at one end, its station alone.
use Rattle.std.specs.Prelude.{ℕ, ◌+◌, ◌==◌, nat_lt, Bool, false, Result, Ok, Err, List, [], ◌∷◌, if◌then◌else◌}
use Rattle.capture_record.specs.declared.record.Record.{Record}
use Rattle.capture_record.specs.declared.record.Record.TheVariants.{Received}
use Rattle.dna_station.specs.declared.refusal.StationRefusal.{StationRefusal}
use Rattle.dna_station.specs.declared.refusal.StationRefusal.TheVariants.{WrongResponse}
use Rattle.dna_station.specs.declared.refusal.StepRefusal.{StepRefusal}
use Rattle.dna_station.specs.declared.refusal.StepRefusal.TheVariants.{NotAMessage, HintOrder, Station as OfStation}
use Rattle.dna_node.specs.Alone.{Accused, ThisEnd, OtherEnd}
use Rattle.part_station.specs.Cases.{Cases, first_cases, halted_cases, cases_step}

-- One end: what its station may be, and the other side's first unit that may still come, counted from 1; 0 is any that was sent before the other
-- capture begins
pub record PartNode : Type 0 where
  pub cases : Cases
  pub front : ℕ

abbrev pub first_node : PartNode
first_node = record { cases = first_cases; front = 0 }

-- the node of a whole capture: it is in HALTED, and known
abbrev pub whole_node : PartNode
whole_node = record { cases = halted_cases; front = 0 }

-- What becomes of a record: it is made and leaves this, or it can't be, for this reason
pub data StepInPart : Type 0 where
  Makes : (node : PartNode) → StepInPart
  Refuses : (accused : Accused) (reason : StepRefusal) → StepInPart

-- Bytes that are no message, and a RESP of a number that this end can't have outstanding, are the other end's
abbrev pub accused_by_station : StationRefusal → Accused
accused_by_station WrongResponse = OtherEnd
accused_by_station refusal = ThisEnd

abbrev pub accused_by_receipt : StepRefusal → Accused
accused_by_receipt NotAMessage = OtherEnd
accused_by_receipt (OfStation refusal) = accused_by_station refusal
accused_by_receipt refusal = ThisEnd

abbrev pub accused_of : Record → StepRefusal → Accused
accused_of (Received hint fate bytes) refusal = accused_by_receipt refusal
accused_of r refusal = ThisEnd

-- the front behind a receipt with this hint
abbrev pub front_behind : ℕ → ℕ
front_behind hint = if hint == 0 then 0 else hint + 1

abbrev pub front_after : Record → ℕ → ℕ
front_after (Received hint fate bytes) front = front_behind hint
front_after r front = front

-- hints rise
abbrev pub is_early : Record → ℕ → Bool
is_early (Received hint fate bytes) front = nat_lt hint front
is_early r front = false

abbrev pub made : PartNode → Record → Result Cases StepRefusal → StepInPart
made n r (Ok cases) = Makes (record { cases = cases; front = front_after r n.front })
made n r (Err refusal) = Refuses (accused_of r refusal) refusal

abbrev pub step_in_part : PartNode → Record → StepInPart
step_in_part n r = if is_early r n.front then Refuses ThisEnd HintOrder else made n r (cases_step n.cases r)

-- ---- all records

-- All are made, and leave this; or the one at this place, counted from 0, is the first that can't be
pub data EndingInPart : Type 0 where
  Passed : (node : PartNode) → EndingInPart
  Refused : (place : ℕ) (accused : Accused) (reason : StepRefusal) → EndingInPart

abbrev pub goes_on : StepInPart → (place : ℕ) → (PartNode → EndingInPart) → EndingInPart
goes_on (Makes n) place later = later n
goes_on (Refuses accused reason) place later = Refused place accused reason

abbrev pub ends_from : PartNode → (place : ℕ) → List Record → EndingInPart
ends_from n place [] = Passed n
ends_from n place (r ∷ records) = goes_on (step_in_part n r) place (λ next. ends_from next (place + 1) records)

abbrev pub judged_in_part : List Record → EndingInPart
judged_in_part records = ends_from first_node 0 records
