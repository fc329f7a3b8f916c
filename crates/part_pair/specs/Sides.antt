-- One side of two captures of which at least one is a part of a run: its end, as it is judged alone, and the line that leads to it.
use Rattle.std.specs.Prelude.{ℕ, ◌+◌, ◌-◌, ◌==◌, ◌||◌, ◌&&◌, max, nat_lt, Bool, if◌then◌else◌, List, [], ◌∷◌, ◌++◌, drop}
use Rattle.std.specs.Prelude.{Option, Some, None, slice_get}
use Rattle.std.specs.Str.{bytes_eq}
use Rattle.ddcmp_msg.specs.Reading.{reading}
use Rattle.capture_record.specs.declared.record.Record.{Record}
use Rattle.capture_record.specs.declared.record.Record.TheVariants.{Sent, Received, Noise, User}
use Rattle.dna_station.specs.declared.refusal.StepRefusal.{StepRefusal}
use Rattle.dna_station.specs.declared.refusal.StepRefusal.TheVariants.{HintOrder, Undetected}
use Rattle.pair_judge.specs.Counting.{shows_damage}
use Rattle.part_pair.specs.declared.facing.Facing.{Facing}
use Rattle.part_judge.specs.Steps.{PartNode, StepInPart, Makes, Refuses, first_node, whole_node, step_in_part}

-- One side: whether its capture is a part, its end as far as its records were made, which are so many, the other side's units that may still come, in
-- order, and the first of its records that was made as that of one end alone, since the capture of the other side ends
pub record Side : Type 0 where
  pub is_part : Bool
  pub node : PartNode
  pub made : ℕ
  pub coming : List (List ℕ)
  pub alone_from : Option ℕ

-- before any record
abbrev pub first_side : (is_part : Bool) → Side
first_side is_part = record {
  is_part = is_part;
  node = if is_part then first_node else whole_node;
  made = 0;
  coming = [];
  alone_from = None;
}

-- ---- which unit a receipt names

-- the number of its unit, counted from 1 on; 0 is one that was sent before the other capture begins. That of a whole capture has none such
abbrev pub number_of : Side → ℕ → ℕ
number_of s hint = if s.is_part then hint else hint + 1

-- What the line has of it: it is the unit, and these may come behind it; or one sent after the other capture ended; or not sent yet, or it can't be
pub data FoundUnit : Type 0 where
  Comes : (behind : List (List ℕ)) → FoundUnit
  ComesFromBehind : FoundUnit
  IsToCome : FoundUnit
  CannotCome : (reason : StepRefusal) → FoundUnit

-- the number of the first of those that may come
abbrev pub first_number : Side → ℕ
first_number s = max 1 s.node.front

-- the bytes of the unit, or damage; else 5
abbrev pub unit_found : Side → Facing → (number : ℕ) → (bytes : List ℕ) → Option (List ℕ) → FoundUnit
unit_found s facing number bytes (Some unit) =
    if bytes_eq bytes unit || shows_damage (reading bytes) then Comes (drop (number + 1 - first_number s) s.coming) else CannotCome Undetected
unit_found s facing number bytes None = if facing.is_part && facing.has_ended then ComesFromBehind else IsToCome

-- units come in order, and of what was before a whole capture there is none (2)
abbrev pub found : Side → Facing → (number : ℕ) → (bytes : List ℕ) → FoundUnit
found s facing number bytes =
    if nat_lt number s.node.front then CannotCome HintOrder
    else (if number == 0
    then (if facing.is_part then Comes s.coming else CannotCome HintOrder)
    else unit_found s facing number bytes (slice_get s.coming (number - first_number s)))

-- ---- what becomes of a record

pub data StepInPair : Type 0 where
  Goes : (side : Side) → StepInPair
  Waits : StepInPair
  Stops : (reason : StepRefusal) → StepInPair

-- its end makes it as one alone does; these may come then, and it is alone from this record on
abbrev pub after_step : Side → List (List ℕ) → Option ℕ → StepInPart → StepInPair
after_step s coming alone_from (Makes node) =
    Goes (record { is_part = s.is_part; node = node; made = s.made + 1; coming = coming; alone_from = alone_from })
after_step s coming alone_from (Refuses accused reason) = Stops reason

abbrev pub or_first : Option ℕ → ℕ → Option ℕ
or_first None place = Some place
or_first (Some earlier) place = Some earlier

abbrev pub receipt_step : Side → Record → FoundUnit → StepInPair
receipt_step s r (Comes behind) = after_step s behind s.alone_from (step_in_part s.node r)
receipt_step s r ComesFromBehind = after_step s [] (or_first s.alone_from s.made) (step_in_part s.node r)
receipt_step s r IsToCome = Waits
receipt_step s r (CannotCome reason) = Stops reason

abbrev pub other_step : Side → Record → StepInPair
other_step s r = after_step s s.coming s.alone_from (step_in_part s.node r)

abbrev pub step_in_pair : Side → Facing → Record → StepInPair
step_in_pair s facing (Received hint fate bytes) =
    receipt_step s (Received (number_of s hint) fate bytes) (found s facing (number_of s hint) bytes)
step_in_pair s facing (Sent bytes) = other_step s (Sent bytes)
step_in_pair s facing (Noise bytes) = other_step s (Noise bytes)
step_in_pair s facing (User event) = other_step s (User event)

-- the other side made this record: a unit that it sent may come
abbrev pub with_record : Side → Record → Side
with_record s (Sent bytes) = record s { coming = s.coming ++ bytes ∷ [] }
with_record s (Received hint fate bytes) = s
with_record s (Noise bytes) = s
with_record s (User event) = s
