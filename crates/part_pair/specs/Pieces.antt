-- What is said of a refusal, whatever was before and comes after.
use Rattle.std.specs.Prelude.{◌≢◌, Bool, true, false, List, ◌∷◌}
use Rattle.capture_record.specs.declared.event.Event.TheVariants.{Halt}
use Rattle.capture_record.specs.declared.record.Record.{Record}
use Rattle.capture_record.specs.declared.record.Record.TheVariants.{User}
use Rattle.dna_station.specs.declared.refusal.StepRefusal.{StepRefusal}
use Rattle.dna_station.specs.declared.refusal.StepRefusal.TheVariants.{HintOrder, Undetected}

-- it is by the records of one side, and neither by their hints nor by the units of the other
pub record IsOfOneSide (refusal : StepRefusal) : Type 0 where
  pub not_hints : refusal ≢ HintOrder
  pub not_unit : refusal ≢ Undetected

-- the records of a part, and those of a whole capture behind a halt: it begins in HALTED
abbrev pub records_of : (is_part : Bool) → List Record → List Record
records_of true records = records
records_of false records = User Halt ∷ records
