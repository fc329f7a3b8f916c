-- What becomes of a receipt that fails.
use Rattle.std.specs.Prelude.{◌≡◌}
use Rattle.pair_judge.specs.EndJudged.{accused_view}
use Rattle.part_judge.specs.declared.part_end.MadeInPart.{MadeInPart}
use Rattle.part_judge.specs.declared.part_end.MadeInPart.TheVariants.{Done, Fails}
use Rattle.dna_station.specs.declared.refusal.StepRefusal.{StepRefusal}
use Rattle.part_judge.specs.Steps.{accused_by_receipt}

-- it fails for this reason, by whom that is of a receipt
abbrev pub IsByReceipt : MadeInPart → StepRefusal → Type 0
IsByReceipt Done reason = ⊥
IsByReceipt (Fails accused refusal) reason = (refusal ≡ reason) × (accused_view accused ≡ accused_by_receipt reason)
