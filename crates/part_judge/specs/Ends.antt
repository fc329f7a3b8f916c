-- One end of a part beside its node, and what became of one record there.
use Rattle.std.specs.Prelude.{◌≡◌, ◌+◌, ◌^◌, ◌≤◌}
use Rattle.capture_record.specs.declared.limit.TheConstants.{MAX_HINT}
use Rattle.capture_record.specs.declared.record.Record.{Record}
use Rattle.capture_record.specs.declared.record.Record.TheVariants.{Sent, Received, Noise, User}
use Rattle.pair_judge.specs.EndJudged.{accused_view}
use Rattle.pair_judge.specs.Summary.{HasRoomFor, counted}
use Rattle.part_station.specs.Low.{AreAllLow}
use Rattle.part_judge.specs.declared.part_end.PartEnd.{PartEnd}
use Rattle.part_judge.specs.declared.part_end.MadeInPart.{MadeInPart}
use Rattle.part_judge.specs.declared.part_end.MadeInPart.TheVariants.{Done, Fails}
use Rattle.part_judge.specs.Steps.{PartNode, Makes, Refuses, step_in_part}

abbrev pub node_of_end : PartEnd → PartNode
node_of_end end = record { cases = end.station; front = end.front }

-- no count of one record more overflows
pub record HasRoomInPart (end : PartEnd) : Type 0 where
  pub counts : HasRoomFor end.counts
  pub station : AreAllLow (2 ^ 63) end.station

pub record IsMadeInPart (old new : PartEnd) (r : Record) : Type 0 where
  pub step_is : step_in_part (node_of_end old) r ≡ Makes (node_of_end new)
  pub counts : new.counts ≡ counted old.counts r

abbrev pub MadeInPartIs : MadeInPart → PartEnd → PartEnd → Record → Type 0
MadeInPartIs Done old new r = IsMadeInPart old new r
MadeInPartIs (Fails accused refusal) old new r = step_in_part (node_of_end old) r ≡ Refuses (accused_view accused) refusal

-- a hint, or one more than the greatest
abbrev pub HintIsLow : Record → Type 0
HintIsLow (Received hint fate bytes) = hint ≤ MAX_HINT + 1
HintIsLow (Sent bytes) = Unit {0}
HintIsLow (Noise bytes) = Unit {0}
HintIsLow (User event) = Unit {0}
