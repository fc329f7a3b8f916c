-- One side beside what it is seen as, and what became of one record there.
use Rattle.std.specs.Prelude.{◌≡◌, ◌≤◌, drop, length}
use Rattle.capture_record.specs.declared.record.Record.{Record}
use Rattle.pair_judge.specs.Summary.{counted}
use Rattle.part_judge.specs.Ends.{node_of_end}
use Rattle.part_pair.specs.declared.found.Found.{Found}
use Rattle.part_pair.specs.declared.found.Found.TheVariants as code
use Rattle.part_pair.specs.declared.side_end.SideEnd.{SideEnd}
use Rattle.part_pair.specs.declared.side_end.MadeInPair.{MadeInPair}
use Rattle.part_pair.specs.declared.side_end.MadeInPair.TheVariants as made
use Rattle.part_pair.specs.Sides.{Side, FoundUnit, Comes, ComesFromBehind, IsToCome, CannotCome, StepInPair, Goes, Waits, Stops}

abbrev pub side_of : SideEnd → Side
side_of side = record {
  is_part = side.is_part;
  node = node_of_end side.end;
  made = side.end.counts.records;
  coming = side.coming.items;
  alone_from = side.alone_from;
}

abbrev pub found_view : Found → SideEnd → FoundUnit
found_view (code.Comes gone) side = Comes (drop gone side.coming.items)
found_view code.ComesFromBehind side = ComesFromBehind
found_view code.IsToCome side = IsToCome
found_view (code.CannotCome reason) side = CannotCome reason

-- no more are gone than may come
abbrev pub FoundIsWithin : Found → SideEnd → Type 0
FoundIsWithin (code.Comes gone) side = gone ≤ length side.coming.items
FoundIsWithin code.ComesFromBehind side = Unit {0}
FoundIsWithin code.IsToCome side = Unit {0}
FoundIsWithin (code.CannotCome reason) side = Unit {0}

-- the record went on, and is counted
pub record GoesOn (old new : SideEnd) (r : Record) (step : StepInPair) : Type 0 where
  pub step_is : step ≡ Goes (side_of new)
  pub counts : new.end.counts ≡ counted old.end.counts r

pub record StaysAsItWas (old new : SideEnd) (step : StepInPair) : Type 0 where
  pub step_is : step ≡ Waits
  pub same : new ≡ old

-- what became of this record, of which this is the step
abbrev pub MadeInPairIs : MadeInPair → SideEnd → SideEnd → Record → StepInPair → Type 0
MadeInPairIs made.Goes old new r step = GoesOn old new r step
MadeInPairIs made.Waits old new r step = StaysAsItWas old new step
MadeInPairIs (made.Stops reason) old new r step = step ≡ Stops reason
