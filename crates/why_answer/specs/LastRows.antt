-- What the last rows of the ladder are after the records that a judge told.
use Rattle.std.specs.Prelude.{◌≡◌, List, map}
use Rattle.ladder.specs.Ladder.{LadderView}
use Rattle.ladder.specs.Rows.{no_rows}
use Rattle.ladder.specs.declared.rows.Keep.TheVariants.{Last}
use Rattle.pair_judge.specs.Order.{MadeEntry, MadeRecord, record_told}
use Rattle.drawing.specs.Telling.{ladder_told}

-- The ladder had no rows, and was told these records one after another
pub record WereTold (ladder : LadderView) (order : List MadeRecord) : Type 0 where
  pub start : LadderView
  pub begins : start.kept ≡ no_rows Last 11
  pub calls : List MadeEntry
  pub of_order : map record_told calls ≡ order
  pub reached : ladder ≡ ladder_told start calls
