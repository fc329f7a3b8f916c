-- What an observer that counts knows of the records that it was told.
use Rattle.std.specs.Prelude.{◌≡◌, ◌≤◌, List, length}
use Rattle.wire_base.specs.declared.side.Side.TheVariants.{A, B}
use Rattle.capture_record.specs.declared.record.Record.{Record}
use Rattle.dna_station.specs.declared.head.Head.{Head}
use Rattle.dna_links.specs.declared.tag.LinkTag.{LinkTag}
use Rattle.dna_station.specs.WireNode.{WireNode}
use Rattle.dna_node.specs.Alone.{Passed, judged_station_alone}
use Rattle.pair_judge.specs.Order.{MadeRecord, records_of}
use Rattle.coverage.specs.declared.cover.Cover.{Cover}
use Rattle.coverage.specs.declared.half.Half.{Half}
use Rattle.coverage.specs.Counts.{AreCounts, rows_of}
use Rattle.coverage.specs.inner.Tracked.{tracker_of}

-- where the station alone makes these records and is left as this one: it is tracked, and the rows are counted
pub record Follows (half : Half) (head : Head) (records : List Record) (n : WireNode LinkTag) : Type 0 where
  pub tracks : half.tracker ≡ tracker_of n.station.variables
  pub most : length n.station.variables.held ≤ 255
  pub within : n.station.variables.ahead ≤ length n.station.variables.held
  pub counts : AreCounts half.counts.met (rows_of head records)

abbrev pub FollowsAll : Half → List Record → Type 0
FollowsAll half records =
    (head : Head) (n : WireNode LinkTag) → judged_station_alone head records ≡ Passed n → Follows half head records n

pub record Told (cover : Cover) (order : List MadeRecord) : Type 0 where
  pub a : FollowsAll cover.a (records_of A order)
  pub b : FollowsAll cover.b (records_of B order)
