-- What is shown of an end whose other side is not known. It is side a.
use Rattle.std.specs.Prelude.{None}
use Rattle.wire_base.specs.declared.side.Side.TheVariants.{A}
use Rattle.ddcmp_station.specs.declared.view.StationView.{StationView}
use Rattle.pair_judge.specs.Ends.{ShownEnd}
use Rattle.why.specs.inner.Ends.{state_by}
use Rattle.side_words.specs.declared.state_line.StateLine.{StateLine}

-- the end as it was before the record; which start of the other side its own goes with is not known
abbrev pub unpaired : StationView → StationView
unpaired station = record station { partner = None }

abbrev pub state_alone : ShownEnd → StateLine
state_alone end = record (state_by A end) { station = unpaired end.station }
