-- What both ends show where a record is refused.
use Rattle.std.specs.Prelude.{Bool, ◌||◌, if◌then◌else◌, is_some, List, [], ◌∷◌, map}
use Rattle.std.specs.List.{filter}
use Rattle.wire_base.specs.declared.side.Side.{Side}
use Rattle.nsp_link.specs.View.{view_of}
use Rattle.nsp_link.specs.declared.view.LinkView.{LinkView}
use Rattle.pair_judge.specs.Ends.{ShownEnd}
use Rattle.side_words.specs.declared.state_line.StateLine.{StateLine}
use Rattle.side_words.specs.LinkLine.{is_live}

-- ---- what the ends show

abbrev pub state_by : Side → ShownEnd → StateLine
state_by side e = record { side = side; records = e.records; station = e.station; sent = e.sent; front = e.front }

-- with queues also one that has ended, of which something waits
abbrev pub is_live_view : LinkView → Bool
is_live_view v = is_live v.port.phase || is_some v.queue.waits

-- a link, where it is live
abbrev pub if_live : LinkView → List LinkView
if_live v = if is_live_view v then v ∷ [] else []

abbrev pub live_by : ShownEnd → List LinkView
live_by e = filter is_live_view (map view_of e.links.links)
