use Rattle.std.proofs.Common.{◌≡◌, map, take}
use Rattle.std.specs.List.{filter}
use Rattle.nsp_link.specs.View.{view_of}
use Rattle.why.specs.inner.Ends.{is_live_view}
use Rattle.why.proofs.ends.live_links.Given as goal

abbrev pub invariant-loop-number : goal.invariant-loop-number
invariant-loop-number l =
    l.live.items ≡ filter is_live_view (take l.number (map view_of l.end.links.links))
