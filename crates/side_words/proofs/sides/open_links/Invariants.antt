use Rattle.std.proofs.Common.{◌≡◌, take}
use Rattle.std.specs.List.{filter}
use Rattle.side_words.specs.inner.Sides as spec
use Rattle.side_words.proofs.sides.open_links.Given as goal

abbrev pub invariant-loop-link : goal.invariant-loop-link
invariant-loop-link l = l.found.items ≡ filter spec.is_open (take l.link-index l.links)
