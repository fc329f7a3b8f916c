use Rattle.std.proofs.Common.{◌≡◌, take}
use Rattle.std.specs.List.{list_all}
use Rattle.wire_tap.specs.Tapping.{turn_is_in_one}
use Rattle.wire_tap.proofs.format.all_in_one.Given as goal

abbrev pub invariant-loop-index : goal.invariant-loop-index
invariant-loop-index l = l.all ≡ list_all turn_is_in_one (take l.index l.turns)
