use Rattle.std.proofs.Common.{◌≡◌, ◌++◌, string_bytes, take}
use Rattle.std.specs.List.{flat_map}
use Rattle.coverage.specs.Missing.{hint_line}
use Rattle.coverage.proofs.missing.put_hints.Given as goal

abbrev pub invariant-loop-hint : goal.invariant-loop-hint
invariant-loop-hint l = string_bytes l.text ≡ string_bytes l.initial.text ++ flat_map (hint_line l.a.met l.b.met) (take l.hint-index l.hints)
