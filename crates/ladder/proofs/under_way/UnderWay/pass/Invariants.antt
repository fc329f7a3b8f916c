use Rattle.std.proofs.Common.{◌≡◌, drop}
use Rattle.ladder.proofs.under_way.UnderWay.pass.Given as goal

abbrev pub invariant-loop-passed : goal.invariant-loop-passed
invariant-loop-passed l = record {
  rest : l.self-inside.units.items ≡ drop l.passed l.initial.self-inside.units.items;
  gone : l.self-inside.gone ≡ l.initial.self-inside.gone;
}
