use Rattle.std.proofs.Common.{◌+◌, ◌-◌, ◌≡◌, ◌≤◌, drop}
use Rattle.pair_judge.proofs.line.Line.release.Given as goal

abbrev pub invariant-loop-self : goal.invariant-loop-self
invariant-loop-self l = record {
  after_start : l.initial.self.gone ≤ l.self.gone;
  not_past : l.self.gone ≤ l.number + 1;
  rest : l.self.units.items ≡ drop (l.self.gone - l.initial.self.gone) l.initial.self.units.items;
  tags : l.self.tags ≡ l.initial.self.tags;
}

abbrev pub decreases-loop-self : goal.decreases-loop-self
decreases-loop-self l = l.number + 1 - l.self.gone
