use Rattle.accusing_segments.proofs.Prelude.{sym, ◌∙◌}
use Rattle.accusing_segments.proofs.{OneCallFinal.changed_own, NotedAfter.changed_same}
use Rattle.accusing_segments.proofs.segment_accuser.SegmentAccuser.is_changed.Goals as goal

pub returns-clause-known : goal.returns-clause-known
returns-clause-known c = λ passed is. c.is_other.ensures ∙ changed_same c.args.self.now passed is c.args.unit.now

pub returns-clause-wrong : goal.returns-clause-wrong
returns-clause-wrong c = λ passed is so.
    changed_own passed c.args.unit.now (sym (c.is_other.ensures ∙ changed_same c.args.self.now passed is c.args.unit.now) ∙ so)
