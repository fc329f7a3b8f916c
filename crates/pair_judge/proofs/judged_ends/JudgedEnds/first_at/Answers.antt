use Rattle.std.proofs.Common.{sym, subst}
use Rattle.wire_base.specs.declared.side.Side.{Side}
use Rattle.nsp_link.specs.Kinds.{queues_of}
use Rattle.pair_judge.specs.Ends.{ShownEnds}
use Rattle.pair_judge.specs.FailedIn.{IsFirstOf, checks_at}
use Rattle.pair_judge.specs.inner.Lines.{held}
use Rattle.pair_judge.proofs.judged_ends.JudgedEnds.first_at.Goals as goal

pub returns-in-A : goal.returns-in-A
returns-in-A g c =
    let i = c.self.inside in
    let ends : ShownEnds = record { verdict = i.verdict; a = i.a; b = i.b; to_a = held i.line_b; to_b = held i.line_a } in
    subst (λ (ends : ShownEnds). IsFirstOf c.args.reason (checks_at (queues_of g.row.QUEUES) c.args.side ends) c.first_of.result) c.self.view_is
    (subst (λ (side : Side). IsFirstOf c.args.reason (checks_at (queues_of g.row.QUEUES) side ends) c.first_of.result) (sym c.in-A.is)
    c.first_of.ensures)

pub returns-in-B : goal.returns-in-B
returns-in-B g c =
    let i = c.self.inside in
    let ends : ShownEnds = record { verdict = i.verdict; a = i.a; b = i.b; to_a = held i.line_b; to_b = held i.line_a } in
    subst (λ (ends : ShownEnds). IsFirstOf c.args.reason (checks_at (queues_of g.row.QUEUES) c.args.side ends) c.first_of-in-B.result) c.self.view_is
    (subst (λ (side : Side). IsFirstOf c.args.reason (checks_at (queues_of g.row.QUEUES) side ends) c.first_of-in-B.result) (sym c.in-B.is)
    c.first_of-in-B.ensures)
