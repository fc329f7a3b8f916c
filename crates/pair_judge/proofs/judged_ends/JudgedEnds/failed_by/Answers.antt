use Rattle.std.proofs.Common.{Option, ap, sym, subst, ◌∙◌}
use Rattle.pair_judge.specs.declared.failed_check.FailedCheck.{FailedCheck}
use Rattle.nsp_link.specs.Kinds.{queues_of}
use Rattle.pair_judge.specs.Ends.{ShownEnds}
use Rattle.pair_judge.specs.FailedIn.{IsFirstOf, checks_at}
use Rattle.pair_judge.proofs.FirstFailed.{failed_in}
use Rattle.pair_judge.proofs.judged_ends.JudgedEnds.failed_by.Goals as goal

pub returns-in-Some : goal.returns-in-Some
returns-in-Some g c =
    let r = c.in-Refused in
    failed_in (queues_of g.row.QUEUES) c.args.self.now r.side r.place r.reason _ (ap (λ (ends : ShownEnds). ends.verdict) (sym c.self.view_is) ∙ r.is)
    (subst (λ (found : Option FailedCheck). IsFirstOf r.reason (checks_at (queues_of g.row.QUEUES) r.side c.args.self.now) found) c.in-Some.is
    c.first_at.ensures)

pub returns-in-None : goal.returns-in-None
returns-in-None g c =
    let r = c.in-Refused in
    failed_in (queues_of g.row.QUEUES) c.args.self.now r.side r.place r.reason _ (ap (λ (ends : ShownEnds). ends.verdict) (sym c.self.view_is) ∙ r.is)
    (subst (λ (found : Option FailedCheck). IsFirstOf r.reason (checks_at (queues_of g.row.QUEUES) r.side c.args.self.now) found) c.in-None.is
    c.first_at.ensures)
