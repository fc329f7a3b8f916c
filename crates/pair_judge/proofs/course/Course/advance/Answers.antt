use Rattle.std.proofs.Common.{sym, subst}
use Rattle.std.proofs.lemmas.Result.{IfOk-weaker}
use Rattle.capture.specs.Lines.{to_come}
use Rattle.capture_record.specs.declared.record.Record.{Record}
use Rattle.capture.specs.Reader.{CaptureState}
use Rattle.wire_base.specs.Tally.{tally_lent}
use Rattle.pair_judge.specs.declared.end.End.{End}
use Rattle.pair_judge.specs.inner.Course.{AdvanceIs, along}
use Rattle.pair_judge.specs.inner.Making.{move}
use Rattle.pair_judge.specs.Order.{TellsNext, made_by}
use Rattle.pair_judge.proofs.course.Course.advance.Goals as goal

pub returns-in-Ok-Some-clause-advance : goal.returns-in-Ok-Some-clause-advance
returns-in-Ok-Some-clause-advance g c =
    let next = rw c.in-Ok-Some.field-0-is at c.in-Ok-Some.ensures.next in
    let tells = λ (r : Record). TellsNext g.O.Observer.told c.args.observer.now c.make.new.observer (made_by c.args.side r) in
    let left = g.R.Read.remaining (tally_lent c.next.new.reader) in
    IfOk-weaker c.make.result _ _ (λ advance h. λ text made read.
    let made_it = h text (to_come c.next.new.self.capture.unread left) made (next text made read) in
    let at_end = subst (λ (e : End). AdvanceIs g.T.Top.top tells advance (move e c.make.new.self.end c.args.incoming.now c.make.new.incoming)
    (along text c.make.new.self (to_come c.next.new.self.capture.unread left) made)) c.next.ensures.end made_it in
    subst (λ (s : CaptureState). AdvanceIs g.T.Top.top tells advance
    (move c.args.self.now.end c.make.new.self.end c.args.incoming.now c.make.new.incoming) (along text c.make.new.self (to_come s.unread left) made))
    (sym c.make.ensures.capture) at_end) c.make.ensures.advance
