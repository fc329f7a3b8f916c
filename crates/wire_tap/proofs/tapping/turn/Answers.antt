use Rattle.std.proofs.Common.{ap, Err}
use Rattle.wire_base.specs.Tally.{tally_lent}
use Rattle.capture.specs.Lines.{to_come}
use Rattle.wire_tap.proofs.LineLaws.{line_departs, line_ends}
use Rattle.wire_tap.proofs.tapping.turn.Goals as goal

pub returns-in-Ok-Some-clause-turns : goal.returns-in-Ok-Some-clause-turns
returns-in-Ok-Some-clause-turns g c format text old h =
    let advances = rw c.in-Ok-Some.field-0-is at c.in-Ok-Some.ensures.advances c.requires in
    c.pass_on.ensures.turns c.args.reader.now _ (to_come c.advance.new.self.unread (g.W.Read.remaining (tally_lent c.advance.new.reader))) format text
    old h
    advances

pub returns-in-Ok-None-clause-turns : goal.returns-in-Ok-None-clause-turns
returns-in-Ok-None-clause-turns g c format text old h =
    let advances = rw c.in-Ok-None.field-0-is at c.in-Ok-None.ensures.advances c.requires in
    (_, _, line_ends format text old _ h c.args.last advances.0)

pub returns-in-Err-clause-turns : goal.returns-in-Err-clause-turns
returns-in-Err-clause-turns g c format text old h =
    let advances = c.in-Err.ensures.advances c.requires in
    (_, _, line_departs format text old _ h c.args.last c.in-Err.fault advances.0 (λ same. c.in-Err.ensures.memory (ap Err same)))
