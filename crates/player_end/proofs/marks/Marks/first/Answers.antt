use Rattle.std.proofs.Common.{arith}
use Rattle.player_end.proofs.Marked.{none_marked, none_before, marked_here}
use Rattle.player_end.proofs.marks.Marks.first.Goals as goal

pub invariant_of-self : goal.invariant_of-self
invariant_of-self c =
    let starts = c.if-lowest-len.false in
    record {
      below = λ number less. none_marked c.args.self.now.below c.deref.ensures.value (omega (arith, starts)) c.in_default.ensures number
          (omega (arith, less));
    }

pub invariant_of-self-2 : goal.invariant_of-self-2
invariant_of-self-2 c =
    let starts = c.if-lowest-len.false in
    record {
      below = none_before c.args.self.now.below c.deref.ensures.value (omega (arith, starts)) c.in-Some.ahead c.in-Some.ensures;
    }

pub returns-clause-marked : goal.returns-clause-marked
returns-clause-marked c =
    let starts = c.if-lowest-len.false in
    marked_here c.args.self.now.below c.deref.ensures.value (omega (arith, starts)) c.in-Some.ahead c.in-Some.ensures
