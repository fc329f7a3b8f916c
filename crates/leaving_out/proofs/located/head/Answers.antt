use Rattle.std.proofs.Common.{[]}
use Rattle.wire_base.specs.Tally.{tally_lent}
use Rattle.capture.specs.Lines.{to_come}
use Rattle.leaving_out.proofs.Walk.{at_start, by_then}
use Rattle.leaving_out.proofs.located.head.Goals as goal

pub returns-in-Ok-clause-head : goal.returns-in-Ok-clause-head
returns-in-Ok-clause-head g c =
    let left = g.R.Read.remaining (tally_lent c.open.new.reader) in (
      by_then c.in-Ok.capture (to_come c.in-Ok.capture.unread left) [],
      (at_start _ left c.in-Ok.capture c.in-Ok.ensures.opens).read,
      c.own.ensures,
      c.peer.ensures,
    )
