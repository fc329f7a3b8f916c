use Rattle.wire_tap.proofs.MoveLaws.{on_ok_both, on_ok_from, puts_all}
use Rattle.wire_tap.proofs.tapping.Sides.finish.Goals as goal

pub returns-clause-a : goal.returns-clause-a
returns-clause-a c = on_ok_from c.finish-2.result (puts_all _ _ c.in_ok-finish.ensures.puts c.in_ok-finish.ensures.all)

pub returns-clause-b : goal.returns-clause-b
returns-clause-b c = on_ok_both c.finish-2.result (puts_all _ _) c.finish-2.ensures.puts c.finish-2.ensures.all
