use Rattle.std.proofs.Common.{sym, arith}
use Rattle.link_segments.proofs.Arrived.{run_on, run_ends}
use Rattle.link_segments.proofs.received.run_from.Goals as goal

pub returns-in_default-clause-run : goal.returns-in_default-clause-run
returns-in_default-clause-run c =
    sym (run_ends c.args.from c.loop-place.run c.loop-place.place c.args.pieces.now.items c.loop-place.invariant.order (sym c.in_default.ensures))

pub loop-place-preserved : goal.loop-place-preserved
loop-place-preserved c = record {
  count = omega arith;
  order = run_on c.args.from c.loop-place.run c.loop-place.place c.args.pieces.now.items c.loop-place.invariant.order c.in-Some._piece.now
      (sym c.in-Some.ensures);
}
