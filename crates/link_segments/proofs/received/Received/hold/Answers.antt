use Rattle.std.proofs.Common.{ap, arith, ◌+◌, ◌-◌}
use Rattle.dna_links.specs.Segmentation.{in_order}
use Rattle.link_segments.proofs.Arrived.{in_order-le, hold_order}
use Rattle.link_segments.proofs.received.Received.hold.Goals as goal

pub run_from-more-requires : goal.run_from-more-requires
run_from-more-requires c =
    let more = hold_order (c.self.inside.whole + c.args.above - 1) c.args.piece c.self.inside.pieces.items in
    let same = ap in_order c.in_ok-put.ensures.ok in
    let within = in_order-le c.put.new.pieces.items in
    omega (arith, more, same, within, c.self.invariant, c.put.new.pieces.ok)
