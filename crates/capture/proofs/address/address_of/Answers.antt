use Rattle.std.proofs.Common.{arith}
use Rattle.capture.proofs.address.address_of.Goals as goal

pub returns-clause-node : goal.returns-clause-node
returns-clause-node c =
    let area = c.in_ok-area-2.ensures.range in
    let node = c.in_ok-node.ensures.range in
    record { least_area = omega arith; most_area = omega arith; least_node = omega arith }
