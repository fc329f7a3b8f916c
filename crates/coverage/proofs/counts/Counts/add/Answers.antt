use Rattle.std.proofs.Common.{arith}
use Rattle.coverage.specs.Row.{place}
use Rattle.coverage.proofs.Places.{place_below}
use Rattle.coverage.proofs.counts.Counts.add.Goals as goal

pub returns : goal.returns
returns c row = c.loop-place.invariant.added (place row) (let below = place_below row in let end = c.loop-place-test.false in omega arith)
