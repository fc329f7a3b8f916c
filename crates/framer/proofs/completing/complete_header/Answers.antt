use Rattle.std.proofs.Common.{ℕ, ◌<◌, length, ap, arith}
use Rattle.std.proofs.lemmas.List.{length-append}
use Rattle.framer.proofs.Passing.{header_step}
use Rattle.framer.proofs.completing.complete_header.Goals as goal

pub loop-count-preserved : goal.loop-count-preserved
loop-count-preserved c =
    let piece = c.args.piece.now in
    let count = c.loop-count.count in
    let within : count < length piece = omega arith in
    let few = c.loop-count.invariant.2 in
    let left = c.settle-strays.ensures.few in (
      header_step _ c.loop-count.room.held c.hold_byte.new.self.held c.settle-strays.new.room.held piece count c.loop-count.strays
          c.settle-strays.result within c.loop-count.invariant.0 c.hold_byte.ensures c.settle-strays.ensures.passes,
      c.settle-strays.ensures.begun,
      omega (arith, length-append {A = ℕ}, ap length c.hold_byte.ensures),
    )
