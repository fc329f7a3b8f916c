use Rattle.std.proofs.Common.{[], ◌∷◌, ap, length, length-append, arith}
use Rattle.aligning.proofs.whole.read_whole.Goals as goal

pub loop-number-preserved : goal.loop-number-preserved
loop-number-preserved g c =
    let h = c.loop-number.invariant in
    let gives = rw c.in-Ok-Some.field-0-is at c.in-Ok-Some.ensures.gives h.0 in
    let on = c.text_read_on.ensures.one_more _ _ _ _ _ _ _ _ h.3 (omega (arith, h.1, h.2, gives.1)) gives.0 gives.4 gives.6 in (
      gives.3,
      omega (arith, h.1, length-append c.loop-number.records.items (c.in-Ok-Some.record ∷ []), ap length c.in-Ok.ensures.items),
      omega (arith, h.2, gives.2),
      rw (gives.5, c.in-Ok-Some.ensures.head.0, c.in-Ok-Some.ensures.head.1, c.in-Ok.ensures.items) on,
    )
