use Rattle.capture.proofs.OverLaws.{begun_over, whole_over}
use Rattle.wire_tap.proofs.outlet.write_heads.Goals as goal

pub returns-in_default-write_whole : goal.returns-in_default-write_whole
returns-in_default-write_whole g c =
    let over = whole_over _ _ _ c.in-Ok.ensures.ok in (
      record { some = begun_over _ _ _ _ over; faults = c.in-Ok.ensures.faults },
      record { some = c.in_default-write_whole.ensures.err; faults = c.in_default-write_whole.ensures.counted },
    )
