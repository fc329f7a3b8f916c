use Rattle.capture.proofs.OverLaws.{begun_over}
use Rattle.wire_tap.proofs.outlet.write_full.Goals as goal

pub returns-in_default-write_if_full-clause-writes : goal.returns-in_default-write_if_full-clause-writes
returns-in_default-write_if_full-clause-writes g c =
    let passes = c.in-Ok.ensures.ok in
    (record { some = begun_over _ _ _ _ passes.over; faults = passes.faults }, c.in_default-write_if_full.ensures.err)
