use Rattle.std.proofs.Common.{refl}
use Rattle.wire_tap.specs.declared.tapped.Passed.{Passed}
use Rattle.wire_tap.proofs.KnownLaws.{known_this}
use Rattle.wire_tap.proofs.suspects.SideAccused.pass.Goals as goal

pub returns-clause-own : goal.returns-clause-own
returns-clause-own c line_alone head side passed is =
    let this : Passed = record { side = c.args.self.now.side; unit = c.args.self.now.count; line = c.args.line } in
    known_this line_alone head side passed c.args.unit.now this c.args.self.now is is.side_is refl _ c.ask.ensures.side
    (rw c.ask.ensures.count at c.saturating_add-self.ensures) (c.in_ok-ask.ensures.first line_alone head side passed is is.side_is refl)
    (c.in_ok-ask.ensures.segment line_alone head side passed is is.side_is refl)
