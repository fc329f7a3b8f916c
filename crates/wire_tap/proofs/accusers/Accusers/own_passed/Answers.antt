use Rattle.wire_tap.proofs.ChargeLaws.{station_refuses}
use Rattle.wire_tap.proofs.accusers.Accusers.own_passed.Goals as goal

pub returns-in-CannotHave-clause-said : goal.returns-in-CannotHave-clause-said
returns-in-CannotHave-clause-said c line_alone head passed is =
    station_refuses line_alone head passed c.args.unit.now c.args.self.now.station c.sends.new.self c.in_ok-sends.field-0 is.station
    c.in_ok-sends.ensures.known c.in-CannotHave.field-0 c.in-CannotHave.is
