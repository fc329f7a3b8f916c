use Rattle.wire_base.specs.Side.{other_side}
use Rattle.wire_tap.specs.Accusing.{seen}
use Rattle.wire_tap.proofs.AccuserLaws.{on_ok_if}
use Rattle.wire_tap.proofs.KnownLaws.{known_heard}
use Rattle.wire_tap.proofs.suspects.SideAccused.hear.Goals as goal

pub returns : goal.returns
returns c line_alone head side passed line is =
    on_ok_if c.other_passed.result _ _ _
    (λ hears. known_heard line_alone head side passed c.args.unit.now line c.args.self.now c.other_passed.new.self is hears)
    (λ known. c.other_passed.ensures line_alone head (seen (other_side side) passed) known)
