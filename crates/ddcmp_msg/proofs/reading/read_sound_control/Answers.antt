use Rattle.std.proofs.Common.{◌∙◌, sym, ap, subst}
use Rattle.ddcmp_msg.specs.Reading.{IsSound, reading_view}
use Rattle.ddcmp_msg.proofs.SoundUnits.{long_unit, control_unit, no_departure}
use Rattle.ddcmp_msg.proofs.reading.read_sound_control.Goals as goal

pub read_control-requires : goal.read_control-requires
read_control-requires c = long_unit c.args.bytes.now c.requires.sound

pub unreachable-requires : goal.unreachable-requires
unreachable-requires c =
    let same = control_unit c.args.bytes.now c.requires.sound c.requires.control ∙ sym c.read_control.ensures.value in
    no_departure c.read_control.result c.in_default.not-Sound (subst IsSound same c.requires.sound)

pub returns-clause-value : goal.returns-clause-value
returns-clause-value c = control_unit c.args.bytes.now c.requires.sound c.requires.control ∙ sym c.read_control.ensures.value ∙
    ap reading_view c.in-Sound.is
