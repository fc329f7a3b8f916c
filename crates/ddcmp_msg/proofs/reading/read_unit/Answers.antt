use Rattle.std.proofs.Common.{arith}
use Rattle.ddcmp_msg.specs.Reading.{reading_view}
use Rattle.ddcmp_msg.proofs.Agreement.{rule_of, sound_of}
use Rattle.ddcmp_msg.proofs.reading.read_unit.Goals as goal

pub returns-clause-rule : goal.returns-clause-rule
returns-clause-rule c = rule_of c.args.bytes.now (reading_view c.reading_of.result) (λ i. omega (arith, c.type_inv.bytes i))
    c.reading_of.ensures.value

pub returns-clause-sound : goal.returns-clause-sound
returns-clause-sound c = λ message. sound_of c.args.bytes.now (reading_view c.reading_of.result) message (λ i. omega (arith, c.type_inv.bytes i))
    c.reading_of.ensures.value
