use Rattle.std.proofs.Common.{sym, ◌∙◌}
use Rattle.ddcmp_msg.proofs.OneReading.{reading_is}
use Rattle.ddcmp_msg.proofs.laws.unit_has_one_reading.Goals as goal

pub returns : goal.returns
returns c = λ unit one other fits h k. sym (reading_is one unit fits h) ∙ reading_is other unit fits k
