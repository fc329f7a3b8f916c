use Rattle.std.proofs.Common.{sym, ◌∙◌}
use Rattle.ddcmp_msg.proofs.Units.{spelled_once}
use Rattle.ddcmp_msg.proofs.Agreement.{one_message}
use Rattle.ddcmp_msg.proofs.laws.message_has_one_unit.Goals as goal

pub returns-clause-unit : goal.returns-clause-unit
returns-clause-unit c = λ message one other u v. spelled_once message one u ∙ sym (spelled_once message other v)

pub returns-clause-message : goal.returns-clause-message
returns-clause-message c = one_message
