use Rattle.ddcmp_msg.proofs.Agreement.{by_rule}
use Rattle.ddcmp_msg.proofs.laws.reading_is_by_the_rule.Goals as goal

pub returns : goal.returns
returns c = by_rule
