use Rattle.ddcmp_msg.proofs.Agreement.{by_grammar}
use Rattle.ddcmp_msg.proofs.laws.spelling_is_by_the_grammar.Goals as goal

pub returns : goal.returns
returns c = by_grammar
