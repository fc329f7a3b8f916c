use Rattle.pair_player.proofs.SendLaws.{kept_may, rule_may}
use Rattle.pair_player.proofs.run_laws.what_an_end_may_send.Goals as goal

pub returns-clause-kept : goal.returns-clause-kept
returns-clause-kept c = kept_may

pub returns-clause-by_rule : goal.returns-clause-by_rule
returns-clause-by_rule c = rule_may
