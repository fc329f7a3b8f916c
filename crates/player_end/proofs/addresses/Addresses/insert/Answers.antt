use Rattle.std.proofs.Common.{◌∙◌}
use Rattle.player_end.proofs.Pairs.{cond_yes}
use Rattle.player_end.proofs.addresses.Addresses.insert.Goals as goal

pub returns-in-Ok-clause-others : goal.returns-in-Ok-clause-others
returns-in-Ok-clause-others c = λ q other h. c.in-Ok.ensures.updates.0 (q, other) ∙ cond_yes _ _ h
