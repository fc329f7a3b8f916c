use Rattle.std.proofs.Common.{◌∙◌}
use Rattle.player_end.proofs.Pairs.{other_pair}
use Rattle.player_end.proofs.addresses.Addresses.remove.Goals as goal

pub returns : goal.returns
returns c = λ q other differ h. c.remove.ensures.updates.2 (q, other) (other_pair c.args.address c.args.number q other differ) ∙ h
