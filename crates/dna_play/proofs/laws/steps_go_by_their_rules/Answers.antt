use Rattle.dna_play.proofs.Played.Ruled.{next_goes_by_rule, stopped_by_rule}
use Rattle.dna_play.proofs.laws.steps_go_by_their_rules.Goals as goal

pub returns : goal.returns
returns c = record {
  next = λ script step so_far fits e once. next_goes_by_rule script step so_far fits e once;
  stopped = λ script stopped fits e once. stopped_by_rule script stopped fits e once;
}
