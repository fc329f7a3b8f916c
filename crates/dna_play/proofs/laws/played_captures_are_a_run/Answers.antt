use Rattle.dna_play.proofs.Played.Checked.{whole_is_run, stopped_is_run}
use Rattle.dna_play.proofs.laws.played_captures_are_a_run.Goals as goal

pub returns : goal.returns
returns c = record {
  played = λ script played e once. whole_is_run script played e once;
  stopped =
      λ script stopped e once. stopped_is_run script stopped e once;
}
