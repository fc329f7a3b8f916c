use Rattle.dna_play.proofs.Played.FewRecords.{few_played, few_stopped, fits_text}
use Rattle.dna_play.proofs.laws.played_captures_are_few.Goals as goal

pub returns : goal.returns
returns c = record {
  played = λ script played e. few_played script played e;
  stopped = λ script stopped e. few_stopped script stopped e;
  played_fits = λ script played fits e. fits_text script fits played (few_played script played e);
  stopped_fits = λ script stopped fits e. fits_text script fits stopped.so_far (few_stopped script stopped e);
}
