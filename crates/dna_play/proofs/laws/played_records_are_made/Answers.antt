use Rattle.dna_play.proofs.Played.Runs.{whole_is_played, stopped_is_played}
use Rattle.dna_play.proofs.laws.played_records_are_made.Goals as goal

pub returns : goal.returns
returns c = record { played = λ script played e. whole_is_played script played e; stopped = λ script stopped e. stopped_is_played script stopped e }
