use Rattle.dna_play.proofs.Stored.Law.{whole_of_nodes, stopped_of_nodes}
use Rattle.dna_play.proofs.laws.ends_keep_what_nodes_keep.Goals as goal

pub returns : goal.returns
returns c = record {
  played = λ script played fits e once. whole_of_nodes script fits played e once;
  stopped = λ script stopped fits e once. stopped_of_nodes script fits stopped e once;
}
