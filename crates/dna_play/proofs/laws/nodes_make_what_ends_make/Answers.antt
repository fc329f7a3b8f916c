use Rattle.dna_play.proofs.Stored.Law.{whole_kept, stopped_kept}
use Rattle.dna_play.proofs.laws.nodes_make_what_ends_make.Goals as goal

pub returns : goal.returns
returns c = record {
  played = λ script fits once. whole_kept script fits once;
  stopped = λ script stopped fits e once. stopped_kept script stopped fits e once;
}
