use Rattle.dna_leaving.proofs.Whole.{whole_links, whole_record}
use Rattle.dna_leaving.proofs.laws.nothing_left_out.Goals as goal

pub returns-clause-links : goal.returns-clause-links
returns-clause-links c = λ s. whole_links s

pub returns-clause-records : goal.returns-clause-records
returns-clause-records c = λ one. whole_record one
