use Rattle.dna_leaving.proofs.Prelude.{refl}
use Rattle.dna_leaving.proofs.laws.message_of_a_link_that_is_left_out.Goals as goal

pub returns-clause-refused : goal.returns-clause-refused
returns-clause-refused c = refl

pub returns-clause-made : goal.returns-clause-made
returns-clause-made c = (_, refl)
