use Rattle.dna_leaving.proofs.Prelude.{refl}
use Rattle.dna_leaving.proofs.laws.answer_to_address_0.Goals as goal

pub returns-clause-made : goal.returns-clause-made
returns-clause-made c = (_, refl)

pub returns-clause-refused : goal.returns-clause-refused
returns-clause-refused c = refl
