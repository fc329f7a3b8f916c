use Rattle.dna_leaving.proofs.Prelude.{new_links, new_wire_links}
use Rattle.dna_leaving.proofs.Lists.{list_left}
use Rattle.dna_leaving.proofs.laws.what_is_left_is_made.Goals as goal

pub returns-clause-on_true : goal.returns-clause-on_true
returns-clause-on_true c = λ rules out judged node peer records left right made_is.
    list_left rules out records judged (new_links node peer) left (λ n l there. absurd cc) right made_is

pub returns-clause-on_wire : goal.returns-clause-on_wire
returns-clause-on_wire c = λ rules out judged node peer records left right made_is.
    list_left rules out records judged (new_wire_links node peer) left (λ n l there. absurd cc) right made_is
