use Rattle.dna_leaving.proofs.Prelude.{new_links, new_wire_links}
use Rattle.dna_leaving.proofs.Lists.{refusal_left}
use Rattle.dna_leaving.proofs.laws.judged_record_is_refused_alike.Goals as goal

pub returns-clause-on_true : goal.returns-clause-on_true
returns-clause-on_true c = λ rules out judged node peer before later one left refusal right made_is is refused.
    refusal_left rules out before one later judged (new_links node peer) left refusal (λ n l there. absurd cc) right made_is is refused

pub returns-clause-on_wire : goal.returns-clause-on_wire
returns-clause-on_wire c = λ rules out judged node peer before later one left refusal right made_is is refused.
    refusal_left rules out before one later judged (new_wire_links node peer) left refusal (λ n l there. absurd cc) right made_is is refused
