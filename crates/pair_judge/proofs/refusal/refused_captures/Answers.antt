use Rattle.dna_node.specs.Kind.{both_layers, stations_alone}
use Rattle.pair_judge.proofs.Clauses.{WholeLaws, refused_captures}
use Rattle.pair_judge.proofs.refusal.refused_captures.Goals as goal

pub returns-clause-nodes : goal.returns-clause-nodes
returns-clause-nodes c =
    let w = c.whole_text.ensures in
    let laws : WholeLaws = record { ended = w.ended; goes_on = w.goes_on; departs_nowhere = w.departs_nowhere; head_stands = w.head_stands } in
    refused_captures both_layers laws

pub returns-clause-line : goal.returns-clause-line
returns-clause-line c =
    let w = c.whole_text.ensures in
    let laws : WholeLaws = record { ended = w.ended; goes_on = w.goes_on; departs_nowhere = w.departs_nowhere; head_stands = w.head_stands } in
    refused_captures stations_alone laws
