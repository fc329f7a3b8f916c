use Rattle.dna_node.specs.Kind.{both_layers, stations_alone}
use Rattle.pair_judge.proofs.Alike.{judges, same_verdict}
use Rattle.pair_judge.proofs.formats.judged_in_any_format.Goals as goal

pub returns-clause-alike : goal.returns-clause-alike
returns-clause-alike c =
    let w = c.whole_text.ensures in
    same_verdict both_layers (record { ended = w.ended; goes_on = w.goes_on; departs_nowhere = w.departs_nowhere; head_stands = w.head_stands })
    c.one_head_and_list.ensures.list

pub returns-clause-judged : goal.returns-clause-judged
returns-clause-judged c =
    let w = c.whole_text.ensures in
    judges both_layers (record { ended = w.ended; goes_on = w.goes_on; departs_nowhere = w.departs_nowhere; head_stands = w.head_stands })

pub returns-clause-line_alike : goal.returns-clause-line_alike
returns-clause-line_alike c =
    let w = c.whole_text.ensures in
    same_verdict stations_alone (record { ended = w.ended; goes_on = w.goes_on; departs_nowhere = w.departs_nowhere; head_stands = w.head_stands })
    c.one_head_and_list.ensures.list

pub returns-clause-line_judged : goal.returns-clause-line_judged
returns-clause-line_judged c =
    let w = c.whole_text.ensures in
    judges stations_alone (record { ended = w.ended; goes_on = w.goes_on; departs_nowhere = w.departs_nowhere; head_stands = w.head_stands })
