use Rattle.dna_links.specs.declared.queue.Queues.TheVariants.{Without}
use Rattle.pair_judge.proofs.Clauses.{WholeLaws}
use Rattle.pair_judge.proofs.LineToo.{accepts_too, refuses_too}
use Rattle.pair_judge.proofs.formats.line_is_judged_too.Goals as goal

pub returns-clause-accepted : goal.returns-clause-accepted
returns-clause-accepted c = accepts_too (c.layers_run_as_stations.ensures.run Without)

pub returns-clause-refused : goal.returns-clause-refused
returns-clause-refused c =
    let w = c.whole_text.ensures in
    let laws : WholeLaws = record { ended = w.ended; goes_on = w.goes_on; departs_nowhere = w.departs_nowhere; head_stands = w.head_stands } in
    refuses_too (c.layers_run_as_stations.ensures.run Without) laws
