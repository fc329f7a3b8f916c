use Rattle.dna_links.specs.declared.queue.Queues.TheVariants.{Without, With}
use Rattle.dna_node.specs.Kind.{layers_kind, stations_alone}
use Rattle.pair_judge.specs.AnyPeriod.{layers_of_any_period, stations_of_any_period}
use Rattle.pair_judge.proofs.AnyPeriodToo.{layers_too, stations_too}
use Rattle.pair_judge.proofs.QueuedToo.{counted_too}
use Rattle.pair_judge.proofs.formats.judged_of_any_period_too.Goals as goal

pub returns-clause-nodes : goal.returns-clause-nodes
returns-clause-nodes c = counted_too (layers_kind Without) (layers_of_any_period Without) (layers_too Without c.wire_layers_see_right.ensures.of_true)
    c.one_head_and_list.ensures.list

pub returns-clause-queued : goal.returns-clause-queued
returns-clause-queued c = counted_too (layers_kind With) (layers_of_any_period With)
    (layers_too With c.queued_wire_layers_see_right.ensures.of_true) c.one_head_and_list.ensures.list

pub returns-clause-line : goal.returns-clause-line
returns-clause-line c =
    counted_too stations_alone stations_of_any_period (stations_too c.wire_nodes_see_right.ensures.of_true) c.one_head_and_list.ensures.list
