use Rattle.std.proofs.Common.{not, eqb, ℕ, zero, suc, Bool, true, false}
use Rattle.dna_links.specs.declared.queue.Queues.{Queues}
use Rattle.dna_links.specs.declared.queue.Queues.TheVariants.{Without, With}
use Rattle.nsp_link.specs.Kinds.{queues_of}
use Rattle.pair_judge.specs.inner.Reached.{ShowsRuns}
use Rattle.pair_judge.specs.inner.Tops.{links_top}
use Rattle.pair_judge.proofs.Seen.{SeesRight, shown_as_run, shown_by}
use Rattle.pair_judge.proofs.layers.linked.LinksOnTopTop.shows.Goals as goal

of_either : SeesRight Without → SeesRight With → (kind : ℕ) → SeesRight (queues_of kind)
of_either without queues zero = without
of_either without queues (suc kind) = queues

of_any : (queues : Queues) → SeesRight queues → (of_period : Bool) → ShowsRuns (links_top of_period queues)
of_any queues sees true = shown_by queues sees
of_any queues sees false = shown_as_run queues

pub returns : goal.returns
returns g c =
    let sees = of_either c.wire_layers_see_right.ensures.of_wire c.queued_wire_layers_see_right.ensures.of_wire g.row.QUEUES in
    of_any (queues_of g.row.QUEUES) sees (not (eqb g.row.OF_PERIOD 0))
