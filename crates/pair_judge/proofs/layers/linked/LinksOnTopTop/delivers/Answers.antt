use Rattle.std.proofs.Common.{not, eqb, Bool, true, false}
use Rattle.dna_links.specs.declared.queue.Queues.{Queues}
use Rattle.nsp_link.specs.Kinds.{queues_of}
use Rattle.pair_judge.specs.inner.Delivering.{DeliversInOrder}
use Rattle.pair_judge.specs.inner.Tops.{layers_of}
use Rattle.pair_judge.proofs.layers.linked.LinksOnTopTop.delivers.Goals as goal

-- nothing is claimed where no period is asked
of_either : (queues : Queues) → DeliversInOrder (layers_of true queues) → (of_period : Bool) → DeliversInOrder (layers_of of_period queues)
of_either queues delivers true = delivers
of_either queues delivers false = record { of_a = λ head_a head_b w of_a of_b run. tt; of_b = λ head_a head_b w of_a of_b run. tt }

pub returns : goal.returns
returns g c =
    let queues = queues_of g.row.QUEUES in
    let d = c.captures_deliver_in_order.ensures in
    let m = c.layers_deliver_in_order.ensures in
    let stations = c.layers_run_as_stations.ensures.run queues in
    of_either queues (record {
      of_a = λ head_a head_b w of_a of_b run.
          record {
            packets = d.a_delivers head_a head_b _ of_a of_b (stations head_a head_b w of_a of_b run);
            messages = m.of_a queues head_a head_b w of_a of_b run;
            captured = m.a_captured queues head_a head_b w of_a of_b run;
          };
      of_b = λ head_a head_b w of_a of_b run.
          record {
            packets = d.b_delivers head_a head_b _ of_a of_b (stations head_a head_b w of_a of_b run);
            messages = m.of_b queues head_a head_b w of_a of_b run;
            captured = m.b_captured queues head_a head_b w of_a of_b run;
          };
    }) (not (eqb g.row.OF_PERIOD 0))
