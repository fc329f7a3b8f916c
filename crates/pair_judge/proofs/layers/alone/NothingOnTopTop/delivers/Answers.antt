use Rattle.std.proofs.Common.{not, eqb, Bool, true, false}
use Rattle.pair_judge.specs.inner.Delivering.{DeliversInOrder}
use Rattle.pair_judge.specs.inner.Tops.{stations_of}
use Rattle.pair_judge.proofs.layers.alone.NothingOnTopTop.delivers.Goals as goal

-- nothing is claimed where no period is asked
of_either : DeliversInOrder (stations_of true) → (of_period : Bool) → DeliversInOrder (stations_of of_period)
of_either delivers true = delivers
of_either delivers false = record { of_a = λ head_a head_b w of_a of_b run. tt; of_b = λ head_a head_b w of_a of_b run. tt }

pub returns : goal.returns
returns g c =
    of_either (record { of_a = c.captures_deliver_in_order.ensures.a_delivers; of_b = c.captures_deliver_in_order.ensures.b_delivers })
    (not (eqb g.row.OF_PERIOD 0))
