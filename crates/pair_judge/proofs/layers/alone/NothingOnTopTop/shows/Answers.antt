use Rattle.std.proofs.Common.{not, eqb, Bool, true, false}
use Rattle.dna_station.specs.PeriodRule.{of_period}
use Rattle.pair_judge.specs.inner.Reached.{ShowsRuns}
use Rattle.pair_judge.specs.inner.Tops.{nothing_top}
use Rattle.pair_judge.proofs.Alone.{run_of_stations, shown_alone, shown_of_any_period}
use Rattle.pair_judge.proofs.layers.alone.NothingOnTopTop.shows.Goals as goal

of_either : ShowsRuns (nothing_top true) → (of_period : Bool) → ShowsRuns (nothing_top of_period)
of_either shows true = shows
of_either shows false = shown_of_any_period

pub returns : goal.returns
returns g c =
    of_either (λ head_a head_b w of_a of_b run. shown_alone head_a head_b w of_a of_b
    (c.wire_nodes_see_right.ensures.of_wire head_a head_b _ of_a of_b (run_of_stations of_period head_a head_b w of_a of_b run)))
    (not (eqb g.row.OF_PERIOD 0))
