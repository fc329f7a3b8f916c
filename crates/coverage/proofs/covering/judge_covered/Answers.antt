use Rattle.dna_links.specs.declared.queue.Queues.TheVariants.{Without}
use Rattle.wire_base.specs.Tally.{tally_lent}
use Rattle.coverage.proofs.Covers.{AloneLaws, covered}
use Rattle.coverage.proofs.covering.judge_covered.Goals as goal

pub returns-in-Ok-clause-covered : goal.returns-in-Ok-clause-covered
returns-in-Ok-clause-covered g c =
    let passes = c.refused_station_alone_is_final.ensures in
    let laws : AloneLaws = record {
      stations_run = c.layers_run_as_stations.ensures.run Without;
      a_passes = passes.a_passes;
      b_passes = passes.b_passes;
    } in
    covered laws (g.R.Read.remaining (tally_lent c.args.a.now)) (g.S.Read.remaining (tally_lent c.args.b.now)) c.in-Ok.watched.ends
    c.in-Ok.watched.observer (rw c.of_period.ensures at c.in-Ok.ensures.told)
