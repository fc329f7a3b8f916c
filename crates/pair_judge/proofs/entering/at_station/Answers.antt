use Rattle.std.proofs.Common.{◌∙◌}
use Rattle.pair_judge.proofs.Events.{station_counted}
use Rattle.pair_judge.proofs.entering.at_station.Goals as goal

pub returns-in-Ok-clause-ok : goal.returns-in-Ok-clause-ok
returns-in-Ok-clause-ok g c = record {
  made = c.in-Ok.ensures.ok;
  counts = c.with_station_event.ensures ∙ station_counted c.args.counts.now c.args.event;
  load = c.start_or_halt.ensures.load;
}
