-- What an event counts.
use Rattle.std.proofs.Common.{◌≡◌, ◌+◌, refl}
use Rattle.capture_record.specs.declared.record.Record.TheVariants.{User}
use Rattle.dna_station.specs.declared.state.StationEvent.{StationEvent}
use Rattle.dna_station.specs.declared.state.StationEvent.TheVariants.{Start, Halt}
use Rattle.dna_links.specs.User.{LinkEventValue, Up}
use Rattle.pair_judge.specs.declared.summary.SideSummary.{SideSummary}
use Rattle.pair_judge.specs.Counting.{delivers, more_if, starts}
use Rattle.pair_judge.specs.Events.{event_of_links, event_of_station}
use Rattle.pair_judge.specs.Summary.{counted}

pub station_counted : (s : SideSummary) (event : StationEvent) →
    record s { records = s.records + 1; periods = more_if (starts (event_of_station event)) s.periods } ≡ counted s (User (event_of_station event))
station_counted s Start = refl
station_counted s Halt = refl

pub links_counted : (s : SideSummary) (event : LinkEventValue) →
    record s { records = s.records + 1; up = more_if (delivers (event_of_links event)) s.up } ≡ counted s (User (event_of_links event))
links_counted s (Up link message) = refl
links_counted s event = refl
