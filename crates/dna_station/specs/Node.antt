-- The node on true numbers: its station goes by the tables as `StationBook` has them, and of a unit it knows the truth.
use Rattle.dna_station.specs.declared.head.Head.{Head}
use Rattle.capture_record.specs.declared.record.Record.{Record}
use Rattle.dna_station.specs.declared.refusal.StepRefusal.{StepRefusal}
use Rattle.two_nodes.specs.Nodes.{Answer}
use Rattle.dna_station.specs.PeriodRule.{PeriodRule}
use Rattle.dna_station.specs.Station.{Station, new_station}
use Rattle.dna_station.specs.StationBook.{station_book}
use Rattle.dna_station.specs.Truth.{Truth}
use Rattle.dna_station.specs.Line.{SentUnit}
use Rattle.dna_station.specs.Machine.{Machine, NodeOf, station_alone}
use Rattle.dna_station.specs.Machine as any

abbrev pub Node : Type 0
Node = NodeOf Station

abbrev pub new_node : Head → Node
new_node head = record { head = head; station = new_station; front = 0 }

abbrev pub station_machine : PeriodRule → Machine Station Truth
station_machine rule = station_alone rule station_book

abbrev pub step : PeriodRule → Node → Record → Answer Node SentUnit StepRefusal
step rule n r = any.step (station_machine rule) n r
