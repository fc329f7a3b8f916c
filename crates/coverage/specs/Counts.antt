-- The rows that the records of one side go through, and how often each is among them.
use Rattle.std.specs.Prelude.{◌≡◌, ℕ, ◌+◌, ◌-◌, ◌^◌, ◌==◌, if◌then◌else◌, min, List, [], ◌∷◌, ◌++◌, Some, slice_get}
use Rattle.capture_record.specs.declared.record.Record.{Record}
use Rattle.dna_station.specs.declared.head.Head.{Head}
use Rattle.dna_links.specs.declared.tag.LinkTag.{LinkTag}
use Rattle.dna_station.specs.WireNode.{WireNode, new_wire_node}
use Rattle.dna_station.specs.WireStation.{WireStation}
use Rattle.dna_node.specs.Alone.{StepAlone, Makes, Refuses, step_alone, station_end}
use Rattle.coverage.specs.declared.row.Row.{Row}
use Rattle.coverage.specs.Row.{place}
use Rattle.coverage.specs.Rows.{record_rows}

-- the rows of a record that is made, and then those after it; one that can't be made goes through none, and ends the list
abbrev pub then_rows : List Row → StepAlone (WireStation LinkTag) → (WireNode LinkTag → List Row) → List Row
then_rows rows (Makes next) later = rows ++ later next
then_rows rows (Refuses accused reason) later = []

-- each record by the station before it
abbrev pub rows_from : WireNode LinkTag → List Record → List Row
rows_from n [] = []
rows_from n (r ∷ records) = then_rows (record_rows n.station.variables r) (step_alone station_end n r) (λ next. rows_from next records)

-- the capture with this head and these records
abbrev pub rows_of : Head → List Record → List Row
rows_of head records = rows_from (new_wire_node head) records

abbrev pub times : Row → List Row → ℕ
times row [] = 0
times row (met ∷ rows) = if place met == place row then 1 + times row rows else times row rows

-- how far a count goes
abbrev pub MOST : ℕ
MOST = 2 ^ 64 - 1

-- The count at the place of each row is how often it is among these
abbrev pub AreCounts : (counts : List ℕ) → List Row → Type 0
AreCounts counts rows = (row : Row) → slice_get counts (place row) ≡ Some (min (times row rows) MOST)
