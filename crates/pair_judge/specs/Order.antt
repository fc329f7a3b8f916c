-- The order in which a judge makes the records of both captures.
use Rattle.std.specs.Prelude.{◌≡◌, if◌then◌else◌, ℕ, List, [], ◌∷◌, ◌++◌}
use Rattle.wire_base.specs.declared.side.Side.{Side}
use Rattle.wire_base.specs.declared.side.Side.TheVariants.{A, B}
use Rattle.two_nodes.specs.Nodes.{IsRun, Nodes, World}
use Rattle.capture_record.specs.Entries.{record_with}
use Rattle.capture_record.specs.declared.entry.Entry.{Entry}
use Rattle.capture_record.specs.declared.record.Record.{Record}
use Rattle.pair_judge.specs.Faulty.{is_side}

-- a record that a side made
pub record MadeRecord : Type 0 where
  pub side : Side
  pub what : Record

abbrev pub made_by : Side → Record → MadeRecord
made_by side r = record { side = side; what = r }

-- the same in two parts: what its line says, and the bytes beside it
pub record MadeEntry : Type 0 where
  pub side : Side
  pub entry : Entry
  pub bytes : List ℕ

abbrev pub record_told : MadeEntry → MadeRecord
record_told made = made_by made.side (record_with made.entry made.bytes)

-- those of a side
abbrev pub records_of : Side → List MadeRecord → List Record
records_of side [] = []
records_of side (made ∷ order) = if is_side side made.side then made.what ∷ records_of side order else records_of side order

-- in this order they can be made: wherever one stops, those before are a run of the two nodes
abbrev pub IsRunInOrder : {S U Z : Type 0} → Nodes S Record U Z → World S U → List MadeRecord → Type 0
IsRunInOrder nodes start order = (done rest : List MadeRecord) → order ≡ done ++ rest → IsRun nodes start (records_of A done) (records_of B done)

-- of an observer, before and after it was told one record more
abbrev pub TellsNext : {X : Type 0} → (told : X → List MadeRecord → Type 0) → (before after : X) → MadeRecord → Type 0
TellsNext told before after made = (order : List MadeRecord) → told before order → told after (order ++ made ∷ [])
