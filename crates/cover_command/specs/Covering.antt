-- What `cover` counts of pairs and prints, byte by byte, and with which status it ends.
use Rattle.std.specs.Prelude.{◌≡◌, ℕ, ◌+◌, ◌⊎◌, List, ◌++◌, Result, Ok, Err, max, min}
use Rattle.wire_base.specs.declared.side.Side.TheVariants.{A, B}
use Rattle.capture.specs.Faulty.{CountsReads}
use Rattle.dna_node.specs.Kind.{both_layers}
use Rattle.pair_judge.specs.Ends.{ShownEnds, verdict_in}
use Rattle.pair_judge.specs.Faulty.{is_failed_read_of}
use Rattle.pair_judge.specs.Judged.{IsAnswer}
use Rattle.pair_judge.specs.declared.fault.JudgeFault.{JudgeFault}
use Rattle.pair_judge.specs.declared.fault.JudgeFault.TheVariants.{OutOfMemory}
use Rattle.pair_judge.specs.declared.verdict.Verdict.{Verdict}
use Rattle.coverage.specs.Counts.{MOST}
use Rattle.coverage.specs.Covered.{WasCovered, side_counts}
use Rattle.coverage.specs.Missing.{missing}
use Rattle.coverage.specs.Text.{count_of, table}
use Rattle.coverage.specs.declared.cover.Cover.{Cover}
use Rattle.coverage.specs.declared.hints.Hint.{Hint}
use Rattle.coverage.specs.declared.hints.Setup.{Setup}
use Rattle.coverage.specs.declared.row.Row.{Row}
use Rattle.printing.specs.Printed.{Moved, TellsFault, Writes, fault_text, verdict_line, verdict_status}

-- what was found of the pairs so far
pub record CoveredView : Type 0 where
  pub lines : List ℕ
  pub a : List ℕ
  pub b : List ℕ
  pub status : ℕ

-- both readers
pub record PairMoved : Type 0 where
  pub a : Moved
  pub b : Moved

abbrev pub pair_moved : (a b : Moved) → PairMoved
pair_moved a b = record { a = a; b = b }

-- of each row the counts are added
abbrev pub AreAdded : (old more new : List ℕ) → Type 0
AreAdded old more new = (row : Row) → count_of new row ≡ min (count_of old row + count_of more row) MOST

-- one pair more, with these counts
pub record IsAdded (verdict : Verdict) (cover : Cover) (old new : CoveredView) : Type 0 where
  pub lines : new.lines ≡ old.lines ++ verdict_line verdict
  pub a : AreAdded old.a (side_counts A cover) new.a
  pub b : AreAdded old.b (side_counts B cover) new.b
  pub status : new.status ≡ max old.status (verdict_status verdict)

-- What is found of one pair: the answer is one of which all is true that the judge's contract says of its own; a verdict is added with what both
-- sides went through, or there is no memory for its line, which is told; and so is a fault
abbrev pub Finds : PairMoved → (old new : CoveredView) → (err : Moved) → Result ShownEnds JudgeFault → Result (Unit {0}) ℕ → Type 0
Finds pair old new err (Ok ends) (Ok done) =
    (cover : Cover) × WasCovered pair.a.old.bytes pair.b.old.bytes ends cover × IsAdded ends.verdict cover old new × (err.new ≡ err.old)
Finds pair old new err (Ok ends) (Err status) = Writes err.old err.new (fault_text OutOfMemory) 3 status
Finds pair old new err (Err fault) (Ok done) = ⊥
Finds pair old new err (Err fault) (Err status) = TellsFault err fault status

pub record CoversPair (pair : PairMoved) (old new : CoveredView) (err : Moved) (result : Result (Unit {0}) ℕ) : Type 0 where
  pub answer : Result ShownEnds JudgeFault
  pub judged : IsAnswer both_layers pair.a.old.bytes pair.b.old.bytes (verdict_in answer)
  pub reads_a : CountsReads (is_failed_read_of A answer) pair.a.old.faults pair.a.new.faults
  pub reads_b : CountsReads (is_failed_read_of B answer) pair.b.old.faults pair.b.new.faults
  pub found : Finds pair old new err answer result

-- ---- what is printed

-- a line for each pair, and the table of all, of so many rows that are counted
abbrev pub covered_text : (rows : ℕ) → CoveredView → List ℕ
covered_text rows covered = covered.lines ++ table rows covered.a covered.b

abbrev pub PrintsCovered : (rows : ℕ) → CoveredView → (out err : Moved) → ℕ → Type 0
PrintsCovered rows covered out err status =
    (Writes out.old out.new (covered_text rows covered) covered.status status × (err.new ≡ err.old))
    ⊎ (Writes err.old err.new (fault_text OutOfMemory) 3 status × (out.new ≡ out.old))

-- a line for each pair, and the rows that are missing in all
abbrev pub missing_of : List Hint → List Setup → CoveredView → List ℕ
missing_of hints setups covered = covered.lines ++ missing hints setups covered.a covered.b

abbrev pub PrintsMissing : List Hint → List Setup → CoveredView → (out err : Moved) → ℕ → Type 0
PrintsMissing hints setups covered out err status =
    (Writes out.old out.new (missing_of hints setups covered) covered.status status × (err.new ≡ err.old))
    ⊎ (Writes err.old err.new (fault_text OutOfMemory) 3 status × (out.new ≡ out.old))
