-- Why there is no verdict: what the fault that is answered says of the text that it names, and of the records before it.
use Rattle.std.specs.Prelude.{◌≡◌, ℕ, ◌⊎◌, ◌&&◌, Bool, true, false, List, ◌++◌, Option, Result, Ok, Err}
use Rattle.wire_base.specs.declared.side.Side.{Side}
use Rattle.wire_base.specs.declared.side.Side.TheVariants.{A, B}
use Rattle.capture.specs.declared.fault.CaptureFault.{CaptureFault}
use Rattle.capture.specs.declared.fault.CaptureFault.TheVariants as capture
use Rattle.capture.specs.declared.fault.Departure.{Departure}
use Rattle.capture_record.specs.declared.record.Record.{Record}
use Rattle.capture.specs.SoFar.{ReadSoFar, IsReadSoFar, DepartsBehind, HeadDepartsAt}
use Rattle.dna_node.specs.Kind.{NodeKind, IsRunOf}
use Rattle.pair_judge.specs.declared.fault.JudgeFault.{JudgeFault}
use Rattle.pair_judge.specs.declared.fault.JudgeFault.TheVariants.{Capture, OutOfMemory}
use Rattle.pair_judge.specs.declared.fault.TextFault.{TextFault}
use Rattle.pair_judge.specs.declared.fault.TextFault.TheVariants.{Departs, Read}
use Rattle.pair_judge.specs.Heads.{head_of}
use Rattle.pair_judge.specs.Finding.{of_side}

-- these records come first of what was read
abbrev pub Begins : List Record → ReadSoFar → Type 0
Begins made read = (rest : List Record) × (read.records ≡ made ++ rest)

module _ (nodes : NodeKind) where
  -- So much was read of the two texts, and the line after it departs in that of this side; all records of that side that
  -- come before it, with those of the other side that were made, are a run.
  pub record IsFaultyBehind (text_a text_b : Option (List ℕ)) (side : Side) (kind : Departure) (line : ℕ) : Type 0 where
    pub read_a : ReadSoFar
    pub read_b : ReadSoFar
    pub from_a : IsReadSoFar text_a read_a
    pub from_b : IsReadSoFar text_b read_b
    pub departs : DepartsBehind (of_side side read_a read_b) kind line
    pub made_a : List Record
    pub made_b : List Record
    pub begins_a : Begins made_a read_a
    pub begins_b : Begins made_b read_b
    pub all_before : of_side side made_a made_b ≡ (of_side side read_a read_b).records
    pub run : IsRunOf nodes (head_of read_a) (head_of read_b) made_a made_b

  -- the head's line departs, before any record; or the line after the records that were read does
  abbrev pub IsFaultyText : Option (List ℕ) → Option (List ℕ) → Side → Departure → ℕ → Type 0
  IsFaultyText text_a text_b side kind line = HeadDepartsAt (of_side side text_a text_b) kind line ⊎ IsFaultyBehind text_a text_b side kind line

  abbrev pub IsJudgeFault : Option (List ℕ) → Option (List ℕ) → JudgeFault → Type 0
  IsJudgeFault text_a text_b (Capture side (Departs kind line)) = IsFaultyText text_a text_b side kind line
  -- of a failed read the reader's count tells
  IsJudgeFault text_a text_b (Capture side Read) = Unit {0}
  IsJudgeFault text_a text_b OutOfMemory = Unit {0}

-- ---- one side

-- what is answered of a reader's fault; a reader that failed before is not asked again
abbrev pub side_fault_of : Side → CaptureFault → JudgeFault
side_fault_of side (capture.Departs kind line) = Capture side (Departs kind line)
side_fault_of side capture.Read = Capture side Read
side_fault_of side capture.OutOfMemory = OutOfMemory
side_fault_of side capture.Failed = OutOfMemory

-- ---- failed reads

abbrev pub is_side : Side → Side → Bool
is_side A A = true
is_side A B = false
is_side B A = false
is_side B B = true

abbrev pub is_read_fault : TextFault → Bool
is_read_fault (Departs kind line) = false
is_read_fault Read = true

-- a failed read of this side's reader is answered
abbrev pub is_failed_read_of : {X : Type 0} → Side → Result X JudgeFault → Bool
is_failed_read_of side (Ok x) = false
is_failed_read_of side (Err (Capture of fault)) = is_read_fault fault && is_side side of
is_failed_read_of side (Err OutOfMemory) = false
