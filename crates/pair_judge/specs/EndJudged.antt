-- What an answer of the judge of one end says of the bytes that its reader had left.
use Rattle.std.specs.Prelude.{◌≡◌, ℕ, ◌<◌, ◌⊎◌, List, length, Option, IfSome, Result, Ok, Err}
use Rattle.capture.specs.declared.fault.CaptureFault.{CaptureFault}
use Rattle.capture.specs.declared.fault.CaptureFault.TheVariants.{Departs, Read, OutOfMemory, Failed}
use Rattle.capture.specs.declared.fault.Departure.{Departure}
use Rattle.capture_record.specs.declared.record.Record.{Record}
use Rattle.capture.specs.Range.{IsText}
use Rattle.capture.specs.SoFar.{TheEnd, ReadSoFar, IsReadSoFar, GoesOn, DepartsBehind, HeadDepartsAt}
use Rattle.dna_station.specs.declared.head.Head.{Head}
use Rattle.dna_station.specs.declared.refusal.StepRefusal.{StepRefusal}
use Rattle.dna_station.specs.Machine.{NodeOf}
use Rattle.dna_node.specs.Alone as alone
use Rattle.pair_judge.specs.declared.end_verdict.Accused.{Accused}
use Rattle.pair_judge.specs.declared.end_verdict.Accused.TheVariants.{ThisEnd, OtherEnd}
use Rattle.pair_judge.specs.declared.end_verdict.EndVerdict.{EndVerdict}
use Rattle.pair_judge.specs.declared.end_verdict.EndVerdict.TheVariants.{Passed, Refused}
use Rattle.pair_judge.specs.declared.reason.Reason.{Reason}
use Rattle.pair_judge.specs.declared.summary.SideSummary.{SideSummary}
use Rattle.pair_judge.specs.EndKind.{EndKind}
use Rattle.pair_judge.specs.Heads.{head_of}
use Rattle.pair_judge.specs.Reason.{reason_of_step}
use Rattle.pair_judge.specs.Summary.{summary_with}

abbrev pub accused_view : Accused → alone.Accused
accused_view ThisEnd = alone.ThisEnd
accused_view OtherEnd = alone.OtherEnd

abbrev pub EndAnswer : Type 0
EndAnswer = Result EndVerdict CaptureFault

-- a pass, or a fault of memory or of a device
abbrev pub PassesOrFails : EndAnswer → Type 0
PassesOrFails (Ok (Passed summary)) = Unit {0}
PassesOrFails (Ok (Refused place accused reason)) = ⊥
PassesOrFails (Err (Departs kind line)) = ⊥
PassesOrFails (Err Read) = Unit {0}
PassesOrFails (Err OutOfMemory) = Unit {0}
PassesOrFails (Err Failed) = ⊥

module _ (end : EndKind) where
  -- The text was read to its end; all of its records were made, and the summary counts them, and the links of the node that they led to.
  pub record HasPassed (text : Option (List ℕ)) (summary : SideSummary) : Type 0 where
    pub read : ReadSoFar
    pub from : IsReadSoFar text read
    pub whole : read.behind ≡ TheEnd
    pub node : NodeOf end.Keeps
    pub passes : end.judged (head_of read) read.records ≡ alone.Passed node
    pub counts : summary ≡ summary_with (end.links node.station) read.records

  -- So much was read of the text. The named record is among it, and however the capture goes on after it, this record is the first that can't be
  -- made, by whom the answer names, for a refusal of the printed reason.
  pub record IsRefusedAlone (text : Option (List ℕ)) (place : ℕ) (accused : Accused) (reason : Reason) : Type 0 where
    pub read : ReadSoFar
    pub from : IsReadSoFar text read
    pub named : place < length read.records
    pub refusal : StepRefusal
    pub is_reason : reason ≡ reason_of_step refusal
    pub refused : (all : List Record) → GoesOn read all → end.judged (head_of read) all ≡ alone.Refused place (accused_view accused) refusal

  -- So much was read of the text, the line after it departs, and all records before it were made.
  pub record IsFaultyAlone (text : Option (List ℕ)) (kind : Departure) (line : ℕ) : Type 0 where
    pub read : ReadSoFar
    pub from : IsReadSoFar text read
    pub departs : DepartsBehind read kind line
    pub node : NodeOf end.Keeps
    pub passes : end.judged (head_of read) read.records ≡ alone.Passed node

  -- of whatever the reader tells
  abbrev pub IsEndAnswer : Option (List ℕ) → EndAnswer → Type 0
  IsEndAnswer text (Ok (Passed summary)) = HasPassed text summary
  IsEndAnswer text (Ok (Refused place accused reason)) = IsRefusedAlone text place accused reason
  -- the head's line departs, before any record; or the line after the records that were read does
  IsEndAnswer text (Err (Departs kind line)) = HeadDepartsAt text kind line ⊎ IsFaultyAlone text kind line
  -- of a failed read the reader's count tells
  IsEndAnswer text (Err Read) = Unit {0}
  IsEndAnswer text (Err OutOfMemory) = Unit {0}
  IsEndAnswer text (Err Failed) = ⊥

  -- ---- where the reader tells its bytes

  -- The bytes are the text of a capture, all of whose records were made, with these counts.
  pub record IsPass (bytes : List ℕ) (summary : SideSummary) : Type 0 where
    pub head : Head
    pub records : List Record
    pub is_text : IsText head.own head.peer records bytes
    pub node : NodeOf end.Keeps
    pub passes : end.judged head records ≡ alone.Passed node
    pub counts : summary ≡ summary_with (end.links node.station) records

  abbrev pub PassesWhole : List ℕ → EndAnswer → Type 0
  PassesWhole bytes (Ok (Passed summary)) = IsPass bytes summary
  PassesWhole bytes (Ok (Refused place accused reason)) = Unit {0}
  PassesWhole bytes (Err fault) = Unit {0}

  -- Exact: where these bytes are the text of a capture all of whose records are made, nothing else is answered.
  abbrev pub IsExactAlone : List ℕ → EndAnswer → Type 0
  IsExactAlone bytes answer = (head : Head) (records : List Record) (node : NodeOf end.Keeps) → IsText head.own head.peer records bytes →
      end.judged head records ≡ alone.Passed node → PassesOrFails answer

  -- what an answer says of the bytes that the reader had left
  pub record IsJudgedAlone (text : Option (List ℕ)) (answer : EndAnswer) : Type 0 where
    pub says : IsEndAnswer text answer
    pub passed : IfSome text (λ bytes. PassesWhole bytes answer)
    pub exact : IfSome text (λ bytes. IsExactAlone bytes answer)
