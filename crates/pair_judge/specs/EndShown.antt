-- One end where its judge gives the verdict on it alone, what it shows of the node there, and what an observer was told.
use Rattle.std.specs.Prelude.{◌≡◌, ℕ, List, ◌++◌, length, map, count_by, Option, Some, None}
use Rattle.std.specs.Option.{option_to_list}
use Rattle.wire_base.specs.declared.side.Side.TheVariants.{A}
use Rattle.capture_record.specs.declared.record.Record.{Record}
use Rattle.capture.specs.SoFar.{ReadSoFar, IsReadSoFar}
use Rattle.ddcmp_station.specs.View.{view_of}
use Rattle.dna_station.specs.declared.refusal.StepRefusal.{StepRefusal}
use Rattle.dna_station.specs.Machine.{NodeOf, is_sent}
use Rattle.dna_node.specs.Alone.{Refuses}
use Rattle.dna_node.specs.Alone as alone
use Rattle.pair_judge.specs.declared.end_verdict.Accused.{Accused}
use Rattle.pair_judge.specs.declared.end_verdict.EndVerdict.{EndVerdict}
use Rattle.pair_judge.specs.declared.end_verdict.EndVerdict.TheVariants.{Passed, Refused}
use Rattle.pair_judge.specs.declared.reason.Reason.{Reason}
use Rattle.pair_judge.specs.EndJudged.{accused_view}
use Rattle.pair_judge.specs.EndKind.{EndKind}
use Rattle.pair_judge.specs.Ends.{ShownEnd}
use Rattle.pair_judge.specs.Heads.{head_of}
use Rattle.pair_judge.specs.Order.{MadeRecord, made_by}
use Rattle.pair_judge.specs.Reason.{reason_of_step}

-- the records of an end alone are told as those of side a
abbrev pub told_alone : List Record → List MadeRecord
told_alone made = map (made_by A) made

-- of this kind of end
module _ (kind : EndKind) where
  -- Its numbers are shown as the node keeps them, modulo 256 and 4,096
  pub record ShowsAlone (end : ShownEnd) (node : NodeOf kind.Keeps) (made : List Record) : Type 0 where
    pub layers : end.layers ≡ kind.layers node
    pub station : end.station ≡ view_of (kind.layers node).station
    pub links : end.links ≡ (kind.layers node).links
    pub front : end.front ≡ node.front
    pub records : end.records ≡ length made
    pub sent : end.sent ≡ count_by is_sent made

  -- The record ahead is one that this node refuses, for this reason
  pub record IsRefusedNext (end : ShownEnd) (node : NodeOf kind.Keeps) (accused : Accused) (reason : Reason) : Type 0 where
    pub next : Record
    pub is_ahead : end.ahead ≡ Some next
    pub refusal : StepRefusal
    pub is_reason : reason ≡ reason_of_step refusal
    pub refused : kind.step node next ≡ Refuses (accused_view accused) refusal

  -- the named record is the one ahead
  abbrev pub StopsWith : ShownEnd → NodeOf kind.Keeps → EndVerdict → Type 0
  StopsWith end node (Passed summary) = end.ahead ≡ None
  StopsWith end node (Refused place accused reason) = (place ≡ end.records) × IsRefusedNext end node accused reason

  -- So much was read of the text. All of it but the record ahead was made, which the observer was told; it leads to this node, which the end shows
  pub record StandsAlone (text : Option (List ℕ)) (end : ShownEnd) (verdict : EndVerdict) (told : List MadeRecord → Type 0) : Type 0 where
    pub read : ReadSoFar
    pub from : IsReadSoFar text read
    pub made : List Record
    pub all : read.records ≡ made ++ option_to_list end.ahead
    pub is_told : told (told_alone made)
    pub node : NodeOf kind.Keeps
    pub passes : kind.judged (head_of read) made ≡ alone.Passed node
    pub shows : ShowsAlone end node made
    pub stops : StopsWith end node verdict
