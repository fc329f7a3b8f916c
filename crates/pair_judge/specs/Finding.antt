-- What was found of two texts: the finding of all captures that go on after what was read of them.
use Rattle.std.specs.Prelude.{◌≡◌, ℕ, List, Option}
use Rattle.wire_base.specs.declared.side.Side.{Side}
use Rattle.wire_base.specs.declared.side.Side.TheVariants.{A, B}
use Rattle.capture_record.specs.declared.record.Record.{Record}
use Rattle.capture.specs.SoFar.{Behind, TheEnd, ReadSoFar, IsReadSoFar, GoesOn}
use Rattle.dna_node.specs.declared.finding.Cause.{Cause}
use Rattle.dna_node.specs.declared.finding.Cause.TheVariants.{Step, NoSuchUnit, NoOrder}
use Rattle.dna_node.specs.declared.finding.Finding.{Finding}
use Rattle.dna_node.specs.declared.finding.Finding.TheVariants.{Accepted, Refused}
use Rattle.dna_node.specs.Verdict.{IsVerdict}
use Rattle.two_nodes.specs.Past.{Offends}
use Rattle.dna_station.specs.declared.refusal.StepRefusal.{StepRefusal}
use Rattle.pair_judge.specs.declared.judging.Found.{Found}
use Rattle.pair_judge.specs.Heads.{head_of}
use Rattle.dna_node.specs.Kind.{NodeKind, kind_pair, kind_start, IsRunOf}
use Rattle.pair_judge.specs.declared.summary.Summary.{Summary}
use Rattle.pair_judge.specs.Summary.{summary_of}
use Rattle.dna_station.specs.declared.head.Head.{Head}

-- what a side has
abbrev pub of_side : {X : Type 0} → Side → X → X → X
of_side A a b = a
of_side B a b = b

-- that a unit is never sent is known where the text of its side was read to the end
abbrev pub EndsFor : Cause → Behind → Type 0
EndsFor (Step refusal) behind = Unit {0}
EndsFor NoSuchUnit behind = behind ≡ TheEnd
EndsFor NoOrder behind = Unit {0}

abbrev pub EndsWhere : Finding → Behind → Behind → Type 0
EndsWhere Accepted behind_a behind_b = (behind_a ≡ TheEnd) × (behind_b ≡ TheEnd)
EndsWhere (Refused A place cause) behind_a behind_b = EndsFor cause behind_b
EndsWhere (Refused B place cause) behind_a behind_b = EndsFor cause behind_a

module _ (kind : NodeKind) where
  -- Side a comes first: where a record of b is named, none of a offends
  abbrev pub IsFirst : (head_a head_b : Head) → (of_a of_b : List Record) → Finding → Type 0
  IsFirst head_a head_b of_a of_b Accepted = Unit {0}
  IsFirst head_a head_b of_a of_b (Refused A place cause) = Unit {0}
  IsFirst head_a head_b of_a of_b (Refused B place cause) =
      (n : ℕ) (refusal : StepRefusal) → ¬ Offends (kind_pair kind) (kind_start kind head_a head_b) of_a of_b n refusal

  -- The finding of two captures. There is just one: two verdicts differ only where a record of each side offends
  pub record IsFinding (head_a head_b : Head) (of_a of_b : List Record) (finding : Finding) : Type 0 where
    pub verdict : IsVerdict kind head_a head_b of_a of_b finding
    pub first : IsFirst head_a head_b of_a of_b finding

  -- however the captures go on after what was read
  abbrev pub IsFindingBehind : ReadSoFar → ReadSoFar → Finding → Type 0
  IsFindingBehind read_a read_b finding =
      (all_a all_b : List Record) → GoesOn read_a all_a → GoesOn read_b all_b → IsFinding (head_of read_a) (head_of read_b) all_a all_b finding

  -- all of these records are a run, and this summary is the counts of them and of the links at its end
  pub record IsCounted (head_a head_b : Head) (of_a of_b : List Record) (summary : Summary) : Type 0 where
    pub run : IsRunOf kind head_a head_b of_a of_b
    pub counts_a : summary.a ≡ summary_of kind run.0.a.state of_a
    pub counts_b : summary.b ≡ summary_of kind run.0.b.state of_b

  -- So much was read of the two texts, and this is the finding of whatever goes on after it; an acceptance comes with the
  -- counts of all records.
  pub record IsFoundIn (text_a text_b : Option (List ℕ)) (found : Found) : Type 0 where
    pub read_a : ReadSoFar
    pub read_b : ReadSoFar
    pub from_a : IsReadSoFar text_a read_a
    pub from_b : IsReadSoFar text_b read_b
    pub finding : IsFindingBehind read_a read_b found.finding
    pub ends : EndsWhere found.finding read_a.behind read_b.behind
    pub counts : found.finding ≡ Accepted → IsCounted (head_of read_a) (head_of read_b) read_a.records read_b.records found.summary
