-- What a refusal says.
use Rattle.std.specs.Prelude.{◌≡◌, ◌≢◌, ℕ, ◌<◌, List, length, Option}
use Rattle.wire_base.specs.Side.{other_side}
use Rattle.wire_base.specs.declared.side.Side.{Side}
use Rattle.two_nodes.specs.Past.{Offends}
use Rattle.capture_record.specs.declared.record.Record.{Record}
use Rattle.capture.specs.Range.{IsText}
use Rattle.capture.specs.SoFar.{ReadSoFar, IsReadSoFar}
use Rattle.dna_node.specs.declared.finding.Cause.{Cause}
use Rattle.dna_node.specs.declared.finding.Cause.TheVariants.{Step}
use Rattle.dna_node.specs.declared.finding.Finding.TheVariants.{Refused}
use Rattle.dna_station.specs.declared.head.Head.{Head}
use Rattle.dna_station.specs.declared.refusal.StepRefusal.{StepRefusal}
use Rattle.dna_node.specs.Kind.{NodeKind, kind_pair, kind_start, IsRunOf}
use Rattle.dna_node.specs.Verdict.{IsVerdict}
use Rattle.pair_judge.specs.declared.reason.Reason.{Reason}
use Rattle.pair_judge.specs.declared.reason.Reason.TheVariants.{NoSuchUnit, NoOrder}
use Rattle.pair_judge.specs.Finding.{EndsFor, IsFindingBehind, IsFirst, of_side}
use Rattle.pair_judge.specs.Reason.{reason_of}

module _ (kind : NodeKind) where
  -- So much was read of the two texts, which may be faulty, endless or untold after it. The named record is among what was read,
  -- and the printed reason is that of a cause which is the verdict however the captures go on: they are no run, and
  --   the record offends: all that it rests on can be made, and then it can't, for this reason; or
  --   it names a unit that the other side, whose text was read to its end, never sends, though all records of that side and the
  --   earlier ones of its own are a run (`NoSuchUnit`); or
  --   it is the next of side a where beginnings of both sides are a run, and each side's next record waits (`NoOrder`).
  -- A record of b is named only where none of a offends. So the captures alone tell which record is named, and why.
  pub record IsRefusal (text_a text_b : Option (List ℕ)) (side : Side) (place : ℕ) (reason : Reason) : Type 0 where
    pub read_a : ReadSoFar
    pub read_b : ReadSoFar
    pub from_a : IsReadSoFar text_a read_a
    pub from_b : IsReadSoFar text_b read_b
    pub named : place < length (of_side side read_a.records read_b.records)
    pub cause : Cause
    pub is_reason : reason ≡ reason_of cause
    pub ends : EndsFor cause (of_side (other_side side) read_a.behind read_b.behind)
    pub finding : IsFindingBehind kind read_a read_b (Refused side place cause)

-- ---- of two whole captures

-- A whole capture: its head and all of its records
pub record WholeCapture : Type 0 where
  pub head : Head
  pub records : List Record

-- these bytes are their texts, each in any format
pub record AreTexts (a b : WholeCapture) (bytes_a bytes_b : List ℕ) : Type 0 where
  pub of_a : IsText a.head.own a.head.peer a.records bytes_a
  pub of_b : IsText b.head.own b.head.peer b.records bytes_b

module _ (kind : NodeKind) where
  -- the record of this side offends, and this is the reason
  pub record OffendsFor (a b : WholeCapture) (side : Side) (place : ℕ) (reason : Reason) : Type 0 where
    pub refusal : StepRefusal
    pub is_reason : reason ≡ reason_of (Step refusal)
    pub offends : Offends (kind_pair kind) (kind_start kind (of_side side a.head b.head) (of_side side b.head a.head))
        (of_side side a.records b.records) (of_side side b.records a.records) place refusal

  -- the captures are no run; a cause of this reason is the verdict; a record of b is named only where none of a offends; and,
  -- except for two reasons, the named record offends
  pub record AreRefused (a b : WholeCapture) (side : Side) (place : ℕ) (reason : Reason) : Type 0 where
    pub no_run : ¬ IsRunOf kind a.head b.head a.records b.records
    pub cause : Cause
    pub is_reason : reason ≡ reason_of cause
    pub verdict : IsVerdict kind a.head b.head a.records b.records (Refused side place cause)
    pub first : IsFirst kind a.head b.head a.records b.records (Refused side place cause)
    pub offends : reason ≢ NoSuchUnit → reason ≢ NoOrder → OffendsFor a b side place reason
