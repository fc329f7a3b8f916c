-- What a finding says of two captures, whose nodes are of this kind.
use Rattle.std.specs.Prelude.{ℕ, List}
use Rattle.two_nodes.specs.Nodes.{World}
use Rattle.two_nodes.specs.Past.{Offends}
use Rattle.two_nodes.specs.Endings.{LacksUnit, IsStuck}
use Rattle.wire_base.specs.declared.side.Side.TheVariants.{A, B}
use Rattle.capture_record.specs.declared.record.Record.{Record}
use Rattle.dna_station.specs.declared.head.Head.{Head}
use Rattle.dna_node.specs.declared.finding.Cause.{Cause}
use Rattle.dna_node.specs.declared.finding.Cause.TheVariants.{Step, NoSuchUnit, NoOrder}
use Rattle.dna_node.specs.declared.finding.Finding.{Finding}
use Rattle.dna_node.specs.declared.finding.Finding.TheVariants.{Accepted, Refused}
use Rattle.dna_node.specs.Kind.{NodeKind, KindNode, KindUnit, kind_pair, kind_start, IsRunOf}

module _ (kind : NodeKind) where
  -- What is wrong with this record of `own`, beside the records of the other side. `start` is the start with the named side first; both nodes
  -- go by the same step
  abbrev pub IsWrong : (start : World (KindNode kind) (KindUnit kind)) → (own other : List Record) → ℕ → Cause → Type 0
  -- it offends: its past is a run, and in the world where that ends it is refused for this reason
  IsWrong start own other place (Step refusal) = Offends (kind_pair kind) start own other place refusal
  -- all records of the other side and the earlier ones of its own are a run, and the unit that it names is not sent there
  IsWrong start own other place NoSuchUnit = LacksUnit (kind_pair kind) start own other place
  -- the earlier ones of its own and some beginning of the other side are a run, and neither side can go on
  IsWrong start own other place NoOrder = (on_other : ℕ) × IsStuck (kind_pair kind) start own other place on_other

  -- of a pair that is stuck side a is named
  abbrev pub IsWrongOfB : (start : World (KindNode kind) (KindUnit kind)) → (own other : List Record) → ℕ → Cause → Type 0
  IsWrongOfB start own other place (Step refusal) = IsWrong start own other place (Step refusal)
  IsWrongOfB start own other place NoSuchUnit = IsWrong start own other place NoSuchUnit
  IsWrongOfB start own other place NoOrder = ⊥

  -- of two captures with these heads
  abbrev pub IsVerdict : (head_a head_b : Head) → (of_a of_b : List Record) → Finding → Type 0
  IsVerdict head_a head_b of_a of_b Accepted = IsRunOf kind head_a head_b of_a of_b
  IsVerdict head_a head_b of_a of_b (Refused A place cause) =
      ¬ IsRunOf kind head_a head_b of_a of_b × IsWrong (kind_start kind head_a head_b) of_a of_b place cause
  IsVerdict head_a head_b of_a of_b (Refused B place cause) =
      ¬ IsRunOf kind head_a head_b of_a of_b × IsWrongOfB (kind_start kind head_b head_a) of_b of_a place cause
