-- What a run of two nodes delivers.
use Rattle.std.specs.Prelude.{List}
use Rattle.two_nodes.specs.Nodes.{World, Run}
use Rattle.capture_record.specs.declared.record.Record.{Record}
use Rattle.dna_station.specs.declared.head.Head.{Head}
use Rattle.dna_node.specs.Kind.{NodeKind, KindNode, KindUnit, kind_pair, kind_start}

-- What was delivered to each side is, in order, of what the other was offered
pub record DeliversInOrder (nodes : NodeKind) : Type 0 where
  pub of_a : (head_a head_b : Head) (w : World (KindNode nodes) (KindUnit nodes)) (of_a of_b : List Record) →
      Run (kind_pair nodes) (kind_start nodes head_a head_b) of_a of_b w → nodes.Delivered w.a.state.station w.b.state.station of_a of_b
  pub of_b : (head_a head_b : Head) (w : World (KindNode nodes) (KindUnit nodes)) (of_a of_b : List Record) →
      Run (kind_pair nodes) (kind_start nodes head_a head_b) of_a of_b w → nodes.Delivered w.b.state.station w.a.state.station of_b of_a
