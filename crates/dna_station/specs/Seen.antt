-- A run of two wire nodes, beside the run of the nodes on true numbers that it shows.
use Rattle.std.specs.Prelude.{◌≡◌, List}
use Rattle.two_nodes.specs.Nodes.{Nodes, World, Run, advance}
use Rattle.two_nodes.specs.Cutting.{Cut, cut_outcome, cut_world}
use Rattle.capture_record.specs.declared.record.Record.{Record}
use Rattle.dna_station.specs.declared.head.Head.{Head}
use Rattle.dna_station.specs.declared.refusal.StepRefusal.{StepRefusal}
use Rattle.dna_station.specs.Pair.{pair, start}
use Rattle.dna_station.specs.WireNode.{WireNode, WireUnit, seen, wire_pair}

module _ {S U S' U' : Type 0} (nodes : Nodes S Record U StepRefusal) (others : Nodes S' Record U' StepRefusal) (cut : Cut S U S' U') where
  -- These records lead the nodes to a world of which the others' end is what is seen, and there the same becomes of each record.
  pub record IsSeenRun (first : World S U) (end : World S' U') (of_a of_b : List Record) : Type 0 where
    pub world : World S U
    pub run : Run nodes first of_a of_b world
    pub is_cut : end ≡ cut_world cut world
    pub same_a : (r : Record) → advance others.node_a end.a end.b r ≡ cut_outcome cut (advance nodes.node_a world.a world.b r)
    pub same_b : (r : Record) → advance others.node_b end.b end.a r ≡ cut_outcome cut (advance nodes.node_b world.b world.a r)

-- of stations alone
abbrev pub IsSeen : {L : Type 0} (head_a head_b : Head) (end : World (WireNode L) WireUnit) (of_a of_b : List Record) → Type 0
IsSeen head_a head_b end of_a of_b = IsSeenRun pair wire_pair seen (start head_a head_b) end of_a of_b
