-- Two nodes that do nothing, as placeholders where a caller's proof picks its own
use Rattle.std.specs.Prelude.{None, false, List, refl}
use Rattle.two_nodes.specs.Nodes.{Node, Nodes, World}
use Rattle.two_nodes.specs.Nodes.Answer.{Goes}
use Rattle.two_nodes.specs.Past.{BothTell}
use Rattle.two_nodes.specs.Cutting.{Cut}

abbrev pub idle_node : Node (Unit {0}) (Unit {0}) (Unit {0}) (Unit {0})
idle_node state r = Goes state

abbrev pub idle_nodes : Nodes (Unit {0}) (Unit {0}) (Unit {0}) (Unit {0})
idle_nodes = record { node_a = idle_node; node_b = idle_node; named = λ r. None; sends = λ r. false }

pub idle_nodes_tell : BothTell idle_nodes
idle_nodes_tell = record { of_a = λ state r. (refl, refl); of_b = λ state r. (refl, refl) }

-- a property that always holds
abbrev pub no_property : World (Unit {0}) (Unit {0}) → List (Unit {0}) → List (Unit {0}) → Type 0
no_property w made_a made_b = Unit {0}

abbrev pub idle_cut : Cut (Unit {0}) (Unit {0}) (Unit {0}) (Unit {0})
idle_cut = record { of_state = λ state. state; of_unit = λ unit. unit }
