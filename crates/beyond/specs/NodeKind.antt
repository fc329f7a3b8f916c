-- What a node says that it is, in an Init message.
use Rattle.std.specs.Prelude.{ℕ, ◌%◌, ◌==◌, List, ◌∷◌, Option, Some, None, codes, if◌then◌else◌}
use Rattle.ddcmp_msg.specs.Message.{MessageValue, Data}
use Rattle.ddcmp_msg.specs.Reading.{ReadingValue, Sound}
use Rattle.beyond.specs.declared.node_kind.NodeKind.{NodeKind}
use Rattle.beyond.specs.declared.node_kind.NodeKind.TheVariants.{Router, EndNode}

abbrev pub kind_name : NodeKind → List ℕ
kind_name Router = codes "router"
kind_name EndNode = codes "end node"

-- bits 0 and 1: 1 and 2 are routers, with other areas and without, and 3 is an end node
abbrev pub kind_of : (information : ℕ) → Option NodeKind
kind_of information =
    if information % 4 == 0 then None else
    if information % 4 == 3 then Some EndNode else
    Some Router

-- the first byte of an Init message is 1
abbrev pub kind_by : (first information : ℕ) → Option NodeKind
kind_by first information = if first == 1 then kind_of information else None

-- its fourth byte tells
abbrev pub kind_in : List ℕ → Option NodeKind
kind_in (first ∷ low ∷ high ∷ information ∷ rest) = kind_by first information
kind_in packet = None

-- of a unit's packet, if it is a sound data message
abbrev pub kind_of_message : MessageValue → Option NodeKind
kind_of_message (Data flags resp num body) = kind_in body
kind_of_message message = None

abbrev pub kind_of_reading : ReadingValue → Option NodeKind
kind_of_reading (Sound message) = kind_of_message message
kind_of_reading reading = None
