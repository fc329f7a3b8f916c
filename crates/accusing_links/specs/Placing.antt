-- What one side of a line may have done over both layers while these units passed. A side for which no such records exist has a wrong node: that is
-- all that is ever said against it.
use Rattle.std.specs.Prelude.{List, [], ◌∷◌}
use Rattle.capture_record.specs.declared.record.Record.{Record}
use Rattle.capture_record.specs.declared.record.Record.TheVariants.{User}
use Rattle.capture_record.specs.Range.{EventNumbersFit}
use Rattle.dna_station.specs.declared.head.Head.{Head}
use Rattle.dna_station.specs.Machine.{Machine}
use Rattle.dna_links.specs.declared.queue.Queues.{Queues}
use Rattle.dna_node.specs.TagRules.{by_bytes_with}
use Rattle.dna_node.specs.WireLayers.{WireLayers, LayersTag, wire_layers_machine, new_wire_layers_node}
use Rattle.accusing.specs.Placing.{Passed, IsPlacedFrom}

-- The node as it keeps itself, its station with its links on top, with queues or without. Of its rules those on periods and on partners are left out,
-- since no byte tells them. A packet that comes and can't be read, or goes between other nodes, may be met as one that was lost above its station:
-- the other side may be wrong, and this one is right
abbrev pub node_machine : Queues → Machine WireLayers LayersTag
node_machine queues = wire_layers_machine (by_bytes_with queues)

-- the addresses of links that events name are 1 to 65,535, as in the text of a capture
abbrev pub NameLinks : List Record → Type 0
NameLinks [] = Unit {0}
NameLinks (User event ∷ records) = EventNumbersFit event × NameLinks records
NameLinks (one ∷ records) = NameLinks records

-- From before any record, by the addresses of its head; the rest is as for a station alone
abbrev pub IsNodePlacing : Queues → Head → List Passed → List Record → Type 0
IsNodePlacing queues head passed records =
    IsPlacedFrom (node_machine queues) (new_wire_layers_node head).station 0 [] passed records × NameLinks records
