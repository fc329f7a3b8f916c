-- A unit as a line keeps it.
use Rattle.std.specs.Prelude.{ℕ, Bool, List, Option, Some, None, if◌then◌else◌}
use Rattle.dna_station.specs.declared.tag.Tag.{Tag}
use Rattle.dna_links.specs.declared.tag.LinkTag.{LinkTag}
use Rattle.dna_node.specs.WireLayers.{WireLayersUnit}
use Rattle.pair_judge.specs.inner.Unit.{unit_of}

-- a number that may be missing
abbrev pub if_there : Bool → ℕ → Option ℕ
if_there there number = if there then Some number else None

-- The bytes of a unit, with the tag of its packet
pub record HeldValue : Type 0 where
  pub bytes : List ℕ
  pub link : Option LinkTag

abbrev pub held_value : List ℕ → Option LinkTag → HeldValue
held_value bytes link = record { bytes = bytes; link = link }

-- the unit that was sent, where the station's tag is this one
abbrev pub sent_as : HeldValue → Tag → WireLayersUnit
sent_as unit tag = unit_of unit.bytes (record { station = tag; link = unit.link })
