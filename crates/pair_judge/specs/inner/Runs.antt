-- Tags by runs: each unit has the tag of the first run that ends after it, or the newest one.
use Rattle.std.specs.Prelude.{ℕ, ◌+◌, nat_lt, max, if◌then◌else◌, List, [], ◌∷◌}
use Rattle.dna_station.specs.declared.tag.Tag.{Tag}
use Rattle.dna_node.specs.WireLayers.{WireLayersUnit}
use Rattle.pair_judge.specs.declared.tags.TagRun.{TagRun}
use Rattle.pair_judge.specs.declared.tags.Tags.{Tags}
use Rattle.pair_judge.specs.inner.Held.{HeldValue, sent_as}

abbrev pub tag_at : List TagRun → Tag → ℕ → Tag
tag_at [] newest number = newest
tag_at (run ∷ runs) newest number = if nat_lt number run.end then run.tag else tag_at runs newest number

-- the tag of the unit with this number
abbrev pub tag_of : Tags → ℕ → Tag
tag_of tags number = tag_at tags.older.items tags.newest number

-- no run ends after this number
abbrev pub behind : List TagRun → ℕ
behind [] = 0
behind (run ∷ runs) = max run.end (behind runs)

-- these units with these tags, from this number on
abbrev pub units_from : (ℕ → Tag) → ℕ → List HeldValue → List WireLayersUnit
units_from tag number [] = []
units_from tag number (unit ∷ rest) = sent_as unit (tag number) ∷ units_from tag (number + 1) rest
