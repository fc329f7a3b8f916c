-- A line that has dropped its first units, beside the list of all that were sent.
use Rattle.std.specs.Prelude.{◌≡◌, ◌≤◌, List, length, drop}
use Rattle.dna_node.specs.WireLayers.{WireLayersUnit}
use Rattle.pair_judge.specs.declared.line.Line.{Line}
use Rattle.pair_judge.specs.inner.Runs.{tag_of, units_from}

-- the units that it holds
abbrev pub held : Line → List WireLayersUnit
held line = units_from (tag_of line.tags) line.gone line.units.items

-- the first `gone` units can't come any more, and the rest is held
pub record Shows (line : Line) (sent : List WireLayersUnit) : Type 0 where
  pub within : line.gone ≤ length sent
  pub rest : held line ≡ drop line.gone sent
