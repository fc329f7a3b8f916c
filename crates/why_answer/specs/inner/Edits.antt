-- The texts of a pair under changes of their lines.
use Rattle.std.specs.Prelude.{ℕ, List, Option, option_map}
use Rattle.edited.specs.Edited.{edited}
use Rattle.edited.specs.declared.change.Change.{Change}

abbrev pub with_changes : List Change → Option (List ℕ) → Option (List ℕ)
with_changes changes text = option_map (edited changes) text
