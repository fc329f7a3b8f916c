-- What a reader with changes has left to give.
use Rattle.std.specs.Prelude.{ℕ, List, ◌++◌, drop, Option, option_map}
use Rattle.std.specs.Io.KnownBytes.{prepend_known}
use Rattle.edited.specs.declared.reader.EditedReader.{EditedReader}
use Rattle.edited.specs.declared.reader.Left.{Left}
use Rattle.edited.specs.Edited.{first_lines, behind_lines, edited}

-- the rest of a text whose changes were made so far: what is left of the change at hand, and then the later ones
abbrev pub edited_on : Left → List ℕ → List ℕ
edited_on left text =
    first_lines left.passed text ++ drop left.given left.put.items ++
    edited left.later.items (behind_lines left.dropped (behind_lines left.passed text))

-- the rest of the text that is lent, with its changes
abbrev pub edited_remaining : {R : Type 0} → (R → Option (List ℕ)) → EditedReader R → Option (List ℕ)
edited_remaining remaining reader = option_map (edited_on reader.left) (prepend_known reader.ahead (remaining reader.inner))
