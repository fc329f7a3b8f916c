-- A text with one line put in, replaced or moved. Lines are counted from 1.
use Rattle.std.specs.Prelude.{ℕ, ◌-◌, List, ◌++◌}
use Rattle.edited.specs.declared.change.Change.{Change}
use Rattle.edited.specs.Edited.{first_lines, behind_lines}

-- bytes in front of a line
abbrev pub with_bytes_before : ℕ → List ℕ → List ℕ → List ℕ
with_bytes_before line bytes text = first_lines (line - 1) text ++ bytes ++ behind_lines (line - 1) text

-- bytes in its place
abbrev pub line_in_place : ℕ → List ℕ → List ℕ → List ℕ
line_in_place line bytes text = first_lines (line - 1) text ++ bytes ++ behind_lines 1 (behind_lines (line - 1) text)

-- bytes in the place of the first line, and in the rest a change that let it pass
abbrev pub with_first : List ℕ → Change → List ℕ → List ℕ
with_first bytes change text =
    let rest = behind_lines 1 text in
    bytes ++ first_lines (change.passed - 1) rest ++ change.put.items ++ behind_lines change.dropped (behind_lines (change.passed - 1) rest)

-- without a line, and with bytes in front of an earlier one
abbrev pub with_line_up : (line before : ℕ) → List ℕ → List ℕ → List ℕ
with_line_up line before bytes text =
    let rest = behind_lines (before - 1) text in
    first_lines (before - 1) text ++ bytes ++ (first_lines (line - before) rest ++ behind_lines 1 (behind_lines (line - before) rest))

-- without a line, and with bytes after a later one
abbrev pub with_line_down : (line behind : ℕ) → List ℕ → List ℕ → List ℕ
with_line_down line behind bytes text =
    let rest = behind_lines 1 (behind_lines (line - 1) text) in
    first_lines (line - 1) text ++ (first_lines (behind - line) rest ++ bytes ++ behind_lines (behind - line) rest)
