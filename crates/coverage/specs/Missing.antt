-- What is printed of the rows that neither side went through.
use Rattle.std.specs.Prelude.{ℕ, if◌then◌else◌, List, [], ◌++◌, codes, length}
use Rattle.std.specs.List.{flat_map}
use Rattle.wire_base.specs.declared.side.Side.TheVariants.{A, B}
use Rattle.coverage.specs.declared.hints.Hint.{Hint}
use Rattle.coverage.specs.declared.hints.Setup.{Setup}
use Rattle.coverage.specs.declared.row.Row.{Row}
use Rattle.coverage.specs.Row.{name}
use Rattle.coverage.specs.Text.{count_of, is_unmet, left, side_line}

abbrev pub hint_row : Hint → Row
hint_row hint = hint.0

-- a row and what meets it; one that a side went through is left out
unfoldable pub hint_line : (a b : List ℕ) → Hint → List ℕ
hint_line a b hint =
    if is_unmet (count_of a hint.0) (count_of b hint.0) then left (name hint.0) ++ (codes " " ++ (hint.1.now ++ codes "\n")) else []

-- the lines of these rows
unfoldable pub hint_lines : (a b : List ℕ) → List Hint → List ℕ
hint_lines a b hints = flat_map (hint_line a b) hints

-- `strt = a start, b start, a send, b deliver`
abbrev pub setup_line : Setup → List ℕ
setup_line setup = setup.0.now ++ (codes " = " ++ (setup.1.now ++ codes "\n"))

unfoldable pub setup_lines : List (Setup) → List ℕ
setup_lines setups = flat_map setup_line setups

-- above the rows
unfoldable pub missing_headings : List ℕ
missing_headings = left (codes "row") ++ (codes " " ++ (codes "what meets it" ++ codes "\n"))

-- a line a side, and one of headings
unfoldable pub missing_head : (rows : ℕ) → (a b : List ℕ) → List ℕ
missing_head rows a b = side_line rows A a ++ (side_line rows B b ++ missing_headings)

-- after these the rows that are missing, and what the names stand for
abbrev pub missing : List Hint → List Setup → (a b : List ℕ) → List ℕ
missing hints setups a b = (missing_head (length hints) a b ++ hint_lines a b hints) ++ setup_lines setups
