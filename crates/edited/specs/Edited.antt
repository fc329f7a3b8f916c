-- A text with changes of its lines. A line reaches through its LF, and a last one without LF to the end.
use Rattle.std.specs.Prelude.{ℕ, zero, suc, ◌==◌, if◌then◌else◌, List, [], ◌∷◌, ◌++◌}
use Rattle.edited.specs.declared.change.Change.{Change}

-- the first lines, or all where there are fewer
abbrev pub first_lines : ℕ → List ℕ → List ℕ
first_lines zero text = []
first_lines (suc n) [] = []
first_lines (suc n) (b ∷ text) = b ∷ first_lines (if b == 10 then n else suc n) text

-- what comes after them
abbrev pub behind_lines : ℕ → List ℕ → List ℕ
behind_lines zero text = text
behind_lines (suc n) [] = []
behind_lines (suc n) (b ∷ text) = behind_lines (if b == 10 then n else suc n) text

-- the text with these changes: each lets lines pass, puts bytes after them, and drops the lines that come then
abbrev pub edited : List Change → List ℕ → List ℕ
edited [] text = text
edited (change ∷ later) text =
    first_lines change.passed text ++ change.put.items ++
    edited later (behind_lines change.dropped (behind_lines change.passed text))
