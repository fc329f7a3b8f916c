-- How far small edits are from the refused record.
use Rattle.std.specs.Prelude.{ℕ}
use Rattle.std.specs.Int.{abs_diff}
use Rattle.wire_base.specs.declared.side.Side.{Side}
use Rattle.wire_base.specs.declared.side.Side.TheVariants.{A, B}
use Rattle.edited.specs.Mistakes.{line_of_mistake}
use Rattle.edited.specs.declared.mistake.MistakeOf.{MistakeOf}
use Rattle.why_answer.specs.declared.trying.Places.{Places}

-- the line to which a side comes next
abbrev pub line_at : Places → Side → ℕ
line_at places A = places.a
line_at places B = places.b

-- how many lines a mistake is away from it
abbrev pub lines_away : Places → MistakeOf → ℕ
lines_away places of = abs_diff (line_of_mistake of.mistake) (line_at places of.side)
