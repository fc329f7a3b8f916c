-- What a data message that goes leaves of the numbers given.
use Rattle.std.specs.Prelude.{ℕ, [], ◌∷◌, ◌++◌}
use Rattle.accusing.specs.declared.going.Going.{Going}
use Rattle.accusing.specs.declared.going.Going.TheVariants.{New, Again}
use Rattle.accusing.specs.Sight.{Given}

abbrev pub given_after : Going → Given → ℕ → Given
given_after New g mark = record { marks = g.marks ++ mark ∷ []; back = 0 }
given_after (Again back) g mark = record g { back = back }
