-- Which links are judged, by their numbers, and which number each of them has among those.
use Rattle.std.specs.Prelude.{ℕ, zero, suc, Bool, nat_lt, if◌then◌else◌, List, [], ◌∷◌}

-- whether the link with this number is judged; else it is left out
abbrev pub Marks : Type 0
Marks = ℕ → Bool

-- the marks of all but the first
abbrev pub behind : Marks → Marks
behind marks number = marks (suc number)

-- what is judged, in its order
abbrev pub judged_of : {X : Type 0} → Marks → List X → List X
judged_of marks [] = []
judged_of marks (x ∷ xs) = if marks zero then x ∷ judged_of (behind marks) xs else judged_of (behind marks) xs

-- the number that a judged link has among those that are judged: how many of them are before it
abbrev pub rank : Marks → ℕ → ℕ
rank marks zero = zero
rank marks (suc number) = if marks zero then suc (rank (behind marks) number) else rank (behind marks) number

-- these marks of the first links, so many; and this one of all that begin after them
abbrev pub and_then : Marks → (size : ℕ) → Bool → Marks
and_then marks size mark number = if nat_lt number size then marks number else mark
