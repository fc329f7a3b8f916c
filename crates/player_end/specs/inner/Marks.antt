-- Which links may have something to send.
use Rattle.std.specs.Prelude.{◌≡◌, ℕ, ◌<◌, List, Some, slice_get}

-- no link with a lower number is marked
abbrev pub IsUnmarkedBelow : ℕ → List ℕ → Type 0
IsUnmarkedBelow lowest marks = (number : ℕ) → number < lowest → slice_get marks number ≡ Some 1 → ⊥
