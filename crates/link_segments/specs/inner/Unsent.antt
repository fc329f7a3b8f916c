-- What a contract sees of what was handed in and is in no segment yet.
use Rattle.std.specs.Prelude.{◌≡◌, ℕ, ◌≤◌, List, [], ◌∷◌, length, drop}

-- so many bytes of the first message are in segments
abbrev pub without_given : ℕ → List (List ℕ) → List (List ℕ)
without_given given [] = []
without_given given (first ∷ later) = drop given first ∷ later

abbrev pub given_fits : ℕ → List (List ℕ) → Type 0
given_fits given [] = given ≡ 0
given_fits given (first ∷ later) = given ≤ length first
