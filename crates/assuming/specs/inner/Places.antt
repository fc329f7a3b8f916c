-- Places by three numbers.
use Rattle.std.specs.Prelude.{ℕ, ◌==◌, ◌&&◌, Bool, List}
use Rattle.std.specs.List.{list_any}

abbrev pub is_this : ℕ × ℕ × ℕ → (a b c : ℕ) → Bool
is_this id a b c = id.0 == a && (id.1 == b && id.2 == c)

abbrev pub has : List (ℕ × ℕ × ℕ) → (a b c : ℕ) → Bool
has ids a b c = list_any (λ (id : ℕ × ℕ × ℕ). is_this id a b c) ids
