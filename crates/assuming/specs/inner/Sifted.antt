-- Turns no two of which are about the same, and what each is about.
use Rattle.std.specs.Prelude.{◌≡◌, ℕ, Bool, true, List}
use Rattle.std.specs.List.{AllByRecursion}
use Rattle.placing.specs.declared.turn.Turn.{Turn}
use Rattle.assuming.specs.Assuming.{AreApart, place_of}
use Rattle.assuming.specs.inner.Places.{has}

abbrev pub has_place : List (ℕ × ℕ × ℕ) → ℕ × ℕ × ℕ → Bool
has_place places place = has places place.0 place.1 place.2

pub record AreNoted (places : List (ℕ × ℕ × ℕ)) (turns : List Turn) : Type 0 where
  pub apart : AreApart turns
  pub noted : AllByRecursion (λ (turn : Turn). has_place places (place_of turn) ≡ true) turns
