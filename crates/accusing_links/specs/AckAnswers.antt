-- What is known of the acknowledgements of a side by the units that passed.
use Rattle.std.specs.Prelude.{◌≡◌, ℕ, not, nat_le, List}
use Rattle.accusing.specs.Placing.{Passed}
use Rattle.accusing_links.specs.Segments.{has}
use Rattle.accusing_links.specs.Back.{Told, told, calls_of}

-- as lists: the data segments of the other side; the words of this side, and those of its data acknowledgement messages by the NUM of their units;
-- and the links from which a CI or a CC of the other side passed, and a second one
pub record AckSight : Type 0 where
  pub segments : List (ℕ × ℕ × ℕ)
  pub said : List (ℕ × ℕ × ℕ)
  pub alone : List (ℕ × ℕ × ℕ)
  pub called : List (ℕ × ℕ × ℕ)
  pub again : List (ℕ × ℕ × ℕ)

-- by what is known
abbrev pub told_by : AckSight → Told
told_by sight = record {
  segments = has sight.segments;
  said = has sight.said;
  alone = has sight.alone;
  is_one = λ far. not (has sight.again 0 0 far);
}

-- these are known after these units
pub record AreKnownAfter (sight : AckSight) (passed : List Passed) : Type 0 where
  pub segments : (own far number : ℕ) → has sight.segments own far number ≡ (told passed).segments own far number
  pub said : (own far number : ℕ) → has sight.said own far number ≡ (told passed).said own far number
  pub alone : (num own number : ℕ) → has sight.alone num own number ≡ (told passed).alone num own number
  pub called : (far : ℕ) → has sight.called 0 0 far ≡ nat_le 1 (calls_of passed far)
  pub again : (far : ℕ) → has sight.again 0 0 far ≡ nat_le 2 (calls_of passed far)
