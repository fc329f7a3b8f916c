-- Vectors of digits and of their values.
use Rattle.std.specs.Prelude.{◌≡◌, ◌+◌, ◌*◌, ◌<◌, ℕ, Bool, true, nat_lt, List, length, slice_index}
use Rattle.std.specs.List.{list_all}
use Rattle.hex.specs.Hex.{IsBytes, lower_digits}
use Rattle.capture.specs.Reading.{is_digit}

-- a digit has a value below 16
abbrev pub is_value : ℕ → Bool
is_value v = nat_lt v 16

-- each lane holds the value of its digit, and no value where it is no digit
pub record HasValues (values characters : List ℕ) : Type 0 where
  pub long : length values ≡ length characters
  pub tested : list_all is_value values ≡ list_all is_digit characters
  pub spelled : (k : ℕ) → k < length characters → is_value (slice_index values k) ≡ true
      → slice_index lower_digits (slice_index values k) ≡ slice_index characters k

-- each byte holds two values
pub record HasJoined (bytes values : List ℕ) : Type 0 where
  pub long : 2 * length bytes ≡ length values
  pub fits : IsBytes bytes
  pub each : (k : ℕ) → k < length bytes → is_value (slice_index values (2 * k)) ≡ true → is_value (slice_index values (2 * k + 1)) ≡ true
      → slice_index bytes k ≡ slice_index values (2 * k) * 16 + slice_index values (2 * k + 1)
