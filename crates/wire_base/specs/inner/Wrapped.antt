-- That the first number of a window is a wire value, which a type's member gives.
use Rattle.std.specs.Prelude.{◌≡◌, ℕ, ◌%◌, ◌^◌, ◌<◌, zero, suc}
use Rattle.std.proofs.Common.{arith}
use Rattle.std.proofs.Math.Nat.{mod-lt, mod-zero}

-- what 2 ^ 64 is a multiple of is not 0, so a rest is below it
pub wire_value_lt : (m number : ℕ) → 2 ^ 64 % m ≡ 0 → number % m < m
wire_value_lt zero number h = absurd (omega (arith, mod-zero (2 ^ 64), h))
wire_value_lt (suc m) number h = mod-lt number (omega arith)
