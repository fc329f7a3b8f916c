-- Numbers as they are sent: modulo 256 in DDCMP (DDCMP 4.1, message numbers), modulo 4,096 in NSP (NSP 4.0, segment
-- numbers). A true number has no bound; its wire value is its rest.
use Rattle.std.specs.Prelude.{◌≡◌, ℕ, ◌+◌, ◌-◌, ◌%◌, ◌≤◌}

-- the wire value of a number
abbrev pub wire_value : ℕ → ℕ → ℕ
wire_value modulus number = number % modulus

-- how far it is from one wire value up to another
abbrev pub wire_distance : ℕ → ℕ → ℕ → ℕ
wire_distance modulus from to = (to + modulus - from) % modulus

-- the least number at or above the base with this wire value
pub record IsLift (modulus base wire number : ℕ) : Type 0 where
  pub same_wire : number % modulus ≡ wire
  pub above : base ≤ number
  pub least : (other : ℕ) → base ≤ other → other % modulus ≡ wire → number ≤ other
