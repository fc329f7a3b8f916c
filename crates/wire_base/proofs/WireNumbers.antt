-- True numbers and their wire values: the next one, the distance, and the least number with a wire value.
use Rattle.std.proofs.Common.{◌≡◌, ℕ, ◌+◌, ◌-◌, ◌%◌, ◌<◌, ◌≤◌, inl, inr, sym, ap, ◌∙◌, arith}
use Rattle.std.proofs.Math.Nat.{mod-lt, mod-le, mod-eq_of_lt, mod-eq-sub-mod, add-mod, add-mod_right, mod-add-mod, add-mod-mod, mod-mod_of_dvd}
use Rattle.std.proofs.Math.Nat.{dvd_of_mod-eq-zero}
use Rattle.std.proofs.lemmas.Bool.{cases_lt}
use Rattle.wire_base.specs.Seq.{wire_distance, IsLift}

-- the distance from a to what lies k above it is k
distance_wraps : (m a k : ℕ) → a < m → k < m → ((a + k) % m + m - a) % m ≡ k
distance_wraps m a k ha hk = elim (cases_lt (a + k) m) [
  | inl below ↦
      let whole : ((a + k) % m + m - a) ≡ k + m = omega (arith, mod-eq_of_lt {n = a + k} {m = m} below) in
      ap (λ z. z % m) whole ∙ add-mod_right k m ∙ mod-eq_of_lt hk
  | inr above ↦
      let low : a + k - m < m = omega arith in
      let wrapped : (a + k) % m ≡ a + k - m = mod-eq-sub-mod above ∙ mod-eq_of_lt low in
      let whole : ((a + k) % m + m - a) ≡ k = omega (arith, wrapped) in
      ap (λ z. z % m) whole ∙ mod-eq_of_lt hk
]

pub wire_distance-numbers : (m low high : ℕ) → 0 < m → low ≤ high → wire_distance m (low % m) (high % m) ≡ (high - low) % m
wire_distance-numbers m low high pos h =
    let apart = high - low in
    let whole : high % m ≡ (low % m + apart % m) % m = ap (λ z. z % m) (let e : high ≡ low + apart = omega arith in e) ∙ add-mod low apart m in
    ap (λ z. (z + m - low % m) % m) whole ∙ distance_wraps m (low % m) (apart % m) (mod-lt low pos) (mod-lt apart pos)

pub wire_value-next : (m number : ℕ) → (number + 1) % m ≡ (number % m + 1) % m
wire_value-next m number = sym (mod-add-mod number m 1)

pub lift_least : (m base wire : ℕ) → wire < m → IsLift m base wire (base + wire_distance m (base % m) wire)
lift_least m base wire h =
    let pos : 0 < m = omega arith in
    let low = base % m in
    let below : low < m = mod-lt base pos in
    let gap = wire + m - low in
    record {
      same_wire = add-mod-mod base gap m ∙ sym (mod-add-mod base m gap) ∙ ap (λ z. z % m) (let e : low + gap ≡ wire + m = omega arith in e) ∙
          add-mod_right wire m ∙ mod-eq_of_lt h;
      above = omega arith;
      least = λ other above same.
          let apart : wire_distance m low wire ≡ (other - base) % m =
          ap (wire_distance m low) (sym same) ∙ wire_distance-numbers m base other pos above in
          omega (arith, apart, mod-le (other - base) m);
    }

-- a count that wraps at a multiple of the modulus keeps its wire value
pub wire_value-wrapped : (m number wrap : ℕ) → wrap % m ≡ 0 → number % wrap % m ≡ number % m
wire_value-wrapped m number wrap h = mod-mod_of_dvd m number (dvd_of_mod-eq-zero m h)
