-- Numbers and their wire values, where they are near each other.
use Rattle.std.proofs.Common.{◌≡◌, ℕ, ◌+◌, ◌-◌, ◌<◌, ◌≤◌, eqb, arith, eq-eqb, ne_eqb, ◌⊎◌, inl, inr}
use Rattle.std.proofs.lemmas.Bool.{cases_eq}
use Rattle.wire_base.specs.Seq.{wire_distance}
use Rattle.dna_station.specs.Station.{wire}

-- two tests that hold alike have one answer
pub same_test : (a b c d : ℕ) → (a ≡ b → c ≡ d) → (c ≡ d → a ≡ b) → eqb a b ≡ eqb c d
same_test a b c d there back = go (cases_eq a b)
  where
    go : (a ≡ b) ⊎ (a ≡ b → ⊥) → eqb a b ≡ eqb c d
    go (inl e) = let p = eq-eqb a b e in let q = eq-eqb c d (there e) in cc
    go (inr n) = let p = ne_eqb a b n in let q = ne_eqb c d (λ f. n (back f)) in cc

pub wire-add : (a n : ℕ) → a ≤ n → wire (wire a + (n - a)) ≡ wire n
wire-add a n l = omega arith

pub wire-next : (a t : ℕ) → a < t → wire (wire a + 1 + (t - (a + 1))) ≡ wire t
wire-next a t l = omega arith

pub wire-one : (r : ℕ) → wire (wire r + 1) ≡ wire (r + 1)
wire-one r = omega arith

pub distance_near : (a r : ℕ) → a ≤ r → r ≤ a + 255 → wire_distance 256 (wire a) (wire r) ≡ r - a
distance_near a r l m = omega arith

pub next_near : (r n : ℕ) → r ≤ n + 254 → n ≤ r + 255 → eqb n (r + 1) ≡ eqb (wire n) (wire (wire r + 1))
next_near r n l m = same_test n (r + 1) (wire n) (wire (wire r + 1)) (λ e. omega arith) (λ e. omega arith)

pub rep_near : (r n : ℕ) → r ≤ n → n ≤ r + 255 → eqb n r ≡ eqb (wire n) (wire r)
rep_near r n l m = same_test n r (wire n) (wire r) (λ e. omega arith) (λ e. omega arith)
