-- Numbers modulo 256 that lie near each other, and tests on Booleans.
use Rattle.std.proofs.Common.{◌≡◌, ℕ, ◌+◌, ◌-◌, ◌<◌, ◌≤◌, Bool, true, false, ◌||◌, cond, eqb, leb, refl, arith, ◌⊎◌, inl, inr, eq-eqb}
use Rattle.std.proofs.lemmas.Bool.{cases_eq}
use Rattle.wire_base.specs.Seq.{wire_distance}
use Rattle.dna_station.specs.Station.{wire}
use Rattle.accusing.specs.Heard.{rises, left_of}

-- ---- tests

pub or_first : (a b : Bool) → (a || b) ≡ false → a ≡ false
or_first true b e = e
or_first false b e = refl

pub or_second : (a b : Bool) → (a || b) ≡ false → b ≡ false
or_second true b e = absurd cc
or_second false b e = e

pub or_either : (a b : Bool) → a ≡ true → (a || b) ≡ true
or_either true b e = refl
or_either false b e = absurd cc

pub or_keeps : (a b c : Bool) → (b ≡ false → a ≡ false) → (b || c) ≡ false → (a || c) ≡ false
or_keeps true b c keeps e = absurd (let f = keeps (or_first b c e) in cc)
or_keeps false b c keeps e = or_second b c e

pub or_true : (a : Bool) → (a || true) ≡ true
or_true true = refl
or_true false = refl

-- ---- a reach

pub rises-more : (b : Bool) (reach : ℕ) → reach ≤ 255 → reach ≤ rises b reach
rises-more true reach l = omega arith
rises-more false reach l = omega arith

pub rises-most : (b : Bool) (reach : ℕ) → reach ≤ 255 → rises b reach ≤ 255
rises-most true reach l = omega arith
rises-most false reach l = l

pub rises-mono : (b c : Bool) (r s : ℕ) → r ≤ s → s ≤ 255 → (r ≡ s → b ≡ c) → rises b r ≤ rises c s
rises-mono true true r s l m same = omega arith
rises-mono false true r s l m same = omega arith
rises-mono false false r s l m same = l
rises-mono true false r s l m same = go (cases_eq r s)
  where
    go : (r ≡ s) ⊎ (r ≡ s → ⊥) → rises true r ≤ s
    go (inl e) = absurd (let f = same e in cc)
    go (inr n) = omega arith

-- ---- a number that was received

-- the next number in order is reached, where the last was
pub next_reached : (c : Bool) (f r reach num : ℕ) → f < 256 → r < 256 → reach ≤ 255 → wire_distance 256 f r ≤ reach → num ≡ wire (r + 1) →
    eqb num (wire (f + reach + 1)) ≡ c → wire_distance 256 f (wire (r + 1)) ≤ rises c reach
next_reached true f r reach num lf lr lm d e t = omega arith
next_reached false f r reach num lf lr lm d e t = go (cases_eq num (wire (f + reach + 1)))
  where
    go : (num ≡ wire (f + reach + 1)) ⊎ (num ≡ wire (f + reach + 1) → ⊥) → wire_distance 256 f (wire (r + 1)) ≤ reach
    go (inl same) = absurd (let p = eq-eqb num (wire (f + reach + 1)) same in cc)
    go (inr other) = omega arith

pub distance_same : (r : ℕ) → r < 256 → wire_distance 256 r r ≡ 0
distance_same r l = omega arith

-- ---- from a later number on

pub left_most : (reach d : ℕ) → reach ≤ 255 → left_of reach d ≤ 255
left_most reach d l = go (leb 255 reach)
  where
    go : (b : Bool) → cond b 255 (reach - d) ≤ 255
    go true = omega arith
    go false = omega arith
