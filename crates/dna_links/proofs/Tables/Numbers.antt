-- Segment numbers and their wire values, where they are near each other.
use Rattle.std.proofs.Common.{◌≡◌, ℕ, ◌+◌, ◌-◌, ◌<◌, ◌≤◌, Bool, true, false, ◌&&◌, ◌||◌, ltb, leb, arith, lt-ltb, le-leb}
use Rattle.std.proofs.Common.{leb-true, ltb-true, ◌⊎◌, inl, inr, refl}
use Rattle.std.proofs.lemmas.Bool.{cases_lt, lt-leb}
use Rattle.dna_links.specs.SegmentBook.{REACH, wire, distance}

pub distance_ahead : (a n : ℕ) → a ≤ n → n ≤ a + 2047 → distance (wire a) (wire n) ≡ n - a
distance_ahead a n l m = omega arith

pub distance_behind : (a n : ℕ) → n < a → a ≤ n + 2047 → distance (wire a) (wire n) ≡ 4096 - (a - n)
distance_behind a n l m = omega arith

pub wire-add : (a n : ℕ) → a ≤ n → wire (wire a + (n - a)) ≡ wire n
wire-add a n l = omega arith

pub wire-one : (n : ℕ) → wire (wire n + 1) ≡ wire (n + 1)
wire-one n = omega arith

pub wire-wire : (n : ℕ) → wire (wire n) ≡ wire n
wire-wire n = omega arith

pub wire-low : (n : ℕ) → n < 2047 → wire n ≡ n
wire-low n l = omega arith

-- the number so far above another has the bits that it was named by
pub wire_named : (last number : ℕ) → wire (last + distance (wire last) number) ≡ wire number
wire_named last number = omega arith

-- two tests that hold alike have one answer
pub same_le : (a b c d : ℕ) → (a ≤ b → c ≤ d) → (c ≤ d → a ≤ b) → leb a b ≡ leb c d
same_le a b c d there back = go (cases_lt b a)
  where
    go : (b < a) ⊎ (a ≤ b) → leb a b ≡ leb c d
    go (inr l) = let p = le-leb a b l in let q = le-leb c d (there l) in cc
    go (inl m) = let p = lt-leb a b m in let q = lt-leb c d (above (cases_lt d c)) in cc
      where
        above : (d < c) ⊎ (c ≤ d) → d < c
        above (inl n) = n
        above (inr l) = absurd (omega (arith, m, back l))

-- 2,047 is reached by n + d, or has been reached by n and else is by its wire value and d
pub reached_same : (n d : ℕ) → leb REACH (n + d) ≡ (leb REACH n || leb REACH (wire n + d))
reached_same n d = go (cases_lt n REACH)
  where
    go : (n < REACH) ⊎ (REACH ≤ n) → leb REACH (n + d) ≡ (leb REACH n || leb REACH (wire n + d))
    go (inl l) = let p = lt-leb REACH n l in let e = wire-low n l in cc
    go (inr m) = let p = le-leb REACH n m in let q = le-leb REACH (n + d) (omega arith) in cc

-- so far down it does not go below 0: a node has to ask only while 2,047 has not been reached
module _ (near : Bool) (n : ℕ) (below : ℕ → Bool) (reaches : near ≡ true → REACH ≤ n → below n ≡ true) where
  low_same : (near && below n) ≡ (near && (leb REACH n || below (wire n)))
  low_same = go near (cases_lt n REACH) refl
    where
      go : (is_near : Bool) → (n < REACH) ⊎ (REACH ≤ n) → near ≡ is_near → (near && below n) ≡ (near && (leb REACH n || below (wire n)))
      go is_near (inl l) e = let p = lt-leb REACH n l in let same = wire-low n l in cc
      go true (inr m) e = let p = le-leb REACH n m in let q = reaches e m in cc
      go false (inr m) e = cc

pub low_le_same : (d n : ℕ) → (leb d REACH && leb d n) ≡ (leb d REACH && (leb REACH n || leb d (wire n)))
low_le_same d n = low_same (leb d REACH) n (leb d) (λ near m. let l = leb-true d REACH near in le-leb d n (omega arith))

pub low_lt_same : (d n : ℕ) → (ltb d REACH && ltb d n) ≡ (ltb d REACH && (leb REACH n || ltb d (wire n)))
low_lt_same d n = low_same (ltb d REACH) n (ltb d) (λ near m. let l = ltb-true d REACH near in lt-ltb d n (omega arith))
