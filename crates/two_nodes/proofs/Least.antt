-- The least number that passes a test which can be decided
use Rattle.std.proofs.Common.{◌≡◌, ◌<◌, ◌≤◌, ℕ, arith}
use Rattle.std.specs.Prelude.{zero, suc, ◌⊎◌}
use Rattle.std.proofs.Common.{inl, inr, subst}
use Rattle.std.proofs.lemmas.Bool.{cases_lt}

-- the least number with the property
pub record IsLeast (P : ℕ → Type 0) (n : ℕ) : Type 0 where
  pub holds : P n
  pub least : (k : ℕ) → P k → n ≤ k

module _ (P : ℕ → Type 0) where
  -- no number below this one has the property
  NoneBelow : ℕ → Type 0
  NoneBelow n = (k : ℕ) → k < n → P k → ⊥

  at_or_above : (n : ℕ) → NoneBelow n → (k : ℕ) → P k → n ≤ k
  unfolding NoneBelow
  at_or_above n none k p = elim (cases_lt k n) [ inl l ↦ absurd (none k l p) | inr l ↦ l ]

  one_more : (n : ℕ) → NoneBelow n → ¬ (P n) → NoneBelow (suc n)
  unfolding NoneBelow
  one_more n none not_here k l p =
      elim (cases_lt k n) [ inl below ↦ none k below p | inr above ↦ let e : k ≡ n = omega arith in not_here (subst P e p) ]

  Found : ℕ → Type 0
  Found n = ((k : ℕ) × (k < n) × IsLeast P k) ⊎ NoneBelow n

  found_here : (n : ℕ) → Found n → Dec (P n) → Found (suc n)
  unfolding Found
  found_here n (inl f) d = inl (f.0, omega arith, f.2)
  found_here n (inr none) (yes p) = inl (n, omega arith, record { holds = p; least = at_or_above n none })
  found_here n (inr none) (no p) = inr (one_more n none p)

  found : ((n : ℕ) → Dec (P n)) → (n : ℕ) → Found n
  unfolding Found NoneBelow
  found decide zero = inr (λ k l p. absurd (omega arith))
  found decide (suc n) = found_here n (found decide n) (decide n)

  found_is : (n : ℕ) → P n → Found (suc n) → (k : ℕ) × (k ≤ n) × IsLeast P k
  unfolding Found NoneBelow
  found_is n p (inl f) = (f.0, omega arith, f.2)
  found_is n p (inr none) = absurd (none n (omega arith) p)

  -- one that has the property is at or above the least
  pub least_of : ((n : ℕ) → Dec (P n)) → (n : ℕ) → P n → (k : ℕ) × (k ≤ n) × IsLeast P k
  least_of decide n p = found_is n p (found decide (suc n))
