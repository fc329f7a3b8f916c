-- Which links are found in use, by their phases and by what waits of them.
use Rattle.accusing_segments.proofs.Prelude.{◌≡◌, ℕ, true, false, ◌⊎◌, inl, inr, refl, subst, Phase, Port, Called, Confirming, Running}
use Rattle.accusing_segments.proofs.Prelude.{Disconnecting, Ended, LinkTest, Queues, Without, With, is_live, is_in, LinkOf, in_use, WireSegments}
use Rattle.accusing_segments.proofs.Prelude.{WireLinks, IsInUse, is_early}
use Rattle.accusing_segments.proofs.OneCall.{IsUsed, IsDead}

live_used : (q : Queues) (l : LinkOf WireSegments) (port : Port) → (port ≡ l.port) ⊎ (port ≡ in_use q l) → is_live port.phase ≡ true → IsUsed q l
live_used Without l port (inl same) live = subst (λ (p : Port). is_live p.phase ≡ true) same live
live_used Without l port (inr same) live = subst (λ (p : Port). is_live p.phase ≡ true) same live
live_used With l port (inl same) live = inr (subst (λ (p : Port). is_live p.phase ≡ true) same live)
live_used With l port (inr same) live = inl (subst (λ (p : Port). is_live p.phase ≡ true) same live)

pub found_used : (q : Queues) (s : WireLinks) (test : LinkTest) (n : ℕ) (l : LinkOf WireSegments) (used : IsInUse q s test n l) →
    is_live used.port.phase ≡ true → IsUsed q l
found_used q s test n l used live = live_used q l used.port used.which live

pub not_live : (q : Queues) (l : LinkOf WireSegments) → is_live l.port.phase ≡ true → IsDead q l → ⊥
not_live Without l live over = absurd cc
not_live With l live over = let o = over.0 in absurd cc

pub late_not_called : (phase : Phase) → is_early phase ≡ false → is_in Called phase ≡ false
late_not_called Confirming e = refl
late_not_called Running e = refl
late_not_called Disconnecting e = refl
late_not_called Ended e = refl
late_not_called phase e = absurd cc
