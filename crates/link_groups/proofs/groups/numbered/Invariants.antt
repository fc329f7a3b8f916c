use Rattle.std.proofs.Common.{◌≡◌, ℕ, ◌<◌, length, get_or}
use Rattle.link_groups.proofs.groups.numbered.Given as goal

abbrev pub invariant-loop-place : goal.invariant-loop-place
invariant-loop-place l =
    (length l.labels.items ≡ l.place) × ((place : ℕ) → place < l.place → get_or l.labels.items place 0 ≡ place)
