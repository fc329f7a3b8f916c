use Rattle.std.proofs.Common.{◌≡◌, ℕ, ◌<◌, ◌≤◌, true, length, get_or, Some}
use Rattle.std.specs.List.{slice_get}
use Rattle.link_groups.proofs.left_out.mark.Given as goal

abbrev pub invariant-loop-place : goal.invariant-loop-place
invariant-loop-place l =
    (length l.marks.items ≡ length l.fn.marks.items)
    × ((place : ℕ) → place < l.place → get_or l.labels place 0 ≡ l.label → slice_get l.marks.items place ≡ Some true)
    × ((place : ℕ) → place < l.place → (get_or l.labels place 0 ≡ l.label → ⊥) → slice_get l.marks.items place ≡ slice_get l.fn.marks.items place)
    × ((place : ℕ) → l.place ≤ place → slice_get l.marks.items place ≡ slice_get l.fn.marks.items place)
