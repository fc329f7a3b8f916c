use Rattle.std.proofs.Common.{◌≡◌, ◌+◌, drop, eqb}
use Rattle.std.specs.List.{common_prefix_len}
use Rattle.side_words.proofs.undetected.first_place.Given as goal

abbrev pub invariant-loop-place : goal.invariant-loop-place
invariant-loop-place l =
    l.place + common_prefix_len (λ x y. eqb x y) (drop l.place l.bytes) (drop l.place l.unit) ≡ common_prefix_len (λ x y. eqb x y) l.bytes l.unit
