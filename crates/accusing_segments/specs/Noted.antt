-- What is kept of what passed: the piece that went first under each number between two links, until it may be acknowledged; and which calls passed.
use Rattle.std.specs.Prelude.{ℕ, List}
use Rattle.std.specs.declared.cmp.Ordering.{Ordering}
use Rattle.std.specs.Ordering.{nat_cmp, ordering_then}
use Rattle.std.specs.Map.{lookup}
use Rattle.std.specs.BTreeMap.{is_at}
use Rattle.dna_links.specs.Segmentation.{Piece}
use Rattle.accusing_segments.specs.History.{has}
use Rattle.accusing_segments.specs.Repeats.{Pieces, Repeats}

pub record Noted : Type 0 where
  pub firsts : List ((ℕ × ℕ × ℕ) × Piece)
  pub called : List (ℕ × ℕ × ℕ × ℕ)
  pub again : List (ℕ × ℕ × ℕ × ℕ)

abbrev pub three_compared : ℕ × ℕ × ℕ → ℕ × ℕ × ℕ → Ordering
three_compared x y = ordering_then (ordering_then (nat_cmp x.0 y.0) (nat_cmp x.1 y.1)) (nat_cmp x.2 y.2)

abbrev pub first_noted : List ((ℕ × ℕ × ℕ) × Piece) → Pieces
first_noted firsts own far number = lookup (is_at (three_compared (own, far, number))) firsts

abbrev pub shown : Noted → Repeats
shown n = record { firsts = first_noted n.firsts; called = has n.called; again = has n.again }
