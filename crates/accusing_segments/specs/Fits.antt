-- For how many data bytes there is room, by the largest SEGSIZE of each two links.
use Rattle.std.specs.Prelude.{ℕ, Bool, false, nat_le, Option, Some, None, List}
use Rattle.std.specs.declared.cmp.Ordering.{Ordering}
use Rattle.std.specs.Ordering.{nat_cmp, ordering_then}
use Rattle.std.specs.Map.{lookup}
use Rattle.std.specs.BTreeMap.{is_at}
use Rattle.accusing_segments.specs.History.{Known}

abbrev pub two_compared : ℕ × ℕ → ℕ × ℕ → Ordering
two_compared x y = ordering_then (nat_cmp x.0 y.0) (nat_cmp x.1 y.1)

abbrev pub within : Option ℕ → ℕ → Bool
within None bytes = false
within (Some segsize) bytes = nat_le bytes segsize

-- by the SEGSIZE of these two links
abbrev pub fits : List ((ℕ × ℕ) × ℕ) → Known
fits sizes own far bytes what = within (lookup (is_at (two_compared (own, far))) sizes) bytes
