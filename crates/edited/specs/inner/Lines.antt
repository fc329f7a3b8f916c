-- How far some bytes reach into lines that are to pass, whatever follows the bytes.
use Rattle.std.specs.Prelude.{◌≡◌, ℕ, ◌+◌, ◌≤◌, List, ◌++◌, length, take, drop}
use Rattle.edited.specs.Edited.{first_lines, behind_lines}

-- The first `len` bytes are of these lines, and of those `left` reach on past them. Each line that ended has a byte.
pub record Reaches (lines : ℕ) (bytes : List ℕ) (len left : ℕ) : Type 0 where
  pub within : len ≤ length bytes
  pub first : (rest : List ℕ) → first_lines lines (bytes ++ rest) ≡ take len bytes ++ first_lines left (drop len bytes ++ rest)
  pub behind : (rest : List ℕ) → behind_lines lines (bytes ++ rest) ≡ behind_lines left (drop len bytes ++ rest)
  pub progress : lines ≤ left + len
