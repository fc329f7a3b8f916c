-- A beginning of a list of rows of bytes: what was delivered is one of what was sent.
use Rattle.std.specs.Prelude.{◌≡◌, ℕ, List, ◌++◌}

-- a list begins with another
pub record BeginsWith (packets beginning : List (List ℕ)) : Type 0 where
  pub rest : List (List ℕ)
  pub whole : packets ≡ beginning ++ rest
