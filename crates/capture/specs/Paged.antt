-- How bytes go from a page to a writer.
use Rattle.std.specs.Prelude.{◌≡◌, ℕ, List, ◌++◌, Option}
use Rattle.std.specs.Io.KnownBytes.{Appends}

-- the writer, which tells its bytes before and after, took the first of those on the page, and the others stay there
pub record HandsOver (page rest : List ℕ) (before after : Option (List ℕ)) : Type 0 where
  pub written : List ℕ
  pub parts : page ≡ written ++ rest
  pub taken : Appends before after written
