-- What was found of the bytes of a line so far.
use Rattle.std.specs.Prelude.{◌≡◌, ℕ, ◌+◌, List, [], ◌∷◌, ◌++◌}
use Rattle.framer.specs.Framing.{Framing, framing, joined}
use Rattle.framer.specs.Given.{EndsWith}

-- All these bytes are framed as what was found, and after it as what is to come, with which they end.
pub record IsFramedSoFar (all : List ℕ) (found : Framing) (come : List ℕ) : Type 0 where
  pub framed : framing all ≡ joined found (framing come)
  pub ends : EndsWith all come

abbrev pub nothing : Framing
nothing = record { units = []; strays = 0; left = [] }

-- the same with so many stray bytes more
abbrev pub with_strays : Framing → ℕ → Framing
with_strays found strays = record found { strays = found.strays + strays }

-- the same with one unit more, after so many stray bytes
abbrev pub with_unit : Framing → ℕ → List ℕ → Framing
with_unit found strays unit = record found { units = found.units ++ unit ∷ []; strays = found.strays + strays }
