-- Bytes that are spelled by the front of a text.
use Rattle.std.specs.Prelude.{◌≡◌, ℕ, ◌*◌, List, take}
use Rattle.hex.specs.Hex.{encode_lower}

-- the first n bytes are what the text spells as far as they go
abbrev pub IsSpelled : List ℕ → List ℕ → ℕ → Type 0
IsSpelled bytes text n = encode_lower (take n bytes) ≡ take (2 * n) text
