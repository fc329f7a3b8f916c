-- Bytes that came and are not those of the unit that their hint names, where no block check shows it: the first byte in which they differ.
use Rattle.std.specs.Prelude.{ℕ, List}
use Rattle.ddcmp_station.specs.Failed.{byte_at, first_difference}
use Rattle.side_words.specs.declared.undetected.Differing.{Differing}

-- the first byte in which they differ, on both sides
abbrev pub first_differing : (bytes unit : List ℕ) → Differing
first_differing bytes unit =
    record { came = byte_at (first_difference bytes unit) bytes; sent = byte_at (first_difference bytes unit) unit }
