-- Counts that a station keeps, added up.
use Rattle.std.specs.Prelude.{ℕ, ◌+◌}
use Rattle.dna_station.specs.NakCauses.{Causes}

-- all open causes
abbrev pub open_causes : Causes → ℕ
open_causes c = c.header_check + c.data_check + c.rep_response + c.no_buffer
