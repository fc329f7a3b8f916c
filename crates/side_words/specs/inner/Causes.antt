-- The open causes of NAKs (DDCMP 4.1, NAK message).
use Rattle.std.specs.Prelude.{Bool, ◌||◌, nat_lt}
use Rattle.ddcmp_station.specs.declared.view.OpenCauses.{OpenCauses}

-- that a cause of one of the first reasons is open: of header checks, of data checks too, of REPs too, and of any
abbrev pub has_header : OpenCauses → Bool
has_header c = nat_lt 0 c.header_check

abbrev pub has_data : OpenCauses → Bool
has_data c = has_header c || nat_lt 0 c.data_check

abbrev pub has_rep : OpenCauses → Bool
has_rep c = has_data c || nat_lt 0 c.rep_response

abbrev pub has_any : OpenCauses → Bool
has_any c = has_rep c || nat_lt 0 c.no_buffer
