-- What A, N and T of a station in RUNNING may be whose capture begins in its midst. Numbers are true ones but for a multiple of 256. They keep
-- A < T <= N + 1 and N <= A + 255; where T is not known, A or N is one number, or nothing is known.
use Rattle.std.specs.Prelude.{ℕ, ◌+◌, ◌-◌, Bool, true, false, ◌==◌, nat_le, min, max, if◌then◌else◌, Option, Some, None}
use Rattle.wire_base.specs.Seq.{wire_distance}
use Rattle.dna_station.specs.Table.{WINDOW}
use Rattle.dna_station.specs.Station.{wire}
use Rattle.dna_station.specs.declared.refusal.StationRefusal.{StationRefusal}
use Rattle.dna_station.specs.declared.refusal.StationRefusal.TheVariants.{WrongState, WrongNumber}
use Rattle.part_station.specs.declared.numbers.Numbers.{Numbers}

-- the least number from this one on with this wire value
abbrev pub from_on : ℕ → ℕ → ℕ
from_on least number = least + wire_distance 256 (wire least) number

-- ---- data are sent

abbrev pub is_like : ℕ → ℕ → Option ℕ
is_like next num = if num == wire next then Some next else None

abbrev pub up_to : ℕ → ℕ → Option ℕ
up_to most next = if nat_le next most then Some next else None

-- of T known, and of T that may be any number from A + 1 through N + 1
abbrev pub next_of : Numbers → Option ℕ → ℕ → Option ℕ
next_of n (Some next) num = is_like next num
next_of n None num = up_to (n.most_given + 1) (from_on (n.least_acknowledged + 1) num)

-- T, which this is the NUM of; else it can't be (7)
abbrev pub data_number : Option Numbers → ℕ → Option ℕ
data_number None num = Some (num + 256)
data_number (Some n) num = next_of n n.next num

-- at most 255 are outstanding with this number, else (9)
abbrev pub has_room : Option Numbers → ℕ → Bool
has_room None next = true
has_room (Some n) next = nat_le next (n.most_acknowledged + WINDOW)

-- data with this number were sent, and were new or not
abbrev pub after_data : Option Numbers → ℕ → Numbers
after_data None next = record {
  least_acknowledged = next - WINDOW;
  most_acknowledged = next - 1;
  least_given = next;
  most_given = next + 254;
  next = Some (next + 1);
}
after_data (Some n) next = record {
  least_acknowledged = max n.least_acknowledged (next - WINDOW);
  most_acknowledged = min n.most_acknowledged (next - 1);
  least_given = max n.least_given next;
  most_given = max n.most_given next;
  next = Some (next + 1);
}

-- ---- a REP is sent

abbrev pub highest : Numbers → ℕ → ℕ
highest n num = from_on n.least_given num

-- N has this NUM and lies above A
abbrev pub rep_refusal : Option Numbers → ℕ → Option StationRefusal
rep_refusal None num = None
rep_refusal (Some n) num =
    if n.least_acknowledged == n.most_given then Some WrongState
    else (if nat_le (highest n num) n.most_given
    then (if highest n num == n.least_acknowledged then Some WrongState else None)
    else Some WrongNumber)

abbrev pub with_highest : Numbers → ℕ → Numbers
with_highest n given = record {
  least_acknowledged = max n.least_acknowledged (given - WINDOW);
  most_acknowledged = min n.most_acknowledged (given - 1);
  least_given = given;
  most_given = given;
  next = n.next;
}

abbrev pub after_rep : Option Numbers → ℕ → Numbers
after_rep None num = record {
  least_acknowledged = num + 1;
  most_acknowledged = num + 255;
  least_given = num + 256;
  most_given = num + 256;
  next = None;
}
after_rep (Some n) num = with_highest n (highest n num)

-- ---- a RESP comes

-- the least number that it may acknowledge
abbrev pub answered : Numbers → ℕ → ℕ
answered n resp = from_on n.least_acknowledged resp

-- it is among A to N, else (8)
abbrev pub may_answer : Option Numbers → ℕ → Bool
may_answer None resp = true
may_answer (Some n) resp = nat_le (answered n resp) n.most_given

-- it may also acknowledge the number 256 above
abbrev pub may_lie_ahead : Option Numbers → ℕ → Bool
may_lie_ahead None resp = false
may_lie_ahead (Some n) resp = nat_le (answered n resp + 256) n.most_given

-- T where it was this and A is this one now: set back by a NAK
abbrev pub next_after : (back : Bool) → Option ℕ → ℕ → Option ℕ
next_after true next acknowledged = Some (acknowledged + 1)
next_after false None acknowledged = None
next_after false (Some next) acknowledged = Some (max next (acknowledged + 1))

abbrev pub with_acknowledged : (back : Bool) → Numbers → ℕ → Numbers
with_acknowledged back n acknowledged = record {
  least_acknowledged = acknowledged;
  most_acknowledged = acknowledged;
  least_given = max n.least_given acknowledged;
  most_given = min n.most_given (acknowledged + WINDOW);
  next = next_after back n.next acknowledged;
}

abbrev pub after_response : (back : Bool) → Option Numbers → ℕ → Numbers
after_response back None resp = record {
  least_acknowledged = resp;
  most_acknowledged = resp;
  least_given = resp;
  most_given = resp + WINDOW;
  next = next_after back None resp;
}
after_response back (Some n) resp = with_acknowledged back n (answered n resp)

-- the number 256 above is acknowledged; asked where it may be
abbrev pub after_response_ahead : (back : Bool) → Option Numbers → ℕ → Numbers
after_response_ahead back None resp = after_response back None resp
after_response_ahead back (Some n) resp = with_acknowledged back n (answered n resp + 256)
