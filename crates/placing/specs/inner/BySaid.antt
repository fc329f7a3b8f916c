-- What the tables say by the book of counts, asked of a unit by what it says.
use Rattle.std.specs.Prelude.{ℕ, Bool, true, false, ◌&&◌, if◌then◌else◌, Option, Some, None, List, is_none}
use Rattle.ddcmp_msg.specs.Message.{MessageValue}
use Rattle.dna_station.specs.declared.state.State.{State}
use Rattle.dna_station.specs.declared.state.State.TheVariants.{Running}
use Rattle.dna_station.specs.declared.tag.Tag.{Tag}
use Rattle.dna_station.specs.Table.{Check, RespIsLast, AsFirstGiven, Change, SendPacket, checks, change_of}
use Rattle.dna_station.specs.PeriodRule.{of_period}
use Rattle.dna_station.specs.Book.{ArrivalValue, Sound, HeaderBad, meets_by, takes_by, after_arrival_by}
use Rattle.dna_station.specs.Book.{first_failed, sending_refusal_by, after_sending_by}
use Rattle.placing.specs.Counted.{counted_book, is_new, is_next, passes, responded, with_data}
use Rattle.placing.specs.declared.said.Said.{Said}
use Rattle.placing.specs.declared.station.Station.{Station}
use Rattle.placing.specs.declared.station.sending.But.{But}
use Rattle.placing.specs.declared.station.sending.But.TheVariants.{Packet, Response, Number, All}
use Rattle.placing.specs.inner.Says.{message_of}

-- ---- a unit that comes, by what it says

-- damage, and what is no message, gives a cause that is not counted
abbrev pub arrival_by : Option MessageValue → Tag → ArrivalValue Tag
arrival_by None tag = HeaderBad
arrival_by (Some m) tag = Sound m tag

abbrev pub meets_unit : Station → Option MessageValue → Tag → Bool
meets_unit s None tag = true
meets_unit s (Some m) tag = meets_by (counted_book true) of_period s m tag

abbrev pub takes_unit : Station → Option MessageValue → Tag → Bool
takes_unit s None tag = false
takes_unit s (Some m) tag = takes_by (counted_book true) s m tag

-- whether its periods are what its row needs; whether its packet can be taken; and what comes of it
abbrev pub meets_said : Station → Said → Tag → Bool
meets_said s said tag = meets_unit s (message_of said) tag

abbrev pub takes_said : Station → Said → Tag → Bool
takes_said s said tag = takes_unit s (message_of said) tag

abbrev pub after_arrival : Station → Said → Tag → Bool → Station
after_arrival s said tag kept = after_arrival_by (counted_book true) s (arrival_by (message_of said) tag) kept

-- data in RUNNING: its RESP, and then its packet
abbrev pub received_data : Station → (resp num : ℕ) → Bool → Station
received_data s resp num kept = with_data (is_next (responded s resp) num) kept (responded s resp)

-- ---- a unit that is sent, by what it says

-- what is no message is sent by no station
abbrev pub may_send_unit : Bool → Station → Option MessageValue → Bool
may_send_unit again s None = false
may_send_unit again s (Some m) = is_none (sending_refusal_by (counted_book again) s m)

abbrev pub after_sending_unit : Station → Option MessageValue → Station
after_sending_unit s None = s
after_sending_unit s (Some m) = after_sending_by (counted_book true) s m

abbrev pub gives_by : Change → Station → Bool
gives_by SendPacket s = is_new s
gives_by change s = false

abbrev pub gives_new_unit : Station → Option MessageValue → Bool
gives_new_unit s None = false
gives_new_unit s (Some m) = gives_by (change_of m) s

-- whether it may be sent; what comes of that; and whether it gives a packet its number
abbrev pub may_send : Bool → Station → Said → Bool
may_send again s said = may_send_unit again s (message_of said)

abbrev pub after_sending : Station → Said → Station
after_sending s said = after_sending_unit s (message_of said)

abbrev pub gives_new : Station → Said → Bool
gives_new s said = gives_new_unit s (message_of said)

-- ---- a unit that can't be sent, one thing aside

-- the checks that are left
abbrev pub is_asked : But → Check → Bool
is_asked Packet AsFirstGiven = false
is_asked Packet check = true
is_asked Response AsFirstGiven = false
is_asked Response RespIsLast = false
is_asked Response check = true
is_asked Number RespIsLast = true
is_asked Number check = false
is_asked All check = false

abbrev pub passes_but : But → Station → MessageValue → Check → Bool
passes_but but s m check = if is_asked but check then passes false s m check else true

-- Where the table has nothing, all that is asked is that the station runs, if the number is not asked either.
abbrev pub may_be_no_row : But → Bool
may_be_no_row Packet = false
may_be_no_row Response = false
may_be_no_row Number = true
may_be_no_row All = true

abbrev pub passes_list : But → Station → MessageValue → Option (List Check) → Bool
passes_list but s m None = may_be_no_row but
passes_list but s m (Some list) = is_none (first_failed (passes_but but s m) list)

abbrev pub may_send_unit_but : But → Station → Option MessageValue → Bool
may_send_unit_but but s None = may_be_no_row but
may_send_unit_but but s (Some m) = passes_list but s m (checks s.state m)

abbrev pub is_running : State → Bool
is_running Running = true
is_running state = false

abbrev pub may_send_but : But → Station → Said → Bool
may_send_but but s said = is_running s.state && may_send_unit_but but s (message_of said)
