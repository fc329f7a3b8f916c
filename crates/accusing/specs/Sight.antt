-- What is known of a station by the units that passed, and which unit of its own that refutes.
use Rattle.std.specs.Prelude.{ℕ, ◌+◌, ◌-◌, Bool, true, false, ◌&&◌, ◌||◌, not, ◌==◌, nat_lt, nat_le, if◌then◌else◌, Result, Ok, Err}
use Rattle.std.specs.Prelude.{List, [], ◌∷◌, ◌++◌, length, slice_index}
use Rattle.wire_base.specs.Seq.{wire_distance}
use Rattle.ddcmp_msg.specs.Message.{MessageValue, Data, Ack, Nak, Rep, Strt, Stack}
use Rattle.ddcmp_msg.specs.Reading.{ReadingValue, reading, Sound}
use Rattle.dna_station.specs.Station.{wire}
use Rattle.accusing.specs.declared.heard.Heard.{Heard}
use Rattle.accusing.specs.declared.beginning.Beginning.{Beginning}
use Rattle.accusing.specs.declared.mode.Mode.{Mode}
use Rattle.accusing.specs.declared.mode.Mode.TheVariants.{Begins, Runs, Doubtful}
use Rattle.accusing.specs.declared.wrong.Wrong.{Wrong}
use Rattle.accusing.specs.declared.wrong.Wrong.TheVariants as wrong
use Rattle.accusing.specs.Mark.{mark_of}
use Rattle.accusing.specs.Heard.{nothing_heard, hears, has_resp, reaches, advanced}
use Rattle.accusing.specs.Beginning.{nothing_passed, begins}
use Rattle.accusing.specs.Placing.{Passed, Own, Other}

-- the side's data messages of this period, by the marks of their data, in the order of their numbers; and how many of them come before the newest
-- one, from the next to send on: 0 where that is new
pub record Given : Type 0 where
  pub marks : List ℕ
  pub back : ℕ

abbrev pub none_given : Given
none_given = record { marks = []; back = 0 }

abbrev pub gave_none : Given → Bool
gave_none g = length g.marks == 0

-- the highest number given
abbrev pub highest : Given → ℕ
highest g = wire (length g.marks)

pub record Sight : Type 0 where
  pub mode : Mode
  -- what can have begun a period of the station, of what can have come after its present one began
  pub beginning : Beginning
  -- the same, of what can have come after the station of `beginning` came to RUNNING
  pub again : Beginning
  -- of the present period, in `Runs`
  pub heard : Heard
  pub given : Given

abbrev pub first_sight : Sight
first_sight = record { mode = Begins; beginning = nothing_passed; again = nothing_passed; heard = nothing_heard; given = none_given }

-- ---- the other side

abbrev pub begins_if : Bool → Beginning → MessageValue → Beginning
begins_if true b m = begins b m
begins_if false b m = nothing_passed

abbrev pub passes : Sight → ReadingValue → Sight
passes s (Sound m) = record s { beginning = begins s.beginning m; again = begins_if s.beginning.run s.again m; heard = hears s.heard m }
passes s bad = s

-- ---- this side

-- the station may begin again
abbrev pub anew : Mode → Sight → Sight
anew Begins s = s
anew Runs s = record s { mode = Begins; again = s.beginning }
anew Doubtful s = record s { mode = Begins; again = s.beginning }

-- the station of `beginning` runs, R is this number, and these were given
abbrev pub runs_with : Sight → ℕ → Given → Sight
runs_with s resp given =
    record { mode = Runs; beginning = s.again; again = s.again; heard = advanced s.beginning.heard resp; given = given }

-- an ACK or a NAK
abbrev pub responds_first : Sight → ℕ → Result Sight Wrong
responds_first s resp =
    if not s.beginning.run then Err wrong.NotRunning
    else (if not (reaches s.beginning.heard resp) then Err wrong.WrongResponse
    else (if resp == 0 then Ok s else Ok (runs_with s resp none_given)))

-- a station that has begun again can have sent it
abbrev pub can_begin : Sight → ℕ → Bool
can_begin s resp = s.beginning.run && reaches s.beginning.heard resp

abbrev pub responds : Mode → Sight → ℕ → Result Sight Wrong
responds Begins s resp = responds_first s resp
responds Runs s resp =
    if reaches s.heard resp then Ok (record s { heard = advanced s.heard resp })
    else (if can_begin s resp then Ok (anew Runs s) else Err wrong.WrongResponse)
responds Doubtful s resp = Ok s

abbrev pub asks : Mode → Sight → ℕ → Result Sight Wrong
asks Begins s num = Err (if s.beginning.run then wrong.NothingOutstanding else wrong.NotRunning)
asks Runs s num =
    if gave_none s.given then Err wrong.NothingOutstanding else (if num == highest s.given then Ok s else Err wrong.WrongNumber)
asks Doubtful s num = Ok s

abbrev pub stacks : Sight → Result Sight Wrong
stacks s = if s.beginning.strt then Ok (anew s.mode s) else Err wrong.NoStart

-- ---- data

-- The first data message of a period
abbrev pub gives_first : Sight → ℕ → ℕ → ℕ → Result Sight Wrong
gives_first s resp num mark =
    if not s.beginning.run then Err wrong.NotRunning
    else (if not (reaches s.beginning.heard resp) then Err wrong.WrongResponse
    else (if num == 1 then Ok (runs_with s resp (record { marks = mark ∷ []; back = 0 })) else Err wrong.WrongNumber))

-- A is the number before this one: it is the first of all, or the one before it passed as a RESP
abbrev pub may_follow : Heard → Given → (to num : ℕ) → Bool
may_follow h g to num = to == length g.marks || has_resp h (wire_distance 256 1 num)

-- the next to send can have come to this one, which lies this far before the newest: it is the one after the last that was sent; or the one after
-- A, back by a NAK or on by an acknowledgement
abbrev pub may_go : Heard → Given → (to num : ℕ) → Bool
may_go h g to num = to == g.back || (may_follow h g to num && ((nat_le to g.back || h.nak) && (nat_le g.back to || h.answered)))

-- data with a number that was not given yet
abbrev pub gives_new : Heard → Given → ℕ → Result Given Wrong
gives_new h g mark =
    if (nat_le 255 (length g.marks) && not h.answered) then Err wrong.WindowFull
    else Ok (record { marks = g.marks ++ mark ∷ []; back = 0 })

-- data that go again, of the number that lies this far before the one after the newest
abbrev pub gives_again : Given → (to mark : ℕ) → Result Given Wrong
gives_again g to mark =
    if nat_lt (length g.marks) to then Err wrong.WrongNumber
    else (if slice_index g.marks (length g.marks - to) == mark then Ok (record g { back = to - 1 }) else Err wrong.Changed)

abbrev pub gives_at : Heard → Given → (to num mark : ℕ) → Result Given Wrong
gives_at h g to num mark =
    if not (may_go h g to num) then Err wrong.WrongNumber
    else (if to == 0 then gives_new h g mark else gives_again g to mark)

abbrev pub gives : Heard → Given → (resp num mark : ℕ) → Result Given Wrong
gives h g resp num mark =
    if reaches h resp then gives_at h g (wire_distance 256 num (length g.marks + 1)) num mark else Err wrong.WrongResponse

-- a station that has begun again can have sent it too
abbrev pub gives_either : Sight → (resp num mark : ℕ) → (begins : Bool) → Result Given Wrong → Result Sight Wrong
gives_either s resp num mark true (Ok given) = Ok (record s { mode = Doubtful })
gives_either s resp num mark true (Err wrong) = gives_first (anew Runs s) resp num mark
gives_either s resp num mark false (Ok given) = Ok (record s { heard = advanced s.heard resp; given = given })
gives_either s resp num mark false (Err wrong) = Err wrong

abbrev pub gives_data : Mode → Sight → (resp num mark : ℕ) → Result Sight Wrong
gives_data Begins s resp num mark = gives_first s resp num mark
gives_data Runs s resp num mark =
    gives_either s resp num mark (can_begin s resp && (num == 1)) (gives s.heard s.given resp num mark)
gives_data Doubtful s resp num mark = Ok s

-- ---- a unit of this side

abbrev pub sends_message : Sight → MessageValue → Result Sight Wrong
sends_message s (Strt flags) = Ok (anew s.mode s)
sends_message s (Stack flags) = stacks s
sends_message s (Ack flags resp) = responds s.mode s resp
sends_message s (Nak flags reason resp) = responds s.mode s resp
sends_message s (Rep flags num) = asks s.mode s num
sends_message s (Data flags resp num body) = gives_data s.mode s resp num (mark_of body)

abbrev pub sends : Sight → ReadingValue → Result Sight Wrong
sends s (Sound m) = sends_message s m
sends s bad = Err wrong.NotAMessage

-- ---- all units that passed

abbrev pub then_all : Result Sight Wrong → (Sight → Result Sight Wrong) → Result Sight Wrong
then_all (Ok s) later = later s
then_all (Err wrong) later = Err wrong

-- what is known after these units, none of which is wrong; or why the first wrong one is
abbrev pub all_passed : Sight → List Passed → Result Sight Wrong
all_passed s [] = Ok s
all_passed s (Other unit ∷ later) = all_passed (passes s (reading unit)) later
all_passed s (Own unit ∷ later) = then_all (sends s (reading unit)) (λ next. all_passed next later)
