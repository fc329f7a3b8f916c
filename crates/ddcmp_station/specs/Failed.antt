-- The first check that is not passed, by its name in the table, with what is seen there and what is allowed.
use Rattle.std.specs.Prelude.{ℕ, ◌+◌, Bool, true, false, not, ◌==◌, if◌then◌else◌, Option, Some, None, List, [], ◌∷◌, length, slice_get}
use Rattle.std.specs.List.{common_prefix_len}
use Rattle.ddcmp_msg.specs.Message.{MessageValue, Data, Ack, Nak, Rep}
use Rattle.ddcmp_msg.specs.declared.nak_reason.NakReason.{NakReason}
use Rattle.ddcmp_msg.specs.declared.nak_reason.NakReason.TheVariants.{HeaderFormat}
use Rattle.dna_station.specs.declared.refusal.StationRefusal.{StationRefusal}
use Rattle.dna_station.specs.declared.refusal.StationRefusal.TheVariants.{WrongState, WrongNumber, WrongResponse, WindowFull, Changed, NoCause}
use Rattle.dna_station.specs.declared.refusal.StationRefusal.TheVariants.{WrongKeep, CrossedPeriod}
use Rattle.dna_station.specs.declared.tag.Tag.{Tag}
use Rattle.dna_station.specs.Table.{Check, checks, Needs, row}
use Rattle.dna_station.specs.Table as table
use Rattle.dna_station.specs.ArrivalRows.{need_of}
use Rattle.dna_station.specs.PeriodRule.{PeriodRule, meets}
use Rattle.dna_station.specs.Book.{ArrivalValue, Sound, HeaderBad, DataBad, resp_of, num_of, body_of, takes_by}
use Rattle.dna_station.specs.Station.{wire}
use Rattle.dna_station.specs.WireStation.{HeldPacket, WireStation}
use Rattle.dna_station.specs.WireBook.{wire_book, wire_is_new, wire_passes, wire_tag}
use Rattle.ddcmp_station.specs.View.{open_of}
use Rattle.ddcmp_station.specs.declared.failed.DataByte.{DataByte}
use Rattle.ddcmp_station.specs.declared.failed.FailedSending.{FailedSending}
use Rattle.ddcmp_station.specs.declared.failed.FailedSending.TheVariants as failed
use Rattle.ddcmp_station.specs.declared.failed.FailedArrival.{FailedArrival}
use Rattle.ddcmp_station.specs.declared.failed.FailedArrival.TheVariants as arrivals

-- the reason of a NAK; a message that is none has none that needs a cause
abbrev pub reason_in : MessageValue → NakReason
reason_in (Nak flags reason resp) = reason
reason_in m = HeaderFormat

abbrev pub first_failing : (passes : Check → Bool) → (named : Check → FailedSending) → List Check → Option FailedSending
first_failing passes named [] = None
first_failing passes named (check ∷ next) = if passes check then first_failing passes named next else Some (named check)

-- a place in data
abbrev pub byte_at : (place : ℕ) → List ℕ → DataByte
byte_at place bytes = record { place = place; byte = slice_get bytes place; length = length bytes }

-- the first place where two differ, or the end of the shorter
abbrev pub first_difference : List ℕ → List ℕ → ℕ
first_difference bytes first = common_prefix_len (λ x y. x == y) bytes first

abbrev pub not_as_first : (number : ℕ) → List ℕ → List ℕ → FailedSending
not_as_first number bytes first =
    failed.AsFirstGiven number (byte_at (first_difference bytes first) bytes) (byte_at (first_difference bytes first) first)

module _ {L : Type 0} where
  -- the data of the first sending of an outstanding packet
  abbrev pub first_data : Option (HeldPacket L) → List ℕ
  first_data None = []
  first_data (Some packet) = packet.body

  -- A row for each check of the table
  abbrev pub failing : WireStation L → MessageValue → Check → FailedSending
  failing w m table.RespIsLast = failed.RespIsLast (resp_of m) w.variables.received
  failing w m table.NumIsNext =
      failed.NumIsNext (num_of m) (wire (w.variables.acknowledged + 1 + w.variables.ahead)) (not (wire_is_new w.variables))
  failing w m table.NumIsHighest = failed.NumIsHighest (num_of m) (wire (w.variables.acknowledged + length w.variables.held))
  failing w m table.SomeOutstanding = failed.SomeOutstanding
  failing w m table.RoomIfNew = failed.RoomIfNew (length w.variables.held) 254
  failing w m table.AsFirstGiven = not_as_first (num_of m) (body_of m) (first_data (slice_get w.variables.held w.variables.ahead))
  failing w m table.CauseIsOpen = failed.CauseIsOpen (reason_in m) (open_of w.causes)

  -- and one for a message that has no row
  abbrev pub failed_of : WireStation L → MessageValue → Option (List Check) → Option FailedSending
  failed_of w m None = Some (failed.State w.variables.state)
  failed_of w m (Some list) = first_failing (wire_passes w m) (failing w m) list

  abbrev pub failed_sending : WireStation L → MessageValue → Option FailedSending
  failed_sending w m = failed_of w m (checks w.variables.state m)

-- the refusal of each
abbrev pub refusal_of_failed : FailedSending → StationRefusal
refusal_of_failed (failed.State state) = WrongState
refusal_of_failed (failed.RespIsLast seen allowed) = WrongResponse
refusal_of_failed (failed.NumIsNext seen allowed again) = WrongNumber
refusal_of_failed (failed.NumIsHighest seen allowed) = WrongNumber
refusal_of_failed failed.SomeOutstanding = WrongState
refusal_of_failed (failed.RoomIfNew seen allowed) = WindowFull
refusal_of_failed (failed.AsFirstGiven number seen allowed) = Changed
refusal_of_failed (failed.CauseIsOpen seen causes) = NoCause

-- ---- an arrival

abbrev pub failed_keep : (takes kept : Bool) → Option FailedArrival
failed_keep takes false = None
failed_keep true true = None
failed_keep false true = Some arrivals.Keep

module _ {L : Type 0} where
  abbrev pub needs_of : WireStation L → MessageValue → Needs
  needs_of w m = (row w.variables.state m).needs

  abbrev pub failed_arrival : PeriodRule → WireStation L → ArrivalValue Tag → (kept : Bool) → Option FailedArrival
  failed_arrival rule w (Sound m tag) kept =
      if rule (meets (needs_of w m) (wire_tag w) tag)
      then failed_keep (takes_by wire_book w m tag) kept
      else Some (arrivals.Period (need_of (needs_of w m)) tag (wire_tag w))
  failed_arrival rule w HeaderBad kept = failed_keep false kept
  failed_arrival rule w DataBad kept = failed_keep false kept

abbrev pub refusal_of_arrival : FailedArrival → StationRefusal
refusal_of_arrival (arrivals.Period needs seen own) = CrossedPeriod
refusal_of_arrival arrivals.Keep = WrongKeep

-- ---- the same message with another field

abbrev pub has_resp : MessageValue → Bool
has_resp (Data flags resp num body) = true
has_resp (Ack flags resp) = true
has_resp (Nak flags reason resp) = true
has_resp m = false

abbrev pub has_num : MessageValue → Bool
has_num (Data flags resp num body) = true
has_num (Rep flags num) = true
has_num m = false

abbrev pub is_data : MessageValue → Bool
is_data (Data flags resp num body) = true
is_data m = false

abbrev pub with_resp : MessageValue → ℕ → MessageValue
with_resp (Data flags resp num body) allowed = Data flags allowed num body
with_resp (Ack flags resp) allowed = Ack flags allowed
with_resp (Nak flags reason resp) allowed = Nak flags reason allowed
with_resp m allowed = m

abbrev pub with_num : MessageValue → ℕ → MessageValue
with_num (Data flags resp num body) allowed = Data flags resp allowed body
with_num (Rep flags num) allowed = Rep flags allowed
with_num m allowed = m

abbrev pub with_reason : MessageValue → NakReason → MessageValue
with_reason (Nak flags reason resp) allowed = Nak flags allowed resp
with_reason m allowed = m

abbrev pub with_body : MessageValue → List ℕ → MessageValue
with_body (Data flags resp num body) allowed = Data flags resp num allowed
with_body m allowed = m
