-- What happens to the station of an end of the player: what the tables make of the station variables, and what is owed then.
use Rattle.std.specs.Prelude.{ℕ, Bool, false, ◌&&◌, Option, List, fold}
use Rattle.ddcmp_msg.specs.Message.{MessageValue}
use Rattle.ddcmp_msg.specs.Reading.{ReadingValue, Sound}
use Rattle.dna_station.specs.declared.state.StationEvent.{StationEvent}
use Rattle.dna_station.specs.declared.state.StationEvent.TheVariants.{Start, Halt}
use Rattle.dna_station.specs.Table.{Change, Nothing, UseCause, SendPacket, change_of, row, state_after}
use Rattle.dna_station.specs.Book.{body_of}
use Rattle.dna_station.specs.WireStation.{StationVariables, no_numbers}
use Rattle.dna_station.specs.WireBook.{sends_packet, variables_after}
use Rattle.dna_play.specs.Owed.{Debt, with_debt, arrival_debt, still_owed, can_take}
use Rattle.dna_play.specs.NextSent.{Choice, after_choice}
use Rattle.dna_play.specs.StoredEnd.{StoredStation}

-- after a record, with these variables: what is still owed
abbrev pub becoming : StationVariables (Unit {0}) → StoredStation → StoredStation
becoming after s = record { variables = after; owed = still_owed s.variables after s.owed }

-- one more thing is owed
abbrev pub owing : Option Debt → StoredStation → StoredStation
owing debt s = record s { owed = with_debt debt s.owed }

-- ---- the user

abbrev pub variables_by : StationEvent → StationVariables (Unit {0}) → StationVariables (Unit {0})
variables_by Start k = no_numbers (state_after Start)
variables_by Halt k = record k { state = state_after Halt }

abbrev pub after_event : StationEvent → StoredStation → StoredStation
after_event event s = becoming (variables_by event s.variables) s

-- ---- sending

abbrev pub variables_sent : Change → List ℕ → StationVariables (Unit {0}) → StationVariables (Unit {0})
variables_sent Nothing body k = k
variables_sent UseCause body k = k
variables_sent SendPacket body k = sends_packet k body

-- it sends this message, which it has put together by this choice
abbrev pub after_sent : Choice → MessageValue → StoredStation → StoredStation
after_sent next m s = let after = becoming (variables_sent (change_of m) (body_of m) s.variables) s in
    record after { owed = after_choice next after.owed }

-- ---- an arrival

abbrev pub message_came : MessageValue → (kept : Bool) → StationVariables (Unit {0}) → StationVariables (Unit {0})
message_came m kept k = fold (variables_after m kept) k (row k.state m).effects

abbrev pub came : ReadingValue → (kept : Bool) → StationVariables (Unit {0}) → StationVariables (Unit {0})
came (Sound m) kept k = message_came m kept k
came read kept k = k

abbrev pub after_arrival : ReadingValue → (kept : Bool) → StoredStation → StoredStation
after_arrival read kept s = owing (arrival_debt s.variables read kept) (becoming (came read kept s.variables) s)

-- whether the packet of what came can be taken
abbrev pub can_keep : ReadingValue → StoredStation → Bool
can_keep (Sound m) s = can_take s.variables m
can_keep read s = false

-- bytes that are read so are kept where there is a buffer and their packet can be taken
abbrev pub keeps : (buffer : Bool) → ReadingValue → StoredStation → Bool
keeps buffer read s = buffer && can_keep read s
