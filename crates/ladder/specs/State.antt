-- The state of a side's station after a record, by the table of the station.
use Rattle.std.specs.Prelude.{Option, Some, None, false, []}
use Rattle.capture_record.specs.declared.entry.Entry.{Entry}
use Rattle.capture_record.specs.declared.entry.Entry.TheVariants as entry
use Rattle.ddcmp_msg.specs.Message.{MessageValue, Data, Ack, Nak, Rep, Strt, Stack}
use Rattle.ddcmp_msg.specs.declared.flags.Flags.{Flags}
use Rattle.dna_station.specs.declared.state.State.{State}
use Rattle.dna_station.specs.declared.state.StationEvent.TheVariants.{Start, Halt}
use Rattle.dna_station.specs.ArrivalRows.{leads_to}
use Rattle.dna_station.specs.Table.{row, state_after}
use Rattle.ladder.specs.declared.said.Said.{Said}
use Rattle.ladder.specs.declared.said.Said.TheVariants as said
use Rattle.ladder.specs.declared.told.What.{What}
use Rattle.ladder.specs.declared.told.What.TheVariants as what

abbrev pub after_user : State → Entry → State
after_user state entry.Start = state_after Start
after_user state entry.Halt = state_after Halt
after_user state entry.Boot = state_after Halt
after_user state other = state

abbrev no_flags : Flags
no_flags = record { quick_sync = false; select = false }

-- a message that says so, as far as the state goes by it; none of what shows damage
abbrev pub message_of : Said → Option MessageValue
message_of (said.Data num resp content) = Some (Data no_flags resp num [])
message_of (said.Ack resp) = Some (Ack no_flags resp)
message_of (said.Nak reason resp) = Some (Nak no_flags reason resp)
message_of (said.Rep num) = Some (Rep no_flags num)
message_of said.Strt = Some (Strt no_flags)
message_of said.Stack = Some (Stack no_flags)
message_of other = None

abbrev pub led_to : State → Option MessageValue → State
led_to state None = state
led_to state (Some m) = leads_to state (row state m).effects

abbrev pub after_arrival : State → Said → State
after_arrival state said = led_to state (message_of said)

abbrev pub after : State → What → State
after state (what.User entry bytes) = after_user state entry
after state (what.Came hint became said sent) = after_arrival state said
after state other = state
