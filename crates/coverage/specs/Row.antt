-- The place of a row, from 0 to 87, and its name.
use Rattle.std.specs.Prelude.{ℕ, ◌+◌, ◌*◌, List, ◌++◌, codes}
use Rattle.dna_station.specs.declared.state.State.{State}
use Rattle.dna_station.specs.declared.state.State.TheVariants.{Halted, Istrt, Astrt, Running}
use Rattle.coverage.specs.declared.row.Row.{Row}
use Rattle.coverage.specs.declared.row.Row.TheVariants.{Start, Halt, Sends, ToHalted, ToIstrt, ToAstrt, ToRunning, Damaged, Boot, LinkUser}
use Rattle.coverage.specs.declared.row.Row.TheVariants.{LinkSends, LinkGets, Lost}
use Rattle.coverage.specs.declared.row.Sending.{Sending}
use Rattle.coverage.specs.declared.row.Sending.TheVariants as sending
use Rattle.coverage.specs.declared.row.UnitKind.{UnitKind}
use Rattle.coverage.specs.declared.row.UnitKind.TheVariants as unit
use Rattle.coverage.specs.declared.row.AstrtArrival.{AstrtArrival}
use Rattle.coverage.specs.declared.row.AstrtArrival.TheVariants as astrt
use Rattle.coverage.specs.declared.row.RunningArrival.{RunningArrival}
use Rattle.coverage.specs.declared.row.RunningArrival.TheVariants as running
use Rattle.coverage.specs.declared.row.Damage.{Damage}
use Rattle.coverage.specs.declared.row.Damage.TheVariants as damage
use Rattle.coverage.specs.declared.row.LinkAct.{LinkAct}
use Rattle.coverage.specs.declared.row.LinkAct.TheVariants as act
use Rattle.coverage.specs.declared.row.Loss.{Loss}
use Rattle.coverage.specs.declared.row.Loss.TheVariants as loss
use Rattle.coverage.specs.declared.row.MessageKind.{MessageKind}
use Rattle.coverage.specs.declared.row.MessageKind.TheVariants as message

abbrev pub state_entry : State → ℕ × List ℕ
state_entry Halted = (0, codes "HALTED")
state_entry Istrt = (1, codes "ISTRT")
state_entry Astrt = (2, codes "ASTRT")
state_entry Running = (3, codes "RUNNING")

abbrev pub sending_entry : Sending → ℕ × List ℕ
sending_entry sending.Strt = (0, codes "ISTRT sends STRT")
sending_entry sending.Stack = (1, codes "ASTRT sends STACK")
sending_entry sending.Ack = (2, codes "RUNNING sends ACK")
sending_entry sending.NakOfCause = (3, codes "RUNNING sends NAK 1 2 3 8")
sending_entry sending.OtherNak = (4, codes "RUNNING sends NAK 9 16 17")
sending_entry sending.Rep = (5, codes "RUNNING sends REP")
sending_entry sending.NewData = (6, codes "RUNNING sends data, new")
sending_entry sending.DataAgain = (7, codes "RUNNING sends data, again")

abbrev pub unit_entry : UnitKind → ℕ × List ℕ
unit_entry unit.Strt = (0, codes "STRT")
unit_entry unit.Stack = (1, codes "STACK")
unit_entry unit.Ack = (2, codes "ACK")
unit_entry unit.Nak = (3, codes "NAK")
unit_entry unit.Rep = (4, codes "REP")
unit_entry unit.Data = (5, codes "DATA")

abbrev pub astrt_entry : AstrtArrival → ℕ × List ℕ
astrt_entry astrt.Strt = (0, codes "STRT")
astrt_entry astrt.Stack = (1, codes "STACK")
astrt_entry astrt.AckOfNone = (2, codes "ACK RESP 0")
astrt_entry astrt.AckOfSome = (3, codes "ACK RESP not 0")
astrt_entry astrt.Nak = (4, codes "NAK")
astrt_entry astrt.Rep = (5, codes "REP")
astrt_entry astrt.Kept = (6, codes "DATA RESP 0, next, kept")
astrt_entry astrt.NoBuffer = (7, codes "DATA RESP 0, next, no buffer")
astrt_entry astrt.RepeatOrGap = (8, codes "DATA RESP 0, repeat or gap")
astrt_entry astrt.DataOfSome = (9, codes "DATA RESP not 0")

abbrev pub running_entry : RunningArrival → ℕ × List ℕ
running_entry running.Strt = (0, codes "STRT")
running_entry running.Stack = (1, codes "STACK")
running_entry running.Ack = (2, codes "ACK")
running_entry running.Nak = (3, codes "NAK")
running_entry running.RepOfLast = (4, codes "REP NUM R")
running_entry running.RepOfOther = (5, codes "REP NUM not R")
running_entry running.Kept = (6, codes "DATA, next, kept")
running_entry running.NoBuffer = (7, codes "DATA, next, no buffer")
running_entry running.RepeatOrGap = (8, codes "DATA, repeat or gap")

abbrev pub damage_entry : Damage → ℕ × List ℕ
damage_entry damage.Header = (0, codes "header bad")
damage_entry damage.Data = (1, codes "data bad")

abbrev pub act_entry : LinkAct → ℕ × List ℕ
act_entry act.Open = (0, codes "OPEN")
act_entry act.Accept = (1, codes "ACCEPT")
act_entry act.Reject = (2, codes "REJECT")
act_entry act.In = (3, codes "IN")
act_entry act.Up = (4, codes "UP")
act_entry act.Close = (5, codes "CLOSE")
act_entry act.Boot = (6, codes "BOOT")
act_entry act.Abort = (7, codes "ABORT")

abbrev pub loss_entry : Loss → ℕ × List ℕ
loss_entry loss.Above = (0, codes "lost above")
loss_entry loss.Unsent = (1, codes "never sent")

abbrev pub message_entry : MessageKind → ℕ × List ℕ
message_entry message.ConnectInitiate = (0, codes "CI")
message_entry message.ConnectAck = (1, codes "CACK")
message_entry message.ConnectConfirm = (2, codes "CC")
message_entry message.DisconnectInitiate = (3, codes "DI")
message_entry message.DisconnectConfirm = (4, codes "DC")
message_entry message.Segment = (5, codes "SEG")
message_entry message.DataAck = (6, codes "DACK")
message_entry message.LinkService = (7, codes "LINKSERV")
message_entry message.Interrupt = (8, codes "INTERRUPT")
message_entry message.OtherDataAck = (9, codes "OACK")
message_entry message.NoOperation = (10, codes "NOP")

-- ---- the table

abbrev pub place : Row → ℕ
place Start = 0
place (Halt state) = 1 + (state_entry state).0
place (Sends what) = 5 + (sending_entry what).0
place (ToHalted what) = 13 + (unit_entry what).0
place (ToIstrt what) = 19 + (unit_entry what).0
place (ToAstrt what) = 25 + (astrt_entry what).0
place (ToRunning what) = 35 + (running_entry what).0
place (Damaged state what) = 44 + 2 * (state_entry state).0 + (damage_entry what).0
place (Boot state) = 52 + (state_entry state).0
place (LinkUser what) = 56 + (act_entry what).0
place (LinkSends what) = 64 + (message_entry what).0
place (LinkGets what) = 75 + (message_entry what).0
place (Lost what) = 86 + (loss_entry what).0

abbrev pub name : Row → List ℕ
name Start = codes "HALTED user start"
name (Halt state) = (state_entry state).1 ++ codes " user halt"
name (Sends what) = (sending_entry what).1
name (ToHalted what) = codes "HALTED gets " ++ (unit_entry what).1
name (ToIstrt what) = codes "ISTRT gets " ++ (unit_entry what).1
name (ToAstrt what) = codes "ASTRT gets " ++ (astrt_entry what).1
name (ToRunning what) = codes "RUNNING gets " ++ (running_entry what).1
name (Damaged state what) = (state_entry state).1 ++ (codes " damage " ++ (damage_entry what).1)
name (Boot state) = (state_entry state).1 ++ codes " user boot"
name (LinkUser what) = codes "link user " ++ (act_entry what).1
name (LinkSends what) = codes "link sends " ++ (message_entry what).1
name (LinkGets what) = codes "link gets " ++ (message_entry what).1
name (Lost what) = codes "link packet " ++ (loss_entry what).1
