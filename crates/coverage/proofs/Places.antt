-- Each row has a place below 88.
use Rattle.std.proofs.Common.{◌<◌, arith}
use Rattle.dna_station.specs.declared.state.State.{State}
use Rattle.dna_station.specs.declared.state.State.TheVariants.{Halted, Istrt, Astrt, Running}
use Rattle.coverage.specs.declared.row.Row.{Row}
use Rattle.coverage.specs.declared.row.Row.TheVariants.{Start, Halt, Sends, ToHalted, ToIstrt, ToAstrt, ToRunning, Damaged, Boot, LinkUser}
use Rattle.coverage.specs.declared.row.Row.TheVariants.{LinkSends, LinkGets, Lost}
use Rattle.coverage.specs.declared.row.Sending.{Sending}
use Rattle.coverage.specs.declared.row.Sending.TheVariants as sending
use Rattle.coverage.specs.declared.row.UnitKind.{UnitKind}
use Rattle.coverage.specs.declared.row.UnitKind.TheVariants as unit
use Rattle.coverage.specs.declared.row.AstrtArrival.{AstrtArrival}
use Rattle.coverage.specs.declared.row.AstrtArrival.TheVariants as astrt
use Rattle.coverage.specs.declared.row.RunningArrival.{RunningArrival}
use Rattle.coverage.specs.declared.row.RunningArrival.TheVariants as running
use Rattle.coverage.specs.declared.row.Damage.{Damage}
use Rattle.coverage.specs.declared.row.Damage.TheVariants as damage
use Rattle.coverage.specs.declared.row.LinkAct.{LinkAct}
use Rattle.coverage.specs.declared.row.LinkAct.TheVariants as act
use Rattle.coverage.specs.declared.row.Loss.{Loss}
use Rattle.coverage.specs.declared.row.Loss.TheVariants as loss
use Rattle.coverage.specs.declared.row.MessageKind.{MessageKind}
use Rattle.coverage.specs.declared.row.MessageKind.TheVariants as message
use Rattle.coverage.specs.Row.{place, state_entry, sending_entry, unit_entry, astrt_entry, running_entry, damage_entry, act_entry, loss_entry}
use Rattle.coverage.specs.Row.{message_entry}

state_below : (state : State) → (state_entry state).0 < 4
state_below Halted = omega arith
state_below Istrt = omega arith
state_below Astrt = omega arith
state_below Running = omega arith

sending_below : (what : Sending) → (sending_entry what).0 < 8
sending_below sending.Strt = omega arith
sending_below sending.Stack = omega arith
sending_below sending.Ack = omega arith
sending_below sending.NakOfCause = omega arith
sending_below sending.OtherNak = omega arith
sending_below sending.Rep = omega arith
sending_below sending.NewData = omega arith
sending_below sending.DataAgain = omega arith

unit_below : (what : UnitKind) → (unit_entry what).0 < 6
unit_below unit.Strt = omega arith
unit_below unit.Stack = omega arith
unit_below unit.Ack = omega arith
unit_below unit.Nak = omega arith
unit_below unit.Rep = omega arith
unit_below unit.Data = omega arith

astrt_below : (what : AstrtArrival) → (astrt_entry what).0 < 10
astrt_below astrt.Strt = omega arith
astrt_below astrt.Stack = omega arith
astrt_below astrt.AckOfNone = omega arith
astrt_below astrt.AckOfSome = omega arith
astrt_below astrt.Nak = omega arith
astrt_below astrt.Rep = omega arith
astrt_below astrt.Kept = omega arith
astrt_below astrt.NoBuffer = omega arith
astrt_below astrt.RepeatOrGap = omega arith
astrt_below astrt.DataOfSome = omega arith

running_below : (what : RunningArrival) → (running_entry what).0 < 9
running_below running.Strt = omega arith
running_below running.Stack = omega arith
running_below running.Ack = omega arith
running_below running.Nak = omega arith
running_below running.RepOfLast = omega arith
running_below running.RepOfOther = omega arith
running_below running.Kept = omega arith
running_below running.NoBuffer = omega arith
running_below running.RepeatOrGap = omega arith

damage_below : (what : Damage) → (damage_entry what).0 < 2
damage_below damage.Header = omega arith
damage_below damage.Data = omega arith

act_below : (what : LinkAct) → (act_entry what).0 < 8
act_below act.Open = omega arith
act_below act.Accept = omega arith
act_below act.Reject = omega arith
act_below act.In = omega arith
act_below act.Up = omega arith
act_below act.Close = omega arith
act_below act.Boot = omega arith
act_below act.Abort = omega arith

loss_below : (what : Loss) → (loss_entry what).0 < 2
loss_below loss.Above = omega arith
loss_below loss.Unsent = omega arith

message_below : (what : MessageKind) → (message_entry what).0 < 11
message_below message.ConnectInitiate = omega arith
message_below message.ConnectAck = omega arith
message_below message.ConnectConfirm = omega arith
message_below message.DisconnectInitiate = omega arith
message_below message.DisconnectConfirm = omega arith
message_below message.Segment = omega arith
message_below message.DataAck = omega arith
message_below message.LinkService = omega arith
message_below message.Interrupt = omega arith
message_below message.OtherDataAck = omega arith
message_below message.NoOperation = omega arith

pub place_below : (row : Row) → place row < 88
place_below Start = omega arith
place_below (Halt state) = let below = state_below state in omega arith
place_below (Sends what) = let below = sending_below what in omega arith
place_below (ToHalted what) = let below = unit_below what in omega arith
place_below (ToIstrt what) = let below = unit_below what in omega arith
place_below (ToAstrt what) = let below = astrt_below what in omega arith
place_below (ToRunning what) = let below = running_below what in omega arith
place_below (Damaged state what) =
    let one = state_below state in
    let two = damage_below what in
    omega arith
place_below (Boot state) = let below = state_below state in omega arith
place_below (LinkUser what) = let below = act_below what in omega arith
place_below (LinkSends what) = let below = message_below what in omega arith
place_below (LinkGets what) = let below = message_below what in omega arith
place_below (Lost what) = let below = loss_below what in omega arith
