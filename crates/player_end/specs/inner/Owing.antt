-- What a contract sees of what an end owes and of what it chooses to send.
use Rattle.std.specs.Prelude.{Bool, false}
use Rattle.dna_play.specs.Owed.{Debt, OwesStrt, OwesStack, OwesAck, OwesRep, OwesNak}
use Rattle.dna_play.specs.LinkOwed as model
use Rattle.dna_play.specs.NextSent as next
use Rattle.player_end.specs.declared.debt.Debt as rust
use Rattle.player_end.specs.declared.debt.Debt.TheVariants as debts
use Rattle.player_end.specs.declared.duty.Duty.{Duty}
use Rattle.player_end.specs.declared.duty.Duty.TheVariants as duties
use Rattle.player_end.specs.declared.choice.EndConfirm.{EndConfirm}
use Rattle.player_end.specs.declared.choice.LinkChoice.{LinkChoice}
use Rattle.player_end.specs.declared.choice.LinkChoice.TheVariants as link_choices
use Rattle.player_end.specs.declared.choice.Choice.{Choice}
use Rattle.player_end.specs.declared.choice.Choice.TheVariants as choices

abbrev pub debt_view : rust.Debt → Debt
debt_view debts.Strt = OwesStrt
debt_view debts.Stack = OwesStack
debt_view debts.Ack = OwesAck
debt_view debts.Rep = OwesRep
debt_view (debts.Nak reason) = OwesNak reason

abbrev pub duty_view : Duty → model.Duty
duty_view duties.ConnectAck = model.ConnectAckDuty
duty_view duties.Initiate = model.InitiateDuty
duty_view duties.Confirm = model.ConfirmDuty
duty_view duties.Disconnect = model.DisconnectDuty
duty_view duties.DataAck = model.DataAckDuty
duty_view duties.Segment = model.SegmentDuty

abbrev pub confirm_view : EndConfirm → model.EndConfirm
confirm_view confirm = record { dst = confirm.dst; src = confirm.src; reason = confirm.reason }

abbrev pub link_choice_view : LinkChoice → next.LinkChoice
link_choice_view (link_choices.Confirms confirm) = next.Confirms (confirm_view confirm)
link_choice_view (link_choices.OfLink number duty) = next.OfLink number (duty_view duty)

abbrev pub choice_view : Choice → next.Choice
choice_view choices.Strt = next.SendStrt
choice_view choices.Stack = next.SendStack
choice_view (choices.Nak reason) = next.SendNak reason
choice_view choices.Rep = next.SendRep
choice_view choices.Again = next.SendAgain
choice_view (choices.New message) = next.SendNew (link_choice_view message)
choice_view choices.Ack = next.SendAck

-- whether a flag says that this is owed
abbrev pub has_duty : model.Duty → model.LinkOwed → Bool
has_duty model.ConnectAckDuty owed = owed.connect_ack
has_duty model.InitiateDuty owed = owed.initiate
has_duty model.ConfirmDuty owed = owed.confirm
has_duty model.DisconnectDuty owed = owed.disconnect
has_duty model.DataAckDuty owed = owed.data_ack
has_duty model.SegmentDuty owed = false
