-- What a link of an end of the player owes (NSP 4.0, port states): the six kinds, what its timer makes it owe, and what it owes no more. A thing is
-- owed once.
use Rattle.std.specs.Prelude.{ℕ, ◌-◌, Bool, true, false, Option, Some, None}
use Rattle.dna_links.specs.declared.port.Phase.{Phase}
use Rattle.dna_links.specs.declared.port.Phase.TheVariants.{Calling, Called, Confirming, Running, Disconnecting, Ended}

-- What a link has to send: the six kinds, in the order in which they go. Each belongs to one phase alone: Called, Calling, Confirming, DI, and the
-- last two to RUN
pub data Duty : Type 0 where
  ConnectAckDuty : Duty
  InitiateDuty : Duty
  ConfirmDuty : Duty
  DisconnectDuty : Duty
  DataAckDuty : Duty
  SegmentDuty : Duty

-- which of them are owed; a segment is, where there is one to be sent
pub record LinkOwed : Type 0 where
  pub connect_ack : Bool
  pub initiate : Bool
  pub confirm : Bool
  pub disconnect : Bool
  pub data_ack : Bool
  -- whether a CI was sent: the next one goes as a repeated one
  pub initiated : Bool
  -- how many of the outstanding segments are sent in the present go: the next to send is the one after them
  pub ahead : ℕ

abbrev pub nothing : LinkOwed
nothing = record { connect_ack = false; initiate = false; confirm = false; disconnect = false; data_ack = false; initiated = false; ahead = 0 }

-- the two addresses and the reason of a DC
pub record EndConfirm : Type 0 where
  pub dst : ℕ
  pub src : ℕ
  pub reason : ℕ

-- whether that is owed; segments are never owed by a flag
abbrev pub with_duty : Duty → Bool → LinkOwed → LinkOwed
with_duty ConnectAckDuty owes owed = record owed { connect_ack = owes }
with_duty InitiateDuty owes owed = record owed { initiate = owes }
with_duty ConfirmDuty owes owed = record owed { confirm = owes }
with_duty DisconnectDuty owes owed = record owed { disconnect = owes }
with_duty DataAckDuty owes owed = record owed { data_ack = owes }
with_duty SegmentDuty owes owed = owed

-- ---- the link's timer runs out

abbrev pub sent_again : LinkOwed → LinkOwed
sent_again owed = record owed { ahead = 0 }

-- Calling: CI; Confirming: CC; DI: DI; RUN: all outstanding segments go again; in other phases it can't
abbrev pub retried : Phase → Option (LinkOwed → LinkOwed)
retried Calling = Some (with_duty InitiateDuty true)
retried Confirming = Some (with_duty ConfirmDuty true)
retried Disconnecting = Some (with_duty DisconnectDuty true)
retried Running = Some sent_again
retried Called = None
retried Ended = None

-- ---- after every record

abbrev pub same_phase : Phase → Phase → Bool
same_phase Calling Calling = true
same_phase Called Called = true
same_phase Confirming Confirming = true
same_phase Running Running = true
same_phase Disconnecting Disconnecting = true
same_phase Ended Ended = true
same_phase one other = false

abbrev pub unless_left : (stays : Bool) → LinkOwed → LinkOwed
unless_left true owed = owed
unless_left false owed = nothing

abbrev pub lowered : ℕ → LinkOwed → LinkOwed
lowered count owed = record owed { ahead = owed.ahead - count }
