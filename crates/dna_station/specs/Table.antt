-- The rules of a DDCMP station, as tables to be laid beside the standard (DDCMP 4.1, startup state table, data transfer). What a check and an
-- effect mean is in `StationBook` on true numbers and in `WireBook` on numbers modulo 256; how a station goes by the rows is in `Book`. R is the
-- last number received in order, N the highest given, A the highest acknowledged, T the next to send. Numbers in brackets are those of
-- reasons. A period is what lies between two starts of a station, and its partner the period of the other station that it talks to; both are
-- this project's own. Whether a station answers, as a STACK or a REP with an ACK, is not judged: each row says what it takes note of.
use Rattle.std.specs.Prelude.{ℕ, Bool, true, false, ◌==◌, if◌then◌else◌, Option, Some, None, List, [], ◌∷◌}
use Rattle.ddcmp_msg.specs.Message.{MessageValue, Data, Ack, Nak, Rep, Strt, Stack}
use Rattle.dna_station.specs.declared.state.State.{State}
use Rattle.dna_station.specs.declared.state.State.TheVariants.{Halted, Istrt, Astrt, Running}
use Rattle.dna_station.specs.declared.state.StationEvent.{StationEvent}
use Rattle.dna_station.specs.declared.state.StationEvent.TheVariants.{Start, Halt}
use Rattle.dna_station.specs.declared.refusal.StationRefusal.{StationRefusal}
use Rattle.dna_station.specs.declared.refusal.StationRefusal.TheVariants.{WrongState, WrongNumber, WrongResponse, WindowFull, Changed, NoCause}
use Rattle.dna_station.specs.declared.refusal.StationRefusal.TheVariants.{WrongUserEvent}

-- how many numbers may be outstanding
abbrev pub WINDOW : ℕ
WINDOW = 255

-- ---- what the user does

-- start in HALTED, else (14); halt in every state
abbrev pub user_refusal : State → StationEvent → Option StationRefusal
user_refusal Halted Start = None
user_refusal state Start = Some WrongUserEvent
user_refusal state Halt = None

-- start leads to ISTRT, and begins a period; halt leads to HALTED
abbrev pub state_after : StationEvent → State
state_after Start = Istrt
state_after Halt = Halted

-- ---- what may be sent

-- What is asked of a message that is to be sent
pub data Check : Type 0 where
  RespIsLast : Check  -- RESP is R, else (8)
  CauseIsOpen : Check  -- a NAK of reason 1, 2, 3 or 8 has an open cause of that reason, else (11); the others need none
  SomeOutstanding : Check  -- A is not N, else (6)
  NumIsHighest : Check  -- NUM is N, else (7)
  NumIsNext : Check  -- NUM is T, else (7)
  RoomIfNew : Check  -- where T is N + 1 fewer than 255 are outstanding, else (9)
  AsFirstGiven : Check  -- where T is at most N the data are those of the first sending, else (10)

abbrev pub refusal_of : Check → StationRefusal
refusal_of RespIsLast = WrongResponse
refusal_of CauseIsOpen = NoCause
refusal_of SomeOutstanding = WrongState
refusal_of NumIsHighest = WrongNumber
refusal_of NumIsNext = WrongNumber
refusal_of RoomIfNew = WindowFull
refusal_of AsFirstGiven = Changed

-- the checks in their order; None: in this state the message may not be sent (6). Flags are never judged
abbrev pub checks : State → MessageValue → Option (List Check)
checks Istrt (Strt flags) = Some []
checks Astrt (Stack flags) = Some []
checks Running (Ack flags resp) = Some (RespIsLast ∷ [])
checks Running (Nak flags reason resp) = Some (RespIsLast ∷ CauseIsOpen ∷ [])
checks Running (Rep flags num) = Some (SomeOutstanding ∷ NumIsHighest ∷ [])
checks Running (Data flags resp num body) = Some (NumIsNext ∷ RespIsLast ∷ RoomIfNew ∷ AsFirstGiven ∷ [])
checks state m = None

-- What sending changes: nothing; or a NAK of reason 1, 2, 3 or 8 uses up one open cause of its reason; or, where T is N + 1, the packet is given
-- that number, and new or not T rises
pub data Change : Type 0 where
  Nothing : Change
  UseCause : Change
  SendPacket : Change

abbrev pub change_of : MessageValue → Change
change_of (Nak flags reason resp) = UseCause
change_of (Data flags resp num body) = SendPacket
change_of m = Nothing

-- ---- what an arrival does

-- What the periods of a message have to be, else (13): fresh, it answers the receiver's present period; of the pair, besides it comes from the
-- receiver's partner
pub data Needs : Type 0 where
  Anything : Needs
  Fresh : Needs
  OfPair : Needs

pub data Effect : Type 0 where
  GoTo : State → Effect
  TakePartner : Effect  -- the partner is the message's period
  Respond : Effect  -- if RESP lies above A and at most N: A = RESP, and T is the greater of T and A + 1
  SetBack : Effect  -- T = A + 1
  TakePacket : Effect  -- if NUM = R + 1: where the packet was kept it is taken and R rises, where it was not there is one more cause 8
  AnswerRep : Effect  -- if NUM is not R: one more cause 3

pub record Row : Type 0 where
  pub needs : Needs
  pub effects : List Effect

abbrev pub ignored : Row
ignored = record { needs = Anything; effects = [] }

-- a sound message: what its row needs, and its effects in their order
abbrev pub row : State → MessageValue → Row
row Istrt (Strt flags) = record { needs = Anything; effects = TakePartner ∷ GoTo Astrt ∷ [] }
row Istrt (Stack flags) = record { needs = Fresh; effects = TakePartner ∷ GoTo Running ∷ [] }
row Astrt (Strt flags) = record { needs = Anything; effects = TakePartner ∷ [] }
row Astrt (Stack flags) = record { needs = Fresh; effects = TakePartner ∷ GoTo Running ∷ [] }
row Astrt (Ack flags resp) = if resp == 0 then record { needs = OfPair; effects = GoTo Running ∷ [] } else ignored
row Astrt (Data flags resp num body) = if resp == 0 then record { needs = OfPair; effects = GoTo Running ∷ Respond ∷ TakePacket ∷ [] } else ignored
row Running (Strt flags) = record { needs = Anything; effects = GoTo Halted ∷ [] }
row Running (Stack flags) = record { needs = OfPair; effects = [] }
row Running (Ack flags resp) = record { needs = OfPair; effects = Respond ∷ [] }
row Running (Nak flags reason resp) = record { needs = OfPair; effects = Respond ∷ SetBack ∷ [] }
row Running (Rep flags num) = record { needs = OfPair; effects = AnswerRep ∷ [] }
row Running (Data flags resp num body) = record { needs = OfPair; effects = Respond ∷ TakePacket ∷ [] }
row state m = ignored

-- a unit, or noise, that shows damage: in RUNNING one more cause, 1 for a bad header and 2 for bad data; in other states nothing
abbrev pub counts_damage : State → Bool
counts_damage Running = true
counts_damage state = false
