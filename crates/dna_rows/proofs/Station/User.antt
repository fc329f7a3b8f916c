-- Pairs of captures that tell a rule from its turn, computed from the definitions like the other rows: what the user does, and the line.
-- A row is named for the state, the event, and the turn whose answer is another: a start that is refused, or keeps what it has to drop.
use Rattle.dna_rows.proofs.Prelude.{[], ◌∷◌, ◌++◌, Waits, Refused, A, B, NotKept, Kept, Sent, Received, User, Start, Halt, WrongState, NoCause}
use Rattle.dna_rows.proofs.Prelude.{CrossedPeriod, WrongUserEvent, NotAMessage, HintOrder, Undetected}
use Rattle.dna_rows.proofs.Units.{computing, STRT, STACK, ACK, NAK, REP, DATA, data_of}
use Rattle.dna_rows.proofs.Captures.{started, answered}
use Rattle.dna_rows.proofs.Courses.{runs, ends}
use Rattle.dna_rows.proofs.Station.Units.{damaged_DATA, damaged_STRT, maintenance, Runs, EndsAt, refused}

record Rows : Type 0 where
  -- ---- the user: start
  halted_start : Runs (User Start ∷ []) []
  halted_start_keeps_the_period : EndsAt A (User Start ∷ Sent STRT ∷ User Halt ∷ User Start ∷ []) answered (Received 0 NotKept STACK)
      (refused CrossedPeriod)
  halted_start_keeps_r : Runs (started ++ Sent (DATA 1 0) ∷ User Halt ∷ User Start ∷ Received 1 NotKept STRT ∷ Sent STACK ∷ [])
      (answered ++ Received 1 Kept (DATA 1 0) ∷ User Halt ∷ User Start ∷ Sent STRT ∷ Received 2 NotKept STACK ∷ Sent (ACK 0) ∷ [])
  halted_start_keeps_a : EndsAt A
      (started ++ Sent (DATA 1 0) ∷ Received 1 NotKept (ACK 1) ∷ User Halt ∷ User Start ∷ Sent STRT ∷ Received 2 NotKept STACK ∷ [])
      (answered ++ Received 1 Kept (DATA 1 0) ∷ Sent (ACK 1) ∷ User Halt ∷ User Start ∷ Received 2 NotKept STRT ∷ Sent STACK ∷ []) (Sent (REP 0))
      (refused WrongState)
  halted_start_keeps_t : Runs
      (started ++ Sent (DATA 1 0) ∷ User Halt ∷ User Start ∷ Sent STRT ∷ Received 1 NotKept STACK ∷ Sent (data_of 1 0 (6 ∷ [])) ∷ [])
      (answered ++ Received 2 NotKept STRT ∷ Sent STACK ∷ [])
  halted_start_keeps_the_causes : EndsAt A
      (started ++ Received 1 NotKept damaged_STRT ∷ User Halt ∷ User Start ∷ Sent STRT ∷ Received 2 NotKept STACK ∷ [])
      (answered ++ Sent STACK ∷ Received 1 NotKept STRT ∷ Sent STACK ∷ []) (Sent (NAK 1 0)) (refused NoCause)
  istrt_start : EndsAt A (User Start ∷ []) [] (User Start) (refused WrongUserEvent)
  astrt_start : EndsAt B (User Start ∷ Sent STRT ∷ []) (User Start ∷ Received 0 NotKept STRT ∷ []) (User Start) (refused WrongUserEvent)
  running_start : EndsAt A started answered (User Start) (refused WrongUserEvent)
  -- ---- the user: halt
  halted_halt : Runs (User Halt ∷ []) []
  istrt_halt : Runs (User Start ∷ User Halt ∷ []) []
  astrt_halt : Runs (User Start ∷ Sent STRT ∷ []) (User Start ∷ Received 0 NotKept STRT ∷ User Halt ∷ [])
  running_halt : Runs (started ++ User Halt ∷ []) answered
  -- ---- the line
  sent_a_bad_header : EndsAt A [] [] (Sent damaged_STRT) (Refused NotAMessage)
  sent_bad_data : EndsAt A [] [] (Sent damaged_DATA) (Refused NotAMessage)
  sent_malformed : EndsAt A [] [] (Sent maintenance) (Refused NotAMessage)
  the_last_hint_again : EndsAt B (User Start ∷ Sent STRT ∷ []) (Received 0 NotKept STRT ∷ []) (Received 0 NotKept STRT) (Refused HintOrder)
  an_earlier_hint : EndsAt B (User Start ∷ Sent STRT ∷ Sent STRT ∷ []) (Received 1 NotKept STRT ∷ []) (Received 0 NotKept STRT) (Refused HintOrder)
  never_sent : EndsAt A [] [] (Received 0 NotKept STRT) Waits
  not_sent_yet_by_either : EndsAt A [] [] (Received 0 NotKept STRT) Waits
  received_another_message : EndsAt B (User Start ∷ Sent STRT ∷ []) [] (Received 0 NotKept STACK) (Refused Undetected)
  received_malformed : EndsAt B (User Start ∷ Sent STRT ∷ []) [] (Received 0 NotKept maintenance) (Refused Undetected)
  received_a_bad_header : Runs (User Start ∷ Sent STRT ∷ []) (Received 0 NotKept damaged_STRT ∷ [])
  received_bad_data : Runs (User Start ∷ Sent STRT ∷ []) (Received 0 NotKept damaged_DATA ∷ [])

computed : Rows
unfolding computing
computed = search (runs, ends)
