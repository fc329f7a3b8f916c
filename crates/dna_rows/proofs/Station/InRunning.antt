-- Pairs of captures that tell a rule from its turn, computed from the definitions: what comes in RUNNING. For the names see `InHalted`.
use Rattle.dna_rows.proofs.Prelude.{[], ◌∷◌, ◌++◌, A, B, NotKept, Kept, Sent, Received, User, Start, Halt, WrongState, WrongNumber, WrongResponse}
use Rattle.dna_rows.proofs.Prelude.{NoCause, WrongKeep, CrossedPeriod, WrongUserEvent}
use Rattle.dna_rows.proofs.Units.{computing, STRT, STACK, ACK, NAK, REP, DATA}
use Rattle.dna_rows.proofs.Captures.{started, answered}
use Rattle.dna_rows.proofs.Courses.{runs, ends}
use Rattle.dna_rows.proofs.Station.Units.{damaged_DATA, damaged_STRT, Runs, EndsAt, refused}

record Rows : Type 0 where
  -- ---- RUNNING, STRT comes
  running_strt_kept : EndsAt A started (answered ++ User Halt ∷ User Start ∷ Sent STRT ∷ []) (Received 1 Kept STRT) (refused WrongKeep)
  running_strt_without_go_to_halted : Runs (started ++ Received 1 NotKept STRT ∷ User Start ∷ [])
      (answered ++ User Halt ∷ User Start ∷ Sent STRT ∷ [])
  -- ---- RUNNING, STACK comes
  running_stack_needs_anything : EndsAt A (User Start ∷ Sent STRT ∷ Sent STRT ∷ Received 0 NotKept STACK ∷ [])
      (answered ++ User Halt ∷ User Start ∷ Received 1 NotKept STRT ∷ Sent STACK ∷ []) (Received 1 NotKept STACK) (refused CrossedPeriod)
  running_stack_with_go_to_halted : EndsAt A (started ++ Received 1 NotKept STACK ∷ []) (answered ++ Sent STACK ∷ []) (User Start)
      (refused WrongUserEvent)
  running_stack_with_set_back : EndsAt A (started ++ Sent (DATA 1 0) ∷ Received 1 NotKept STACK ∷ []) (answered ++ Sent STACK ∷ []) (Sent (DATA 1 0))
      (refused WrongNumber)
  running_stack_kept : EndsAt A started (answered ++ Sent STACK ∷ []) (Received 1 Kept STACK) (refused WrongKeep)
  -- ---- RUNNING, ACK comes
  running_ack_without_respond : EndsAt A (started ++ Sent (DATA 1 0) ∷ Received 1 NotKept (ACK 1) ∷ [])
      (answered ++ Received 1 Kept (DATA 1 0) ∷ Sent (ACK 1) ∷ []) (Sent (REP 0)) (refused WrongState)
  running_ack_with_set_back : EndsAt A (started ++ Sent (DATA 1 0) ∷ Received 1 NotKept (ACK 0) ∷ [])
      (answered ++ Received 1 NotKept (DATA 1 0) ∷ Sent (ACK 0) ∷ []) (Sent (DATA 1 0)) (refused WrongNumber)
  running_ack_kept : EndsAt B (started ++ Sent (ACK 0) ∷ Sent (ACK 0) ∷ []) (answered ++ Received 1 NotKept (ACK 0) ∷ []) (Received 2 Kept (ACK 0))
      (refused WrongKeep)
  running_ack_respond_leaves_t : EndsAt B (started ++ Sent (ACK 0) ∷ Sent (NAK 9 0) ∷ Received 1 Kept (DATA 1 0) ∷ Sent (ACK 1) ∷ [])
      (answered ++ Received 1 NotKept (ACK 0) ∷ Sent (DATA 1 0) ∷ Received 2 NotKept (NAK 9 0) ∷ Received 3 NotKept (ACK 1) ∷ []) (Sent (DATA 1 0))
      (refused WrongNumber)
  running_ack_respond_sets_t : EndsAt A (started ++ Sent (DATA 1 0) ∷ Sent (DATA 2 0) ∷ Received 1 NotKept (ACK 1) ∷ [])
      (answered ++ Received 1 Kept (DATA 1 0) ∷ Sent (ACK 1) ∷ []) (Sent (DATA 2 0)) (refused WrongNumber)
  -- ---- RUNNING, NAK comes
  running_nak_without_respond : EndsAt A (started ++ Sent (DATA 1 0) ∷ Received 1 NotKept (NAK 9 1) ∷ [])
      (answered ++ Received 1 Kept (DATA 1 0) ∷ Sent (NAK 9 1) ∷ []) (Sent (DATA 1 0)) (refused WrongNumber)
  running_nak_without_set_back : Runs (started ++ Sent (DATA 1 0) ∷ Received 1 NotKept (NAK 8 0) ∷ Sent (DATA 1 0) ∷ [])
      (answered ++ Received 1 NotKept (DATA 1 0) ∷ Sent (NAK 8 0) ∷ [])
  running_nak_kept : EndsAt B (started ++ Sent (ACK 0) ∷ Sent (NAK 9 0) ∷ []) (answered ++ Received 1 NotKept (ACK 0) ∷ [])
      (Received 2 Kept (NAK 9 0))
      (refused WrongKeep)
  -- ---- RUNNING, REP comes
  running_rep_without_answer_rep : Runs (started ++ Sent (DATA 1 0) ∷ Sent (REP 1) ∷ [])
      (answered ++ Received 1 NotKept (DATA 1 0) ∷ Received 2 NotKept (REP 1) ∷ Sent (NAK 3 0) ∷ [])
  running_rep_answer_rep_for_any : EndsAt B (started ++ Sent (DATA 1 0) ∷ Sent (REP 1) ∷ [])
      (answered ++ Received 1 Kept (DATA 1 0) ∷ Received 2 NotKept (REP 1) ∷ []) (Sent (NAK 3 1)) (refused NoCause)
  running_rep_with_set_back : EndsAt B (started ++ Sent (DATA 1 0) ∷ Sent (REP 1) ∷ [])
      (answered ++ Received 1 NotKept (DATA 1 0) ∷ Sent (DATA 1 0) ∷ Received 2 NotKept (REP 1) ∷ []) (Sent (DATA 1 0)) (refused WrongNumber)
  running_rep_kept : EndsAt B (started ++ Sent (DATA 1 0) ∷ Sent (REP 1) ∷ []) (answered ++ Received 1 NotKept (DATA 1 0) ∷ [])
      (Received 2 Kept (REP 1)) (refused WrongKeep)
  -- ---- RUNNING, data comes
  running_data_without_respond : EndsAt A (started ++ Sent (DATA 1 0) ∷ Received 1 NotKept (DATA 1 1) ∷ [])
      (answered ++ Received 1 Kept (DATA 1 0) ∷ Sent (DATA 1 1) ∷ []) (Sent (REP 0)) (refused WrongState)
  running_data_without_take_packet : Runs (started ++ Sent (ACK 0) ∷ Sent (DATA 1 0) ∷ [])
      (answered ++ Received 1 NotKept (ACK 0) ∷ Received 2 Kept (DATA 1 0) ∷ [])
  running_data_take_packet_raises_r_unkept : EndsAt B (started ++ Sent (ACK 0) ∷ Sent (DATA 1 0) ∷ [])
      (answered ++ Received 1 NotKept (ACK 0) ∷ Received 2 NotKept (DATA 1 0) ∷ []) (Sent (NAK 3 0)) (refused NoCause)
  running_data_with_set_back : EndsAt A (started ++ Sent (DATA 1 0) ∷ Received 1 NotKept (DATA 1 0) ∷ [])
      (answered ++ Received 1 NotKept (DATA 1 0) ∷ Sent (DATA 1 0) ∷ []) (Sent (DATA 1 0)) (refused WrongNumber)
  running_data_kept : EndsAt B (started ++ Sent (DATA 1 0) ∷ Sent (DATA 2 0) ∷ []) (answered ++ Received 1 NotKept (DATA 1 0) ∷ [])
      (Received 2 Kept (DATA 2 0)) (refused WrongKeep)
  running_data_respond_if_next : EndsAt A (started ++ Sent (DATA 1 0) ∷ Received 2 NotKept (DATA 2 1) ∷ [])
      (answered ++ Received 1 Kept (DATA 1 0) ∷ Sent (DATA 1 1) ∷ Sent (DATA 2 1) ∷ []) (Sent (REP 0)) (refused WrongState)
  running_data_respond_leaves_t : EndsAt B (started ++ Sent (ACK 0) ∷ Sent (NAK 9 0) ∷ Received 1 Kept (DATA 1 0) ∷ Sent (DATA 1 1) ∷ [])
      (answered ++ Received 1 NotKept (ACK 0) ∷ Sent (DATA 1 0) ∷ Received 2 NotKept (NAK 9 0) ∷ Received 3 NotKept (DATA 1 1) ∷ []) (Sent (DATA 1 0))
      (refused WrongNumber)
  running_data_respond_sets_t : EndsAt A (started ++ Sent (DATA 1 0) ∷ Sent (DATA 2 0) ∷ Received 1 NotKept (DATA 1 1) ∷ [])
      (answered ++ Received 1 Kept (DATA 1 0) ∷ Sent (DATA 1 1) ∷ []) (Sent (DATA 2 0)) (refused WrongNumber)
  running_data_take_packet_opens_cause_8_for_any : EndsAt B (started ++ Sent (ACK 0) ∷ Sent (DATA 1 0) ∷ Sent (DATA 2 0) ∷ [])
      (answered ++ Received 1 NotKept (ACK 0) ∷ Received 3 NotKept (DATA 2 0) ∷ []) (Sent (NAK 8 0)) (refused NoCause)
  running_data_take_packet_opens_no_cause_8 : Runs (started ++ Sent (ACK 0) ∷ Sent (DATA 1 0) ∷ [])
      (answered ++ Received 1 NotKept (ACK 0) ∷ Received 2 NotKept (DATA 1 0) ∷ Sent (NAK 8 0) ∷ [])
  running_data_take_packet_leaves_r : EndsAt B (started ++ Sent (ACK 0) ∷ Sent (DATA 1 0) ∷ [])
      (answered ++ Received 1 NotKept (ACK 0) ∷ Received 2 Kept (DATA 1 0) ∷ []) (Sent (ACK 0)) (refused WrongResponse)
  -- ---- RUNNING, bad header comes
  running_bad_header_without_open_cause_1 : Runs (started ++ Received 1 NotKept damaged_STRT ∷ Sent (NAK 1 0) ∷ []) (answered ++ Sent STACK ∷ [])
  running_bad_header_with_set_back : EndsAt A (started ++ Sent (DATA 1 0) ∷ Received 1 NotKept damaged_STRT ∷ []) (answered ++ Sent STACK ∷ [])
      (Sent (DATA 1 0)) (refused WrongNumber)
  running_bad_header_with_open_cause_2 : EndsAt A (started ++ Received 1 NotKept damaged_STRT ∷ []) (answered ++ Sent STACK ∷ []) (Sent (NAK 2 0))
      (refused NoCause)
  running_bad_header_kept : EndsAt A started (answered ++ Sent STACK ∷ []) (Received 1 Kept damaged_STRT) (refused WrongKeep)
  -- ---- RUNNING, bad data comes
  running_bad_data_without_open_cause_2 : Runs (started ++ Received 1 NotKept damaged_DATA ∷ Sent (NAK 2 0) ∷ []) (answered ++ Sent STACK ∷ [])
  running_bad_data_with_open_cause_1 : EndsAt A (started ++ Received 1 NotKept damaged_DATA ∷ []) (answered ++ Sent STACK ∷ []) (Sent (NAK 1 0))
      (refused NoCause)
  running_bad_data_with_set_back : EndsAt A (started ++ Sent (DATA 1 0) ∷ Received 1 NotKept damaged_DATA ∷ []) (answered ++ Sent STACK ∷ [])
      (Sent (DATA 1 0)) (refused WrongNumber)
  running_bad_data_kept : EndsAt A started (answered ++ Sent STACK ∷ []) (Received 1 Kept damaged_DATA) (refused WrongKeep)

computed : Rows
unfolding computing
computed = search (runs, ends)
