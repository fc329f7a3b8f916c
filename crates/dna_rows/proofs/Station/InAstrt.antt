-- Pairs of captures that tell a rule from its turn, computed from the definitions: what comes in ASTRT. For the names see `InHalted`.
use Rattle.dna_rows.proofs.Prelude.{[], ◌∷◌, ◌++◌, B, NotKept, Kept, Sent, Received, User, Start, Halt, WrongState, WrongResponse, NoCause}
use Rattle.dna_rows.proofs.Prelude.{WrongKeep, CrossedPeriod}
use Rattle.dna_rows.proofs.Units.{computing, STRT, STACK, ACK, NAK, REP, DATA}
use Rattle.dna_rows.proofs.Captures.{started, answered}
use Rattle.dna_rows.proofs.Courses.{runs, ends}
use Rattle.dna_rows.proofs.Station.Units.{damaged_DATA, damaged_STRT, Runs, EndsAt, refused}

record Rows : Type 0 where
  -- ---- ASTRT, STRT comes
  astrt_strt_kept : EndsAt B (User Start ∷ Sent STRT ∷ Sent STRT ∷ []) (User Start ∷ Received 0 NotKept STRT ∷ []) (Received 1 Kept STRT)
      (refused WrongKeep)
  astrt_strt_without_take_partner : Runs (User Start ∷ Sent STRT ∷ User Halt ∷ User Start ∷ Sent STRT ∷ Received 0 NotKept STACK ∷ [])
      (User Start ∷ Received 0 NotKept STRT ∷ Received 1 NotKept STRT ∷ Sent STACK ∷ [])
  astrt_strt_with_go_to_halted : Runs (User Start ∷ Sent STRT ∷ Sent STRT ∷ [])
      (User Start ∷ Received 0 NotKept STRT ∷ Received 1 NotKept STRT ∷ Sent STACK ∷ [])
  -- ---- ASTRT, STACK comes
  astrt_stack_needs_anything : EndsAt B (User Start ∷ Sent STRT ∷ Received 0 NotKept STRT ∷ Sent STACK ∷ [])
      (User Start ∷ Sent STRT ∷ User Halt ∷ User Start ∷ Received 0 NotKept STRT ∷ []) (Received 1 NotKept STACK) (refused CrossedPeriod)
  astrt_stack_needs_of_pair : Runs (User Start ∷ Sent STRT ∷ Received 0 NotKept STRT ∷ Received 1 NotKept STACK ∷ [])
      (User Start ∷ Sent STRT ∷ User Halt ∷ User Start ∷ Received 0 NotKept STRT ∷ Sent STACK ∷ [])
  astrt_stack_without_go_to_running : EndsAt B (User Start ∷ Sent STRT ∷ Received 0 NotKept STRT ∷ Sent STACK ∷ [])
      (User Start ∷ Sent STRT ∷ Received 0 NotKept STRT ∷ Received 1 NotKept STACK ∷ []) (Sent STACK) (refused WrongState)
  astrt_stack_without_take_partner : Runs (User Start ∷ Sent STRT ∷ Received 0 NotKept STRT ∷ Received 1 NotKept STACK ∷ Sent (ACK 0) ∷ [])
      (User Start ∷ Sent STRT ∷ User Halt ∷ User Start ∷ Received 0 NotKept STRT ∷ Sent STACK ∷ Received 1 NotKept (ACK 0) ∷ [])
  astrt_stack_kept : EndsAt B (User Start ∷ Sent STRT ∷ Received 0 NotKept STRT ∷ Sent STACK ∷ [])
      (User Start ∷ Sent STRT ∷ Received 0 NotKept STRT ∷ [])
      (Received 1 Kept STACK) (refused WrongKeep)
  -- ---- ASTRT, ACK comes
  astrt_ack_needs_anything : EndsAt B (User Start ∷ Sent STRT ∷ Sent STRT ∷ Received 0 NotKept STACK ∷ Sent (ACK 0) ∷ [])
      (answered ++ User Halt ∷ User Start ∷ Received 1 NotKept STRT ∷ []) (Received 2 NotKept (ACK 0)) (refused CrossedPeriod)
  astrt_ack_without_go_to_running : EndsAt B (started ++ Sent (ACK 0) ∷ []) (answered ++ Received 1 NotKept (ACK 0) ∷ []) (Sent STACK)
      (refused WrongState)
  astrt_ack_kept : EndsAt B (started ++ Sent (ACK 0) ∷ []) answered (Received 1 Kept (ACK 0)) (refused WrongKeep)
  -- ---- ASTRT, NAK comes
  astrt_nak_needs_fresh : Runs (User Start ∷ Sent STRT ∷ Sent STRT ∷ Received 0 NotKept STACK ∷ Sent (NAK 9 0) ∷ [])
      (answered ++ User Halt ∷ User Start ∷ Received 1 NotKept STRT ∷ Received 2 NotKept (NAK 9 0) ∷ [])
  astrt_nak_with_go_to_running : Runs (started ++ Sent (NAK 9 0) ∷ []) (answered ++ Received 1 NotKept (NAK 9 0) ∷ Sent STACK ∷ [])
  astrt_nak_kept : EndsAt B (started ++ Sent (NAK 9 0) ∷ []) answered (Received 1 Kept (NAK 9 0)) (refused WrongKeep)
  -- ---- ASTRT, REP comes
  astrt_rep_needs_fresh : Runs (User Start ∷ Sent STRT ∷ Sent STRT ∷ Received 0 NotKept STACK ∷ Sent (DATA 1 0) ∷ Sent (REP 1) ∷ [])
      (answered ++ User Halt ∷ User Start ∷ Received 1 NotKept STRT ∷ Received 3 NotKept (REP 1) ∷ [])
  astrt_rep_with_go_to_running : Runs (started ++ Sent (DATA 1 0) ∷ Sent (REP 1) ∷ []) (answered ++ Received 2 NotKept (REP 1) ∷ Sent STACK ∷ [])
  astrt_rep_with_answer_rep : EndsAt B (started ++ Sent (DATA 1 0) ∷ Sent (REP 1) ∷ Sent (ACK 0) ∷ [])
      (answered ++ Received 2 NotKept (REP 1) ∷ Received 3 NotKept (ACK 0) ∷ []) (Sent (NAK 3 0)) (refused NoCause)
  astrt_rep_kept : EndsAt B (started ++ Sent (DATA 1 0) ∷ Sent (REP 1) ∷ []) answered (Received 2 Kept (REP 1)) (refused WrongKeep)
  -- ---- ASTRT, data comes
  astrt_data_needs_anything : EndsAt B (User Start ∷ Sent STRT ∷ Sent STRT ∷ Received 0 NotKept STACK ∷ Sent (DATA 1 0) ∷ [])
      (answered ++ User Halt ∷ User Start ∷ Received 1 NotKept STRT ∷ []) (Received 2 NotKept (DATA 1 0)) (refused CrossedPeriod)
  astrt_data_take_packet_opens_no_cause_8 : Runs (started ++ Sent (DATA 1 0) ∷ []) (answered ++ Received 1 NotKept (DATA 1 0) ∷ Sent (NAK 8 0) ∷ [])
  astrt_data_without_take_packet : Runs (started ++ Sent (DATA 1 0) ∷ []) (answered ++ Received 1 Kept (DATA 1 0) ∷ [])
  astrt_data_kept : EndsAt B (started ++ Sent (DATA 1 0) ∷ Sent (DATA 2 0) ∷ []) answered (Received 2 Kept (DATA 2 0)) (refused WrongKeep)
  astrt_data_take_packet_opens_cause_8_for_any : EndsAt B (started ++ Sent (DATA 1 0) ∷ Sent (DATA 2 0) ∷ [])
      (answered ++ Received 2 NotKept (DATA 2 0) ∷ []) (Sent (NAK 8 0)) (refused NoCause)
  astrt_data_take_packet_leaves_r : EndsAt B (started ++ Sent (DATA 1 0) ∷ []) (answered ++ Received 1 Kept (DATA 1 0) ∷ []) (Sent (ACK 0))
      (refused WrongResponse)
  -- ---- ASTRT, bad header comes
  astrt_bad_header_with_go_to_running : Runs (User Start ∷ Sent STRT ∷ Sent STRT ∷ [])
      (User Start ∷ Received 0 NotKept STRT ∷ Received 1 NotKept damaged_STRT ∷ Sent STACK ∷ [])
  astrt_bad_header_with_open_cause_1 : EndsAt B (User Start ∷ Sent STRT ∷ Sent STRT ∷ Received 0 NotKept STRT ∷ Sent STACK ∷ [])
      (User Start ∷ Sent STRT ∷ Received 0 NotKept STRT ∷ Received 1 NotKept damaged_STRT ∷ Received 2 NotKept STACK ∷ []) (Sent (NAK 1 0))
      (refused NoCause)
  astrt_bad_header_kept : EndsAt B (User Start ∷ Sent STRT ∷ Sent STRT ∷ []) (User Start ∷ Received 0 NotKept STRT ∷ [])
      (Received 1 Kept damaged_STRT)
      (refused WrongKeep)
  -- ---- ASTRT, bad data comes
  astrt_bad_data_with_go_to_running : Runs (User Start ∷ Sent STRT ∷ Sent STRT ∷ [])
      (User Start ∷ Received 0 NotKept STRT ∷ Received 1 NotKept damaged_DATA ∷ Sent STACK ∷ [])
  astrt_bad_data_with_open_cause_2 : EndsAt B (started ++ Sent (DATA 1 0) ∷ Sent (ACK 0) ∷ [])
      (answered ++ Received 1 NotKept damaged_DATA ∷ Received 2 NotKept (ACK 0) ∷ []) (Sent (NAK 2 0)) (refused NoCause)
  astrt_bad_data_kept : EndsAt B (User Start ∷ Sent STRT ∷ Sent STRT ∷ []) (User Start ∷ Received 0 NotKept STRT ∷ []) (Received 1 Kept damaged_DATA)
      (refused WrongKeep)

computed : Rows
unfolding computing
computed = search (runs, ends)
