-- Pairs of captures that tell a rule from its turn, computed from the definitions: what comes in ISTRT. For the names see `InHalted`.
use Rattle.dna_rows.proofs.Prelude.{[], ◌∷◌, ◌++◌, A, B, NotKept, Kept, Sent, Received, User, Start, Halt, NoCause, WrongKeep, CrossedPeriod}
use Rattle.dna_rows.proofs.Units.{computing, STRT, STACK, ACK, NAK, REP, DATA}
use Rattle.dna_rows.proofs.Captures.{started, answered}
use Rattle.dna_rows.proofs.Courses.{runs, ends}
use Rattle.dna_rows.proofs.Station.Units.{damaged_DATA, damaged_STRT, Runs, EndsAt, refused}

record Rows : Type 0 where
  -- ---- ISTRT, STRT comes
  istrt_strt_kept : EndsAt B (User Start ∷ Sent STRT ∷ []) (User Start ∷ []) (Received 0 Kept STRT) (refused WrongKeep)
  istrt_strt_without_go_to_astrt : Runs (User Start ∷ Sent STRT ∷ []) answered
  istrt_strt_without_take_partner : EndsAt A (User Start ∷ Sent STRT ∷ []) answered (Received 0 Kept STACK) (refused WrongKeep)
  -- ---- ISTRT, STACK comes
  istrt_stack_needs_anything : EndsAt A (User Start ∷ Sent STRT ∷ User Halt ∷ User Start ∷ []) answered (Received 0 NotKept STACK)
      (refused CrossedPeriod)
  istrt_stack_kept : EndsAt A (User Start ∷ Sent STRT ∷ []) answered (Received 0 Kept STACK) (refused WrongKeep)
  istrt_stack_without_go_to_running : Runs (started ++ Sent (ACK 0) ∷ []) answered
  istrt_stack_without_take_partner : EndsAt A started (answered ++ Sent STACK ∷ []) (Received 1 Kept STACK) (refused WrongKeep)
  -- ---- ISTRT, ACK comes
  istrt_ack_kept : EndsAt B (started ++ Sent (ACK 0) ∷ []) (answered ++ User Halt ∷ User Start ∷ []) (Received 1 Kept (ACK 0)) (refused WrongKeep)
  istrt_ack_with_go_to_astrt : Runs (started ++ Sent (ACK 0) ∷ []) (answered ++ User Halt ∷ User Start ∷ Received 1 NotKept (ACK 0) ∷ Sent STRT ∷ [])
  -- ---- ISTRT, NAK comes
  istrt_nak_kept : EndsAt B (started ++ Sent (NAK 9 0) ∷ []) (answered ++ User Halt ∷ User Start ∷ []) (Received 1 Kept (NAK 9 0)) (refused WrongKeep)
  istrt_nak_with_go_to_astrt : Runs (started ++ Sent (NAK 9 0) ∷ [])
      (answered ++ User Halt ∷ User Start ∷ Received 1 NotKept (NAK 9 0) ∷ Sent STRT ∷ [])
  -- ---- ISTRT, REP comes
  istrt_rep_kept : EndsAt B (started ++ Sent (DATA 1 0) ∷ Sent (REP 1) ∷ []) (answered ++ User Halt ∷ User Start ∷ []) (Received 2 Kept (REP 1))
      (refused WrongKeep)
  istrt_rep_with_go_to_astrt : Runs (started ++ Sent (DATA 1 0) ∷ Sent (REP 1) ∷ [])
      (answered ++ User Halt ∷ User Start ∷ Received 2 NotKept (REP 1) ∷ Sent STRT ∷ [])
  istrt_rep_with_answer_rep : EndsAt B (started ++ Sent (DATA 1 0) ∷ Sent (REP 1) ∷ User Halt ∷ User Start ∷ Received 1 NotKept STRT ∷ Sent STACK ∷
      [])
      (answered ++ User Halt ∷ User Start ∷ Sent STRT ∷ Received 2 NotKept (REP 1) ∷ Received 3 NotKept STACK ∷ []) (Sent (NAK 3 0)) (refused NoCause)
  -- ---- ISTRT, data comes
  istrt_data_with_take_packet : EndsAt B (started ++ Sent (DATA 1 0) ∷ []) (answered ++ User Halt ∷ User Start ∷ []) (Received 1 Kept (DATA 1 0))
      (refused WrongKeep)
  istrt_data_with_go_to_astrt : Runs (started ++ Sent (DATA 1 0) ∷ [])
      (answered ++ User Halt ∷ User Start ∷ Received 1 NotKept (DATA 1 0) ∷ Sent STRT ∷ [])
  -- ---- ISTRT, bad header comes
  istrt_bad_header_with_go_to_astrt : Runs (User Start ∷ Sent STRT ∷ []) (User Start ∷ Received 0 NotKept damaged_STRT ∷ Sent STRT ∷ [])
  istrt_bad_header_with_open_cause_1 : EndsAt B (User Start ∷ Sent STRT ∷ Received 0 NotKept STRT ∷ Sent STACK ∷ [])
      (User Start ∷ Sent STRT ∷ Received 0 NotKept damaged_STRT ∷ Received 1 NotKept STACK ∷ []) (Sent (NAK 1 0)) (refused NoCause)
  istrt_bad_header_kept : EndsAt B (User Start ∷ Sent STRT ∷ []) (User Start ∷ []) (Received 0 Kept damaged_STRT) (refused WrongKeep)
  -- ---- ISTRT, bad data comes
  istrt_bad_data_with_go_to_astrt : Runs (User Start ∷ Sent STRT ∷ []) (User Start ∷ Received 0 NotKept damaged_DATA ∷ Sent STRT ∷ [])
  istrt_bad_data_with_open_cause_2 : EndsAt B (User Start ∷ Sent STRT ∷ Received 0 NotKept STRT ∷ Sent STACK ∷ [])
      (User Start ∷ Sent STRT ∷ Received 0 NotKept damaged_DATA ∷ Received 1 NotKept STACK ∷ []) (Sent (NAK 2 0)) (refused NoCause)
  istrt_bad_data_kept : EndsAt B (User Start ∷ Sent STRT ∷ []) (User Start ∷ []) (Received 0 Kept damaged_DATA) (refused WrongKeep)

computed : Rows
unfolding computing
computed = search (runs, ends)
