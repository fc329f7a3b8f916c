-- Pairs of captures that tell a rule from its turn, computed from the definitions: what comes in HALTED. A row is named for the state, the
-- message, and the turn whose answer is another: an effect left out or added, another need, or a receipt that says it kept a packet.
use Rattle.dna_rows.proofs.Prelude.{[], ◌∷◌, ◌++◌, A, B, NotKept, Kept, Sent, Received, User, Start, Halt, WrongKeep}
use Rattle.dna_rows.proofs.Units.{computing, STRT, STACK, ACK, NAK, REP, DATA}
use Rattle.dna_rows.proofs.Captures.{started, answered}
use Rattle.dna_rows.proofs.Courses.{runs, ends}
use Rattle.dna_rows.proofs.Station.Units.{damaged_DATA, damaged_STRT, Runs, EndsAt, refused}

record Rows : Type 0 where
  -- ---- HALTED, STRT comes
  halted_strt_kept : EndsAt B (User Start ∷ Sent STRT ∷ []) [] (Received 0 Kept STRT) (refused WrongKeep)
  halted_strt_with_go_to_astrt : Runs (User Start ∷ Sent STRT ∷ []) (Received 0 NotKept STRT ∷ User Start ∷ [])
  -- ---- HALTED, STACK comes
  halted_stack_needs_fresh : Runs (User Start ∷ Sent STRT ∷ User Halt ∷ User Start ∷ User Halt ∷ Received 0 NotKept STACK ∷ []) answered
  halted_stack_kept : EndsAt A (User Start ∷ Sent STRT ∷ User Halt ∷ []) answered (Received 0 Kept STACK) (refused WrongKeep)
  halted_stack_with_go_to_running : Runs (User Start ∷ Sent STRT ∷ User Halt ∷ Received 0 NotKept STACK ∷ User Start ∷ []) answered
  -- ---- HALTED, ACK comes
  halted_ack_needs_fresh : Runs (started ++ Sent (ACK 0) ∷ []) (answered ++ User Halt ∷ User Start ∷ User Halt ∷ Received 1 NotKept (ACK 0) ∷ [])
  halted_ack_with_go_to_running : Runs (started ++ Sent (ACK 0) ∷ []) (answered ++ User Halt ∷ Received 1 NotKept (ACK 0) ∷ User Start ∷ [])
  halted_ack_kept : EndsAt B (started ++ Sent (ACK 0) ∷ []) (answered ++ User Halt ∷ []) (Received 1 Kept (ACK 0)) (refused WrongKeep)
  -- ---- HALTED, NAK comes
  halted_nak_needs_fresh : Runs (started ++ Sent (NAK 9 0) ∷ []) (answered ++ User Halt ∷ User Start ∷ User Halt ∷ Received 1 NotKept (NAK 9 0) ∷ [])
  halted_nak_kept : EndsAt B (started ++ Sent (NAK 9 0) ∷ []) (answered ++ User Halt ∷ []) (Received 1 Kept (NAK 9 0)) (refused WrongKeep)
  -- ---- HALTED, REP comes
  halted_rep_needs_fresh : Runs (started ++ Sent (DATA 1 0) ∷ Sent (REP 1) ∷ [])
      (answered ++ User Halt ∷ User Start ∷ User Halt ∷ Received 2 NotKept (REP 1) ∷ [])
  halted_rep_kept : EndsAt B (started ++ Sent (DATA 1 0) ∷ Sent (REP 1) ∷ []) (answered ++ User Halt ∷ []) (Received 2 Kept (REP 1))
      (refused WrongKeep)
  -- ---- HALTED, data comes
  halted_data_needs_fresh : Runs (started ++ Sent (DATA 1 0) ∷ []) (answered ++ User Halt ∷ User Start ∷ User Halt ∷ Received 1 NotKept (DATA 1 0) ∷
      [])
  halted_data_with_go_to_running : Runs (started ++ Sent (DATA 1 0) ∷ []) (answered ++ User Halt ∷ Received 1 NotKept (DATA 1 0) ∷ User Start ∷ [])
  halted_data_with_take_packet : EndsAt B (started ++ Sent (DATA 1 0) ∷ []) (answered ++ User Halt ∷ []) (Received 1 Kept (DATA 1 0))
      (refused WrongKeep)
  -- ---- HALTED, bad header comes
  halted_bad_header_kept : EndsAt B (User Start ∷ Sent STRT ∷ []) [] (Received 0 Kept damaged_STRT) (refused WrongKeep)
  -- ---- HALTED, bad data comes
  halted_bad_data_kept : EndsAt B (User Start ∷ Sent STRT ∷ []) [] (Received 0 Kept damaged_DATA) (refused WrongKeep)

computed : Rows
unfolding computing
computed = search (runs, ends)
