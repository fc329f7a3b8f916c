-- Pairs of captures that tell a rule from its turn, computed from the definitions: what is sent. A row is named for the state, the message,
-- and the turn whose answer is another: a check or an effect left out or added. One that is named for state and message alone tells whether
-- the message is allowed. A caused NAK has reason 1, 2, 3 or 8, a free one 9, 16 or 17. The full window stands in `Windows`.
use Rattle.dna_rows.proofs.Prelude.{[], ◌∷◌, ◌++◌, A, B, NotKept, Sent, Received, User, Start, Halt, WrongState, WrongNumber, WrongResponse}
use Rattle.dna_rows.proofs.Prelude.{Changed, NoCause}
use Rattle.dna_rows.proofs.Units.{computing, STRT, STACK, ACK, NAK, REP, DATA, data_of}
use Rattle.dna_rows.proofs.Captures.{started, answered}
use Rattle.dna_rows.proofs.Courses.{runs, ends}
use Rattle.dna_rows.proofs.Station.Units.{damaged_DATA, damaged_STRT, Runs, EndsAt, refused}

record Rows : Type 0 where
  -- ---- in HALTED
  halted_sends_strt : EndsAt A [] [] (Sent STRT) (refused WrongState)
  halted_sends_stack : EndsAt A [] [] (Sent STACK) (refused WrongState)
  halted_sends_ack : EndsAt A [] [] (Sent (ACK 0)) (refused WrongState)
  halted_sends_caused_nak : EndsAt A [] [] (Sent (NAK 1 0)) (refused WrongState)
  halted_sends_free_nak : EndsAt A [] [] (Sent (NAK 9 0)) (refused WrongState)
  halted_sends_rep : EndsAt A (started ++ Sent (DATA 1 0) ∷ User Halt ∷ []) answered (Sent (REP 1)) (refused WrongState)
  halted_sends_data : EndsAt A [] [] (Sent (DATA 1 0)) (refused WrongState)
  -- ---- in ISTRT
  istrt_sends_strt : Runs (User Start ∷ Sent STRT ∷ []) []
  istrt_sends_stack : EndsAt A (User Start ∷ []) [] (Sent STACK) (refused WrongState)
  istrt_sends_ack : EndsAt A (User Start ∷ []) [] (Sent (ACK 0)) (refused WrongState)
  istrt_sends_caused_nak : EndsAt A (User Start ∷ []) [] (Sent (NAK 1 0)) (refused WrongState)
  istrt_sends_free_nak : EndsAt A (User Start ∷ []) [] (Sent (NAK 9 0)) (refused WrongState)
  istrt_sends_data : EndsAt A (User Start ∷ []) [] (Sent (DATA 1 0)) (refused WrongState)
  -- ---- in ASTRT
  astrt_sends_strt : EndsAt B (User Start ∷ Sent STRT ∷ []) (User Start ∷ Received 0 NotKept STRT ∷ []) (Sent STRT) (refused WrongState)
  astrt_sends_stack : Runs (User Start ∷ Sent STRT ∷ []) answered
  astrt_sends_ack : EndsAt B (User Start ∷ Sent STRT ∷ []) (User Start ∷ Received 0 NotKept STRT ∷ []) (Sent (ACK 0)) (refused WrongState)
  astrt_sends_caused_nak : EndsAt B (User Start ∷ Sent STRT ∷ []) (User Start ∷ Received 0 NotKept STRT ∷ []) (Sent (NAK 1 0)) (refused WrongState)
  astrt_sends_free_nak : EndsAt B (User Start ∷ Sent STRT ∷ []) (User Start ∷ Received 0 NotKept STRT ∷ []) (Sent (NAK 9 0)) (refused WrongState)
  astrt_sends_data : EndsAt B (User Start ∷ Sent STRT ∷ []) (User Start ∷ Received 0 NotKept STRT ∷ []) (Sent (DATA 1 0)) (refused WrongState)
  -- ---- in RUNNING
  running_sends_strt : EndsAt A started answered (Sent STRT) (refused WrongState)
  running_sends_stack : EndsAt A started answered (Sent STACK) (refused WrongState)
  running_sends_ack_without_resp_is_last : EndsAt A started answered (Sent (ACK 1)) (refused WrongResponse)
  running_sends_ack_with_send_packet : Runs (started ++ Sent (ACK 0) ∷ Sent (DATA 1 0) ∷ []) answered
  running_sends_caused_nak_without_cause_is_open_1 : EndsAt A started answered (Sent (NAK 1 0)) (refused NoCause)
  running_sends_caused_nak_without_resp_is_last : EndsAt A started answered (Sent (NAK 1 1)) (refused WrongResponse)
  running_sends_caused_nak_with_send_packet : Runs (started ++ Sent (DATA 1 0) ∷ [])
      (answered ++ Received 1 NotKept (DATA 1 0) ∷ Sent (NAK 8 0) ∷ Sent (DATA 1 0) ∷ [])
  running_sends_caused_nak_without_use_cause_1 : EndsAt A (started ++ Received 1 NotKept damaged_STRT ∷ Sent (NAK 1 0) ∷ [])
      (answered ++ Sent STACK ∷ []) (Sent (NAK 1 0)) (refused NoCause)
  running_sends_caused_nak_without_cause_is_open_2 : EndsAt A started answered (Sent (NAK 2 0)) (refused NoCause)
  running_sends_caused_nak_without_use_cause_2 : EndsAt A (started ++ Received 1 NotKept damaged_DATA ∷ Sent (NAK 2 0) ∷ [])
      (answered ++ Sent STACK ∷ []) (Sent (NAK 2 0)) (refused NoCause)
  running_sends_caused_nak_without_cause_is_open_3 : EndsAt A started answered (Sent (NAK 3 0)) (refused NoCause)
  running_sends_caused_nak_without_use_cause_3 : EndsAt B (started ++ Sent (DATA 1 0) ∷ Sent (REP 1) ∷ [])
      (answered ++ Received 1 NotKept (DATA 1 0) ∷ Received 2 NotKept (REP 1) ∷ Sent (NAK 3 0) ∷ []) (Sent (NAK 3 0)) (refused NoCause)
  running_sends_caused_nak_without_cause_is_open_8 : EndsAt A started answered (Sent (NAK 8 0)) (refused NoCause)
  running_sends_caused_nak_without_use_cause_8 : EndsAt B (started ++ Sent (DATA 1 0) ∷ [])
      (answered ++ Received 1 NotKept (DATA 1 0) ∷ Sent (NAK 8 0) ∷ []) (Sent (NAK 8 0)) (refused NoCause)
  running_sends_free_nak_with_cause_is_open_16 : Runs (started ++ Sent (NAK 16 0) ∷ []) answered
  running_sends_free_nak_without_resp_is_last : EndsAt A started answered (Sent (NAK 9 1)) (refused WrongResponse)
  running_sends_free_nak_with_send_packet : Runs (started ++ Sent (NAK 9 0) ∷ Sent (DATA 1 0) ∷ []) answered
  running_sends_free_nak_with_use_cause_9 : Runs (started ++ Sent (DATA 1 0) ∷ [])
      (answered ++ Received 1 NotKept (DATA 1 0) ∷ Sent (NAK 9 0) ∷ Sent (NAK 8 0) ∷ [])
  running_sends_free_nak_with_cause_is_open_9 : Runs (started ++ Sent (NAK 9 0) ∷ []) answered
  running_sends_free_nak_with_use_cause_16 : Runs (started ++ Sent (DATA 1 0) ∷ [])
      (answered ++ Received 1 NotKept (DATA 1 0) ∷ Sent (NAK 16 0) ∷ Sent (NAK 8 0) ∷ [])
  running_sends_free_nak_with_use_cause_17 : Runs (started ++ Sent (DATA 1 0) ∷ [])
      (answered ++ Received 1 NotKept (DATA 1 0) ∷ Sent (NAK 17 0) ∷ Sent (NAK 8 0) ∷ [])
  running_sends_free_nak_with_cause_is_open_17 : Runs (started ++ Sent (NAK 17 0) ∷ []) answered
  running_sends_rep_without_num_is_highest : EndsAt A (started ++ Sent (DATA 1 0) ∷ []) answered (Sent (REP 0)) (refused WrongNumber)
  running_sends_rep_without_some_outstanding : EndsAt A started answered (Sent (REP 0)) (refused WrongState)
  running_sends_rep_with_send_packet : Runs (started ++ Sent (DATA 1 0) ∷ Sent (REP 1) ∷ Sent (DATA 2 0) ∷ []) answered
  running_sends_data_without_resp_is_last : EndsAt A started answered (Sent (DATA 1 1)) (refused WrongResponse)
  running_sends_data_without_num_is_next : EndsAt A started answered (Sent (DATA 2 0)) (refused WrongNumber)
  running_sends_data_without_as_first_given : EndsAt A (started ++ Sent (DATA 1 0) ∷ Received 1 NotKept (NAK 8 0) ∷ [])
      (answered ++ Received 1 NotKept (DATA 1 0) ∷ Sent (NAK 8 0) ∷ []) (Sent (data_of 1 0 (6 ∷ []))) (refused Changed)
  running_sends_data_send_packet_gives_no_number : Runs (started ++ Sent (DATA 1 0) ∷ Sent (DATA 2 0) ∷ []) answered
  running_sends_data_send_packet_leaves_t_if_sent_again : EndsAt A (started ++ Sent (DATA 1 0) ∷ Received 1 NotKept (NAK 8 0) ∷ Sent (DATA 1 0) ∷ [])
      (answered ++ Received 1 NotKept (DATA 1 0) ∷ Sent (NAK 8 0) ∷ []) (Sent (DATA 1 0)) (refused WrongNumber)

computed : Rows
unfolding computing
computed = search (runs, ends)
