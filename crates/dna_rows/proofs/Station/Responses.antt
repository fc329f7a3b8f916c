-- What RESP acknowledges, and where the next to send then lies.
use Rattle.dna_rows.proofs.Prelude.{[], ◌∷◌, ◌++◌, A, B, NotKept, Kept, Sent, Received, WrongState, WrongNumber, Accepted}
use Rattle.dna_station.specs.declared.refusal.StepRefusal.TheVariants.{Station as OfStation}
use Rattle.dna_rows.proofs.Verdicts.{Verdict, verdict}
use Rattle.dna_rows.proofs.Units.{computing, DATA, ACK, NAK, REP, data_of}
use Rattle.dna_rows.proofs.Captures.{started, answered, acked_a, acked_b, refused}

record Rows : Type 0 where
  -- Behind a set-back RESP may lie above the next to send: it acknowledges through its number, and the next to send goes past that
  resp_above_the_next_to_send_behind_a_set_back : Verdict
      (acked_a ++ Sent (data_of 1 0 (5 ∷ 1 ∷ [])) ∷ Sent (data_of 2 0 (5 ∷ 2 ∷ [])) ∷ Sent (data_of 3 0 (5 ∷ 3 ∷ [])) ∷ Received 1 NotKept (NAK 9 0) ∷
      Received 2 NotKept (ACK 3) ∷ Sent (data_of 4 0 (5 ∷ 4 ∷ [])) ∷ [])
      (acked_b ++ Sent (NAK 9 0) ∷ Received 2 Kept (data_of 1 0 (5 ∷ 1 ∷ [])) ∷ Received 3 Kept (data_of 2 0 (5 ∷ 2 ∷ [])) ∷
      Received 4 Kept (data_of 3 0 (5 ∷ 3 ∷ [])) ∷ Sent (ACK 3) ∷ []) Accepted
  -- one that acknowledges a part takes the next to send behind that part
  resp_in_part_behind_a_set_back : Verdict
      (acked_a ++ Sent (data_of 1 0 (5 ∷ 1 ∷ [])) ∷ Sent (data_of 2 0 (5 ∷ 2 ∷ [])) ∷ Received 1 NotKept (NAK 9 0) ∷ Received 2 NotKept (ACK 1) ∷
      Sent (data_of 2 0 (5 ∷ 2 ∷ [])) ∷ []) (acked_b ++ Sent (NAK 9 0) ∷ Received 2 Kept (data_of 1 0 (5 ∷ 1 ∷ [])) ∷ Sent (ACK 1) ∷ []) Accepted
  -- and no further: while packets wait to be sent again no new one is sent
  a_new_packet_in_a_repetition : Verdict
      (acked_a ++ Sent (data_of 1 0 (5 ∷ 1 ∷ [])) ∷ Sent (data_of 2 0 (5 ∷ 2 ∷ [])) ∷ Sent (data_of 3 0 (5 ∷ 3 ∷ [])) ∷ Received 1 NotKept (NAK 9 0) ∷
      Received 2 NotKept (ACK 1) ∷ Sent (data_of 4 0 (5 ∷ 4 ∷ [])) ∷ [])
      (acked_b ++ Sent (NAK 9 0) ∷ Received 2 Kept (data_of 1 0 (5 ∷ 1 ∷ [])) ∷ Sent (ACK 1) ∷ []) (refused A 9 (OfStation WrongNumber))
  -- RESP acknowledges its number too, not only those before it
  resp_acknowledges_as_many_as_came : Verdict
      (acked_a ++ Sent (DATA 1 0) ∷ Received 1 Kept (data_of 1 0 (7 ∷ [])) ∷ Received 2 NotKept (ACK 1) ∷ Sent (REP 1) ∷ [])
      (acked_b ++ Sent (data_of 1 0 (7 ∷ [])) ∷ Received 2 Kept (DATA 1 0) ∷ Sent (ACK 1) ∷ []) (refused A 7 (OfStation WrongState))
  -- A packet that is sent again has the RESP of that sending, which counts: nothing is left to ask for
  resp_of_a_repeated_packet_acknowledges_a_packet : Verdict
      (acked_a ++ Sent (DATA 1 0) ∷ Sent (data_of 2 0 (3 ∷ [])) ∷ Received 1 Kept (data_of 1 0 (7 ∷ [])) ∷ Received 2 NotKept (NAK 8 0) ∷
      Sent (DATA 1 1) ∷ [])
      (acked_b ++ Sent (data_of 1 0 (7 ∷ [])) ∷ Received 2 NotKept (DATA 1 0) ∷ Sent (NAK 8 0) ∷ Received 4 Kept (DATA 1 1) ∷ Sent (REP 1) ∷ [])
      (refused B 8 (OfStation WrongState))
  -- and no more than it says: of two packets one is left to ask for
  resp_of_a_repeated_packet : Verdict
      (acked_a ++ Sent (DATA 1 0) ∷ Sent (data_of 2 0 (3 ∷ [])) ∷ Sent (data_of 3 0 (0xb ∷ [])) ∷ Received 1 Kept (data_of 1 0 (7 ∷ [])) ∷
      Received 2 NotKept (data_of 2 0 (9 ∷ [])) ∷ Received 3 NotKept (NAK 8 0) ∷ Sent (DATA 1 1) ∷ [])
      (acked_b ++ Sent (data_of 1 0 (7 ∷ [])) ∷ Sent (data_of 2 0 (9 ∷ [])) ∷ Received 2 NotKept (DATA 1 0) ∷ Sent (NAK 8 0) ∷
      Received 5 Kept (DATA 1 1) ∷ Sent (REP 2) ∷ []) Accepted
  -- RESP of a data message counts also where its packet is not the next one
  resp_of_data_out_of_order : Verdict (acked_a ++ Received 1 Kept (data_of 1 0 (7 ∷ [])) ∷ Sent (DATA 1 1) ∷ Sent (data_of 2 1 (3 ∷ [])) ∷ [])
      (acked_b ++ Sent (data_of 1 0 (7 ∷ [])) ∷ Received 3 NotKept (data_of 2 1 (3 ∷ [])) ∷ Sent (REP 1) ∷ []) (refused B 6 (OfStation WrongState))
  -- and where there is no buffer for it
  resp_of_data_without_a_buffer : Verdict (acked_a ++ Received 1 Kept (data_of 1 0 (7 ∷ [])) ∷ Sent (DATA 1 1) ∷ [])
      (acked_b ++ Sent (data_of 1 0 (7 ∷ [])) ∷ Received 2 NotKept (DATA 1 1) ∷ Sent (REP 1) ∷ []) (refused B 6 (OfStation WrongState))
  -- ---- what a REP names, and what the NAK does that answers it
  -- A REP names the highest number given, also where the next to send lies below
  rep_names_the_highest_given_behind_a_set_back : Verdict
      (started ++ Sent (data_of 1 0 (5 ∷ 1 ∷ [])) ∷ Sent (data_of 2 0 (5 ∷ 2 ∷ [])) ∷ Sent (data_of 3 0 (5 ∷ 3 ∷ [])) ∷ Received 1 NotKept (NAK 8 0) ∷
      Sent (REP 3) ∷ []) (answered ++ Received 1 NotKept (data_of 1 0 (5 ∷ 1 ∷ [])) ∷ Sent (NAK 8 0) ∷ []) Accepted
  -- and where some of the packets were sent again
  rep_in_a_repetition : Verdict
      (started ++ Sent (data_of 1 0 (5 ∷ 1 ∷ [])) ∷ Sent (data_of 2 0 (5 ∷ 2 ∷ [])) ∷ Sent (data_of 3 0 (5 ∷ 3 ∷ [])) ∷ Received 1 NotKept (NAK 8 0) ∷
      Sent (data_of 1 0 (5 ∷ 1 ∷ [])) ∷ Sent (REP 3) ∷ []) (answered ++ Received 1 NotKept (data_of 1 0 (5 ∷ 1 ∷ [])) ∷ Sent (NAK 8 0) ∷ []) Accepted
  -- a NAK of reason 3 sets the next to send back
  nak_3_sets_back : Verdict (acked_a ++ Sent (DATA 1 0) ∷ Sent (REP 1) ∷ Received 1 NotKept (NAK 3 0) ∷ Sent (DATA 1 0) ∷ [])
      (acked_b ++ Received 3 NotKept (REP 1) ∷ Sent (NAK 3 0) ∷ Received 4 Kept (DATA 1 0) ∷ []) Accepted

computed : Rows
unfolding computing
computed = search (verdict)
