-- Segments and acknowledgement words: their numbers, repeats, and what is delivered.
use Rattle.dna_rows.proofs.Prelude.{[], ◌∷◌, ◌++◌, A, B, NotKept, Kept, Sent, Received, User, In, Up, WrongSegment, WrongAck, Accepted}
use Rattle.dna_station.specs.declared.refusal.StepRefusal.TheVariants.{Links as OfLinks}
use Rattle.dna_rows.proofs.Verdicts.{Verdict, verdict}
use Rattle.dna_rows.proofs.Units.{computing, NAK, ack, nak, other_ack, DATA_ACK, SEGMENT, carries, data_a, data_b}
use Rattle.dna_rows.proofs.Captures.{running_a, running_b, refused}

record Rows : Type 0 where
  -- Two messages of one link are delivered, in the order in which they were handed in
  two_messages_are_delivered_in_order : Verdict
      (running_a ++ User (In 1 (5 ∷ [])) ∷ User (In 1 (6 ∷ [])) ∷ Sent (data_a 3 1 (SEGMENT 0x60 2 1 (carries 1 (5 ∷ [])))) ∷
      Sent (data_a 4 1 (SEGMENT 0x60 2 1 (carries 2 (6 ∷ [])))) ∷ [])
      (running_b ++ Received 3 Kept (data_a 3 1 (SEGMENT 0x60 2 1 (carries 1 (5 ∷ [])))) ∷
      Received 4 Kept (data_a 4 1 (SEGMENT 0x60 2 1 (carries 2 (6 ∷ [])))) ∷ User (Up 2 (5 ∷ [])) ∷ User (Up 2 (6 ∷ [])) ∷ []) Accepted
  -- Each direction has its own numbers: a word names what came to its sender, and acknowledges what its receiver gave
  words_both_ways_with_unequal_numbers : Verdict
      (running_a ++ User (In 1 (5 ∷ [])) ∷ Received 2 Kept (data_b 2 2 (SEGMENT 0x60 1 2 (carries 1 (7 ∷ [])))) ∷
      Received 3 Kept (data_b 3 2 (SEGMENT 0x60 1 2 (carries 2 (7 ∷ [])))) ∷ Sent (data_a 3 3 (DATA_ACK 2 1 (ack 2))) ∷
      Sent (data_a 4 3 (SEGMENT 0x60 2 1 (carries 1 (5 ∷ [])))) ∷ Received 4 Kept (data_b 4 4 (DATA_ACK 1 2 (ack 1))) ∷
      Sent (data_a 5 4 (SEGMENT 0 2 1 (carries 1 (6 ∷ [])))) ∷ [])
      (running_b ++ User (In 2 (7 ∷ [])) ∷ User (In 2 (7 ∷ [])) ∷ Sent (data_b 2 2 (SEGMENT 0x60 1 2 (carries 1 (7 ∷ [])))) ∷
      Sent (data_b 3 2 (SEGMENT 0x60 1 2 (carries 2 (7 ∷ [])))) ∷ Received 3 Kept (data_a 3 3 (DATA_ACK 2 1 (ack 2))) ∷
      Received 4 Kept (data_a 4 3 (SEGMENT 0x60 2 1 (carries 1 (5 ∷ [])))) ∷ Sent (data_b 4 4 (DATA_ACK 1 2 (ack 1))) ∷ []) Accepted
  -- no word names a segment that has not come
  a_word_above_what_came : Verdict (running_a ++ User (In 1 (5 ∷ [])) ∷ Sent (data_a 3 1 (SEGMENT 0x60 2 1 (carries 1 (5 ∷ [])))) ∷ [])
      (running_b ++ Received 3 Kept (data_a 3 1 (SEGMENT 0x60 2 1 (carries 1 (5 ∷ [])))) ∷ Sent (data_b 2 3 (DATA_ACK 1 2 (ack 2))) ∷ [])
      (refused B 8 (OfLinks WrongAck))
  -- and no second word one below the first
  the_second_word_goes_back : Verdict
      (running_a ++ Received 2 Kept (data_b 2 2 (SEGMENT 0x60 1 2 (carries 1 (5 ∷ [])))) ∷ Sent (data_a 3 2 (DATA_ACK 2 1 (ack 1 ++ nak 0))) ∷ [])
      (running_b ++ User (In 2 (5 ∷ [])) ∷ Sent (data_b 2 2 (SEGMENT 0x60 1 2 (carries 1 (5 ∷ [])))) ∷ []) (refused A 8 (OfLinks WrongAck))
  -- A NAK word acknowledges its number too: a repeat of that segment is not judged further
  a_nak_word_acknowledges_its_number : Verdict
      (running_a ++ User (In 1 (5 ∷ [])) ∷ Sent (data_a 3 1 (SEGMENT 0x60 2 1 (carries 1 (5 ∷ [])))) ∷
      Received 2 Kept (data_b 2 3 (DATA_ACK 1 2 (nak 1))) ∷ Sent (data_a 4 2 (SEGMENT 0 2 1 (carries 1 (6 ∷ [])))) ∷ [])
      (running_b ++ Received 3 Kept (data_a 3 1 (SEGMENT 0x60 2 1 (carries 1 (5 ∷ [])))) ∷ Sent (data_b 2 3 (DATA_ACK 1 2 (nak 1))) ∷ []) Accepted
  -- A repeat may have words that the first sending had not, and lack those of the repeat before
  a_repeat_has_other_words : Verdict
      (running_a ++ User (In 1 (5 ∷ [])) ∷ Sent (data_a 3 1 (SEGMENT 0x60 2 1 (carries 1 (5 ∷ [])))) ∷
      Received 2 Kept (data_b 2 2 (SEGMENT 0x60 1 2 (carries 1 (7 ∷ [])))) ∷
      Sent (data_a 4 2 (SEGMENT 0x60 2 1 (ack 1 ++ other_ack 9 ++ carries 1 (5 ∷ [])))) ∷ Sent (data_a 5 2 (SEGMENT 0x60 2 1 (carries 1 (5 ∷ [])))) ∷
      [])
      (running_b ++ User (In 2 (7 ∷ [])) ∷ Sent (data_b 2 2 (SEGMENT 0x60 1 2 (carries 1 (7 ∷ [])))) ∷
      Received 3 Kept (data_a 3 1 (SEGMENT 0x60 2 1 (carries 1 (5 ∷ [])))) ∷
      Received 4 Kept (data_a 4 2 (SEGMENT 0x60 2 1 (ack 1 ++ other_ack 9 ++ carries 1 (5 ∷ [])))) ∷
      Received 5 Kept (data_a 5 2 (SEGMENT 0x60 2 1 (carries 1 (5 ∷ [])))) ∷ User (Up 2 (5 ∷ [])) ∷ []) Accepted
  -- but it has the same data: a message is cut into segments once
  a_repeat_is_not_cut_anew : Verdict
      (running_a ++ User (In 1 (5 ∷ 6 ∷ [])) ∷ Sent (data_a 3 1 (SEGMENT 0x60 2 1 (carries 1 (5 ∷ 6 ∷ [])))) ∷
      Sent (data_a 4 1 (SEGMENT 0x20 2 1 (carries 1 (5 ∷ [])))) ∷ []) running_b (refused A 9 (OfLinks WrongSegment))
  -- A packet that is sent again carries the same segment, though another was given since
  a_repeated_packet_keeps_its_segment_number : Verdict
      (running_a ++ User (In 1 (5 ∷ [])) ∷ User (In 1 (6 ∷ [])) ∷ Sent (data_a 3 1 (SEGMENT 0x60 2 1 (carries 1 (5 ∷ [])))) ∷
      Sent (data_a 4 1 (SEGMENT 0x60 2 1 (carries 2 (6 ∷ [])))) ∷ Received 2 NotKept (NAK 8 2) ∷
      Sent (data_a 3 1 (SEGMENT 0x60 2 1 (carries 1 (5 ∷ [])))) ∷ [])
      (running_b ++ Received 3 NotKept (data_a 3 1 (SEGMENT 0x60 2 1 (carries 1 (5 ∷ [])))) ∷ Sent (NAK 8 2) ∷
      Received 5 Kept (data_a 3 1 (SEGMENT 0x60 2 1 (carries 1 (5 ∷ [])))) ∷ User (Up 2 (5 ∷ [])) ∷ []) Accepted

computed : Rows
unfolding computing
computed = search (verdict)
