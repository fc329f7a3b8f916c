-- What brings a link from its CC into RUN, on the side that sent the CC.
use Rattle.dna_rows.proofs.Prelude.{[], ◌∷◌, ◌++◌, Kept, Sent, Received, User, In, Up, Accepted}
use Rattle.dna_rows.proofs.Verdicts.{Verdict, verdict}
use Rattle.dna_rows.proofs.Units.{computing, LINK_SERVICE, INTERRUPT, OTHER_ACK, ack, DATA_ACK, SEGMENT, carries, data_a, data_b}
use Rattle.dna_rows.proofs.Captures.{confirmed_a, confirmed_b, running_a, running_b}

record Rows : Type 0 where
  -- A segment does
  a_segment_confirms : Verdict
      (confirmed_a ++ User (In 1 (5 ∷ [])) ∷ Sent (data_a 2 1 (SEGMENT 0x60 2 1 (carries 1 (5 ∷ [])))) ∷
      Received 2 Kept (data_b 2 2 (DATA_ACK 1 2 (ack 1))) ∷ [])
      (confirmed_b ++ Received 2 Kept (data_a 2 1 (SEGMENT 0x60 2 1 (carries 1 (5 ∷ [])))) ∷ User (Up 2 (5 ∷ [])) ∷
      Sent (data_b 2 2 (DATA_ACK 1 2 (ack 1))) ∷ []) Accepted
  -- so does an interrupt
  an_interrupt_confirms : Verdict (confirmed_a ++ Sent (data_a 2 1 (INTERRUPT 2 1 ++ 1 ∷ 2 ∷ [])) ∷ [])
      (confirmed_b ++ Received 2 Kept (data_a 2 1 (INTERRUPT 2 1 ++ 1 ∷ 2 ∷ [])) ∷ Sent (data_b 2 2 (DATA_ACK 1 2 (ack 0))) ∷ []) Accepted
  -- so does an acknowledgement of the other subchannel
  an_other_data_ack_confirms : Verdict (confirmed_a ++ Sent (data_a 2 1 (OTHER_ACK 2 1 ++ 1 ∷ 0x80 ∷ [])) ∷ [])
      (confirmed_b ++ Received 2 Kept (data_a 2 1 (OTHER_ACK 2 1 ++ 1 ∷ 0x80 ∷ [])) ∷ Sent (data_b 2 2 (DATA_ACK 1 2 (ack 0))) ∷ []) Accepted
  -- what stands behind the addresses of such a message, and of a link service message, is not read as words
  words_of_other_messages_are_not_read : Verdict
      (running_a ++ Sent (data_a 3 1 (OTHER_ACK 2 1 ++ 0xff ∷ 0x8f ∷ [])) ∷ Sent (data_a 4 1 (LINK_SERVICE 2 1 ++ 9 ∷ 0x80 ∷ 0 ∷ 0 ∷ [])) ∷ [])
      (running_b ++ User (In 2 (5 ∷ [])) ∷ Received 3 Kept (data_a 3 1 (OTHER_ACK 2 1 ++ 0xff ∷ 0x8f ∷ [])) ∷
      Received 4 Kept (data_a 4 1 (LINK_SERVICE 2 1 ++ 9 ∷ 0x80 ∷ 0 ∷ 0 ∷ [])) ∷ []) Accepted

computed : Rows
unfolding computing
computed = search (verdict)
