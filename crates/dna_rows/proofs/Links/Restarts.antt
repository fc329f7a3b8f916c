-- Links live on over starts of the station, with all that they hold.
use Rattle.dna_rows.proofs.Prelude.{[], ◌∷◌, ◌++◌, B, NotKept, Kept, Sent, Received, User, Start, Halt, In, Up, WrongAck, Accepted}
use Rattle.dna_station.specs.declared.refusal.StepRefusal.TheVariants.{Links as OfLinks}
use Rattle.dna_rows.proofs.Verdicts.{Verdict, verdict}
use Rattle.dna_rows.proofs.Units.{computing, STRT, STACK, ACK, ack, DATA_ACK, SEGMENT, carries, data_a, data_b}
use Rattle.dna_rows.proofs.Captures.{confirmed_b, running_a, running_b, refused}

record Rows : Type 0 where
  -- A link goes on in the next period
  links_outlive_a_restart : Verdict
      (running_a ++ User Halt ∷ User Start ∷ Sent STRT ∷ Received 2 NotKept STACK ∷ User (In 1 (5 ∷ [])) ∷
      Sent (data_a 1 0 (SEGMENT 0x60 2 1 (carries 1 (5 ∷ [])))) ∷ [])
      (running_b ++ User Halt ∷ User Start ∷ Received 3 NotKept STRT ∷ Sent STACK ∷
      Received 4 Kept (data_a 1 0 (SEGMENT 0x60 2 1 (carries 1 (5 ∷ [])))) ∷ User (Up 2 (5 ∷ [])) ∷ []) Accepted
  -- what is held over a gap stays held: the second segment comes in the second period, the first in the third
  what_is_held_over_a_gap_outlives_a_restart : Verdict
      (running_a ++ User (In 1 (5 ∷ [])) ∷ User (In 1 (6 ∷ [])) ∷ Sent (data_a 3 1 (SEGMENT 0x60 2 1 (carries 1 (5 ∷ [])))) ∷ User Halt ∷ User Start ∷
      Sent STRT ∷ Received 2 NotKept STACK ∷ Sent (data_a 1 0 (SEGMENT 0x60 2 1 (carries 2 (6 ∷ [])))) ∷ User Halt ∷ User Start ∷ Sent STRT ∷
      Received 3 NotKept STACK ∷ Sent (data_a 1 0 (SEGMENT 0x60 2 1 (carries 1 (5 ∷ [])))) ∷ [])
      (confirmed_b ++ User Halt ∷ User Start ∷ Received 4 NotKept STRT ∷ Sent STACK ∷
      Received 5 Kept (data_a 1 0 (SEGMENT 0x60 2 1 (carries 2 (6 ∷ [])))) ∷ User Halt ∷ User Start ∷ Received 6 NotKept STRT ∷ Sent STACK ∷
      Received 7 Kept (data_a 1 0 (SEGMENT 0x60 2 1 (carries 1 (5 ∷ [])))) ∷ User (Up 2 (5 ∷ [])) ∷ User (Up 2 (6 ∷ [])) ∷ []) Accepted
  -- the last word stays: none names less than it did
  the_last_word_sent_outlives_a_restart : Verdict
      (running_a ++ User (In 1 (5 ∷ [])) ∷ Sent (data_a 3 1 (SEGMENT 0x60 2 1 (carries 1 (5 ∷ [])))) ∷ User Halt ∷ User Start ∷ Sent STRT ∷
      Received 3 NotKept STACK ∷ Sent (ACK 0) ∷ [])
      (running_b ++ Received 3 Kept (data_a 3 1 (SEGMENT 0x60 2 1 (carries 1 (5 ∷ [])))) ∷ Sent (data_b 2 3 (DATA_ACK 1 2 (ack 1))) ∷ User Halt ∷
      User Start ∷ Received 4 NotKept STRT ∷ Sent STACK ∷ Received 5 NotKept (ACK 0) ∷ Sent (data_b 1 0 (DATA_ACK 1 2 (ack 0))) ∷ [])
      (refused B 14 (OfLinks WrongAck))
  -- and the words of a segment that is held over a gap have acknowledged
  words_of_a_segment_over_a_gap_count : Verdict
      (running_a ++ User (In 1 (5 ∷ [])) ∷ User (In 1 (6 ∷ [])) ∷ Received 2 Kept (data_b 2 2 (SEGMENT 0x60 1 2 (carries 1 (7 ∷ [])))) ∷
      Sent (data_a 3 2 (SEGMENT 0x60 2 1 (carries 1 (5 ∷ [])))) ∷ User Halt ∷ User Start ∷ Sent STRT ∷ Received 3 NotKept STACK ∷
      Sent (data_a 1 0 (SEGMENT 0x60 2 1 (ack 1 ++ carries 2 (6 ∷ [])))) ∷ [])
      (running_b ++ User (In 2 (7 ∷ [])) ∷ Sent (data_b 2 2 (SEGMENT 0x60 1 2 (carries 1 (7 ∷ [])))) ∷ User Halt ∷ User Start ∷
      Received 4 NotKept STRT ∷ Sent STACK ∷ Received 5 Kept (data_a 1 0 (SEGMENT 0x60 2 1 (ack 1 ++ carries 2 (6 ∷ [])))) ∷
      Sent (data_b 1 1 (SEGMENT 0 1 2 (carries 1 (6 ∷ [])))) ∷ []) Accepted

computed : Rows
unfolding computing
computed = search (verdict)
