-- How a message is cut into segments of at most 512 bytes, and joined again.
use Rattle.dna_rows.proofs.Prelude.{[], ◌∷◌, ◌++◌, Kept, Sent, Received, User, Send, Deliver}
use Rattle.capture_record.specs.declared.event.Event.TheVariants as event
use Rattle.dna_play.specs.Script.{In}
use Rattle.dna_rows.proofs.Units.{ACK, CI, CC, ack, DATA_ACK, SEGMENT, carries, data_a, data_b}
use Rattle.dna_rows.proofs.Captures.{acked_a, acked_b}
use Rattle.dna_rows.proofs.Scripts.{a, b, Plays, Captures, linked, counted, playing}

record Rows : Type 0 where
  -- Of 513 bytes: one segment of 512 and one of one byte
  message_of_513 : Plays
      (linked ++ a (In 1 (counted 0 513)) ∷ a (In 1 []) ∷ a Send ∷ a Send ∷ a Send ∷ b Deliver ∷ b Deliver ∷ b Deliver ∷ b Send ∷ a Deliver ∷ a Send ∷
      [])
      (Captures
      (acked_a ++ User (event.Open 1) ∷ Sent (data_a 1 0 (CI 1)) ∷ Received 1 Kept (data_b 1 1 (CC 1 1 512 ++ 0 ∷ [])) ∷
      Sent (data_a 2 1 (DATA_ACK 1 1 (ack 0))) ∷ User (event.In 1 (counted 0 513)) ∷ User (event.In 1 []) ∷
      Sent (data_a 3 1 (SEGMENT 0x20 1 1 (carries 1 (counted 0 512)))) ∷ Sent (data_a 4 1 (SEGMENT 0x40 1 1 (carries 2 (0xa ∷ [])))) ∷
      Sent (data_a 5 1 (SEGMENT 0x60 1 1 (carries 3 []))) ∷ Received 2 Kept (data_b 2 5 (DATA_ACK 1 1 (ack 3))) ∷ Sent (ACK 2) ∷ [])
      (acked_b ++ Received 2 Kept (data_a 1 0 (CI 1)) ∷ User (event.Accept 1 1) ∷ Sent (data_b 1 1 (CC 1 1 512 ++ 0 ∷ [])) ∷
      Received 3 Kept (data_a 2 1 (DATA_ACK 1 1 (ack 0))) ∷ Received 4 Kept (data_a 3 1 (SEGMENT 0x20 1 1 (carries 1 (counted 0 512)))) ∷
      Received 5 Kept (data_a 4 1 (SEGMENT 0x40 1 1 (carries 2 (0xa ∷ [])))) ∷ User (event.Up 1 (counted 0 513)) ∷
      Received 6 Kept (data_a 5 1 (SEGMENT 0x60 1 1 (carries 3 []))) ∷ User (event.Up 1 []) ∷ Sent (data_b 2 5 (DATA_ACK 1 1 (ack 3))) ∷ []))
  -- of 1,024 bytes: two of 512, and none behind
  message_of_1024 : Plays
      (linked ++ a (In 1 (counted 0 1024)) ∷ a (In 1 []) ∷ a Send ∷ a Send ∷ a Send ∷ b Deliver ∷ b Deliver ∷ b Deliver ∷ b Send ∷ a Deliver ∷
      a Send ∷ [])
      (Captures
      (acked_a ++ User (event.Open 1) ∷ Sent (data_a 1 0 (CI 1)) ∷ Received 1 Kept (data_b 1 1 (CC 1 1 512 ++ 0 ∷ [])) ∷
      Sent (data_a 2 1 (DATA_ACK 1 1 (ack 0))) ∷ User (event.In 1 (counted 0 1024)) ∷ User (event.In 1 []) ∷
      Sent (data_a 3 1 (SEGMENT 0x20 1 1 (carries 1 (counted 0 512)))) ∷ Sent (data_a 4 1 (SEGMENT 0x40 1 1 (carries 2 (counted 10 512)))) ∷
      Sent (data_a 5 1 (SEGMENT 0x60 1 1 (carries 3 []))) ∷ Received 2 Kept (data_b 2 5 (DATA_ACK 1 1 (ack 3))) ∷ Sent (ACK 2) ∷ [])
      (acked_b ++ Received 2 Kept (data_a 1 0 (CI 1)) ∷ User (event.Accept 1 1) ∷ Sent (data_b 1 1 (CC 1 1 512 ++ 0 ∷ [])) ∷
      Received 3 Kept (data_a 2 1 (DATA_ACK 1 1 (ack 0))) ∷ Received 4 Kept (data_a 3 1 (SEGMENT 0x20 1 1 (carries 1 (counted 0 512)))) ∷
      Received 5 Kept (data_a 4 1 (SEGMENT 0x40 1 1 (carries 2 (counted 10 512)))) ∷ User (event.Up 1 (counted 0 1024)) ∷
      Received 6 Kept (data_a 5 1 (SEGMENT 0x60 1 1 (carries 3 []))) ∷ User (event.Up 1 []) ∷ Sent (data_b 2 5 (DATA_ACK 1 1 (ack 3))) ∷ []))
  -- of 1,537 bytes: three of 512, and one of one byte
  message_of_1537 : Plays
      (linked ++ a (In 1 (counted 0 1537)) ∷ a (In 1 []) ∷ a Send ∷ a Send ∷ a Send ∷ a Send ∷ a Send ∷ b Deliver ∷ b Deliver ∷ b Deliver ∷
      b Deliver ∷ b Deliver ∷ b Send ∷ a Deliver ∷ a Send ∷ [])
      (Captures
      (acked_a ++ User (event.Open 1) ∷ Sent (data_a 1 0 (CI 1)) ∷ Received 1 Kept (data_b 1 1 (CC 1 1 512 ++ 0 ∷ [])) ∷
      Sent (data_a 2 1 (DATA_ACK 1 1 (ack 0))) ∷ User (event.In 1 (counted 0 1537)) ∷ User (event.In 1 []) ∷
      Sent (data_a 3 1 (SEGMENT 0x20 1 1 (carries 1 (counted 0 512)))) ∷ Sent (data_a 4 1 (SEGMENT 0 1 1 (carries 2 (counted 10 512)))) ∷
      Sent (data_a 5 1 (SEGMENT 0 1 1 (carries 3 (counted 20 512)))) ∷ Sent (data_a 6 1 (SEGMENT 0x40 1 1 (carries 4 (0x1e ∷ [])))) ∷
      Sent (data_a 7 1 (SEGMENT 0x60 1 1 (carries 5 []))) ∷ Received 2 Kept (data_b 2 7 (DATA_ACK 1 1 (ack 5))) ∷ Sent (ACK 2) ∷ [])
      (acked_b ++ Received 2 Kept (data_a 1 0 (CI 1)) ∷ User (event.Accept 1 1) ∷ Sent (data_b 1 1 (CC 1 1 512 ++ 0 ∷ [])) ∷
      Received 3 Kept (data_a 2 1 (DATA_ACK 1 1 (ack 0))) ∷ Received 4 Kept (data_a 3 1 (SEGMENT 0x20 1 1 (carries 1 (counted 0 512)))) ∷
      Received 5 Kept (data_a 4 1 (SEGMENT 0 1 1 (carries 2 (counted 10 512)))) ∷
      Received 6 Kept (data_a 5 1 (SEGMENT 0 1 1 (carries 3 (counted 20 512)))) ∷
      Received 7 Kept (data_a 6 1 (SEGMENT 0x40 1 1 (carries 4 (0x1e ∷ [])))) ∷ User (event.Up 1 (counted 0 1537)) ∷
      Received 8 Kept (data_a 7 1 (SEGMENT 0x60 1 1 (carries 5 []))) ∷ User (event.Up 1 []) ∷ Sent (data_b 2 7 (DATA_ACK 1 1 (ack 5))) ∷ []))

computed : Rows
unfolding playing
computed = search
