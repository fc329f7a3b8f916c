-- What the links of an end send of themselves.
use Rattle.dna_rows.proofs.Prelude.{[], ◌∷◌, ◌++◌, NotKept, Kept, Sent, Received, User, Send, Deliver, Open, Accept, Reject, Close, Retry, BadStep}
use Rattle.capture_record.specs.declared.event.Event.TheVariants as event
use Rattle.dna_play.specs.Script.{Start, Halt, In}
use Rattle.dna_rows.proofs.Units.{STRT, STACK, ACK, CI, CC, CONNECT_ACK, DI, DC, ack, DATA_ACK, SEGMENT, carries, data_a, data_b}
use Rattle.dna_rows.proofs.Captures.{acked_a, acked_b}
use Rattle.dna_rows.proofs.Scripts.{a, b, Plays, Captures, StopsAt, running, called, confirmed, linked, playing}

record Rows : Type 0 where
  -- Two links, one opened from each side, both with unequal addresses at their ends: each message names the link that it is of
  other_addresses : Plays
      (running ++ b Open ∷ a Open ∷ a Send ∷ b Deliver ∷ b (Accept 1) ∷ b Send ∷ b Send ∷ a Deliver ∷ a Deliver ∷ a Send ∷ a Send ∷ b Deliver ∷
      b Deliver ∷ a (In 1 (0x61 ∷ 0x62 ∷ [])) ∷ a Send ∷ b Deliver ∷ b (In 2 (0x63 ∷ [])) ∷ b Send ∷ b Send ∷ a Deliver ∷ a Deliver ∷ a Send ∷
      b Deliver ∷ a (Accept 1) ∷ a Send ∷ b Deliver ∷ b Send ∷ a Deliver ∷ a (Retry 1) ∷ b (Retry 2) ∷ a (In 1 (0x64 ∷ [])) ∷ a (In 2 (0x65 ∷ [])) ∷
      a Send ∷ b Deliver ∷ a Send ∷ b Deliver ∷ b Send ∷ a Deliver ∷ b Send ∷ a Deliver ∷ b (Retry 2) ∷ a (Close 1) ∷ a Send ∷ b Deliver ∷ b Send ∷
      a Deliver ∷ a Send ∷ b Deliver ∷ a (Close 2) ∷ a Send ∷ b Deliver ∷ b Send ∷ a Deliver ∷ [])
      (Captures
      (acked_a ++ User (event.Open 1) ∷ Sent (data_a 1 0 (CI 1)) ∷ Received 1 Kept (data_b 1 1 (CI 1)) ∷
      Received 2 Kept (data_b 2 1 (CC 1 2 512 ++ 0 ∷ [])) ∷ Sent (data_a 2 2 (DATA_ACK 2 1 (ack 0))) ∷ Sent (data_a 3 2 (CONNECT_ACK 1)) ∷
      User (event.In 1 (0x61 ∷ 0x62 ∷ [])) ∷ Sent (data_a 4 2 (SEGMENT 0x60 2 1 (carries 1 (0x61 ∷ 0x62 ∷ [])))) ∷
      Received 3 Kept (data_b 3 4 (DATA_ACK 1 2 (ack 1))) ∷ Received 4 Kept (data_b 4 4 (SEGMENT 0x60 1 2 (carries 1 (0x63 ∷ [])))) ∷
      User (event.Up 1 (0x63 ∷ [])) ∷ Sent (data_a 5 4 (DATA_ACK 2 1 (ack 1))) ∷ User (event.Accept 1 2) ∷ Sent (data_a 6 4 (CC 1 2 512 ++ 0 ∷ [])) ∷
      Received 5 Kept (data_b 5 6 (DATA_ACK 2 1 (ack 0))) ∷ User (event.In 1 (0x64 ∷ [])) ∷ User (event.In 2 (0x65 ∷ [])) ∷
      Sent (data_a 7 5 (SEGMENT 0x60 2 1 (carries 2 (0x64 ∷ [])))) ∷ Sent (data_a 8 5 (SEGMENT 0x60 1 2 (carries 1 (0x65 ∷ [])))) ∷
      Received 6 Kept (data_b 6 8 (DATA_ACK 2 1 (ack 1))) ∷ Received 7 Kept (data_b 7 8 (DATA_ACK 1 2 (ack 2))) ∷ User (event.Close 1) ∷
      Sent (data_a 9 7 (DI 2 1)) ∷ Received 8 Kept (data_b 8 9 (DC 1 2 42)) ∷ Sent (ACK 8) ∷ User (event.Close 2) ∷ Sent (data_a 10 8 (DI 1 2)) ∷
      Received 9 Kept (data_b 9 10 (DC 2 1 42)) ∷ [])
      (acked_b ++ User (event.Open 1) ∷ Received 2 Kept (data_a 1 0 (CI 1)) ∷ User (event.Accept 1 2) ∷ Sent (data_b 1 1 (CI 1)) ∷
      Sent (data_b 2 1 (CC 1 2 512 ++ 0 ∷ [])) ∷ Received 3 Kept (data_a 2 2 (DATA_ACK 2 1 (ack 0))) ∷ Received 4 Kept (data_a 3 2 (CONNECT_ACK 1)) ∷
      Received 5 Kept (data_a 4 2 (SEGMENT 0x60 2 1 (carries 1 (0x61 ∷ 0x62 ∷ [])))) ∷ User (event.Up 2 (0x61 ∷ 0x62 ∷ [])) ∷
      User (event.In 2 (0x63 ∷ [])) ∷ Sent (data_b 3 4 (DATA_ACK 1 2 (ack 1))) ∷ Sent (data_b 4 4 (SEGMENT 0x60 1 2 (carries 1 (0x63 ∷ [])))) ∷
      Received 6 Kept (data_a 5 4 (DATA_ACK 2 1 (ack 1))) ∷ Received 7 Kept (data_a 6 4 (CC 1 2 512 ++ 0 ∷ [])) ∷
      Sent (data_b 5 6 (DATA_ACK 2 1 (ack 0))) ∷ Received 8 Kept (data_a 7 5 (SEGMENT 0x60 2 1 (carries 2 (0x64 ∷ [])))) ∷
      User (event.Up 2 (0x64 ∷ [])) ∷ Received 9 Kept (data_a 8 5 (SEGMENT 0x60 1 2 (carries 1 (0x65 ∷ [])))) ∷ User (event.Up 1 (0x65 ∷ [])) ∷
      Sent (data_b 6 8 (DATA_ACK 2 1 (ack 1))) ∷ Sent (data_b 7 8 (DATA_ACK 1 2 (ack 2))) ∷ Received 10 Kept (data_a 9 7 (DI 2 1)) ∷
      Sent (data_b 8 9 (DC 1 2 42)) ∷ Received 11 NotKept (ACK 8) ∷ Received 12 Kept (data_a 10 8 (DI 1 2)) ∷ Sent (data_b 9 10 (DC 2 1 42)) ∷ []))
  -- a CC that comes again is answered again by a data ack, and once
  cc_again_is_answered_again : Plays (confirmed ++ a Send ∷ a (Retry 1) ∷ b (Retry 1) ∷ b Send ∷ a Deliver ∷ a Send ∷ a Send ∷ [])
      (StopsAt 20 BadStep
      (acked_a ++ User (event.Open 1) ∷ Sent (data_a 1 0 (CI 1)) ∷ Received 1 Kept (data_b 1 1 (CC 1 1 512 ++ 0 ∷ [])) ∷
      Sent (data_a 2 1 (DATA_ACK 1 1 (ack 0))) ∷ Received 2 Kept (data_b 2 1 (CC 1 1 512 ++ 0 ∷ [])) ∷ Sent (data_a 3 2 (DATA_ACK 1 1 (ack 0))) ∷ [])
      (acked_b ++ Received 2 Kept (data_a 1 0 (CI 1)) ∷ User (event.Accept 1 1) ∷ Sent (data_b 1 1 (CC 1 1 512 ++ 0 ∷ [])) ∷
      Sent (data_b 2 1 (CC 1 1 512 ++ 0 ∷ [])) ∷ []))
  -- A link that is closed before its CC was sent sends its DI alone, and is not closed again
  closed_has_no_close : Plays (called ++ b (Accept 1) ∷ b (Close 1) ∷ b Send ∷ b (Close 1) ∷ [])
      (StopsAt 14 BadStep
      (acked_a ++ User (event.Open 1) ∷ Sent (data_a 1 0 (CI 1)) ∷ [])
      (acked_b ++ Received 2 Kept (data_a 1 0 (CI 1)) ∷ User (event.Accept 1 1) ∷ User (event.Close 1) ∷ Sent (data_b 1 1 (DI 1 1)) ∷ []))
  -- each DI is answered by a DC: one that comes again behind the end by reason 41, no such link
  di_again_behind_the_end : Plays
      (linked ++ a (Close 1) ∷ a Send ∷ b Deliver ∷ a (Retry 1) ∷ a Send ∷ b Deliver ∷ b Send ∷ b Send ∷ a Deliver ∷ a Deliver ∷ [])
      (Captures
      (acked_a ++ User (event.Open 1) ∷ Sent (data_a 1 0 (CI 1)) ∷ Received 1 Kept (data_b 1 1 (CC 1 1 512 ++ 0 ∷ [])) ∷
      Sent (data_a 2 1 (DATA_ACK 1 1 (ack 0))) ∷ User (event.Close 1) ∷ Sent (data_a 3 1 (DI 1 1)) ∷ Sent (data_a 4 1 (DI 1 1)) ∷
      Received 2 Kept (data_b 2 4 (DC 1 1 42)) ∷ Received 3 Kept (data_b 3 4 (DC 1 1 41)) ∷ [])
      (acked_b ++ Received 2 Kept (data_a 1 0 (CI 1)) ∷ User (event.Accept 1 1) ∷ Sent (data_b 1 1 (CC 1 1 512 ++ 0 ∷ [])) ∷
      Received 3 Kept (data_a 2 1 (DATA_ACK 1 1 (ack 0))) ∷ Received 4 Kept (data_a 3 1 (DI 1 1)) ∷ Received 5 Kept (data_a 4 1 (DI 1 1)) ∷
      Sent (data_b 2 4 (DC 1 1 42)) ∷ Sent (data_b 3 4 (DC 1 1 41)) ∷ []))
  -- a DC that is owed is owed still in the next period, once
  dcs_outlive_a_restart : Plays
      (called ++ b (Reject 1) ∷ b Send ∷ a Deliver ∷ a Halt ∷ b Halt ∷ a Start ∷ b Start ∷ a Send ∷ b Deliver ∷ b Send ∷ a Deliver ∷ a Send ∷ a Send ∷
      [])
      (StopsAt 23 BadStep
      (acked_a ++ User (event.Open 1) ∷ Sent (data_a 1 0 (CI 1)) ∷ Received 1 Kept (data_b 1 1 (DI 1 1)) ∷ User event.Halt ∷ User event.Start ∷
      Sent STRT ∷ Received 2 NotKept STACK ∷ Sent (data_a 1 0 (DC 1 1 42)) ∷ [])
      (acked_b ++ Received 2 Kept (data_a 1 0 (CI 1)) ∷ User (event.Reject 1 1) ∷ Sent (data_b 1 1 (DI 1 1)) ∷ User event.Halt ∷ User event.Start ∷
      Received 3 NotKept STRT ∷ Sent STACK ∷ []))

computed : Rows
unfolding playing
computed = search
