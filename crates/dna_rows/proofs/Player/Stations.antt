-- What a station sends of itself, in each of its states, and what becomes of what it owes.
use Rattle.dna_rows.proofs.Prelude.{[], ◌∷◌, ◌++◌, NotKept, Kept, Sent, Received, User, Timer, Send, Deliver, Refuse, Lose, Noise, Open, BadStep}
use Rattle.capture_record.specs.declared.record.Record.TheVariants.{Noise as OfNoise}
use Rattle.capture_record.specs.declared.event.Event.TheVariants as event
use Rattle.dna_play.specs.Script.{Start, Halt}
use Rattle.dna_rows.proofs.Units.{STRT, STACK, ACK, NAK, REP, CI, CONNECT_ACK, data_a, data_b}
use Rattle.dna_rows.proofs.Captures.{started, answered, acked_a, acked_b}
use Rattle.dna_rows.proofs.Scripts.{a, b, Plays, Captures, StopsAt, running, playing}

record Rows : Type 0 where
  -- In HALTED a station sends nothing, though a call waits
  sends_no_data_in_halted : Plays (a Open ∷ a Send ∷ []) (StopsAt 1 BadStep (User (event.Open 1) ∷ []) [])
  -- in ASTRT it sends its STACK, and no data
  sends_no_data_in_astrt : Plays (a Start ∷ b Start ∷ b Open ∷ a Send ∷ b Deliver ∷ b Send ∷ b Send ∷ [])
      (StopsAt 6 BadStep (User event.Start ∷ Sent STRT ∷ []) (User event.Start ∷ User (event.Open 1) ∷ Received 0 NotKept STRT ∷ Sent STACK ∷ []))
  -- A STRT that comes in HALTED brings nothing: behind its start the station sends a STRT and no STACK
  strt_in_halted_brings_nothing : Plays (a Start ∷ a Send ∷ b Deliver ∷ b Start ∷ b Send ∷ b Send ∷ [])
      (StopsAt 5 BadStep (User event.Start ∷ Sent STRT ∷ []) (Received 0 NotKept STRT ∷ User event.Start ∷ Sent STRT ∷ []))
  -- a NAK that comes in ASTRT brings nothing: the station has sent its STACK, and owes no more
  nak_in_astrt_brings_nothing : Plays
      (a Start ∷ b Start ∷ a Send ∷ b Deliver ∷ b Send ∷ a Deliver ∷ a (Noise []) ∷ a Send ∷ b Deliver ∷ b Send ∷ a Send ∷ b Deliver ∷ [])
      (StopsAt 9 BadStep (started ++ OfNoise [] ∷ Sent (NAK 1 0) ∷ []) (answered ++ Received 1 NotKept (NAK 1 0) ∷ []))
  -- A data message ends startup as an ACK does, and is acknowledged once
  data_may_start_b : Plays (a Start ∷ b Start ∷ a Send ∷ b Deliver ∷ b Send ∷ a Deliver ∷ a Open ∷ a Send ∷ b Deliver ∷ b Send ∷ b Send ∷ [])
      (StopsAt 10 BadStep
      (started ++ User (event.Open 1) ∷ Sent (data_a 1 0 (CI 1)) ∷ [])
      (answered ++ Received 1 Kept (data_a 1 0 (CI 1)) ∷ Sent (data_b 1 1 (CONNECT_ACK 1)) ∷ []))
  -- ---- data that come where they are not taken
  -- In HALTED a packet is not kept, and nothing is owed for it
  data_in_halted_are_not_kept : Plays (running ++ a Open ∷ a Send ∷ b Halt ∷ b Deliver ∷ b Start ∷ b Send ∷ [])
      (Captures
      (acked_a ++ User (event.Open 1) ∷ Sent (data_a 1 0 (CI 1)) ∷ [])
      (acked_b ++ User event.Halt ∷ Received 2 NotKept (data_a 1 0 (CI 1)) ∷ User event.Start ∷ Sent STRT ∷ []))
  -- nor in ISTRT
  data_in_istrt_are_not_kept : Plays (running ++ a Open ∷ a Send ∷ b Halt ∷ b Start ∷ b Deliver ∷ b Send ∷ b Send ∷ [])
      (StopsAt 14 BadStep
      (acked_a ++ User (event.Open 1) ∷ Sent (data_a 1 0 (CI 1)) ∷ [])
      (acked_b ++ User event.Halt ∷ User event.Start ∷ Received 2 NotKept (data_a 1 0 (CI 1)) ∷ Sent STRT ∷ []))
  -- nor in ASTRT; debts of the period before are dropped: the STACK is all that is sent
  data_in_astrt_behind_a_restart : Plays
      (running ++ b Open ∷ b Send ∷ a Deliver ∷ a Halt ∷ a Start ∷ a Send ∷ a Open ∷ b Deliver ∷ b Start ∷ b Send ∷ a Deliver ∷ a Send ∷ b Deliver ∷
      a Send ∷ b Deliver ∷ b Send ∷ b Deliver ∷ b Send ∷ a Deliver ∷ [])
      (StopsAt 21 BadStep
      (acked_a ++ Received 1 Kept (data_b 1 0 (CI 1)) ∷ User event.Halt ∷ User event.Start ∷ Sent STRT ∷ User (event.Open 1) ∷ Received 2 NotKept
      STRT ∷
      Sent STACK ∷ [])
      (acked_b ++ User (event.Open 1) ∷ Sent (data_b 1 0 (CI 1)) ∷ Received 2 NotKept STRT ∷ User event.Start ∷ Sent STRT ∷ Received 3 NotKept STACK ∷
      []))
  -- in RUNNING one that is not the next is not kept, and both come again behind a NAK of reason 3
  data_out_of_order_are_not_kept : Plays
      (running ++ a Open ∷ a Open ∷ a Send ∷ a Send ∷ b Lose ∷ b Deliver ∷ b Timer ∷ b Send ∷ a Deliver ∷ a Timer ∷ a Send ∷ b Deliver ∷ b Send ∷
      a Deliver ∷ a Send ∷ a Send ∷ b Deliver ∷ b Deliver ∷ b Send ∷ [])
      (Captures
      (acked_a ++ User (event.Open 1) ∷ User (event.Open 2) ∷ Sent (data_a 1 0 (CI 1)) ∷ Sent (data_a 2 0 (CI 2)) ∷ Received 1 NotKept (ACK 0) ∷
      Sent (REP 2) ∷ Received 2 NotKept (NAK 3 0) ∷ Sent (data_a 1 0 (CI 1)) ∷ Sent (data_a 2 0 (CI 2)) ∷ [])
      (acked_b ++ Received 3 NotKept (data_a 2 0 (CI 2)) ∷ Sent (ACK 0) ∷ Received 4 NotKept (REP 2) ∷ Sent (NAK 3 0) ∷
      Received 5 Kept (data_a 1 0 (CI 1)) ∷ Received 6 Kept (data_a 2 0 (CI 2)) ∷ Sent (data_b 1 2 (CONNECT_ACK 1)) ∷ []))
  -- ---- numbers
  -- Behind a set-back RESP above the next to send takes that past it: nothing is left to send again
  resp_above_the_next_to_send : Plays
      (running ++ a Open ∷ a Open ∷ a Open ∷ a Send ∷ a Send ∷ a Send ∷ b (Noise []) ∷ b Send ∷ b Deliver ∷ b Deliver ∷ b Deliver ∷ b Send ∷
      a Deliver ∷ a Deliver ∷ a Send ∷ a Send ∷ [])
      (StopsAt 23 BadStep
      (acked_a ++ User (event.Open 1) ∷ User (event.Open 2) ∷ User (event.Open 3) ∷ Sent (data_a 1 0 (CI 1)) ∷ Sent (data_a 2 0 (CI 2)) ∷
      Sent (data_a 3 0 (CI 3)) ∷ Received 1 NotKept (NAK 1 0) ∷ Received 2 Kept (data_b 1 3 (CONNECT_ACK 1)) ∷ Sent (ACK 1) ∷ [])
      (acked_b ++ OfNoise [] ∷ Sent (NAK 1 0) ∷ Received 2 Kept (data_a 1 0 (CI 1)) ∷ Received 3 Kept (data_a 2 0 (CI 2)) ∷
      Received 4 Kept (data_a 3 0 (CI 3)) ∷ Sent (data_b 1 3 (CONNECT_ACK 1)) ∷ []))
  -- a REP names the highest number given, also where some of the packets were sent again
  rep_in_a_repetition : Plays
      (running ++ a Open ∷ a Open ∷ a Open ∷ a Send ∷ a Send ∷ a Send ∷ b Refuse ∷ b Send ∷ a Deliver ∷ a Send ∷ a Timer ∷ a Send ∷ [])
      (Captures
      (acked_a ++ User (event.Open 1) ∷ User (event.Open 2) ∷ User (event.Open 3) ∷ Sent (data_a 1 0 (CI 1)) ∷ Sent (data_a 2 0 (CI 2)) ∷
      Sent (data_a 3 0 (CI 3)) ∷ Received 1 NotKept (NAK 8 0) ∷ Sent (data_a 1 0 (CI 1)) ∷ Sent (REP 3) ∷ [])
      (acked_b ++ Received 2 NotKept (data_a 1 0 (CI 1)) ∷ Sent (NAK 8 0) ∷ []))
  -- a start sets both numbers anew
  a_start_resets_the_numbers : Plays
      (running ++ a Open ∷ b Open ∷ a Send ∷ b Deliver ∷ b Send ∷ a Deliver ∷ a Send ∷ b Deliver ∷ a Halt ∷ b Halt ∷ a Start ∷ b Start ∷ a Send ∷
      b Deliver ∷ b Send ∷ a Deliver ∷ a Send ∷ b Deliver ∷ a Open ∷ a Send ∷ b Deliver ∷ b Send ∷ a Deliver ∷ a Timer ∷ a Send ∷ b Deliver ∷ b Send ∷
      b Timer ∷ b Send ∷ [])
      (Captures
      (acked_a ++ User (event.Open 1) ∷ Sent (data_a 1 0 (CI 1)) ∷ Received 1 Kept (data_b 1 1 (CI 1)) ∷ Sent (data_a 2 1 (CONNECT_ACK 1)) ∷
      User event.Halt ∷ User event.Start ∷ Sent STRT ∷ Received 2 NotKept STACK ∷ Sent (ACK 0) ∷ User (event.Open 2) ∷ Sent (data_a 1 0 (CI 2)) ∷
      Received 3 Kept (data_b 1 1 (CONNECT_ACK 1)) ∷ Sent (ACK 1) ∷ [])
      (acked_b ++ User (event.Open 1) ∷ Received 2 Kept (data_a 1 0 (CI 1)) ∷ Sent (data_b 1 1 (CI 1)) ∷
      Received 3 Kept (data_a 2 1 (CONNECT_ACK 1)) ∷ User event.Halt ∷ User event.Start ∷ Received 4 NotKept STRT ∷ Sent STACK ∷
      Received 5 NotKept (ACK 0) ∷ Received 6 Kept (data_a 1 0 (CI 2)) ∷ Sent (data_b 1 1 (CONNECT_ACK 1)) ∷ Received 7 NotKept (ACK 1) ∷
      Sent (data_b 2 1 (CONNECT_ACK 2)) ∷ Sent (REP 2) ∷ []))
  -- ---- noise
  -- Noise that breaks off in its data, and noise with a wrong check of its data: each brings a NAK of reason 2
  noise_of_long_data : Plays
      (running ++ b (Noise (0x81 ∷ 1 ∷ 0 ∷ 0 ∷ 1 ∷ 1 ∷ 0xe3 ∷ 0x81 ∷ 5 ∷ [])) ∷ b Send ∷
      a (Noise (0x81 ∷ 1 ∷ 0 ∷ 0 ∷ 1 ∷ 1 ∷ 0xe3 ∷ 0x81 ∷ 5 ∷ 0xc0 ∷ 0x83 ∷ [])) ∷ a Send ∷ [])
      (Captures
      (acked_a ++ OfNoise (0x81 ∷ 1 ∷ 0 ∷ 0 ∷ 1 ∷ 1 ∷ 0xe3 ∷ 0x81 ∷ 5 ∷ 0xc0 ∷ 0x83 ∷ []) ∷ Sent (NAK 2 0) ∷ [])
      (acked_b ++ OfNoise (0x81 ∷ 1 ∷ 0 ∷ 0 ∷ 1 ∷ 1 ∷ 0xe3 ∷ 0x81 ∷ 5 ∷ []) ∷ Sent (NAK 2 0) ∷ []))

computed : Rows
unfolding playing
computed = search
