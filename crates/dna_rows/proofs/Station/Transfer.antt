-- Worked rows of data transfer, computed from the definitions like those of startup.
use Rattle.dna_rows.proofs.Prelude.{List, [], ◌∷◌, ◌++◌, ◌≡◌, A, B, NotKept, Kept, Record, Sent, Received, User, Start, Halt, WrongState}
use Rattle.dna_rows.proofs.Prelude.{WrongNumber, WrongResponse, Changed, NoCause, WrongKeep, WrongUserEvent, offered}
use Rattle.dna_rows.proofs.Units.{computing, ACK, NAK, REP, DATA, data_of}
use Rattle.dna_rows.proofs.Captures.{answered, acked_a}
use Rattle.dna_rows.proofs.Courses.{runs, ends}
use Rattle.dna_rows.proofs.Station.Units.{damaged_DATA, Runs, EndsAt, refused}

-- the second packet comes first: it ends b's startup and is not taken
abbrev second_first_a : List Record
second_first_a = acked_a ++ Sent (DATA 1 0) ∷ Sent (DATA 2 0) ∷ []

-- the packet comes damaged, is asked for by a NAK and repeated
abbrev repeated_a : List Record
repeated_a = acked_a ++ Sent (DATA 1 0) ∷ Received 1 NotKept (NAK 2 0) ∷ Sent (DATA 1 0) ∷ []

abbrev repeated_b : List Record
repeated_b = answered ++ Received 1 NotKept (ACK 0) ∷ Received 2 NotKept damaged_DATA ∷ Sent (NAK 2 0) ∷ Received 3 Kept (DATA 1 0) ∷ []

-- the packet is lost; a REP asks for it, a NAK answers, and it is repeated
abbrev asked_for_a : List Record
asked_for_a = acked_a ++ Sent (DATA 1 0) ∷ Sent (REP 1) ∷ Received 1 NotKept (NAK 3 0) ∷ Sent (DATA 1 0) ∷ []

abbrev asked_for_b : List Record
asked_for_b = answered ++ Received 1 NotKept (ACK 0) ∷ Received 3 NotKept (REP 1) ∷ Sent (NAK 3 0) ∷ Received 4 Kept (DATA 1 0) ∷ []

record Rows : Type 0 where
  -- one packet is kept
  one_packet_kept : Runs (acked_a ++ Sent (DATA 1 0) ∷ []) (answered ++ Received 1 NotKept (ACK 0) ∷ Received 2 Kept (DATA 1 0) ∷ [])
  second_packet_first : Runs second_first_a (answered ++ Received 3 NotKept (DATA 2 0) ∷ [])
  second_packet_kept : EndsAt B second_first_a answered (Received 3 Kept (DATA 2 0)) (refused WrongKeep)
  damaged_and_repeated : Runs repeated_a repeated_b
  -- the cause of the NAK is used up
  second_nak : EndsAt B repeated_a repeated_b (Sent (NAK 2 1)) (refused NoCause)
  -- the packet is repeated with other data
  changed_packet : EndsAt A (acked_a ++ Sent (DATA 1 0) ∷ Received 1 NotKept (NAK 2 0) ∷ [])
      (answered ++ Received 1 NotKept (ACK 0) ∷ Received 2 NotKept damaged_DATA ∷ Sent (NAK 2 0) ∷ []) (Sent (data_of 1 0 (6 ∷ []))) (refused Changed)
  -- a start in RUNNING
  starts_while_running : EndsAt A acked_a answered (User Start) (refused WrongUserEvent)
  rep_answered : Runs asked_for_a asked_for_b
  -- once it is taken, a REP of its number gives no cause
  rep_of_what_came : EndsAt B (asked_for_a ++ Sent (REP 1) ∷ []) (asked_for_b ++ Received 5 NotKept (REP 1) ∷ []) (Sent (NAK 3 1)) (refused NoCause)
  -- there is no buffer for the packet: a NAK says so, it is repeated and kept; a NAK for an overrun needs no cause
  refused_for_want_of_a_buffer : Runs (acked_a ++ Sent (DATA 1 0) ∷ Received 1 NotKept (NAK 8 0) ∷ Sent (DATA 1 0) ∷ [])
      (answered ++ Received 1 NotKept (ACK 0) ∷ Received 2 NotKept (DATA 1 0) ∷ Sent (NAK 8 0) ∷ Received 3 Kept (DATA 1 0) ∷ Sent (NAK 9 1) ∷ [])
  -- a RESP of what never came: of an ACK, and of a packet
  acknowledges_unasked : EndsAt A acked_a answered (Sent (ACK 1)) (refused WrongResponse)
  responds_unasked : EndsAt A acked_a answered (Sent (DATA 1 1)) (refused WrongResponse)
  -- the second number is given before the first
  skips_a_number : EndsAt A acked_a answered (Sent (DATA 2 0)) (refused WrongNumber)
  -- a REP while nothing is outstanding
  asks_for_nothing : EndsAt A acked_a answered (Sent (REP 0)) (refused WrongState)
  -- a REP of a number that was not given
  asks_for_more : EndsAt A (acked_a ++ Sent (DATA 1 0) ∷ Sent (DATA 2 0) ∷ []) answered (Sent (REP 1)) (refused WrongNumber)
  -- a packet that is sent again is offered once, and a start begins a period
  offered_once : offered (User Start ∷ Sent (DATA 1 0) ∷ Sent (DATA 1 0) ∷ Sent (DATA 2 0) ∷ User Halt ∷ User Start ∷ Sent (DATA 1 0) ∷ []) ≡ [] ∷
      ((5 ∷ []) ∷ (5 ∷ []) ∷ []) ∷ ((5 ∷ []) ∷ []) ∷ []

computed : Rows
unfolding computing
computed = search (runs, ends)
