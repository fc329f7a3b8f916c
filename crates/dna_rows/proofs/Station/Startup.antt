-- Worked rows of startup, computed from the definitions: an accepted row is its run, one record after another; a refused row is the
-- answer to its last record in the world that the earlier ones lead to.
use Rattle.dna_rows.proofs.Prelude.{List, [], ◌∷◌, ◌++◌, Waits, Refused, B, NotKept, Kept, Record, Sent, Received, User, Start, Halt, WrongState}
use Rattle.dna_rows.proofs.Prelude.{WrongResponse, WrongKeep, CrossedPeriod, WrongUserEvent, NotAMessage, HintOrder, Undetected}
use Rattle.dna_rows.proofs.Units.{computing, STRT, STACK, ACK}
use Rattle.dna_rows.proofs.Courses.{runs, ends}
use Rattle.dna_rows.proofs.Station.Units.{Runs, EndsAt, refused}

abbrev first_start_lost_a : List Record
first_start_lost_a = User Start ∷ Sent STRT ∷ Sent STRT ∷ Received 0 NotKept STACK ∷ Sent (ACK 0) ∷ []

abbrev first_start_lost_b : List Record
first_start_lost_b = User Start ∷ Received 1 NotKept STRT ∷ Sent STACK ∷ Received 2 NotKept (ACK 0) ∷ []

-- both sides start at once
abbrev both_sides_start_of : List Record
both_sides_start_of = User Start ∷ Sent STRT ∷ Received 0 NotKept STRT ∷ Sent STACK ∷ Received 1 NotKept STACK ∷ Sent (ACK 0) ∷
    Received 2 NotKept (ACK 0) ∷ []

-- the answer to b's first start comes in its second
abbrev pub crossed_period_a : List Record
crossed_period_a = User Start ∷ Received 0 NotKept STRT ∷ Sent STACK ∷ Sent STACK ∷ []

abbrev pub crossed_period_b : List Record
crossed_period_b = User Start ∷ Sent STRT ∷ Received 0 NotKept STACK ∷ Sent (ACK 0) ∷ User Halt ∷ User Start ∷ []

-- so does an ACK
abbrev pub restarted_b : List Record
restarted_b = User Start ∷ Received 0 NotKept STRT ∷ Sent STACK ∷ User Halt ∷ User Start ∷ []

record Rows : Type 0 where
  first_start_lost : Runs first_start_lost_a first_start_lost_b
  both_sides_start : Runs both_sides_start_of both_sides_start_of
  two_empty_captures : Runs [] []
  -- a STRT with its first byte damaged comes and changes nothing; the next one is sound
  damaged_start : Runs (User Start ∷ Sent STRT ∷ Sent STRT ∷ [])
      (User Start ∷ Received 0 NotKept (0x85 ∷ 0x06 ∷ 0xc0 ∷ 0 ∷ 0 ∷ 1 ∷ 0x75 ∷ 0x95 ∷ []) ∷ Received 1 NotKept STRT ∷ [])
  -- the bytes that are sent are no message
  not_a_message : EndsAt B [] [] (Sent (0 ∷ [])) (Refused NotAMessage)
  -- the same unit comes twice
  hint_goes_back : EndsAt B (User Start ∷ Sent STRT ∷ []) (User Start ∷ Received 0 NotKept STRT ∷ []) (Received 0 NotKept STRT) (Refused HintOrder)
  -- no order goes on: the unit is not sent yet
  nobody_can_go_on : EndsAt B [] [] (Received 0 NotKept STRT) Waits
  -- a STACK comes where an ACK was sent, and no block check shows it
  changed_unit : EndsAt B first_start_lost_a (User Start ∷ Received 1 NotKept STRT ∷ Sent STACK ∷ []) (Received 2 NotKept STACK) (Refused Undetected)
  -- STRT is sent before the start
  start_unasked : EndsAt B [] [] (Sent STRT) (refused WrongState)
  -- an ACK of a data message that never came is sent
  acknowledges_what_never_came : EndsAt B (User Start ∷ Received 0 NotKept STRT ∷ Sent STACK ∷ [])
      (User Start ∷ Sent STRT ∷ Received 0 NotKept STACK ∷ []) (Sent (ACK 1)) (refused WrongResponse)
  -- the receipt claims that a STRT was taken as a packet
  keeps_a_start : EndsAt B (User Start ∷ Sent STRT ∷ []) (User Start ∷ []) (Received 0 Kept STRT) (refused WrongKeep)
  crossed_period : EndsAt B crossed_period_a crossed_period_b (Received 1 NotKept STACK) (refused CrossedPeriod)
  -- a second start without a halt
  starts_twice : EndsAt B [] (User Start ∷ []) (User Start) (refused WrongUserEvent)
  -- ---- each row of the startup table once more
  -- in HALTED every arrival is ignored
  halted_ignores : Runs (Received 0 NotKept STRT ∷ []) (User Start ∷ Sent STRT ∷ [])
  -- a STACK that is repeated changes nothing in RUNNING
  repeated_stack : Runs (User Start ∷ Sent STRT ∷ Received 0 NotKept STACK ∷ Sent (ACK 0) ∷ Received 1 NotKept STACK ∷ Sent (ACK 0) ∷ [])
      (User Start ∷ Received 0 NotKept STRT ∷ Sent STACK ∷ Sent STACK ∷ Received 2 NotKept (ACK 0) ∷ [])
  -- b starts again while a is in ASTRT: a goes with the new period
  partner_starts_again : Runs (User Start ∷ Received 0 NotKept STRT ∷ Received 1 NotKept STRT ∷ Sent STACK ∷ Received 2 NotKept (ACK 0) ∷ [])
      (User Start ∷ Sent STRT ∷ User Halt ∷ User Start ∷ Sent STRT ∷ Received 0 NotKept STACK ∷ Sent (ACK 0) ∷ [])
  -- b starts again while a is in RUNNING: a halts, and may start
  partner_restarts : Runs (User Start ∷ Sent STRT ∷ Received 0 NotKept STACK ∷ Received 1 NotKept STRT ∷ User Start ∷ Sent STRT ∷ [])
      (User Start ∷ Received 0 NotKept STRT ∷ Sent STACK ∷ User Halt ∷ User Start ∷ Sent STRT ∷ [])
  -- the answer to b's first start comes in its second, while b is in ASTRT
  stack_of_an_earlier_start : EndsAt B (User Start ∷ Sent STRT ∷ Received 0 NotKept STRT ∷ Sent STACK ∷ [])
      (User Start ∷ Sent STRT ∷ User Halt ∷ User Start ∷ Received 0 NotKept STRT ∷ []) (Received 1 NotKept STACK) (refused CrossedPeriod)
  ack_of_an_earlier_start : EndsAt B (User Start ∷ Sent STRT ∷ Sent STRT ∷ Received 0 NotKept STACK ∷ Sent (ACK 0) ∷ [])
      (restarted_b ++ Received 1 NotKept STRT ∷ []) (Received 2 NotKept (ACK 0)) (refused CrossedPeriod)
  -- but in ISTRT it is ignored
  ack_before_any_answer : Runs (User Start ∷ Sent STRT ∷ Received 0 NotKept STACK ∷ Sent (ACK 0) ∷ [])
      (restarted_b ++ Received 1 NotKept (ACK 0) ∷ Sent STRT ∷ [])

computed : Rows
unfolding computing
computed = search (runs, ends)
