-- Worked rows where two reasons fit one record, computed from the definitions like the other rows: the order of the checks decides which
-- of them is named.
use Rattle.dna_rows.proofs.Prelude.{[], ◌∷◌, ◌++◌, Refused, A, B, NotKept, Kept, Sent, Received, User, Start, WrongState, WrongNumber}
use Rattle.dna_rows.proofs.Prelude.{WrongResponse, CrossedPeriod, HintOrder, Undetected}
use Rattle.dna_rows.proofs.Units.{computing, STRT, STACK, ACK, NAK, REP, DATA, data_of}
use Rattle.dna_rows.proofs.Captures.{answered, acked_a}
use Rattle.dna_rows.proofs.Courses.{ends}
use Rattle.dna_rows.proofs.Station.Units.{damaged_DATA, EndsAt, refused}
use Rattle.dna_rows.proofs.Station.Startup.{crossed_period_a, crossed_period_b, restarted_b}

record Rows : Type 0 where
  -- ---- receipts: 2, 5, 13, 12
  -- the unit came before, and now it comes with the bytes of a STACK: 2, and 5 fits too
  hint_before_bytes : EndsAt B (User Start ∷ Sent STRT ∷ []) (User Start ∷ Received 0 NotKept STRT ∷ []) (Received 0 NotKept STACK)
      (Refused HintOrder)
  -- an ACK of b's first start comes in its second, with the bytes of a data message: 5, and 13 fits both
  bytes_before_period : EndsAt B (User Start ∷ Sent STRT ∷ Sent STRT ∷ Received 0 NotKept STACK ∷ Sent (ACK 0) ∷ [])
      (restarted_b ++ Received 1 NotKept STRT ∷ []) (Received 2 NotKept (DATA 1 0)) (Refused Undetected)
  -- a STRT comes with the bytes of a STACK, and the receipt claims that a packet was taken: 5, and 12 fits too
  bytes_before_keep : EndsAt B (User Start ∷ Sent STRT ∷ []) (User Start ∷ []) (Received 0 Kept STACK) (Refused Undetected)
  -- the STACK of b's first start comes in its second, and the receipt claims that a packet was taken: 13, and 12 fits too
  period_before_keep : EndsAt B crossed_period_a crossed_period_b (Received 1 Kept STACK) (refused CrossedPeriod)
  -- ---- sent units: 6, 7, 8, and then 10 or 11
  -- a REP of number 1 while nothing is outstanding, and the highest number given is 0: 6, and 7 fits too
  state_before_number : EndsAt A acked_a answered (Sent (REP 1)) (refused WrongState)
  -- number 1 is sent where 2 is the next, and responds to what never came: 7, and 8 fits too
  number_before_response : EndsAt A (acked_a ++ Sent (DATA 1 0) ∷ []) answered (Sent (DATA 1 1)) (refused WrongNumber)
  -- a packet is sent again with other data, and responds to what never came: 8, and 10 fits too
  response_before_data : EndsAt A (acked_a ++ Sent (DATA 1 0) ∷ Received 1 NotKept (NAK 2 0) ∷ [])
      (answered ++ Received 1 NotKept (ACK 0) ∷ Received 2 NotKept damaged_DATA ∷ Sent (NAK 2 0) ∷ []) (Sent (data_of 1 1 (6 ∷ [])))
      (refused WrongResponse)
  -- a NAK that nothing called for responds to what never came: 8, and 11 fits too
  response_before_cause : EndsAt A acked_a answered (Sent (NAK 2 1)) (refused WrongResponse)

computed : Rows
unfolding computing
computed = search (ends)
