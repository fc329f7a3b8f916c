-- Which unit a receipt may name: one behind the unit of the receipt before, whatever became of that.
use Rattle.dna_rows.proofs.Prelude.{ℕ, List, [], ◌∷◌, ◌++◌, B, NotKept, Kept, Sent, Received, User, Start, Halt, HintOrder}
use Rattle.dna_rows.proofs.Verdicts.{Verdict, verdict}
use Rattle.dna_rows.proofs.Units.{computing, DATA, STRT, ACK, data_of}
use Rattle.dna_rows.proofs.Captures.{started, answered, acked_a, acked_b, refused}

-- a STRT with a bit of its check turned
abbrev damaged_STRT : List ℕ
damaged_STRT = 5 ∷ 6 ∷ 0xc0 ∷ 0 ∷ 0 ∷ 1 ∷ 0x75 ∷ 0x15 ∷ []

record Rows : Type 0 where
  -- A unit that came damaged does not come again
  the_front_moves_over_damage : Verdict (User Start ∷ Sent STRT ∷ []) (Received 0 NotKept damaged_STRT ∷ Received 0 NotKept STRT ∷ [])
      (refused B 1 HintOrder)
  -- nor does a packet for which there was no buffer
  the_front_moves_over_data_not_kept : Verdict (started ++ Sent (DATA 1 0) ∷ [])
      (answered ++ Received 1 NotKept (DATA 1 0) ∷ Received 1 Kept (DATA 1 0) ∷ []) (refused B 4 HintOrder)
  -- nor what came in HALTED
  the_front_moves_over_an_ack_in_halted : Verdict (acked_a ++ Sent (ACK 0) ∷ [])
      (answered ++ User Halt ∷ Received 2 NotKept (ACK 0) ∷ Received 2 NotKept (ACK 0) ∷ []) (refused B 5 HintOrder)
  -- also where another unit came before the halt
  an_ack_in_halted_moves_the_front : Verdict (acked_a ++ Sent (ACK 0) ∷ [])
      (acked_b ++ User Halt ∷ Received 2 NotKept (ACK 0) ∷ Received 2 NotKept (ACK 0) ∷ []) (refused B 6 HintOrder)
  -- and a unit that a later one overtook is lost
  a_later_unit_was_received : Verdict (acked_a ++ Sent (DATA 1 0) ∷ Sent (data_of 2 0 (7 ∷ [])) ∷ [])
      (acked_b ++ Received 3 NotKept (data_of 2 0 (7 ∷ [])) ∷ Received 2 Kept (DATA 1 0) ∷ []) (refused B 5 HintOrder)

computed : Rows
unfolding computing
computed = search (verdict)
