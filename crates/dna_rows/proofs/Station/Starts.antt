-- What a start of the station drops.
use Rattle.dna_rows.proofs.Prelude.{ℕ, List, [], ◌∷◌, ◌++◌, A, NotKept, Sent, Received, User, Start, Halt, NoCause, Accepted}
use Rattle.dna_station.specs.declared.refusal.StepRefusal.TheVariants.{Station as OfStation}
use Rattle.dna_rows.proofs.Verdicts.{Verdict, verdict}
use Rattle.dna_rows.proofs.Units.{computing, DATA, STRT, STACK, NAK, data_of}
use Rattle.dna_rows.proofs.Captures.{started, answered, refused}

-- a STACK with a bit of its check turned
abbrev damaged_STACK : List ℕ
damaged_STACK = 5 ∷ 7 ∷ 0xc0 ∷ 0 ∷ 0 ∷ 1 ∷ 0x48 ∷ 0xd5 ∷ []

record Rows : Type 0 where
  -- The packets of the period before: number 1 is given anew with other data, and sent again with those
  a_start_drops_what_was_given : Verdict
      (started ++ Sent (DATA 1 0) ∷ User Halt ∷ User Start ∷ Sent STRT ∷ Received 1 NotKept STACK ∷ Sent (data_of 1 0 (7 ∷ [])) ∷
      Received 2 NotKept (NAK 8 0) ∷ Sent (data_of 1 0 (7 ∷ [])) ∷ [])
      (answered ++ User Halt ∷ User Start ∷ Received 2 NotKept STRT ∷ Sent STACK ∷ Received 3 NotKept (data_of 1 0 (7 ∷ [])) ∷ Sent (NAK 8 0) ∷ [])
      Accepted
  -- the causes of the period before, also where a STRT in RUNNING halted the station
  a_start_behind_a_strt_in_running_drops_causes : Verdict
      (started ++ Received 1 NotKept damaged_STACK ∷ Received 2 NotKept STRT ∷ User Start ∷ Sent STRT ∷ Received 3 NotKept STACK ∷ Sent (NAK 1 0) ∷
      [])
      (answered ++ Sent STACK ∷ User Halt ∷ User Start ∷ Sent STRT ∷ Received 1 NotKept STRT ∷ Sent STACK ∷ []) (refused A 8 (OfStation NoCause))

computed : Rows
unfolding computing
computed = search (verdict)
