-- The flags of a unit, quick sync 0x40 and select 0x80 of its third byte, are not judged in any message.
use Rattle.dna_rows.proofs.Prelude.{[], ◌∷◌, ◌++◌, B, NotKept, Sent, Received, User, Start, NoCause, Accepted}
use Rattle.dna_station.specs.declared.refusal.StepRefusal.TheVariants.{Station as OfStation}
use Rattle.dna_rows.proofs.Verdicts.{Verdict, verdict}
use Rattle.dna_rows.proofs.Units.{computing, STRT, control, data_with}
use Rattle.dna_rows.proofs.Captures.{started, answered, refused}

record Rows : Type 0 where
  -- STRT without flags
  strt_without_flags : Verdict [] (User Start ∷ Sent (control 6 0 0 0) ∷ []) Accepted
  -- STRT with quick sync alone, STACK without flags, ACK with select alone
  any_flags_in_startup : Verdict (User Start ∷ Sent (control 6 0x40 0 0) ∷ Received 0 NotKept (control 7 0 0 0) ∷ Sent (control 1 0x80 0 0) ∷ [])
      (User Start ∷ Received 0 NotKept (control 6 0x40 0 0) ∷ Sent (control 7 0 0 0) ∷ Received 1 NotKept (control 1 0x80 0 0) ∷ []) Accepted
  -- a data message with quick sync and a REP with both flags; in answer a NAK of reason 8 with select and one of reason 3 with both
  any_flags_while_running : Verdict
      (started ++ Sent (data_with 0x40 1 0 (5 ∷ [])) ∷ Sent (control 3 0xc0 0 1) ∷ Received 1 NotKept (control 2 0x88 0 0) ∷
      Received 2 NotKept (control 2 0xc3 0 0) ∷ [])
      (answered ++ Received 1 NotKept (data_with 0x40 1 0 (5 ∷ [])) ∷ Received 2 NotKept (control 3 0xc0 0 1) ∷ Sent (control 2 0x88 0 0) ∷
      Sent (control 2 0xc3 0 0) ∷ []) Accepted
  -- a packet that is sent again may have other flags, whatever those of the messages around it
  a_repeat_may_have_other_flags : Verdict
      (User Start ∷ Sent (control 6 0 0 0) ∷ Received 0 NotKept (control 7 0x80 0 0) ∷ Sent (control 1 0xc0 0 0) ∷ Sent
      (data_with 0x40 1 0 (5 ∷ [])) ∷
      Received 1 NotKept (control 2 0x88 0 0) ∷ Sent (data_with 0x80 1 0 (5 ∷ [])) ∷ [])
      (User Start ∷ Received 0 NotKept (control 6 0 0 0) ∷ Sent (control 7 0x80 0 0) ∷ Received 2 NotKept (data_with 0x40 1 0 (5 ∷ [])) ∷
      Sent (control 2 0x88 0 0) ∷ []) Accepted
  -- nor are flags a part of the reason: a NAK of reason 8 with both wants the cause of reason 8
  flags_are_no_part_of_the_reason : Verdict (User Start ∷ Sent STRT ∷ Received 0 NotKept STRT ∷ Sent (control 7 0 0 0) ∷ [])
      (User Start ∷ Sent STRT ∷ Received 1 NotKept (control 7 0 0 0) ∷ Sent (control 2 0xc8 0 0) ∷ []) (refused B 3 (OfStation NoCause))

computed : Rows
unfolding computing
computed = search (verdict)
