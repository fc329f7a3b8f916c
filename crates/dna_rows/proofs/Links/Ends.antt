-- The end of a link: DI, DC, and what may still be delivered.
use Rattle.dna_rows.proofs.Prelude.{[], ◌∷◌, ◌++◌, A, B, Kept, Sent, Received, User, In, Up, NoLink, WrongDelivery, Accepted}
use Rattle.capture_record.specs.declared.event.Event.TheVariants.{Open, Accept, Reject, Close}
use Rattle.dna_station.specs.declared.refusal.StepRefusal.TheVariants.{Links as OfLinks}
use Rattle.dna_rows.proofs.Verdicts.{Verdict, verdict}
use Rattle.dna_rows.proofs.Units.{computing, DI, DC, SEGMENT, carries, data_a, data_b}
use Rattle.dna_rows.proofs.Captures.{called_a, called_b, running_a, running_b, refused}

record Rows : Type 0 where
  -- No DI is sent for a call that the user has not rejected
  di_without_reject : Verdict called_a (called_b ++ Sent (data_b 1 1 (DI 1 2)) ∷ []) (refused B 4 (OfLinks NoLink))
  -- once it is, the DI may be sent twice and be answered twice, by DCs of unequal reasons
  di_twice : Verdict
      (called_a ++ Received 1 Kept (data_b 1 1 (DI 1 2)) ∷ Received 2 Kept (data_b 2 1 (DI 1 2)) ∷ Sent (data_a 2 2 (DC 2 1 42)) ∷
      Sent (data_a 3 2 (DC 2 1 41)) ∷ [])
      (called_b ++ User (Reject 1 2) ∷ Sent (data_b 1 1 (DI 1 2)) ∷ Sent (data_b 2 1 (DI 1 2)) ∷ Received 2 Kept (data_a 2 2 (DC 2 1 42)) ∷
      Received 3 Kept (data_a 3 2 (DC 2 1 41)) ∷ User (Open 2) ∷ []) Accepted
  -- Where both sides close, each DI ends the link of the other side, and both addresses can be given again
  di_meets_di : Verdict (running_a ++ User (Close 1) ∷ Sent (data_a 3 1 (DI 2 1)) ∷ Received 2 Kept (data_b 2 2 (DI 1 2)) ∷ User (Open 1) ∷ [])
      (running_b ++ User (Close 2) ∷ Sent (data_b 2 2 (DI 1 2)) ∷ Received 3 Kept (data_a 3 1 (DI 2 1)) ∷ User (Open 2) ∷ []) Accepted
  -- A DC from any address and of any reason ends the call that it answers
  dc_of_any_address_ends_calling : Verdict (called_a ++ Received 1 Kept (data_b 1 1 (DC 1 9 38)) ∷ User (In 1 (5 ∷ [])) ∷ [])
      (called_b ++ Sent (data_b 1 1 (DC 1 9 38)) ∷ []) (refused A 6 (OfLinks NoLink))
  -- but a DC of the caller's changes nothing on a call that waits: it can still be answered
  a_dc_in_called_changes_nothing : Verdict (called_a ++ Sent (data_a 2 0 (DC 0 1 42)) ∷ [])
      (called_b ++ Received 2 Kept (data_a 2 0 (DC 0 1 42)) ∷ User (Accept 1 2) ∷ []) Accepted
  -- ---- segments of a link that is being closed, or is over
  -- A segment that comes behind the close is not taken
  a_segment_in_di_is_ignored : Verdict (running_a ++ User (In 1 (5 ∷ [])) ∷ Sent (data_a 3 1 (SEGMENT 0x60 2 1 (carries 1 (5 ∷ [])))) ∷ [])
      (running_b ++ User (Close 2) ∷ Received 3 Kept (data_a 3 1 (SEGMENT 0x60 2 1 (carries 1 (5 ∷ [])))) ∷ User (Up 2 (5 ∷ [])) ∷ [])
      (refused B 9 (OfLinks WrongDelivery))
  -- what came before it can still be delivered
  up_is_allowed_behind_a_close : Verdict (running_a ++ User (In 1 (5 ∷ [])) ∷ Sent (data_a 3 1 (SEGMENT 0x60 2 1 (carries 1 (5 ∷ [])))) ∷ [])
      (running_b ++ Received 3 Kept (data_a 3 1 (SEGMENT 0x60 2 1 (carries 1 (5 ∷ [])))) ∷ User (Close 2) ∷ User (Up 2 (5 ∷ [])) ∷ []) Accepted
  -- and behind the end of the link
  up_behind_the_end : Verdict
      (running_a ++ User (In 1 (5 ∷ [])) ∷ Sent (data_a 3 1 (SEGMENT 0x60 2 1 (carries 1 (5 ∷ [])))) ∷ User (Close 1) ∷ Sent (data_a 4 1 (DI 2 1)) ∷
      [])
      (running_b ++ Received 3 Kept (data_a 3 1 (SEGMENT 0x60 2 1 (carries 1 (5 ∷ [])))) ∷ Received 4 Kept (data_a 4 1 (DI 2 1)) ∷
      User (Up 2 (5 ∷ [])) ∷ []) Accepted

computed : Rows
unfolding computing
computed = search (verdict)
