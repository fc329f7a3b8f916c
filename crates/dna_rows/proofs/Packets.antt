-- What a packet is to the links: whether it is returned, and what of its header is not judged.
use Rattle.dna_rows.proofs.Prelude.{[], ◌∷◌, ◌++◌, A, Head, NotKept, Kept, Sent, Received, User, Start, WrongState, NoLink, Accepted}
use Rattle.capture_record.specs.declared.event.Event.TheVariants.{Open, Accept}
use Rattle.dna_station.specs.declared.refusal.StepRefusal.TheVariants.{Station as OfStation, Links as OfLinks}
use Rattle.dna_rows.proofs.Verdicts.{Verdict, verdict, VerdictOf}
use Rattle.dna_rows.proofs.Units.{computing, control, data_of, behind_a, CI}
use Rattle.dna_rows.proofs.Captures.{started, answered, refused}

abbrev head_of_one : Head
head_of_one = record { own = 0x401; peer = 0x401 }

record Rows : Type 0 where
  -- A returned packet is kept and not read, though its message be nonsense
  returned_nonsense_is_kept : Verdict (started ++ Sent (data_of 1 0 (0x12 ∷ behind_a (0xff ∷ []))) ∷ [])
      (answered ++ Received 1 Kept (data_of 1 0 (0x12 ∷ behind_a (0xff ∷ []))) ∷ []) Accepted
  -- nor is it read when it is sent: it may come from and go to any node
  a_returned_packet_is_not_read_when_it_is_sent : Verdict
      (started ++ Sent (data_of 1 0 (0x12 ∷ 3 ∷ 4 ∷ 4 ∷ 4 ∷ 0 ∷ 0x18 ∷ 0 ∷ 0 ∷ 1 ∷ 0 ∷ 1 ∷ 2 ∷ 0 ∷ 2 ∷ [])) ∷ [])
      (answered ++ Received 1 Kept (data_of 1 0 (0x12 ∷ 3 ∷ 4 ∷ 4 ∷ 4 ∷ 0 ∷ 0x18 ∷ 0 ∷ 0 ∷ 1 ∷ 0 ∷ 1 ∷ 2 ∷ 0 ∷ 2 ∷ [])) ∷ []) Accepted
  -- ---- bits 3, 5 and 6 of RTFLG are not judged: a data packet with one of them, or with all three, carries its message
  rtflg_0a_is_read : Verdict (started ++ User (Open 1) ∷ Sent (data_of 1 0 (0xa ∷ behind_a (CI 1))) ∷ [])
      (answered ++ Received 1 Kept (data_of 1 0 (0xa ∷ behind_a (CI 1))) ∷ User (Accept 1 2) ∷ []) Accepted
  rtflg_22_is_read : Verdict (started ++ User (Open 1) ∷ Sent (data_of 1 0 (0x22 ∷ behind_a (CI 1))) ∷ [])
      (answered ++ Received 1 Kept (data_of 1 0 (0x22 ∷ behind_a (CI 1))) ∷ User (Accept 1 2) ∷ []) Accepted
  rtflg_42_is_read : Verdict (started ++ User (Open 1) ∷ Sent (data_of 1 0 (0x42 ∷ behind_a (CI 1))) ∷ [])
      (answered ++ Received 1 Kept (data_of 1 0 (0x42 ∷ behind_a (CI 1))) ∷ User (Accept 1 2) ∷ []) Accepted
  rtflg_6a_is_read : Verdict (started ++ User (Open 1) ∷ Sent (data_of 1 0 (0x6a ∷ behind_a (CI 1))) ∷ [])
      (answered ++ Received 1 Kept (data_of 1 0 (0x6a ∷ behind_a (CI 1))) ∷ User (Accept 1 2) ∷ []) Accepted
  -- which is judged like any other
  rtflg_0a_is_judged : Verdict (started ++ Sent (data_of 1 0 (0xa ∷ behind_a (CI 1))) ∷ []) answered (refused A 3 (OfLinks NoLink))
  rtflg_42_is_judged : Verdict (started ++ Sent (data_of 1 0 (0x42 ∷ behind_a (CI 1))) ∷ []) answered (refused A 3 (OfLinks NoLink))
  -- ---- FORWARD is not judged
  a_packet_with_forward_is_read : Verdict (started ++ User (Open 1) ∷ Sent (data_of 1 0 (2 ∷ 2 ∷ 4 ∷ 1 ∷ 4 ∷ 0xff ∷ CI 1)) ∷ [])
      (answered ++ Received 1 Kept (data_of 1 0 (2 ∷ 2 ∷ 4 ∷ 1 ∷ 4 ∷ 0xff ∷ CI 1)) ∷ User (Accept 1 2) ∷ []) Accepted
  -- also of a DC of no link, beside bit 3 of RTFLG and flags of the units; the REP behind it is refused for its own sake
  forward_is_not_judged : Verdict
      (User Start ∷ Sent (control 6 0 0 0) ∷ Received 0 NotKept (control 7 0 0 0) ∷ Sent (control 1 0x80 0 0) ∷
      Received 1 Kept (data_of 1 0 (0xa ∷ 1 ∷ 4 ∷ 2 ∷ 4 ∷ 7 ∷ 0x48 ∷ 0 ∷ 0 ∷ 9 ∷ 0 ∷ 0xe7 ∷ 4 ∷ [])) ∷ Sent (control 3 0xc0 0 4) ∷ [])
      (User Start ∷ Received 0 NotKept (control 6 0 0 0) ∷ Sent (control 7 0 0 0) ∷ Received 1 NotKept (control 1 0x80 0 0) ∷
      Sent (data_of 1 0 (0xa ∷ 1 ∷ 4 ∷ 2 ∷ 4 ∷ 7 ∷ 0x48 ∷ 0 ∷ 0 ∷ 9 ∷ 0 ∷ 0xe7 ∷ 4 ∷ [])) ∷ []) (refused A 5 (OfStation WrongState))
  -- ---- the heads of a pair are not compared
  two_equal_heads : VerdictOf head_of_one head_of_one (started ++ User (Open 1) ∷ Sent (data_of 1 0 (2 ∷ 1 ∷ 4 ∷ 1 ∷ 4 ∷ 0 ∷ CI 1)) ∷ [])
      (answered ++ Received 1 Kept (data_of 1 0 (2 ∷ 1 ∷ 4 ∷ 1 ∷ 4 ∷ 0 ∷ CI 1)) ∷ User (Accept 1 2) ∷ []) Accepted

computed : Rows
unfolding computing
computed = search (verdict)
