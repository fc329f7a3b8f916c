-- What of an NSP message is not judged. A proof that the code keeps to the definitions does not notice where both take such a field for a rule.
use Rattle.dna_rows.proofs.Prelude.{[], ◌∷◌, ◌++◌, Kept, Sent, Received, User, In, Up, Accepted}
use Rattle.capture_record.specs.declared.event.Event.TheVariants.{Open, Accept, Close}
use Rattle.dna_rows.proofs.Verdicts.{Verdict, verdict}
use Rattle.dna_rows.proofs.Units.{computing, between, connects, CI, CC, DI, DC, LINK_SERVICE, INTERRUPT, SEGMENT, carries, data_a, data_b}
use Rattle.dna_rows.proofs.Captures.{started, answered, confirmed_b, running_a, running_b}

record Rows : Type 0 where
  -- ---- bit 12 of SEGNUM: it is no part of the number, says nothing of where a message begins or ends, and is free in a repeat
  bit_12_does_not_continue_a_message : Verdict (running_a ++ User (In 1 (5 ∷ [])) ∷ Sent (data_a 3 1 (SEGMENT 0x60 2 1 (1 ∷ 0x10 ∷ 5 ∷ []))) ∷ [])
      (running_b ++ Received 3 Kept (data_a 3 1 (SEGMENT 0x60 2 1 (1 ∷ 0x10 ∷ 5 ∷ []))) ∷ User (Up 2 (5 ∷ [])) ∷ []) Accepted
  -- nor does it end one: a message of two segments, both with bit 12
  bit_12_does_not_end_a_message : Verdict
      (running_a ++ User (In 1 (5 ∷ 6 ∷ [])) ∷ Sent (data_a 3 1 (SEGMENT 0x20 2 1 (1 ∷ 0x10 ∷ 5 ∷ []))) ∷
      Sent (data_a 4 1 (SEGMENT 0x40 2 1 (2 ∷ 0x10 ∷ 6 ∷ []))) ∷ [])
      (running_b ++ Received 3 Kept (data_a 3 1 (SEGMENT 0x20 2 1 (1 ∷ 0x10 ∷ 5 ∷ []))) ∷
      Received 4 Kept (data_a 4 1 (SEGMENT 0x40 2 1 (2 ∷ 0x10 ∷ 6 ∷ []))) ∷ User (Up 2 (5 ∷ 6 ∷ [])) ∷ []) Accepted
  -- a segment that is not acknowledged may be sent again with bit 12, and first without
  bit_12_of_a_repeat : Verdict
      (running_a ++ User (In 1 (5 ∷ [])) ∷ Sent (data_a 3 1 (SEGMENT 0x60 2 1 (1 ∷ 0 ∷ 5 ∷ []))) ∷
      Sent (data_a 4 1 (SEGMENT 0x60 2 1 (1 ∷ 0x10 ∷ 5 ∷ []))) ∷ []) running_b Accepted
  -- ---- SERVICES and INFO: which flow control and which version of NSP a side asks for is not judged, nor is flow control itself
  -- a asks for flow control by segments, b for flow control by messages; both send without any request
  flow_control_is_not_judged : Verdict
      (started ++ User (Open 1) ∷ Sent (data_a 1 0 (between 0x18 0 1 ++ connects 5 0 512)) ∷
      Received 1 Kept (data_b 1 1 (between 0x28 1 2 ++ connects 9 3 512)) ∷ User (In 1 (5 ∷ [])) ∷
      Sent (data_a 2 1 (SEGMENT 0x60 2 1 (carries 1 (5 ∷ [])))) ∷ Received 2 Kept (data_b 2 2 (SEGMENT 0x60 1 2 (carries 1 (6 ∷ [])))) ∷
      User (Up 1 (6 ∷ [])) ∷ [])
      (answered ++ Received 1 Kept (data_a 1 0 (between 0x18 0 1 ++ connects 5 0 512)) ∷ User (Accept 1 2) ∷
      Sent (data_b 1 1 (between 0x28 1 2 ++ connects 9 3 512)) ∷ User (In 2 (6 ∷ [])) ∷
      Received 2 Kept (data_a 2 1 (SEGMENT 0x60 2 1 (carries 1 (5 ∷ [])))) ∷ User (Up 2 (5 ∷ [])) ∷
      Sent (data_b 2 2 (SEGMENT 0x60 1 2 (carries 1 (6 ∷ [])))) ∷ []) Accepted
  -- any other values, too
  any_services_and_info : Verdict
      (started ++ User (Open 1) ∷ Sent (data_a 1 0 (between 0x18 0 1 ++ connects 0xff 0xff 512)) ∷
      Received 1 Kept (data_b 1 1 (between 0x28 1 2 ++ connects 0 0xfe 512)) ∷ Sent (data_a 2 1 (LINK_SERVICE 2 1)) ∷ [])
      (answered ++ Received 1 Kept (data_a 1 0 (between 0x18 0 1 ++ connects 0xff 0xff 512)) ∷ User (Accept 1 2) ∷
      Sent (data_b 1 1 (between 0x28 1 2 ++ connects 0 0xfe 512)) ∷ []) Accepted
  -- ---- user data of a CI, CC and DI: any bytes, and no count of them stands before
  user_data_may_be_anything : Verdict
      (started ++ User (Open 1) ∷ Sent (data_a 1 0 (CI 1 ++ 0x78 ∷ 0x79 ∷ 0x7a ∷ [])) ∷ Received 1 Kept (data_b 1 1 (CC 1 2 512 ++ 0xff ∷ [])) ∷
      User (Close 1) ∷ Sent (data_a 2 1 (between 0x38 2 1 ++ 0 ∷ 0 ∷ 9 ∷ [])) ∷ [])
      (answered ++ Received 1 Kept (data_a 1 0 (CI 1 ++ 0x78 ∷ 0x79 ∷ 0x7a ∷ [])) ∷ User (Accept 1 2) ∷ Sent (data_b 1 1 (CC 1 2 512 ++ 0xff ∷ [])) ∷
      Received 2 Kept (data_a 2 1 (between 0x38 2 1 ++ 0 ∷ 0 ∷ 9 ∷ [])) ∷ User (Open 2) ∷ []) Accepted
  -- also beside other SERVICES, and SEGSIZE 0
  services_and_info_may_be_anything : Verdict
      (started ++ User (Open 1) ∷ Sent (data_a 1 0 (between 0x18 0 1 ++ 0xd ∷ 0 ∷ 0 ∷ 0 ∷ 0x78 ∷ 0x79 ∷ 0x7a ∷ [])) ∷ []) answered Accepted
  -- ---- REASON of a DI and of a DC: any, and each ends its link whatever it says; a DI needs no user data
  reasons_may_be_anything : Verdict
      (running_a ++ User (Close 1) ∷ Sent (data_a 3 1 (between 0x38 2 1 ++ 0xff ∷ 0xff ∷ [])) ∷ Received 2 Kept (data_b 2 3 (DC 1 2 0x1234)) ∷
      User (Open 1) ∷ [])
      (running_b ++ Received 3 Kept (data_a 3 1 (between 0x38 2 1 ++ 0xff ∷ 0xff ∷ [])) ∷ Sent (data_b 2 3 (DC 1 2 0x1234)) ∷ User (Open 2) ∷ [])
      Accepted
  -- also a DC that says that there was no such link
  a_dc_of_reason_41_ends_the_link : Verdict
      (running_a ++ User (Close 1) ∷ Sent (data_a 3 1 (DI 2 1)) ∷ Received 2 Kept (data_b 2 3 (DC 1 2 41)) ∷ User (Open 1) ∷ [])
      (running_b ++ Received 3 Kept (data_a 3 1 (DI 2 1)) ∷ Sent (data_b 2 3 (DC 1 2 41)) ∷ []) Accepted
  -- ---- interrupts: any number of them, without acknowledgement or request
  interrupts_wait_for_nothing : Verdict (running_a ++ Sent (data_a 3 1 (INTERRUPT 2 1)) ∷ Sent (data_a 4 1 (INTERRUPT 2 1)) ∷ []) confirmed_b Accepted

computed : Rows
unfolding computing
computed = search (verdict)
