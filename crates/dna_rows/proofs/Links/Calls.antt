-- Calls and their answers: which link a CI, connect ack or CC is about, and what it says of segments.
use Rattle.dna_rows.proofs.Prelude.{[], ◌∷◌, ◌++◌, A, B, NotKept, Kept, Sent, Received, User, Start, In, Up, NoLink, LinkState, SegmentTooLong}
use Rattle.dna_rows.proofs.Prelude.{Accepted}
use Rattle.capture_record.specs.declared.event.Event.TheVariants.{Open, Accept, Close}
use Rattle.dna_station.specs.declared.refusal.StepRefusal.TheVariants.{Links as OfLinks}
use Rattle.dna_rows.proofs.Verdicts.{Verdict, verdict}
use Rattle.dna_rows.proofs.Units.{computing, STRT, STACK, CI, CI_AGAIN, CC, CONNECT_ACK, DI, DC, LINK_SERVICE, SEGMENT, carries, data_a, data_b}
use Rattle.dna_rows.proofs.Captures.{started, answered, acked_a, acked_b, called_a, called_b, confirmed_b, running_a, running_b, refused}

record Rows : Type 0 where
  -- A node may have two calls out, and the other two to answer
  two_calls_may_wait : Verdict (started ++ User (Open 1) ∷ User (Open 2) ∷ Sent (data_a 1 0 (CI 1)) ∷ Sent (data_a 2 0 (CI 2)) ∷ [])
      (called_b ++ Received 2 Kept (data_a 2 0 (CI 2)) ∷ []) Accepted
  -- they may go out and be answered in any order, with any addresses: each CC finds its own link
  two_calls_of_one_node : Verdict
      (started ++ User (Open 1) ∷ User (Open 2) ∷ Sent (data_a 1 0 (CI 2)) ∷ Sent (data_a 2 0 (CI 1)) ∷ Received 1 Kept (data_b 1 2 (CC 2 8 512)) ∷
      Received 2 Kept (data_b 2 2 (CC 1 7 512)) ∷ Sent (data_a 3 2 (LINK_SERVICE 8 2)) ∷ Sent (data_a 4 2 (LINK_SERVICE 7 1)) ∷ [])
      (answered ++ Received 1 Kept (data_a 1 0 (CI 2)) ∷ Received 2 Kept (data_a 2 0 (CI 1)) ∷ User (Accept 1 7) ∷ User (Accept 2 8) ∷
      Sent (data_b 1 2 (CC 2 8 512)) ∷ Sent (data_b 2 2 (CC 1 7 512)) ∷ []) Accepted
  -- A CI of an address that already calls is a repeat and begins no link, also behind another call: there is one call to answer
  a_repeat_and_another_call : Verdict (called_a ++ Sent (data_a 2 0 (CI_AGAIN 1)) ∷ User (Open 2) ∷ Sent (data_a 3 0 (CI_AGAIN 2)) ∷ [])
      (called_b ++ Received 2 Kept (data_a 2 0 (CI_AGAIN 1)) ∷ Received 3 Kept (data_a 3 0 (CI_AGAIN 2)) ∷ User (Accept 2 1) ∷ User (Accept 1 2) ∷
      User (Accept 1 3) ∷ []) (refused B 8 (OfLinks NoLink))
  -- Both sides may call at once, from equal addresses, and accept at equal ones: these are two links
  two_links_that_cross : Verdict
      (acked_a ++ User (Open 1) ∷ Sent (data_a 1 0 (CI 1)) ∷ Received 1 Kept (data_b 1 0 (CI 1)) ∷ User (Accept 1 2) ∷
      Sent (data_a 2 1 (CC 1 2 512)) ∷ Received 2 Kept (data_b 2 1 (CC 1 2 512)) ∷ Sent (data_a 3 2 (LINK_SERVICE 2 1)) ∷
      Received 3 Kept (data_b 3 2 (LINK_SERVICE 2 1)) ∷ User (In 2 (5 ∷ [])) ∷ Sent (data_a 4 3 (SEGMENT 0x60 1 2 (carries 1 (5 ∷ [])))) ∷ [])
      (acked_b ++ User (Open 1) ∷ Sent (data_b 1 0 (CI 1)) ∷ Received 2 Kept (data_a 1 0 (CI 1)) ∷ User (Accept 1 2) ∷
      Sent (data_b 2 1 (CC 1 2 512)) ∷ Received 3 Kept (data_a 2 1 (CC 1 2 512)) ∷ Sent (data_b 3 2 (LINK_SERVICE 2 1)) ∷
      Received 4 Kept (data_a 3 2 (LINK_SERVICE 2 1)) ∷ Received 5 Kept (data_a 4 3 (SEGMENT 0x60 1 2 (carries 1 (5 ∷ [])))) ∷ User (Up 1 (5 ∷ [])) ∷
      []) Accepted
  -- both ends of a link may have one address
  both_ends_of_a_link_may_have_one_address : Verdict (User Start ∷ Sent STRT ∷ User (Open 1) ∷ Received 0 NotKept STACK ∷ Sent (data_a 1 0 (CI 1)) ∷
      [])
      (called_b ++ User (Accept 1 1) ∷ []) Accepted
  -- Behind the connect ack a CI may be sent again, with either flag byte; and the connect ack itself may be
  ci_behind_its_connect_ack : Verdict
      (called_a ++ Received 1 Kept (data_b 1 1 (CONNECT_ACK 1)) ∷ Sent (data_a 2 1 (CI_AGAIN 1)) ∷ Sent (data_a 3 1 (CI 1)) ∷ [])
      (called_b ++ Sent (data_b 1 1 (CONNECT_ACK 1)) ∷ Sent (data_b 2 1 (CONNECT_ACK 1)) ∷ Received 2 Kept (data_a 2 1 (CI_AGAIN 1)) ∷ []) Accepted
  -- but not behind the CC
  no_ci_behind_the_cc : Verdict (running_a ++ Sent (data_a 3 1 (CI_AGAIN 1)) ∷ []) confirmed_b (refused A 7 (OfLinks LinkState))
  -- A CI from an address with which a link is live begins none, also where that link was opened here and is being closed: there is no call
  ci_with_the_far_address_of_an_opened_link_is_a_repeat : Verdict
      (running_a ++ User (Close 1) ∷ Sent (data_a 3 1 (DI 2 1)) ∷ Received 2 Kept (data_b 2 3 (CI 2)) ∷ User (Accept 2 3) ∷ [])
      (running_b ++ Received 3 Kept (data_a 3 1 (DI 2 1)) ∷ User (Open 2) ∷ Sent (data_b 2 3 (CI 2)) ∷ []) (refused A 10 (OfLinks NoLink))
  -- a CC for a link that has ended changes nothing, and is no fault of either side
  cc_for_an_ended_link : Verdict
      (called_a ++ Sent (data_a 2 0 (CI_AGAIN 1)) ∷ Received 1 Kept (data_b 1 1 (DC 1 0 42)) ∷ Received 2 Kept (data_b 2 2 (CC 1 2 512)) ∷ [])
      (called_b ++ Sent (data_b 1 1 (DC 1 0 42)) ∷ Received 2 Kept (data_a 2 0 (CI_AGAIN 1)) ∷ User (Accept 1 2) ∷ Sent (data_b 2 2 (CC 1 2 512)) ∷
      []) Accepted
  -- ---- SEGSIZE
  -- The CC says how many data bytes a segment may have: at SEGSIZE 0 none
  segsize_0 : Verdict
      (called_a ++ Received 1 Kept (data_b 1 1 (CC 1 2 0)) ∷ User (In 1 (5 ∷ [])) ∷ Sent (data_a 2 1 (SEGMENT 0x60 2 1 (carries 1 (5 ∷ [])))) ∷ [])
      (called_b ++ User (Accept 1 2) ∷ Sent (data_b 1 1 (CC 1 2 0)) ∷ []) (refused A 7 (OfLinks SegmentTooLong))
  -- which is asked before whether its data were handed in
  segsize_0_takes_no_byte : Verdict
      (called_a ++ Received 1 Kept (data_b 1 1 (CC 1 2 0)) ∷ Sent (data_a 2 1 (SEGMENT 0x60 2 1 (carries 1 (5 ∷ [])))) ∷ [])
      (called_b ++ User (Accept 1 2) ∷ Sent (data_b 1 1 (CC 1 2 0)) ∷ []) (refused A 6 (OfLinks SegmentTooLong))
  -- the first CC counts: one that is sent again with a lower SEGSIZE takes nothing away
  cc_again_with_another_segsize_changes_nothing : Verdict
      (called_a ++ Received 1 Kept (data_b 1 1 (CC 1 2 2)) ∷ Received 2 Kept (data_b 2 1 (CC 1 2 1)) ∷ User (In 1 (5 ∷ 6 ∷ [])) ∷
      Sent (data_a 2 2 (SEGMENT 0x60 2 1 (carries 1 (5 ∷ 6 ∷ [])))) ∷ [])
      (called_b ++ User (Accept 1 2) ∷ Sent (data_b 1 1 (CC 1 2 2)) ∷ Sent (data_b 2 1 (CC 1 2 1)) ∷ []) Accepted
  -- and one with a higher SEGSIZE gives nothing
  cc_again_gives_no_segsize : Verdict
      (called_a ++ Received 1 Kept (data_b 1 1 (CC 1 2 1)) ∷ Received 2 Kept (data_b 2 1 (CC 1 2 2)) ∷ User (In 1 (5 ∷ 6 ∷ [])) ∷
      Sent (data_a 2 2 (SEGMENT 0x60 2 1 (carries 1 (5 ∷ 6 ∷ [])))) ∷ [])
      (called_b ++ User (Accept 1 2) ∷ Sent (data_b 1 1 (CC 1 2 1)) ∷ Sent (data_b 2 1 (CC 1 2 2)) ∷ []) (refused A 8 (OfLinks SegmentTooLong))

computed : Rows
unfolding computing
computed = search (verdict)
