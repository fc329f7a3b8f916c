-- Worked rows over both layers, computed from the definitions on true numbers and as nodes keep them: the records of a row are made, and of a refused
-- one the last record is refused where the earlier ones lead.
use Rattle.dna_rows.proofs.Prelude.{List, [], ◌∷◌, ◌++◌, A, B, NotKept, Kept, Record, Sent, Received, User, Start, Halt, In, Up, WrongState}
use Rattle.dna_rows.proofs.Prelude.{WrongNumber, BadPacket, BadNsp, WrongNode, NoLink, WrongAck, WrongDelivery, CrossedLink, AddressInUse}
use Rattle.capture_record.specs.declared.event.Event.TheVariants.{Open, Accept, Close}
use Rattle.dna_station.specs.declared.refusal.StepRefusal.TheVariants.{Station as OfStation, Links as OfLinks}
use Rattle.dna_rows.proofs.Units.{computing, STRT, STACK, ACK, NAK, DATA}
use Rattle.dna_rows.proofs.Captures.{started, answered}
use Rattle.dna_rows.proofs.Courses.{runs, ends}
use Rattle.dna_rows.proofs.Links.OneLink.{letters}
use Rattle.dna_rows.proofs.Layers.Units.{CI_1, CONNECT_ACK_1, CC_1_2, DC_1_7, CC_1_2_BEHIND, DC_1_7_OF_0, CI_1_OF_1, NO_OPERATION_1, CI_1_BEHIND}
use Rattle.dna_rows.proofs.Layers.Units.{ACK_2_1, SEGMENT_1, SEGMENT_2, SEGMENT_3, SEGMENT_4, SEGMENT_1_AGAIN, ACK_1_2, ACK_1_2_OF_1, ACK_1_2_OF_4}
use Rattle.dna_rows.proofs.Layers.Units.{PADDED, PADDED_2, NO_NSP, NO_NSP_OF_OTHER_NODE, RETURNED, OF_OTHER_NODE, damaged_CI_1, IsRunOfBoth}
use Rattle.dna_rows.proofs.Layers.Units.{RefusedByBoth}

-- The worked example of the player: one unit is lost, one damaged, and one packet finds no buffer
abbrev pub player_example_a : List Record
player_example_a = User Start ∷ Sent STRT ∷ Sent STRT ∷ Received 0 NotKept STACK ∷ Sent (ACK 0) ∷ User (Open 1) ∷ Sent CI_1 ∷
    Received 1 NotKept (NAK 1 0) ∷ Sent CI_1 ∷ Received 2 NotKept (NAK 8 0) ∷ Sent CI_1 ∷ Received 3 Kept CONNECT_ACK_1 ∷ []

abbrev pub player_example_b : List Record
player_example_b = User Start ∷ Received 1 NotKept STRT ∷ Sent STACK ∷ Received 2 NotKept (ACK 0) ∷ Received 3 NotKept damaged_CI_1 ∷ Sent (NAK 1 0) ∷
    Received 4 NotKept CI_1 ∷ Sent (NAK 8 0) ∷ Received 5 Kept CI_1 ∷ Sent CONNECT_ACK_1 ∷ []

-- The first segment is lost as the line restarts
abbrev one_missing_a : List Record
one_missing_a = started ++ User (Open 1) ∷ Sent CI_1 ∷ Received 1 Kept CC_1_2 ∷ Sent ACK_2_1 ∷ User (In 1 letters) ∷ User (In 1 []) ∷
    Sent SEGMENT_1 ∷ User Halt ∷ User Start ∷ Sent STRT ∷ Received 2 NotKept STRT ∷ Sent STACK ∷ Received 3 NotKept (ACK 0) ∷ Sent SEGMENT_2 ∷
    Sent SEGMENT_3 ∷ Sent SEGMENT_4 ∷ []

abbrev one_missing_b : List Record
one_missing_b = answered ++ Received 1 Kept CI_1 ∷ User (Accept 1 2) ∷ Sent CC_1_2 ∷ Received 2 Kept ACK_2_1 ∷ Received 4 NotKept STRT ∷ User Start ∷
    Sent STRT ∷ Received 5 NotKept STACK ∷ Sent (ACK 0) ∷ Received 6 Kept SEGMENT_2 ∷ Received 7 Kept SEGMENT_3 ∷ Received 8 Kept SEGMENT_4 ∷ []

-- A CC finds no buffer, and comes when it is sent again
abbrev label_comes_back_a : List Record
label_comes_back_a = started ++ User (Open 1) ∷ Sent CI_1 ∷ Received 1 NotKept CC_1_2 ∷ Sent (NAK 8 0) ∷ Received 2 Kept CC_1_2 ∷ Sent ACK_2_1 ∷ []

record Rows : Type 0 where
  player_example : IsRunOfBoth player_example_a player_example_b
  -- the first segment is sent again in the next period
  first_lost : IsRunOfBoth (one_missing_a ++ Sent SEGMENT_1_AGAIN ∷ Received 4 Kept ACK_1_2 ∷ Received 5 Kept ACK_1_2_OF_4 ∷ [])
      (one_missing_b ++ Sent ACK_1_2 ∷ Received 9 Kept SEGMENT_1_AGAIN ∷ User (Up 2 letters) ∷ User (Up 2 []) ∷ Sent ACK_1_2_OF_4 ∷ [])
  -- while it is missing nothing of it is acknowledged, and nothing is delivered
  acknowledges_over_the_gap : RefusedByBoth B one_missing_a one_missing_b (Sent ACK_1_2_OF_1) (OfLinks WrongAck)
  -- so it may not be delivered
  delivered_too_early : RefusedByBoth B one_missing_a one_missing_b (User (Up 2 letters)) (OfLinks WrongDelivery)
  -- A packet that found no buffer is sent again, with what was true of it at first: the CC is for the link that called, and brings it into RUN
  label_comes_back : IsRunOfBoth label_comes_back_a
      (answered ++ Received 1 Kept CI_1 ∷ User (Accept 1 2) ∷ Sent CC_1_2 ∷ Received 2 NotKept (NAK 8 0) ∷ Sent CC_1_2 ∷ [])
  -- the links met it when it was first sent, and do not meet it again: its link may be closed by then
  closed_meanwhile : IsRunOfBoth label_comes_back_a
      (answered ++ Received 1 Kept CI_1 ∷ User (Accept 1 2) ∷ Sent CC_1_2 ∷ Received 2 NotKept (NAK 8 0) ∷ User (Close 2) ∷ Sent CC_1_2 ∷ [])
  -- A call that finds no buffer is sent again when its link has ended and another has its address: it is still the call of the first
  first_truth : RefusedByBoth A
      (started ++ User (Open 1) ∷ Sent CI_1 ∷ Received 1 Kept DC_1_7_OF_0 ∷ Received 2 NotKept (NAK 8 0) ∷ User (Open 1) ∷ Sent CI_1_OF_1 ∷ [])
      (answered ++ Received 1 NotKept CI_1 ∷ Sent DC_1_7_OF_0 ∷ Sent (NAK 8 0) ∷ Received 2 Kept CI_1_OF_1 ∷ User (Accept 1 2) ∷ Sent CC_1_2_BEHIND ∷
      []) (Received 3 Kept CC_1_2_BEHIND) (OfLinks CrossedLink)
  -- The call of a's first link is accepted when that link has ended and the second one has its address: the CC is for another link
  crossed : RefusedByBoth A (started ++ User (Open 1) ∷ Sent CI_1 ∷ Received 1 Kept DC_1_7 ∷ User (Open 1) ∷ [])
      (answered ++ Received 1 Kept CI_1 ∷ Sent DC_1_7 ∷ User (Accept 1 2) ∷ Sent CC_1_2_BEHIND ∷ []) (Received 2 Kept CC_1_2_BEHIND)
      (OfLinks CrossedLink)
  -- A packet that is not kept, for want of a buffer or since it is not the next, is nothing to the links
  not_kept : RefusedByBoth B (started ++ User (Open 1) ∷ Sent CI_1 ∷ []) (answered ++ Received 1 NotKept CI_1 ∷ []) (User (Accept 1 2))
      (OfLinks NoLink)
  not_next : RefusedByBoth B (started ++ User (Open 1) ∷ Sent NO_OPERATION_1 ∷ Sent CI_1_BEHIND ∷ [])
      (answered ++ Received 2 NotKept CI_1_BEHIND ∷ [])
      (User (Accept 1 2)) (OfLinks NoLink)
  -- A packet that can't be read
  bad_packet : RefusedByBoth A started answered (Sent PADDED) BadPacket
  -- the station's reasons come first
  station_before_packet : RefusedByBoth A started answered (Sent PADDED_2) (OfStation WrongNumber)
  message_without_start : RefusedByBoth A [] [] (Sent CI_1) (OfStation WrongState)
  -- a message that can't be read
  bad_message : RefusedByBoth A started answered (Sent NO_NSP) BadNsp
  -- 17, and 16 fits too
  message_before_node : RefusedByBoth A started answered (Sent NO_NSP_OF_OTHER_NODE) BadNsp
  -- a message for another node
  of_other_node : RefusedByBoth A started answered (Sent OF_OTHER_NODE) (OfLinks WrongNode)
  -- a CI of a link that was not opened
  call_unasked : RefusedByBoth A started answered (Sent CI_1) (OfLinks NoLink)
  -- the user's events at links need no station that runs
  opened_twice : RefusedByBoth A (User (Open 1) ∷ []) [] (User (Open 1)) (OfLinks AddressInUse)
  -- A packet that is marked returned is carried and not read
  returned : IsRunOfBoth (started ++ Sent RETURNED ∷ []) (answered ++ Received 1 Kept RETURNED ∷ [])
  -- so is a routing control packet
  control : IsRunOfBoth (started ++ Sent (DATA 1 0) ∷ []) (answered ++ Received 1 Kept (DATA 1 0) ∷ [])

computed : Rows
unfolding computing
computed = search (runs, ends)
