-- Each row of the table of what may be sent, each reason that may refuse it but those on numbers, and the tags, computed by both books.
use Rattle.dna_rows.proofs.Prelude.{ℕ, List, [], ◌∷◌, ◌++◌, Some, None, A, B, WrongNode, NoLink, LinkState}
use Rattle.dna_links.specs.User.{Open, Accept, Reject}
use Rattle.dna_rows.proofs.Units.{CI, CI_AGAIN, CC_2, CONNECT_ACK, DI, DC_42, LINK_SERVICE, INTERRUPT, OTHER_ACK, NO_OPERATION, DATA_ACK, ack}
use Rattle.dna_rows.proofs.Units.{SEGMENT, carries}
use Rattle.dna_rows.proofs.Links.Steps.{Act, NODE_A, NODE_B, Does, Sends, SendsAs, AllMade, LastRefused, HasTag}
use Rattle.dna_rows.proofs.Links.OneLink.{opened, connected}
use Rattle.dna_rows.proofs.Links.User.{called, closed, ended}

-- b has rejected the call of a
abbrev rejected : List Act
rejected = called ++ Does B (Reject 1 2) ∷ []

abbrev OTHER_NODE : ℕ
OTHER_NODE = 0x0403

abbrev FIRST : List ℕ
FIRST = carries 1 (5 ∷ [])

record Rows : Type 0 where
  -- ---- the two nodes, else 16; before any other check, and of every message
  from_another_node : LastRefused WrongNode (Does A (Open 1) ∷ SendsAs A OTHER_NODE NODE_B (CI 1) ∷ [])
  to_another_node : LastRefused WrongNode (Does A (Open 1) ∷ SendsAs A NODE_A OTHER_NODE (CI 1) ∷ [])
  from_the_peer_to_itself : LastRefused WrongNode (Does A (Open 1) ∷ SendsAs A NODE_B NODE_A (CI 1) ∷ [])
  no_operation_from_another_node : LastRefused WrongNode (SendsAs A OTHER_NODE NODE_B NO_OPERATION ∷ [])
  connect_ack_to_another_node : LastRefused WrongNode (called ++ SendsAs B NODE_B OTHER_NODE (CONNECT_ACK 1) ∷ [])
  -- 16, and 18 fits too
  node_before_link : LastRefused WrongNode (SendsAs A OTHER_NODE NODE_B (CI 1) ∷ [])
  -- ---- CI: opened here, else 18; in Calling, else 19
  calls : AllMade (Does A (Open 1) ∷ Sends A (CI 1) ∷ Sends A (CI_AGAIN 1) ∷ Sends A (CI 1) ∷ [])
  calls_unopened : LastRefused NoLink (Does A (Open 1) ∷ Sends A (CI 2) ∷ [])
  calls_by_a_link_that_was_called : LastRefused NoLink (opened ++ Sends B (CI 2) ∷ [])
  calls_in_run : LastRefused LinkState (connected ++ Sends A (CI 1) ∷ [])
  calls_again_in_run : LastRefused LinkState (connected ++ Sends A (CI_AGAIN 1) ∷ [])
  calls_while_closing : LastRefused LinkState (closed ++ Sends A (CI 1) ∷ [])
  calls_after_the_end : LastRefused NoLink (ended ++ Sends A (CI 1) ∷ [])
  -- ---- connect ack: begun by a CI, else 18; in any phase
  acknowledges_the_call : AllMade (called ++ Sends B (CONNECT_ACK 1) ∷ Sends B (CONNECT_ACK 1) ∷ [])
  -- it leaves the phase as it is
  accepted_after_the_connect_ack : AllMade (called ++ Sends B (CONNECT_ACK 1) ∷ Does B (Accept 1 2) ∷ Sends B (CC_2 1 2) ∷ [])
  acknowledges_it_in_run : AllMade (connected ++ Sends B (CONNECT_ACK 1) ∷ [])
  acknowledges_another_call : LastRefused NoLink (called ++ Sends B (CONNECT_ACK 2) ∷ [])
  acknowledges_its_own_call : LastRefused NoLink (connected ++ Sends A (CONNECT_ACK 2) ∷ [])
  acknowledges_a_call_that_is_over : LastRefused NoLink (ended ++ Sends B (CONNECT_ACK 1) ∷ [])
  -- ---- CC: the link, else 18; in Confirming, else 19
  confirms : AllMade (opened ++ Sends B (CC_2 1 2) ∷ [])
  confirms_from_another_address : LastRefused NoLink (opened ++ Sends B (CC_2 1 3) ∷ [])
  confirms_to_another_address : LastRefused NoLink (opened ++ Sends B (CC_2 3 2) ∷ [])
  confirms_unaccepted : LastRefused NoLink (called ++ Sends B (CC_2 1 2) ∷ [])
  confirms_in_run : LastRefused LinkState (connected ++ Sends B (CC_2 1 2) ∷ [])
  -- ---- DI: the link, else 18; in DI, else 19
  disconnects : AllMade (closed ++ Sends A (DI 2 1) ∷ Sends A (DI 2 1) ∷ [])
  disconnects_another_link : LastRefused NoLink (closed ++ Sends A (DI 3 1) ∷ [])
  disconnects_unclosed : LastRefused LinkState (connected ++ Sends A (DI 2 1) ∷ [])
  disconnects_in_confirming : LastRefused LinkState (opened ++ Sends B (DI 1 2) ∷ [])
  disconnects_in_called : LastRefused NoLink (called ++ Sends B (DI 1 2) ∷ [])
  disconnects_in_calling : LastRefused NoLink (called ++ Sends A (DI 0 1) ∷ [])
  disconnects_after_the_end : LastRefused NoLink (ended ++ Sends A (DI 2 1) ∷ [])
  -- ---- DC: not the link, else 19; with SRCADDR 0 it ends the one in Called
  confirms_the_end_of_no_link : AllMade (Sends A (DC_42 7 8) ∷ Sends A (DC_42 7 0) ∷ [])
  confirms_the_end : AllMade (ended ++ Sends B (DC_42 1 2) ∷ [])
  confirms_the_end_of_a_live_link : LastRefused LinkState (connected ++ Sends B (DC_42 1 2) ∷ [])
  confirms_the_end_in_confirming : LastRefused LinkState (opened ++ Sends B (DC_42 1 2) ∷ [])
  confirms_the_end_while_closing : LastRefused LinkState (closed ++ Sends A (DC_42 2 1) ∷ [])
  confirms_the_end_of_a_rejected_call : LastRefused LinkState (rejected ++ Sends B (DC_42 1 2) ∷ [])
  confirms_the_end_in_calling : AllMade (called ++ Sends A (DC_42 2 1) ∷ Sends A (CI 1) ∷ [])
  confirms_the_end_of_another_address : AllMade (connected ++ Sends B (DC_42 1 3) ∷ Sends B (DC_42 3 2) ∷ Sends B (DATA_ACK 1 2 (ack 0)) ∷ [])
  -- the call is refused for want of resources: the link is over
  refuses_the_call : LastRefused NoLink (called ++ Sends B (DC_42 1 0) ∷ Does B (Accept 1 2) ∷ [])
  refused_call_is_over : LastRefused NoLink (called ++ Sends B (DC_42 1 0) ∷ Sends B (CONNECT_ACK 1) ∷ [])
  refuses_another_call : AllMade (called ++ Sends B (DC_42 3 0) ∷ Does B (Accept 1 2) ∷ [])
  -- with another SRCADDR it ends no call
  ends_no_call : AllMade (called ++ Sends B (DC_42 1 7) ∷ Does B (Accept 1 2) ∷ [])
  -- an answered call is not ended by it
  refuses_an_answered_call : AllMade (opened ++ Sends B (DC_42 1 0) ∷ Sends B (CC_2 1 2) ∷ [])
  -- ---- segment, data ack, link service, interrupt, other-data ack: the link, else 18; in RUN, else 19
  segment_of_no_link : LastRefused NoLink (connected ++ Sends A (SEGMENT 0x60 3 1 FIRST) ∷ [])
  segment_in_called : LastRefused NoLink (called ++ Sends B (SEGMENT 0x60 1 2 FIRST) ∷ [])
  segment_in_confirming : LastRefused LinkState (opened ++ Sends B (SEGMENT 0x60 1 2 FIRST) ∷ [])
  segment_while_closing : LastRefused LinkState (closed ++ Sends A (SEGMENT 0x60 2 1 FIRST) ∷ [])
  segment_after_the_end : LastRefused NoLink (ended ++ Sends A (SEGMENT 0x60 2 1 FIRST) ∷ [])
  data_ack_in_run : AllMade (connected ++ Sends A (DATA_ACK 2 1 (ack 0)) ∷ Sends B (DATA_ACK 1 2 (ack 0)) ∷ [])
  data_ack_of_no_link : LastRefused NoLink (connected ++ Sends A (DATA_ACK 2 3 (ack 0)) ∷ [])
  data_ack_in_calling : LastRefused NoLink (called ++ Sends A (DATA_ACK 2 1 (ack 0)) ∷ [])
  data_ack_while_closing : LastRefused LinkState (rejected ++ Sends B (DATA_ACK 1 2 (ack 0)) ∷ [])
  data_ack_in_confirming : LastRefused LinkState (opened ++ Sends B (DATA_ACK 1 2 (ack 0)) ∷ [])
  carried_in_run : AllMade (connected ++ Sends A (LINK_SERVICE 2 1) ∷ Sends A (INTERRUPT 2 1) ∷ Sends A (OTHER_ACK 2 1) ∷ [])
  link_service_of_no_link : LastRefused NoLink (connected ++ Sends A (LINK_SERVICE 1 2) ∷ [])
  link_service_in_calling : LastRefused NoLink (called ++ Sends A (LINK_SERVICE 2 1) ∷ [])
  link_service_in_called : LastRefused NoLink (called ++ Sends B (LINK_SERVICE 1 2) ∷ [])
  link_service_while_closing : LastRefused LinkState (rejected ++ Sends B (LINK_SERVICE 1 2) ∷ [])
  link_service_in_confirming : LastRefused LinkState (opened ++ Sends B (LINK_SERVICE 1 2) ∷ [])
  interrupt_of_no_link : LastRefused NoLink (connected ++ Sends A (INTERRUPT 1 2) ∷ [])
  interrupt_in_calling : LastRefused NoLink (called ++ Sends A (INTERRUPT 2 1) ∷ [])
  interrupt_in_called : LastRefused NoLink (called ++ Sends B (INTERRUPT 1 2) ∷ [])
  interrupt_in_confirming : LastRefused LinkState (opened ++ Sends B (INTERRUPT 1 2) ∷ [])
  interrupt_while_closing : LastRefused LinkState (closed ++ Sends A (INTERRUPT 2 1) ∷ [])
  other_ack_of_no_link : LastRefused NoLink (connected ++ Sends A (OTHER_ACK 1 2) ∷ [])
  other_ack_in_calling : LastRefused NoLink (called ++ Sends A (OTHER_ACK 2 1) ∷ [])
  other_ack_in_called : LastRefused NoLink (called ++ Sends B (OTHER_ACK 1 2) ∷ [])
  other_ack_while_closing : LastRefused LinkState (rejected ++ Sends B (OTHER_ACK 1 2) ∷ [])
  other_ack_in_confirming : LastRefused LinkState (opened ++ Sends B (OTHER_ACK 1 2) ∷ [])
  -- ---- no operation: always
  no_operation_of_no_link : AllMade (Sends A NO_OPERATION ∷ [])
  -- ---- tags
  -- the second CI is that of link 1
  tag_of_a_call : HasTag A 0 (record { link = Some 1; partner = None }) (Does A (Open 1) ∷ Does A (Open 2) ∷ Sends A (CI 2) ∷ [])
  tag_of_a_connect_ack : HasTag B 0 (record { link = Some 0; partner = Some 0 }) (called ++ Sends B (CONNECT_ACK 1) ∷ [])
  -- b calls too, and its link 0 is its own call: the call of a began its link 1
  tag_of_a_confirmation : HasTag B 0 (record { link = Some 1; partner = Some 0 }) (Does B (Open 3) ∷ opened)
  tag_in_run : HasTag A 1 (record { link = Some 0; partner = Some 0 }) connected
  tag_of_no_operation : HasTag A 2 (record { link = None; partner = None }) (connected ++ Sends A NO_OPERATION ∷ [])
  tag_of_the_end_of_no_link : HasTag A 2 (record { link = None; partner = None }) (connected ++ Sends A (DC_42 7 8) ∷ [])
  tag_of_a_refused_call : HasTag B 0 (record { link = Some 0; partner = Some 0 }) (called ++ Sends B (DC_42 1 0) ∷ [])

computed : Rows
computed = search
