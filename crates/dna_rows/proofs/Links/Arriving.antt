-- Each row of the table of what an arrival does, and each reason that may refuse it, computed by both books.
use Rattle.dna_rows.proofs.Prelude.{◌≡◌, true, false, ℕ, List, [], ◌∷◌, ◌++◌, Some, None, A, B, LinkTag, WrongNode, NoLink, SegmentTooLong}
use Rattle.dna_rows.proofs.Prelude.{CrossedLink, of_anyone}
use Rattle.dna_links.specs.User.{Open, Accept, Reject, In, Up, Close}
use Rattle.dna_rows.proofs.Units.{CI, CI_AGAIN, CI_AGAIN_2, CC_2, CONNECT_ACK, DI, DC_42, LINK_SERVICE, INTERRUPT, OTHER_ACK, NO_OPERATION, DATA_ACK}
use Rattle.dna_rows.proofs.Units.{ack, SEGMENT, carries}
use Rattle.dna_rows.proofs.Links.Steps.{Act, NODE_A, NODE_B, Does, Sends, Comes, ComesAs, Gets, AllMade, LastRefused, ChangesNothing, HasTag}
use Rattle.dna_rows.proofs.Links.OneLink.{opened, connected}
use Rattle.dna_rows.proofs.Links.User.{called, closed, ended, ended_at_b}

-- of link 0, whose partner is link 0; of a link without a partner; of none
abbrev of_the_pair : LinkTag
of_the_pair = record { link = Some 0; partner = Some 0 }

abbrev without_partner : LinkTag
without_partner = record { link = Some 0; partner = None }

abbrev of_none : LinkTag
of_none = record { link = None; partner = None }

abbrev OTHER_NODE : ℕ
OTHER_NODE = 0x0403

-- a's first link is over before its call is accepted; the call of its second one is a repeat to b, whose CC is for the first
abbrev called_by_a_later_link : List Act
called_by_a_later_link = called ++ Sends B (DC_42 1 7) ∷ Comes A 0 ∷ Does A (Open 1) ∷ Sends A (CI 1) ∷ Comes B 1 ∷ Does B (Accept 1 2) ∷
    Sends B (CC_2 1 2) ∷ []

-- b is in Confirming, a in RUN
abbrev confirming : List Act
confirming = opened ++ Comes A 0 ∷ Does A (In 1 (5 ∷ [])) ∷ []

-- The call of a's link 0 is accepted, and its DC ends that link of b; the same call, sent again, is accepted at the same address: b's link 1 is
-- its partner, and a has confirmed the first one
abbrev accepted_anew : List Act
accepted_anew = Does A (Open 1) ∷ Sends A (CI 1) ∷ Sends A (DC_42 2 1) ∷ Sends A (CI_AGAIN 1) ∷ Comes B 0 ∷ Does B (Accept 1 2) ∷ Sends B (CC_2 1 2) ∷
    Comes A 0 ∷ Comes B 1 ∷ Comes B 2 ∷ Does B (Accept 1 2) ∷ []

record Rows : Type 0 where
  -- ---- the two nodes, else 16; before any other check, and of every message
  call_from_another_node : LastRefused WrongNode (Gets B OTHER_NODE NODE_B (CI 1) without_partner ∷ [])
  call_to_another_node : LastRefused WrongNode (Gets B NODE_A OTHER_NODE (CI 1) without_partner ∷ [])
  no_operation_from_another_node : LastRefused WrongNode (Gets B OTHER_NODE NODE_B NO_OPERATION of_none ∷ [])
  connect_ack_to_another_node : LastRefused WrongNode (Does A (Open 1) ∷ Gets A NODE_B OTHER_NODE (CONNECT_ACK 1) of_none ∷ [])
  -- 16, and 25 fits too
  node_before_partner : LastRefused WrongNode (Does A (Open 1) ∷ Gets A OTHER_NODE NODE_A (CC_2 1 2) of_none ∷ [])
  -- ---- CI: a live link with that far address: a repeat; else a new link
  called_once : AllMade (called ++ Sends B (CONNECT_ACK 1) ∷ [])
  -- again in Called, in Confirming, in RUN and while closing
  called_again : ChangesNothing B called (Sends A (CI_AGAIN 1) ∷ Comes B 1 ∷ [])
  called_again_by_18 : ChangesNothing B called (Sends A (CI 1) ∷ Comes B 1 ∷ [])
  called_again_in_confirming : ChangesNothing B opened (Sends A (CI_AGAIN 1) ∷ Comes B 1 ∷ [])
  called_again_in_run : ChangesNothing B connected (Gets B NODE_A NODE_B (CI_AGAIN 1) without_partner ∷ [])
  called_again_while_closing : ChangesNothing B (connected ++ Does B (Close 2) ∷ []) (Gets B NODE_A NODE_B (CI_AGAIN 1) without_partner ∷ [])
  -- neither the partner nor SEGSIZE is a repeat's
  called_again_by_another_link : ChangesNothing B called (Gets B NODE_A NODE_B (CI 1) (record { link = Some 1; partner = None }) ∷ [])
  called_again_with_another_segsize : ChangesNothing B called (Gets B NODE_A NODE_B (CI_AGAIN_2 1) without_partner ∷ [])
  called_again_by_a_later_link : LastRefused CrossedLink (called_by_a_later_link ++ Comes A 1 ∷ [])
  -- the first CI is lost
  called_first_by_68 : AllMade (Does A (Open 1) ∷ Sends A (CI 1) ∷ Sends A (CI_AGAIN 1) ∷ Comes B 1 ∷ Does B (Accept 1 2) ∷ [])
  -- a live link that was opened here has that far address
  called_by_the_partner_of_an_own_call : ChangesNothing A connected (Gets A NODE_B NODE_A (CI 2) without_partner ∷ [])
  -- two calls from two addresses
  called_twice : AllMade (called ++ Does A (Open 2) ∷ Sends A (CI 2) ∷ Comes B 1 ∷ Does B (Accept 2 1) ∷ Does B (Accept 1 2) ∷ [])
  -- after the end the same address calls anew
  called_after_the_end : HasTag B 2 (record { link = Some 1; partner = Some 1 })
      (ended ++ Does A (Open 1) ∷ Sends A (CI 1) ∷ Comes B 3 ∷ Sends B (CONNECT_ACK 1) ∷ [])
  -- the SEGSIZE that was acted on is the CI's, 512: b may send three bytes
  takes_what_the_call_said : AllMade (connected ++ Does B (In 2 (1 ∷ 2 ∷ 3 ∷ [])) ∷ Sends B (SEGMENT 0x60 1 2 (carries 1 (1 ∷ 2 ∷ 3 ∷ []))) ∷ [])
  -- ---- connect ack, no operation: nothing
  connect_ack_comes : ChangesNothing A called (Sends B (CONNECT_ACK 1) ∷ Comes A 0 ∷ [])
  no_operation_comes : ChangesNothing A connected (Sends B NO_OPERATION ∷ Comes A 1 ∷ [])
  -- ---- CC: in Calling, for this link, else 25; else ignored
  -- to RUN: a may send a data ack to address 2, and its partner is link 0
  confirmed : HasTag A 1 of_the_pair (opened ++ Comes A 0 ∷ Sends A (DATA_ACK 2 1 (ack 0)) ∷ [])
  -- the SEGSIZE that was acted on is the CC's, 2
  takes_what_the_confirmation_said : LastRefused SegmentTooLong
      (connected ++ Does A (In 1 (1 ∷ 2 ∷ 3 ∷ [])) ∷ Sends A (SEGMENT 0x60 2 1 (carries 1 (1 ∷ 2 ∷ 3 ∷ []))) ∷ [])
  confirmation_for_another_link : LastRefused CrossedLink (opened ++ ComesAs A 0 (record { link = Some 0; partner = Some 1 }) ∷ [])
  confirmation_without_a_partner : LastRefused CrossedLink (opened ++ ComesAs A 0 without_partner ∷ [])
  confirmation_of_no_link : LastRefused CrossedLink (opened ++ ComesAs A 0 (record { link = None; partner = Some 0 }) ∷ [])
  -- it comes twice; from whom is not asked then
  confirmed_again : ChangesNothing A connected (Gets A NODE_B NODE_A (CC_2 1 2) of_none ∷ [])
  confirmed_while_closing : ChangesNothing A closed (Gets A NODE_B NODE_A (CC_2 1 2) of_the_pair ∷ [])
  confirmed_after_the_end : ChangesNothing A ended (Gets A NODE_B NODE_A (CC_2 1 2) of_the_pair ∷ [])
  confirmed_at_another_address : ChangesNothing A called (Gets A NODE_B NODE_A (CC_2 3 2) of_the_pair ∷ [])
  -- ---- DI, DC: the link, or the one in Calling, is ended; whoever the sender is
  disconnected_in_run : LastRefused NoLink (ended_at_b ++ Sends B (DI 1 2) ∷ [])
  disconnected_by_anyone : LastRefused NoLink (connected ++ Gets B NODE_A NODE_B (DI 2 1) of_none ∷ Sends B (DATA_ACK 1 2 (ack 0)) ∷ [])
  disconnected_in_confirming : LastRefused NoLink (opened ++ Gets B NODE_A NODE_B (DI 2 1) of_the_pair ∷ Sends B (CC_2 1 2) ∷ [])
  disconnected_in_calling : LastRefused NoLink (called ++ Does B (Reject 1 2) ∷ Sends B (DI 1 2) ∷ Comes A 0 ∷ Sends A (CI 1) ∷ [])
  disconnected_while_closing : LastRefused NoLink (closed ++ Gets A NODE_B NODE_A (DI 1 2) of_the_pair ∷ Sends A (DI 2 1) ∷ [])
  end_confirmed_in_confirming : LastRefused NoLink (opened ++ Gets B NODE_A NODE_B (DC_42 2 1) of_the_pair ∷ Sends B (CC_2 1 2) ∷ [])
  end_confirmed_while_closing : LastRefused NoLink (ended ++ Sends A (DI 2 1) ∷ [])
  end_confirmed_in_run : LastRefused NoLink (connected ++ Gets A NODE_B NODE_A (DC_42 1 2) of_none ∷ Sends A (DATA_ACK 2 1 (ack 0)) ∷ [])
  -- the call is refused with SRCADDR 0
  call_refused : LastRefused NoLink (called ++ Sends B (DC_42 1 0) ∷ Comes A 0 ∷ Sends A (CI 1) ∷ [])
  disconnected_from_another_address : ChangesNothing B connected
      (Gets B NODE_A NODE_B (DI 2 3) of_the_pair ∷ Gets B NODE_A NODE_B (DI 3 1) of_the_pair ∷ [])
  end_confirmed_from_another_address : ChangesNothing A closed
      (Gets A NODE_B NODE_A (DC_42 1 3) of_the_pair ∷ Gets A NODE_B NODE_A (DC_42 3 2) of_the_pair ∷ [])
  disconnected_in_called : ChangesNothing B called (Gets B NODE_A NODE_B (DI 0 1) of_the_pair ∷ Gets B NODE_A NODE_B (DC_42 0 1) of_the_pair ∷ [])
  disconnected_after_the_end : ChangesNothing B ended_at_b (Sends A (DI 2 1) ∷ Comes B 3 ∷ [])
  -- ---- segment, data ack, link service, interrupt, other-data ack: in Confirming or RUN, of this pair, else 25; Confirming goes to RUN
  segment_confirms : AllMade
      (confirming ++ Sends A (SEGMENT 0x60 2 1 (carries 1 (5 ∷ []))) ∷ Comes B 1 ∷ Sends B (DATA_ACK 1 2 (ack 1)) ∷ Does B (Up 2 (5 ∷ [])) ∷ [])
  data_ack_confirms : AllMade (confirming ++ Sends A (DATA_ACK 2 1 (ack 0)) ∷ Comes B 1 ∷ Sends B (DATA_ACK 1 2 (ack 0)) ∷ [])
  link_service_confirms : AllMade (confirming ++ Sends A (LINK_SERVICE 2 1) ∷ Comes B 1 ∷ Sends B (DATA_ACK 1 2 (ack 0)) ∷ [])
  interrupt_confirms : AllMade (confirming ++ Sends A (INTERRUPT 2 1) ∷ Comes B 1 ∷ Sends B (DATA_ACK 1 2 (ack 0)) ∷ [])
  other_ack_confirms : AllMade (confirming ++ Sends A (OTHER_ACK 2 1) ∷ Comes B 1 ∷ Sends B (DATA_ACK 1 2 (ack 0)) ∷ [])
  -- in Confirming it is another's
  segment_of_another_link : LastRefused CrossedLink
      (confirming ++ Sends A (SEGMENT 0x60 2 1 (carries 1 (5 ∷ []))) ∷ ComesAs B 1 (record { link = Some 1; partner = Some 0 }) ∷ [])
  segment_for_another_link : LastRefused CrossedLink
      (confirming ++ Sends A (SEGMENT 0x60 2 1 (carries 1 (5 ∷ []))) ∷ ComesAs B 1 (record { link = Some 0; partner = Some 1 }) ∷ [])
  segment_without_a_partner : LastRefused CrossedLink
      (confirming ++ Sends A (SEGMENT 0x60 2 1 (carries 1 (5 ∷ []))) ∷ ComesAs B 1 without_partner ∷ [])
  data_ack_of_another_link : LastRefused CrossedLink
      (connected ++ Gets B NODE_A NODE_B (DATA_ACK 2 1 (ack 0)) (record { link = Some 1; partner = Some 0 }) ∷ [])
  link_service_of_another_link : LastRefused CrossedLink
      (connected ++ Gets B NODE_A NODE_B (LINK_SERVICE 2 1) (record { link = Some 1; partner = Some 0 }) ∷ [])
  interrupt_of_no_link : LastRefused CrossedLink (connected ++ Gets B NODE_A NODE_B (INTERRUPT 2 1) of_none ∷ [])
  other_ack_for_another_link : LastRefused CrossedLink
      (connected ++ Gets B NODE_A NODE_B (OTHER_ACK 2 1) (record { link = Some 0; partner = Some 1 }) ∷ [])
  data_ack_of_the_pair_before : LastRefused CrossedLink (accepted_anew ++ Sends A (DATA_ACK 2 1 (ack 0)) ∷ Comes B 3 ∷ [])
  link_service_of_the_pair_before : LastRefused CrossedLink (accepted_anew ++ Sends A (LINK_SERVICE 2 1) ∷ Comes B 3 ∷ [])
  interrupt_of_the_pair_before : LastRefused CrossedLink (accepted_anew ++ Sends A (INTERRUPT 2 1) ∷ Comes B 3 ∷ [])
  -- a link whose caller was not known has no partner, and a tag without a link is not of it
  segment_of_no_link : LastRefused CrossedLink
      (Gets B NODE_A NODE_B (CI 1) of_none ∷ Does B (Accept 1 2) ∷
      Gets B NODE_A NODE_B (DATA_ACK 2 1 (ack 0)) (record { link = None; partner = Some 0 }) ∷ [])
  -- ---- in any other phase, and at any other addresses, they are ignored, whoever the sender is
  carried_while_closing : ChangesNothing A closed
      (Gets A NODE_B NODE_A (SEGMENT 0x60 1 2 (carries 1 (5 ∷ []))) of_none ∷ Gets A NODE_B NODE_A (DATA_ACK 1 2 (ack 0)) of_none ∷
      Gets A NODE_B NODE_A (LINK_SERVICE 1 2) of_none ∷ Gets A NODE_B NODE_A (INTERRUPT 1 2) of_none ∷ Gets A NODE_B NODE_A (OTHER_ACK 1 2) of_none ∷
      [])
  carried_in_calling : ChangesNothing A called
      (Gets A NODE_B NODE_A (DATA_ACK 1 2 (ack 0)) of_none ∷ Gets A NODE_B NODE_A (SEGMENT 0x60 1 2 (carries 1 (5 ∷ []))) of_none ∷ [])
  carried_to_another_address : ChangesNothing B connected
      (Gets B NODE_A NODE_B (DATA_ACK 2 3 (ack 0)) of_none ∷ Gets B NODE_A NODE_B (DATA_ACK 3 1 (ack 0)) of_none ∷ [])
  carried_after_the_end : ChangesNothing B ended_at_b (Gets B NODE_A NODE_B (SEGMENT 0x60 2 1 (carries 1 (5 ∷ []))) of_the_pair ∷ [])
  -- a segment of the link that had the two addresses before: its partner is another link
  carried_from_an_earlier_link : LastRefused CrossedLink
      (ended ++ Does A (Open 1) ∷ Sends A (CI 1) ∷ Comes B 3 ∷ Does B (Accept 1 2) ∷ ComesAs B 1 of_the_pair ∷ [])
  -- ---- a player's node asks for no partner
  anyone : (of_anyone true ≡ true) × (of_anyone false ≡ true)

computed : Rows
computed = search
