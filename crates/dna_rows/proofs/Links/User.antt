-- Each row of the table of what the user does, and each reason that may refuse it, computed by both books.
use Rattle.dna_rows.proofs.Prelude.{ℕ, List, [], ◌∷◌, ◌++◌, A, B, NoLink, LinkState, WrongDelivery, AddressInUse}
use Rattle.dna_links.specs.User.{Open, Accept, Reject, In, Up, Close}
use Rattle.dna_rows.proofs.Units.{CI, CC_2, DI, DC_42, DATA_ACK, ack, SEGMENT, carries}
use Rattle.dna_rows.proofs.Links.Steps.{Act, Does, Sends, Comes, AllMade, LastRefused}
use Rattle.dna_rows.proofs.Links.OneLink.{opened, connected, letters}

-- b is called by link 1 of a
abbrev pub called : List Act
called = Does A (Open 1) ∷ Sends A (CI 1) ∷ Comes B 0 ∷ []

-- a closes the link; b has its DI; a has the DC
abbrev pub closed : List Act
closed = connected ++ Does A (Close 1) ∷ []

abbrev pub ended_at_b : List Act
ended_at_b = closed ++ Sends A (DI 2 1) ∷ Comes B 2 ∷ []

abbrev pub ended : List Act
ended = ended_at_b ++ Sends B (DC_42 1 2) ∷ Comes A 1 ∷ []

-- b has a whole message and the beginning of another; then the link ends at both sides
abbrev piece : (flag number byte : ℕ) → Act
piece flag number byte = Sends A (SEGMENT flag 2 1 (carries number (byte ∷ [])))

abbrev came_before_the_close : List Act
came_before_the_close = connected ++ Does A (In 1 (5 ∷ 6 ∷ [])) ∷ Does A (In 1 (7 ∷ 8 ∷ [])) ∷ piece 0x20 1 5 ∷ piece 0x40 2 6 ∷ piece 0x20 3 7 ∷
    Comes B 2 ∷ Comes B 3 ∷ Comes B 4 ∷ []

abbrev came_before_the_end : List Act
came_before_the_end = came_before_the_close ++ Does A (Close 1) ∷ Sends A (DI 2 1) ∷ Comes B 5 ∷ []

-- b's link 2 is over with a message that is not delivered, and is called again by a's link 1
abbrev called_after_the_end : List Act
called_after_the_end = connected ++ Does A (In 1 (5 ∷ [])) ∷ piece 0x60 1 5 ∷ Comes B 2 ∷ Does A (Close 1) ∷ Sends A (DI 2 1) ∷ Comes B 3 ∷
    Sends B (DC_42 1 2) ∷ Comes A 1 ∷ Does A (Open 1) ∷ Sends A (CI 1) ∷ Comes B 4 ∷ []

-- It is given to a link that began earlier than the one that had it: link 0 of a is called by link 3 of b before a opens 1, which gets a
-- message and ends
abbrev given_to_an_earlier_link : List Act
given_to_an_earlier_link = Does B (Open 3) ∷ Sends B (CI 3) ∷ Comes A 0 ∷ called ++ Does B (Accept 1 2) ∷ Sends B (CC_2 1 2) ∷ Comes A 1 ∷
    Sends A (DATA_ACK 2 1 (ack 0)) ∷ Comes B 1 ∷ Does B (In 2 (5 ∷ [])) ∷ Sends B (SEGMENT 0x60 1 2 (carries 1 (5 ∷ []))) ∷ Comes A 2 ∷
    Does B (Close 2) ∷ Sends B (DI 1 2) ∷ Comes A 3 ∷ []

record Rows : Type 0 where
  -- ---- Open: in use 26
  two_links_opened : AllMade (Does A (Open 1) ∷ Does A (Open 2) ∷ Sends A (CI 2) ∷ [])
  opened_twice : LastRefused AddressInUse (Does A (Open 1) ∷ Does A (Open 1) ∷ [])
  opened_while_closing : LastRefused AddressInUse (closed ++ Does A (Open 1) ∷ [])
  -- an address is used again after its link ended
  opened_after_the_end : AllMade (ended ++ Does A (Open 1) ∷ Sends A (CI 1) ∷ Comes B 3 ∷ Does B (Accept 1 2) ∷ Sends B (CC_2 1 2) ∷ Comes A 2 ∷ [])
  -- ---- Accept and Reject: no call 18, in use 26
  accepted : AllMade (called ++ Does B (Accept 1 2) ∷ Sends B (CC_2 1 2) ∷ [])
  accepted_unasked : LastRefused NoLink (called ++ Does B (Accept 9 2) ∷ [])
  accepted_twice : LastRefused NoLink (called ++ Does B (Accept 1 2) ∷ Does B (Accept 1 3) ∷ [])
  accepted_at_a_used_address : LastRefused AddressInUse (called ++ Does B (Open 2) ∷ Does B (Accept 1 2) ∷ [])
  -- 18, and 26 fits too
  call_before_address : LastRefused NoLink (Does B (Open 2) ∷ Does B (Accept 9 2) ∷ [])
  delivered_after_another_call : AllMade (called_after_the_end ++ Does B (Accept 1 3) ∷ Does B (Up 2 (5 ∷ [])) ∷ [])
  -- the earlier link has lost the address
  accepted_at_the_address_of_an_earlier_link : LastRefused WrongDelivery (called_after_the_end ++ Does B (Accept 1 2) ∷ Does B (Up 2 (5 ∷ [])) ∷ [])
  rejected : AllMade (called ++ Does B (Reject 1 2) ∷ Sends B (DI 1 2) ∷ [])
  -- the phase is DI, not Confirming
  rejected_and_confirmed : LastRefused LinkState (called ++ Does B (Reject 1 2) ∷ Sends B (CC_2 1 2) ∷ [])
  rejected_unasked : LastRefused NoLink (called ++ Does B (Reject 9 2) ∷ [])
  call_before_address_of_a_rejection : LastRefused NoLink (Does B (Open 2) ∷ Does B (Reject 9 2) ∷ [])
  rejected_at_the_address_of_an_earlier_link : LastRefused WrongDelivery (called_after_the_end ++ Does B (Reject 1 2) ∷ Does B (Up 2 (5 ∷ [])) ∷ [])
  rejected_after_acceptance : LastRefused NoLink (called ++ Does B (Accept 1 2) ∷ Does B (Reject 1 3) ∷ [])
  rejected_at_a_used_address : LastRefused AddressInUse (called ++ Does B (Open 2) ∷ Does B (Reject 1 2) ∷ [])
  -- ---- In: not live 18; unless Calling, Confirming or RUN 19
  handed_in_calling : AllMade (called ++ Does A (In 1 letters) ∷ [])
  handed_in_confirming : AllMade (opened ++ Does B (In 2 letters) ∷ [])
  handed_in_run : AllMade (connected ++ Does B (In 2 letters) ∷ [])
  -- what is handed in before RUN is carried in RUN
  carried_when_confirmed : AllMade
      (called ++ Does A (In 1 (5 ∷ [])) ∷ Does B (Accept 1 2) ∷ Does B (In 2 (6 ∷ [])) ∷ Sends B (CC_2 1 2) ∷ Comes A 0 ∷
      Sends A (SEGMENT 0x60 2 1 (carries 1 (5 ∷ []))) ∷ Comes B 1 ∷ Sends B (SEGMENT 0x60 1 2 (carries 1 (6 ∷ []))) ∷ [])
  handed_in_unasked : LastRefused NoLink (called ++ Does A (In 2 letters) ∷ [])
  handed_in_while_closing : LastRefused LinkState (closed ++ Does A (In 1 letters) ∷ [])
  handed_in_after_the_end : LastRefused NoLink (ended ++ Does A (In 1 letters) ∷ [])
  -- ---- Up: no link 18; not the next whole message 24; in every phase
  delivered_to_nobody : LastRefused NoLink (called ++ Does B (Up 2 letters) ∷ [])
  delivered_unasked : LastRefused WrongDelivery (called ++ Does A (Up 1 []) ∷ [])
  delivered_to_a_rejected_link : LastRefused WrongDelivery (called ++ Does B (Reject 1 2) ∷ Does B (Up 2 []) ∷ [])
  delivered_while_closing : AllMade (came_before_the_close ++ Does B (Close 2) ∷ Does B (Up 2 (5 ∷ 6 ∷ [])) ∷ [])
  delivered_after_the_end : AllMade (came_before_the_end ++ Does B (Up 2 (5 ∷ 6 ∷ [])) ∷ [])
  delivered_changed : LastRefused WrongDelivery (came_before_the_end ++ Does B (Up 2 (5 ∷ 7 ∷ [])) ∷ [])
  delivered_twice : LastRefused WrongDelivery (came_before_the_end ++ Does B (Up 2 (5 ∷ 6 ∷ [])) ∷ Does B (Up 2 (5 ∷ 6 ∷ [])) ∷ [])
  delivered_in_part : LastRefused WrongDelivery (came_before_the_end ++ Does B (Up 2 (5 ∷ 6 ∷ [])) ∷ Does B (Up 2 (7 ∷ [])) ∷ [])
  -- the address is given again, and its new link has got nothing
  delivered_after_the_address_was_given_again : LastRefused WrongDelivery (came_before_the_end ++ Does B (Open 2) ∷ Does B (Up 2 (5 ∷ 6 ∷ [])) ∷ [])
  delivered_from_the_later_link : AllMade (given_to_an_earlier_link ++ Does A (Up 1 (5 ∷ [])) ∷ [])
  delivered_to_the_one_that_got_it_last : LastRefused WrongDelivery (given_to_an_earlier_link ++ Does A (Accept 3 1) ∷ Does A (Up 1 (5 ∷ [])) ∷ [])
  -- ---- Close: not live 18; unless Confirming or RUN 19
  closed_in_confirming : AllMade (opened ++ Does B (Close 2) ∷ Sends B (DI 1 2) ∷ [])
  closed_in_run : AllMade (closed ++ Sends A (DI 2 1) ∷ [])
  closed_unasked : LastRefused NoLink (called ++ Does A (Close 2) ∷ [])
  closed_in_calling : LastRefused LinkState (called ++ Does A (Close 1) ∷ [])
  closed_twice : LastRefused LinkState (closed ++ Does A (Close 1) ∷ [])
  closed_after_the_end : LastRefused NoLink (ended_at_b ++ Does B (Close 2) ∷ [])

computed : Rows
computed = search
