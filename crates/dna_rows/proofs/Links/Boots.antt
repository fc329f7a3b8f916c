-- Worked rows of calls that are given up and of boots: what the user may do then, what may be sent, and what comes, computed by both books.
use Rattle.dna_rows.proofs.Prelude.{List, [], ◌∷◌, ◌++◌, A, B, NoLink, LinkState, WrongDelivery, AddressInUse, CrossedLink, Boot}
use Rattle.dna_links.specs.User.{Open, Accept, In, Up, Close, Abort}
use Rattle.dna_rows.proofs.Units.{CI, CI_AGAIN, CC_2, DI, DC_42, DATA_ACK, ack, SEGMENT, carries}
use Rattle.dna_rows.proofs.Links.Steps.{Act, Does, Sends, Comes, AllMade, LastRefused, ChangesNothing}
use Rattle.dna_rows.proofs.Links.OneLink.{opened, connected, letters}

-- a calls b
abbrev called : List Act
called = Does A (Open 1) ∷ Sends A (CI 1) ∷ Comes B 0 ∷ []

-- and gives the call up
abbrev given_up : List Act
given_up = called ++ Does A (Abort 1) ∷ []

-- the same after b has accepted it, with a CC under way
abbrev given_up_late : List Act
given_up_late = opened ++ Does A (Abort 1) ∷ []

-- a's link is closed from there
abbrev closed : List Act
closed = connected ++ Does A (Close 1) ∷ []

-- a message has come at b whole
abbrev came : List Act
came = connected ++ Does A (In 1 (5 ∷ [])) ∷ Sends A (SEGMENT 0x60 2 1 (carries 1 (5 ∷ []))) ∷ Comes B 2 ∷ []

record Rows : Type 0 where
  -- ---- Abort: not live 18; unless Calling 19
  aborted_in_calling : AllMade given_up
  aborted_before_the_call_was_sent : AllMade (Does A (Open 1) ∷ Does A (Abort 1) ∷ [])
  opened_after_an_abort : AllMade (given_up ++ Does A (Open 1) ∷ Sends A (CI 1) ∷ [])
  aborted_unasked : LastRefused NoLink (called ++ Does A (Abort 2) ∷ [])
  aborted_twice : LastRefused NoLink (given_up ++ Does A (Abort 1) ∷ [])
  aborted_in_confirming : LastRefused LinkState (opened ++ Does B (Abort 2) ∷ [])
  aborted_in_run : LastRefused LinkState (connected ++ Does A (Abort 1) ∷ [])
  aborted_while_closing : LastRefused LinkState (closed ++ Does A (Abort 1) ∷ [])
  -- nothing is sent of it, and the address stays its last one
  sent_after_an_abort : LastRefused NoLink (given_up ++ Sends A (CI 1) ∷ [])
  handed_in_after_an_abort : LastRefused NoLink (given_up ++ Does A (In 1 letters) ∷ [])
  delivered_after_an_abort : LastRefused WrongDelivery (given_up ++ Does A (Up 1 []) ∷ [])
  -- a CC for it changes nothing; for the next call with its address it is of another link
  confirmed_after_an_abort : ChangesNothing A given_up_late (Comes A 0 ∷ [])
  confirmed_after_another_call : LastRefused CrossedLink (given_up_late ++ Does A (Open 1) ∷ Comes A 0 ∷ [])
  -- ---- Boot: in every phase
  booted_without_links : AllMade (Does A Boot ∷ Does A Boot ∷ [])
  booted_in_calling : AllMade (called ++ Does A Boot ∷ Does A (Open 1) ∷ Sends A (CI 1) ∷ [])
  booted_in_confirming : AllMade (opened ++ Does B Boot ∷ Does B (Open 2) ∷ [])
  booted_in_run : AllMade (connected ++ Does A Boot ∷ Does A (Open 1) ∷ Sends A (CI 1) ∷ [])
  booted_while_closing : AllMade (closed ++ Does A Boot ∷ Does A (Open 1) ∷ [])
  -- no link is left to its user, nor an address
  handed_in_after_a_boot : LastRefused NoLink (called ++ Does A (In 1 letters) ∷ Does A Boot ∷ Does A (In 1 letters) ∷ [])
  closed_after_a_boot : LastRefused NoLink (connected ++ Does A Boot ∷ Does A (Close 1) ∷ [])
  aborted_after_a_boot : LastRefused NoLink (called ++ Does A Boot ∷ Does A (Abort 1) ∷ [])
  delivered_after_a_boot : LastRefused NoLink (came ++ Does B Boot ∷ Does B (Up 2 (5 ∷ [])) ∷ [])
  delivered_without_a_boot : AllMade (came ++ Does B (Up 2 (5 ∷ [])) ∷ [])
  delivered_after_the_address_was_given_again : LastRefused WrongDelivery (came ++ Does B Boot ∷ Does B (Open 2) ∷ Does B (Up 2 (5 ∷ [])) ∷ [])
  delivered_after_the_end_and_a_boot : LastRefused NoLink (given_up ++ Does A Boot ∷ Does A (Up 1 []) ∷ [])
  -- a call that came before is forgotten, and its repeat begins a new one
  accepted_after_a_boot : LastRefused NoLink (called ++ Does B Boot ∷ Does B (Accept 1 2) ∷ [])
  called_again_after_a_boot : AllMade (called ++ Does B Boot ∷ Sends A (CI_AGAIN 1) ∷ Comes B 1 ∷ Does B (Accept 1 2) ∷ Sends B (CC_2 1 2) ∷ [])
  -- nothing is sent of a link of before; but a DC may be, since there is no such link
  sent_after_a_boot : LastRefused NoLink (connected ++ Does A Boot ∷ Sends A (DATA_ACK 2 1 (ack 0)) ∷ [])
  confirms_the_end_after_a_boot : AllMade (closed ++ Sends A (DI 2 1) ∷ Does B Boot ∷ Comes B 2 ∷ Sends B (DC_42 1 2) ∷ Comes A 1 ∷ [])
  -- what was under way to it changes nothing
  came_after_a_boot : ChangesNothing B
      (connected ++ Does A (In 1 (5 ∷ [])) ∷ Sends A (SEGMENT 0x60 2 1 (carries 1 (5 ∷ []))) ∷ Does B Boot ∷ []) (Comes B 2 ∷ [])
  -- the other end keeps its link and the address; a CI with an address that is live there is ignored as a repeat
  opened_beside_a_boot : LastRefused AddressInUse (connected ++ Does B Boot ∷ Does A (Open 1) ∷ [])
  called_beside_a_live_link : ChangesNothing B (connected ++ Does A Boot ∷ Does A (Open 1) ∷ Sends A (CI 1) ∷ []) (Comes B 2 ∷ [])

computed : Rows
computed = search
