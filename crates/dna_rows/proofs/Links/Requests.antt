-- The rows of one node whose links meet every kind of message, computed by both books.
use Rattle.dna_rows.proofs.Prelude.{ℕ, List, [], ◌∷◌, ◌++◌, Some, A, B, WrongNode, NoLink, LinkState, WrongAck, CrossedLink, AddressInUse}
use Rattle.dna_links.specs.User.{Open, Accept, In, Close}
use Rattle.dna_rows.proofs.Units.{CI, CC_2, DI, LINK_SERVICE, INTERRUPT, OTHER_ACK, NO_OPERATION, DATA_ACK, ack, SEGMENT, carries}
use Rattle.dna_rows.proofs.Links.Steps.{Act, NODE_B, Does, Sends, SendsAs, Comes, ComesAs, AllMade, LastRefused, ChangesNothing}

abbrev opened_at_a : List Act
opened_at_a = Does A (Open 1) ∷ []

-- the CC belongs to link 1, and there is link 0 alone; then it comes as it was sent
abbrev confirmed_by_b : List Act
confirmed_by_b = opened_at_a ++ Sends A (CI 1) ∷ Comes B 0 ∷ Does B (Accept 1 2) ∷ Sends B (CC_2 1 2) ∷ []

abbrev in_run : List Act
in_run = confirmed_by_b ++ ComesAs A 0 (record { link = Some 0; partner = Some 0 }) ∷ []

-- a segment with a word each way
abbrev WITH_WORD : List ℕ
WITH_WORD = SEGMENT 0x60 2 1 (ack 0 ++ carries 1 (5 ∷ []))

abbrev exchanged : List Act
exchanged = in_run ++ Does A (In 1 (5 ∷ [])) ∷ Sends A WITH_WORD ∷ Comes B 1 ∷ Does B (In 2 (6 ∷ [])) ∷ Sends B (SEGMENT 0x60 1 2 (carries 1 (6 ∷
    []))) ∷ Comes A 1 ∷ Sends A (DATA_ACK 2 1 (ack 1)) ∷ []

record Rows : Type 0 where
  opened_twice : LastRefused AddressInUse (opened_at_a ++ Does A (Open 1) ∷ [])
  closed_too_early : LastRefused LinkState (opened_at_a ++ Does A (Close 1) ∷ [])
  accepted_unasked : LastRefused NoLink (opened_at_a ++ Does A (Accept 9 2) ∷ [])
  -- from node 1.3
  call_from_another_node : LastRefused WrongNode (opened_at_a ++ SendsAs A 0x0403 NODE_B (CI 1) ∷ [])
  confirmation_for_another_link : LastRefused CrossedLink (confirmed_by_b ++ ComesAs A 0 (record { link = Some 0; partner = Some 1 }) ∷ [])
  -- the first segment may go again with its old word, and alone that word may not
  sent_again_with_its_old_word : AllMade (exchanged ++ Sends A WITH_WORD ∷ [])
  old_word_alone : LastRefused WrongAck (exchanged ++ Sends A WITH_WORD ∷ Sends A (DATA_ACK 2 1 (ack 0)) ∷ [])
  -- link service, interrupt, other-data ack and no operation may go
  carried_there : AllMade (exchanged ++ Sends A (LINK_SERVICE 2 1) ∷ Sends A (INTERRUPT 2 1) ∷ Sends A (OTHER_ACK 2 1) ∷ Sends A NO_OPERATION ∷ [])
  -- and change nothing where they come
  carried_back : ChangesNothing A exchanged
      (Sends B (LINK_SERVICE 1 2) ∷ Sends B (INTERRUPT 1 2) ∷ Sends B (OTHER_ACK 1 2) ∷ Sends B NO_OPERATION ∷ Comes A 2 ∷ Comes A 3 ∷ Comes A 4 ∷
      Comes A 5 ∷ [])
  -- the DI needs the close
  disconnects_unclosed : LastRefused LinkState (exchanged ++ Sends A (DI 2 1) ∷ [])
  closed : AllMade (exchanged ++ Does A (Close 1) ∷ Sends A (DI 2 1) ∷ [])
  handed_in_after_the_close : LastRefused LinkState (exchanged ++ Does A (Close 1) ∷ Sends A (DI 2 1) ∷ Does A (In 1 (5 ∷ [])) ∷ [])

computed : Rows
computed = search
