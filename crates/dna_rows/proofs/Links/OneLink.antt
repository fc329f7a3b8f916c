-- The worked rows of one link, computed from the definitions on true numbers and on those that a node keeps: from the opening on, with
-- every refusal on the way.
use Rattle.dna_rows.proofs.Prelude.{ℕ, List, [], ◌∷◌, ◌++◌, A, B, WrongAck, SegmentTooLong, WrongDelivery}
use Rattle.dna_links.specs.User.{Open, Accept, In, Up}
use Rattle.dna_rows.proofs.Units.{CI, CI_AGAIN, CC_2, DATA_ACK, ack, SEGMENT, carries}
use Rattle.dna_rows.proofs.Links.Steps.{Act, Does, Sends, Comes, AllMade, LastRefused}

abbrev pub opened : List Act
opened = Does A (Open 1) ∷ Sends A (CI 1) ∷ Comes B 0 ∷ Does B (Accept 1 2) ∷ Sends B (CC_2 1 2) ∷ []

-- the data ack in answer to the CC brings b into RUN
abbrev pub connected : List Act
connected = opened ++ Comes A 0 ∷ Sends A (DATA_ACK 2 1 (ack 0)) ∷ Comes B 1 ∷ []

abbrev pub letters : List ℕ
letters = 0x61 ∷ 0x62 ∷ 0x63 ∷ 0x64 ∷ 0x65 ∷ []

abbrev given : List Act
given = Does A (In 1 letters) ∷ Does A (In 1 []) ∷ Sends A (SEGMENT 0x20 2 1 (carries 1 (0x61 ∷ 0x62 ∷ []))) ∷
    Sends A (SEGMENT 0x00 2 1 (carries 2 (0x63 ∷ 0x64 ∷ []))) ∷ Sends A (SEGMENT 0x40 2 1 (carries 3 (0x65 ∷ []))) ∷
    Sends A (SEGMENT 0x60 2 1 (carries 4 [])) ∷ []

-- all but the first come
abbrev one_missing : List Act
one_missing = connected ++ given ++ Comes B 3 ∷ Comes B 4 ∷ Comes B 5 ∷ []

-- it comes again
abbrev none_missing : List Act
none_missing = one_missing ++ Sends A (SEGMENT 0x20 2 1 (carries 1 (0x61 ∷ 0x62 ∷ []))) ∷ Comes B 6 ∷ []

record Rows : Type 0 where
  one_link : AllMade (none_missing ++ Does B (Up 2 letters) ∷ Does B (Up 2 []) ∷ Sends B (DATA_ACK 1 2 (ack 4)) ∷ Comes A 1 ∷ [])
  -- while the first is missing nothing of it is acknowledged, and nothing is delivered
  nothing_acknowledged : AllMade (one_missing ++ Sends B (DATA_ACK 1 2 (ack 0)) ∷ [])
  acknowledges_over_a_gap : LastRefused WrongAck (one_missing ++ Sends B (DATA_ACK 1 2 (ack 1)) ∷ [])
  delivered_too_early : LastRefused WrongDelivery (one_missing ++ Does B (Up 2 letters) ∷ [])
  -- the empty message is the second
  second_message_first : LastRefused WrongDelivery (none_missing ++ Does B (Up 2 []) ∷ [])
  -- b takes two data bytes in a segment
  segment_too_long : LastRefused SegmentTooLong
      (connected ++ Does A (In 1 letters) ∷ Sends A (SEGMENT 0x20 2 1 (carries 1 (0x61 ∷ 0x62 ∷ 0x63 ∷ []))) ∷ [])
  -- after b accepted and before a has the CC, the CI comes again and is ignored; the CC may be sent once more
  repeated_connect : AllMade (opened ++ Sends A (CI_AGAIN 1) ∷ Comes B 1 ∷ Sends B (CC_2 1 2) ∷ Comes A 1 ∷ [])

computed : Rows
computed = search
