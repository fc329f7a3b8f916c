-- Numbers, acknowledgement words and pieces: each check of a segment and of a word, and what they do where they come, computed by both
-- books.
use Rattle.dna_rows.proofs.Prelude.{ℕ, List, [], ◌∷◌, ◌++◌, A, B, WrongSegment, WrongAck, SegmentTooLong, WrongDelivery}
use Rattle.dna_links.specs.User.{In, Up}
use Rattle.dna_rows.proofs.Units.{DATA_ACK, ack, nak, other_ack, other_nak, SEGMENT, carries}
use Rattle.dna_rows.proofs.Links.Steps.{Act, Does, Sends, Comes, AllMade, LastRefused, ChangesNothing}
use Rattle.dna_rows.proofs.Links.OneLink.{connected}

-- a segment of a, which may hold two data bytes; one of b
abbrev segment : (flag number : ℕ) → List ℕ → Act
segment flag number body = Sends A (SEGMENT flag 2 1 (carries number body))

abbrev segment_with : List ℕ → (number byte : ℕ) → Act
segment_with words number byte = Sends A (SEGMENT 0x60 2 1 (words ++ carries number (byte ∷ [])))

abbrev from_b : (number byte : ℕ) → Act
from_b number byte = Sends B (SEGMENT 0x60 1 2 (carries number (byte ∷ [])))

-- words of a, and of b
abbrev words : List ℕ → Act
words bytes = Sends A (DATA_ACK 2 1 bytes)

abbrev words_of_b : List ℕ → Act
words_of_b bytes = Sends B (DATA_ACK 1 2 bytes)

-- a has been handed messages of one byte: 1, 2 and 3
abbrev handed : List Act
handed = connected ++ Does A (In 1 (1 ∷ [])) ∷ Does A (In 1 (2 ∷ [])) ∷ Does A (In 1 (3 ∷ [])) ∷ []

-- it has given 1 and 2, and has received 1 and 2 from b
abbrev got_two : List Act
got_two = handed ++ segment 0x60 1 (1 ∷ []) ∷ segment 0x60 2 (2 ∷ []) ∷ Does B (In 2 (7 ∷ [])) ∷ Does B (In 2 (8 ∷ [])) ∷ from_b 1 7 ∷ from_b 2 8 ∷
    Comes A 1 ∷ Comes A 2 ∷ []

abbrev long : List Act
long = connected ++ Does A (In 1 (1 ∷ 2 ∷ 3 ∷ 4 ∷ [])) ∷ Does A (In 1 (5 ∷ [])) ∷ []

-- b has the first
abbrev acknowledged_one : List Act
acknowledged_one = got_two ++ Comes B 2 ∷ words_of_b (ack 1) ∷ Comes A 3 ∷ []

-- b has both
abbrev b_got_two : List Act
b_got_two = got_two ++ Comes B 2 ∷ Comes B 3 ∷ []

abbrev three_given : List Act
three_given = handed ++ segment 0x60 1 (1 ∷ []) ∷ segment 0x60 2 (2 ∷ []) ∷ segment 0x60 3 (3 ∷ []) ∷ []

record Rows : Type 0 where
  -- ---- words, else 21: from the last one sent through the highest received
  what_came_is_acknowledged : AllMade (got_two ++ words (ack 0) ∷ words (ack 1) ∷ words (ack 1) ∷ words (nak 2) ∷ [])
  acknowledges_more_than_came : LastRefused WrongAck (got_two ++ words (ack 3) ∷ [])
  asks_for_more_than_came : LastRefused WrongAck (got_two ++ words (nak 3) ∷ [])
  acknowledges_less_than_before : LastRefused WrongAck (got_two ++ words (ack 2) ∷ words (ack 1) ∷ [])
  -- the second word is judged from what the first left
  two_words : AllMade (got_two ++ words (ack 1 ++ ack 2) ∷ [])
  second_word_goes_back : LastRefused WrongAck (got_two ++ words (ack 2 ++ ack 1) ∷ [])
  second_word_goes_beyond : LastRefused WrongAck (got_two ++ words (ack 2 ++ nak 3) ∷ [])
  -- words of the other subchannel are not judged, and leave the last one as it is
  words_of_the_other_subchannel : AllMade
      (got_two ++ words (other_ack 200) ∷ words (other_ack 2) ∷ words (other_nak 2) ∷ words (other_ack 9 ++ ack 1) ∷ words (ack 1 ++ other_nak 0) ∷
      words (ack 1) ∷ [])
  -- the same of the words of a new segment
  new_segment_acknowledges : LastRefused WrongAck (got_two ++ segment_with (ack 2) 3 3 ∷ words (ack 1) ∷ [])
  new_segment_acknowledges_too_much : LastRefused WrongAck (got_two ++ segment_with (ack 3) 3 3 ∷ [])
  new_segment_goes_back : LastRefused WrongAck (got_two ++ words (ack 2) ∷ segment_with (ack 1) 3 3 ∷ [])
  -- a segment that is sent again may go back, and leaves the last one as it is
  repeat_goes_back : AllMade (got_two ++ words (ack 2) ∷ segment_with (ack 0) 1 1 ∷ segment_with (ack 1 ++ ack 0) 2 2 ∷ words (ack 2) ∷ [])
  repeat_moves_nothing_back : LastRefused WrongAck (got_two ++ words (ack 2) ∷ segment_with (ack 1) 1 1 ∷ words (ack 1) ∷ [])
  repeat_acknowledges : LastRefused WrongAck (got_two ++ segment_with (ack 2 ++ ack 1) 1 1 ∷ words (ack 1) ∷ [])
  repeat_acknowledges_too_much : LastRefused WrongAck (got_two ++ segment_with (ack 3) 1 1 ∷ [])
  -- 21, and 20 fits too
  words_before_the_data_of_a_repeat : LastRefused WrongAck (got_two ++ segment_with (ack 3) 1 9 ∷ [])
  -- number 4,095 lies below 0
  repeat_goes_below_zero : LastRefused WrongAck (got_two ++ segment_with (0xff ∷ 0x8f ∷ []) 1 1 ∷ [])
  -- ---- a new segment: too long 22, not the next piece 20; words first
  -- 21, and 22 and 20 fit too
  words_before_length : LastRefused WrongAck (connected ++ Sends A (SEGMENT 0x60 2 1 (ack 1 ++ carries 1 (1 ∷ 2 ∷ 3 ∷ []))) ∷ [])
  -- 22, and 20 fits too
  length_before_piece : LastRefused SegmentTooLong (connected ++ segment 0x60 1 (1 ∷ 2 ∷ 3 ∷ []) ∷ [])
  as_long_as_it_may_be : AllMade
      (long ++ segment 0x20 1 (1 ∷ 2 ∷ []) ∷ segment 0x00 2 (3 ∷ []) ∷ segment 0x40 3 (4 ∷ []) ∷ segment 0x60 4 (5 ∷ []) ∷ [])
  nothing_was_handed_in : LastRefused WrongSegment (connected ++ segment 0x60 1 [] ∷ [])
  nothing_is_left : LastRefused WrongSegment
      (handed ++ segment 0x60 1 (1 ∷ []) ∷ segment 0x60 2 (2 ∷ []) ∷ segment 0x60 3 (3 ∷ []) ∷ segment 0x60 4 (3 ∷ []) ∷ [])
  other_data : LastRefused WrongSegment (long ++ segment 0x20 1 (1 ∷ 3 ∷ []) ∷ [])
  -- flag byte 00: it does not say that it begins the message; flag byte 20 again: it says so of the next piece
  unbegun : LastRefused WrongSegment (long ++ segment 0x00 1 (1 ∷ 2 ∷ []) ∷ [])
  begun_twice : LastRefused WrongSegment (long ++ segment 0x20 1 (1 ∷ 2 ∷ []) ∷ segment 0x20 2 (3 ∷ []) ∷ [])
  ended_too_early : LastRefused WrongSegment (long ++ segment 0x60 1 (1 ∷ 2 ∷ []) ∷ [])
  not_ended : LastRefused WrongSegment (long ++ segment 0x20 1 (1 ∷ 2 ∷ []) ∷ segment 0x00 2 (3 ∷ 4 ∷ []) ∷ [])
  -- the bytes go on into the next message
  two_messages_in_one : LastRefused WrongSegment (connected ++ Does A (In 1 (1 ∷ [])) ∷ Does A (In 1 (2 ∷ [])) ∷ segment 0x60 1 (1 ∷ 2 ∷ []) ∷ [])
  empty_piece : LastRefused WrongSegment (long ++ segment 0x20 1 [] ∷ [])
  empty_piece_in_the_middle : LastRefused WrongSegment (long ++ segment 0x20 1 (1 ∷ 2 ∷ []) ∷ segment 0x00 2 [] ∷ [])
  empty_message : AllMade (connected ++ Does A (In 1 []) ∷ segment 0x60 1 [] ∷ [])
  -- ---- any other number is that of one of the last 2,047, else 20
  number_skipped : LastRefused WrongSegment (handed ++ segment 0x60 2 (1 ∷ []) ∷ [])
  number_zero : LastRefused WrongSegment (handed ++ segment 0x60 0 (1 ∷ []) ∷ [])
  number_zero_later : LastRefused WrongSegment (got_two ++ segment 0x60 0 (1 ∷ []) ∷ [])
  number_above_the_next : LastRefused WrongSegment (got_two ++ segment 0x60 4 (3 ∷ []) ∷ [])
  -- its words may go back, though it is none of the last 2,047: 20; but not beyond what came: 21
  words_of_a_wrong_number : LastRefused WrongSegment (got_two ++ words (ack 2) ∷ segment_with (ack 1) 9 3 ∷ [])
  words_before_number : LastRefused WrongAck (got_two ++ segment_with (ack 3) 9 3 ∷ [])
  -- ---- sent again: as it was first given, else 20; once acknowledged it is not judged further
  sent_again : AllMade (got_two ++ segment 0x60 2 (2 ∷ []) ∷ segment 0x60 1 (1 ∷ []) ∷ segment 0x60 3 (3 ∷ []) ∷ segment 0x60 2 (2 ∷ []) ∷ [])
  sent_again_with_other_data : LastRefused WrongSegment (got_two ++ segment 0x60 2 (3 ∷ []) ∷ [])
  sent_again_with_more_data : LastRefused WrongSegment (got_two ++ segment 0x60 2 (2 ∷ 2 ∷ []) ∷ [])
  sent_again_without_its_beginning : LastRefused WrongSegment (got_two ++ segment 0x40 2 (2 ∷ []) ∷ [])
  sent_again_without_its_end : LastRefused WrongSegment (got_two ++ segment 0x20 2 (2 ∷ []) ∷ [])
  sent_again_once_acknowledged : AllMade (acknowledged_one ++ segment 0x60 1 (1 ∷ []) ∷ segment 0x00 1 (9 ∷ 9 ∷ []) ∷ [])
  -- the first of two words that come counts too
  acknowledged_by_the_first_word : AllMade
      (got_two ++ Comes B 2 ∷ Sends B (SEGMENT 0x60 1 2 (ack 1 ++ ack 0 ++ carries 1 (7 ∷ []))) ∷ Comes A 3 ∷ segment 0x60 1 (9 ∷ []) ∷ [])
  -- however long it is
  sent_again_longer_once_acknowledged : AllMade (acknowledged_one ++ segment 0x60 1 (9 ∷ 9 ∷ 9 ∷ []) ∷ [])
  sent_again_behind_the_acknowledged : LastRefused WrongSegment (acknowledged_one ++ segment 0x60 2 (9 ∷ []) ∷ [])
  -- ---- words that come: they acknowledge all through their number
  acknowledged_through_two : AllMade (b_got_two ++ words_of_b (ack 2) ∷ Comes A 3 ∷ segment 0x60 1 (9 ∷ []) ∷ segment 0x60 2 (9 ∷ []) ∷ [])
  asked_for_the_third : AllMade (b_got_two ++ words_of_b (nak 2) ∷ Comes A 3 ∷ segment 0x60 1 (9 ∷ []) ∷ segment 0x60 2 (9 ∷ []) ∷ [])
  acknowledged_by_the_second_word : AllMade (b_got_two ++ words_of_b (ack 1 ++ ack 2) ∷ Comes A 3 ∷ segment 0x60 2 (9 ∷ []) ∷ [])
  acknowledged_by_a_segment : AllMade
      (b_got_two ++ Does B (In 2 (9 ∷ [])) ∷ Sends B (SEGMENT 0x60 1 2 (ack 2 ++ carries 3 (9 ∷ []))) ∷ Comes A 3 ∷ segment 0x60 2 (9 ∷ []) ∷ [])
  not_acknowledged_on_the_other_subchannel : ChangesNothing A b_got_two (words_of_b (other_ack 2 ++ other_nak 1) ∷ Comes A 3 ∷ [])
  -- an acknowledgement that is sent again, with its segment, comes late
  acknowledged_less : ChangesNothing A (b_got_two ++ words_of_b (ack 2) ∷ Comes A 3 ∷ [])
      (Sends B (SEGMENT 0x60 1 2 (ack 1 ++ carries 2 (8 ∷ []))) ∷ Comes A 4 ∷ [])
  -- ---- segments that come: in any order, and twice
  -- the third and the second are held; when the first has come, all three are there
  in_any_order : AllMade
      (three_given ++ Comes B 4 ∷ Comes B 3 ∷ words_of_b (ack 0) ∷ Comes B 2 ∷ words_of_b (ack 3) ∷ Does B (Up 2 (1 ∷ [])) ∷ Does B (Up 2 (2 ∷ [])) ∷
      Does B (Up 2 (3 ∷ [])) ∷ [])
  over_one_gap : LastRefused WrongAck (three_given ++ Comes B 4 ∷ Comes B 2 ∷ words_of_b (ack 1) ∷ words_of_b (ack 2) ∷ [])
  delivered_over_a_gap : LastRefused WrongDelivery (three_given ++ Comes B 4 ∷ Comes B 2 ∷ Does B (Up 2 (1 ∷ [])) ∷ Does B (Up 2 (3 ∷ [])) ∷ [])
  second_message_before_the_first : LastRefused WrongDelivery (three_given ++ Comes B 2 ∷ Comes B 3 ∷ Does B (Up 2 (2 ∷ [])) ∷ [])
  -- one that is held comes again; one that was counted; one that was delivered
  held_comes_again : ChangesNothing B (three_given ++ Comes B 4 ∷ []) (segment 0x60 3 (3 ∷ []) ∷ Comes B 5 ∷ [])
  received_comes_again : ChangesNothing B (three_given ++ Comes B 2 ∷ Comes B 3 ∷ []) (segment 0x60 1 (1 ∷ []) ∷ Comes B 5 ∷ [])
  delivered_comes_again : ChangesNothing B (three_given ++ Comes B 2 ∷ Does B (Up 2 (1 ∷ [])) ∷ []) (segment 0x60 1 (1 ∷ []) ∷ Comes B 5 ∷ [])
  -- one that is acknowledged comes again with other bytes: the bytes that came first are delivered
  changed_once_received : AllMade (acknowledged_one ++ segment 0x00 1 (9 ∷ 9 ∷ []) ∷ Comes B 4 ∷ Does B (Up 2 (1 ∷ [])) ∷ [])

computed : Rows
computed = search
