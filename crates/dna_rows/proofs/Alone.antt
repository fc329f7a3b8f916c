-- One end alone: each accusation of the other end with its near miss, the order of the checks at a receipt, and what is left out; and its station
-- alone. The end is node 1.1.
use Rattle.dna_rows.proofs.Prelude.{◌≡◌, ℕ, Bool, true, false, List, [], ◌∷◌, ◌++◌, NotKept, Kept, Record, Sent, Received, User, Start, Halt, In}
use Rattle.dna_rows.proofs.Prelude.{Up, WrongState, WrongResponse, WrongKeep, StepRefusal, NotAMessage, HintOrder, BadPacket, BadNsp, WrongNode}
use Rattle.dna_rows.proofs.Prelude.{WrongAck, Accused, ThisEnd, OtherEnd, EndingAlone, Passed, judged_alone, judged_station_alone}
use Rattle.capture_record.specs.declared.event.Event.TheVariants.{Open, Accept, Close}
use Rattle.dna_station.specs.declared.refusal.StepRefusal.TheVariants.{Station as OfStation}
use Rattle.dna_station.specs.declared.refusal.StepRefusal.TheVariants.{Links as OfLinks}
use Rattle.dna_node.specs.Alone.{Refused}
use Rattle.dna_rows.proofs.Units.{computing, control, STRT, STACK, ACK, NAK, REP, data_of, from_b, CI, DI, DATA_ACK, ack, nak, other_ack, SEGMENT}
use Rattle.dna_rows.proofs.Units.{data_a, data_b, carries}
use Rattle.dna_rows.proofs.Captures.{started, confirmed_a}
use Rattle.dna_rows.proofs.Courses.{head_1}

abbrev is_passed : {S : Type 0} → EndingAlone S → Bool
is_passed (Passed node) = true
is_passed (Refused place accused reason) = false

abbrev Passes : List Record → Type 0
Passes records = is_passed (judged_alone head_1 records) ≡ true

abbrev Refuses : (place : ℕ) → Accused → StepRefusal → List Record → Type 0
Refuses place accused reason records = judged_alone head_1 records ≡ Refused place accused reason

abbrev plain : List ℕ
plain = 1 ∷ []

abbrev bad : List ℕ
bad = 2 ∷ []

abbrev no_message : List ℕ
no_message = from_b (0xff ∷ [])

abbrev returned : List ℕ
returned = 0x12 ∷ 1 ∷ 4 ∷ 2 ∷ 4 ∷ 0 ∷ 0xff ∷ []

-- a packet of node 1.3
abbrev from_another : List ℕ → List ℕ
from_another message = 2 ∷ 1 ∷ 4 ∷ 3 ∷ 4 ∷ 0 ∷ message

abbrev gave_two : List Record
gave_two = started ++ Sent (data_of 1 0 plain) ∷ Sent (data_of 2 0 plain) ∷ []

abbrev gave_segments : List Record
gave_segments = confirmed_a ++ User (In 1 (7 ∷ [])) ∷ User (In 1 (8 ∷ [])) ∷ Sent (data_a 2 1 (SEGMENT 0x60 2 1 (carries 1 (7 ∷ [])))) ∷
    Sent (data_a 3 1 (SEGMENT 0x60 2 1 (carries 2 (8 ∷ [])))) ∷ []

-- words that come in the next data messages
abbrev words : (num : ℕ) → List ℕ → Record
words num bytes = Received num Kept (data_b num 1 (DATA_ACK 1 2 bytes))

abbrev StationPasses : List Record → Type 0
StationPasses records = is_passed (judged_station_alone head_1 records) ≡ true

abbrev StationRefuses : (place : ℕ) → Accused → StepRefusal → List Record → Type 0
StationRefuses place accused reason records = judged_station_alone head_1 records ≡ Refused place accused reason

record Rows : Type 0 where
  -- ---- how a row ends
  -- ---- packets: one of Routing's own, which is nothing to the links; one that no circuit carries; one with a message that can't be read
  -- ---- (8): RESP is among A to N, in RUNNING alone
  all_of_N : Passes (gave_two ++ Received 1 NotKept (ACK 0) ∷ Received 2 NotKept (ACK 1) ∷ Received 3 NotKept (ACK 2) ∷ [])
  above_N : Refuses 5 OtherEnd (OfStation WrongResponse) (gave_two ++ Received 1 NotKept (ACK 3) ∷ [])
  below_A : Refuses 6 OtherEnd (OfStation WrongResponse) (gave_two ++ Received 1 NotKept (ACK 2) ∷ Received 2 NotKept (ACK 1) ∷ [])
  NAK_above_N : Refuses 5 OtherEnd (OfStation WrongResponse) (gave_two ++ Received 1 NotKept (NAK 2 3) ∷ [])
  data_above_N : Refuses 5 OtherEnd (OfStation WrongResponse) (gave_two ++ Received 1 NotKept (data_of 1 3 plain) ∷ [])
  -- also of data that are not next
  data_again_above_N : Refuses 5 OtherEnd (OfStation WrongResponse) (gave_two ++ Received 1 NotKept (data_of 9 3 plain) ∷ [])
  -- a REP has none
  REP_of_any_number : Passes (gave_two ++ Received 1 NotKept (REP 200) ∷ [])
  -- nothing is asked in the other states
  of_an_earlier_period : Passes
      (Received 0 NotKept (ACK 9) ∷ User Start ∷ Received 1 NotKept (ACK 9) ∷ Received 2 NotKept STRT ∷ Received 3 NotKept (NAK 2 9) ∷
      Received 4 NotKept (data_of 1 9 plain) ∷ [])
  -- ---- (1): good checks and no message, in every state; damage is nobody's
  no_such_type : Refuses 0 OtherEnd NotAMessage (Received 0 NotKept (control 9 0 0 0) ∷ [])
  damaged : Passes (Received 0 NotKept (5 ∷ 1 ∷ 0 ∷ 0 ∷ 0 ∷ 1 ∷ 0 ∷ 0 ∷ []) ∷ [])
  damage_is_not_kept : Refuses 0 ThisEnd (OfStation WrongKeep) (Received 0 Kept (5 ∷ 1 ∷ 0 ∷ 0 ∷ 0 ∷ 1 ∷ 0 ∷ 0 ∷ []) ∷ [])
  -- ---- (15) and (17): packets that can't be read, kept or not, in every state
  packet_of_no_circuit : Refuses 0 OtherEnd BadPacket (Received 0 NotKept (data_of 1 0 bad) ∷ [])
  kept_packet_of_no_circuit : Refuses 3 OtherEnd BadPacket (started ++ Received 1 Kept (data_of 1 0 bad) ∷ [])
  packet_without_a_message : Refuses 3 OtherEnd BadNsp (started ++ Received 1 NotKept (data_of 9 0 no_message) ∷ [])
  -- what is not read further
  passed_over : Passes (started ++ Received 1 Kept (data_of 1 0 plain) ∷ Received 2 Kept (data_of 2 0 returned) ∷ [])
  -- the other end comes before this one: 8 before 15, and 15 before the 12 of this end
  response_before_packet : Refuses 3 OtherEnd (OfStation WrongResponse) (started ++ Received 1 NotKept (data_of 1 1 bad) ∷ [])
  packet_before_keeping : Refuses 3 OtherEnd BadPacket (started ++ Received 1 Kept (data_of 9 0 bad) ∷ [])
  -- ---- (16): between other nodes, of a packet that is taken alone
  taken_from_another_node : Refuses 3 OtherEnd (OfLinks WrongNode) (started ++ Received 1 Kept (data_of 1 0 (from_another (CI 1))) ∷ [])
  not_taken_from_another_node : Passes
      (started ++ Received 1 NotKept (data_of 1 0 (from_another (CI 1))) ∷ Received 2 Kept (data_of 1 0 plain) ∷
      Received 3 NotKept (data_of 1 0 (from_another (CI 1))) ∷ [])
  keeping_before_nodes : Refuses 3 ThisEnd (OfStation WrongKeep) (started ++ Received 1 Kept (data_of 9 0 (from_another (CI 1))) ∷ [])
  -- ---- (21): acknowledgements of what the link has given, of a packet that is taken. Link 1 is in RUN and has given two segments
  all_given : Passes (gave_segments ++ words 2 (ack 0) ∷ words 3 (ack 1 ++ nak 2) ∷ words 4 (ack 1) ∷ words 5 (other_ack 200 ++ ack 2) ∷ [])
  above_given : Refuses 10 OtherEnd (OfLinks WrongAck) (gave_segments ++ words 2 (ack 3) ∷ [])
  nak_above_given : Refuses 10 OtherEnd (OfLinks WrongAck) (gave_segments ++ words 2 (nak 3) ∷ [])
  second_word_above_given : Refuses 10 OtherEnd (OfLinks WrongAck) (gave_segments ++ words 2 (ack 2 ++ nak 3) ∷ [])
  segment_above_given : Refuses 10 OtherEnd (OfLinks WrongAck)
      (gave_segments ++ Received 2 Kept (data_b 2 1 (SEGMENT 0x60 1 2 (ack 3 ++ carries 1 (9 ∷ [])))) ∷ [])
  -- an earlier number is not below 0
  below_0 : Refuses 11 OtherEnd (OfLinks WrongAck) (gave_segments ++ words 2 (ack 1) ∷ words 3 (0xff ∷ 0x8f ∷ []) ∷ [])
  -- not taken, or of no link that acts on it: none with these addresses, or one that has ended
  nobody_acts : Passes
      (gave_segments ++ Received 2 NotKept (data_b 2 1 (DATA_ACK 1 2 (ack 3))) ∷ Received 3 Kept (data_b 2 1 (DATA_ACK 1 9 (ack 3))) ∷
      Received 4 Kept (data_b 3 1 (DI 1 2)) ∷ Received 5 Kept (data_b 4 1 (DATA_ACK 1 2 (ack 3))) ∷ [])
  -- ---- what is this end's own
  hint_goes_back : Refuses 4 ThisEnd HintOrder (started ++ Received 5 NotKept (ACK 0) ∷ Received 5 NotKept (ACK 9) ∷ [])
  nothing_to_keep : Refuses 3 ThisEnd (OfStation WrongKeep) (started ++ Received 1 Kept (ACK 0) ∷ [])
  ACK_in_HALTED : Refuses 0 ThisEnd (OfStation WrongState) (Sent (ACK 0) ∷ [])
  bytes_that_are_no_message : Refuses 0 ThisEnd NotAMessage (Sent (control 9 0 0 0) ∷ [])
  -- ---- what is left out: no unit and no period is known of the other end, and no link
  whatever_the_other_end_sent : Passes (User Start ∷ Sent STRT ∷ Received 7 NotKept STACK ∷ Received 9 Kept (data_of 1 0 plain) ∷ [])
  -- ---- its station alone
  -- packets that no node could read, sent and kept: a packet is any bytes
  any_packet : StationPasses
      (started ++ Sent (data_of 1 0 bad) ∷ Received 1 Kept (data_of 1 1 bad) ∷ Received 2 Kept (data_of 2 1 no_message) ∷
      Received 3 Kept (data_of 3 1 (from_another (CI 1))) ∷ [])
  -- no event of the links changes it: of links that there are not, in HALTED and between
  any_event_of_links : StationPasses
      (User (Up 7 (9 ∷ [])) ∷ User (Open 0) ∷ started ++ User (In 1 []) ∷ User (Accept 2 1) ∷ Sent (ACK 0) ∷ User (Close 3) ∷ User Halt ∷
      User (Open 1) ∷ [])
  -- (8) and (1) accuse the other end, of a unit whose packet is not read as well
  station_above_N : StationRefuses 5 OtherEnd (OfStation WrongResponse) (gave_two ++ Received 1 NotKept (ACK 3) ∷ [])
  station_data_above_N : StationRefuses 5 OtherEnd (OfStation WrongResponse) (gave_two ++ Received 1 Kept (data_of 1 3 bad) ∷ [])
  station_all_of_N : StationPasses (gave_two ++ Received 1 NotKept (ACK 0) ∷ Received 2 Kept (data_of 1 2 bad) ∷ [])
  station_no_such_type : StationRefuses 0 OtherEnd NotAMessage (Received 0 NotKept (control 9 0 0 0) ∷ [])
  -- all else that a station refuses is this end's
  station_nothing_to_keep : StationRefuses 3 ThisEnd (OfStation WrongKeep) (started ++ Received 1 Kept (ACK 0) ∷ [])

computed : Rows
unfolding computing
computed = search
