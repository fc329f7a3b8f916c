-- Worked rows of the player: full windows, numbers across their wrap, pieces, the last address, and what no script can show.
use Rattle.dna_rows.proofs.Prelude.{◌≡◌, ℕ, Bool, true, false, Some, None, List, [], ◌∷◌, Result, Ok, Err, replicate, codes, Data, Rep, HeaderBad}
use Rattle.dna_rows.proofs.Prelude.{DataBad, nsp_bytes, Record, User, Running, Piece, Unsent, next_piece, HeldPacket, StationVariables, Send}
use Rattle.dna_rows.proofs.Prelude.{Deliver, Open, Accept, Owed, arrival_debt, DataAckDuty, SegmentDuty, LinkEnd, duty_of, OfLink, choice}
use Rattle.dna_rows.proofs.Prelude.{SendAgain, SendNew, SendAck, SendRep, duty_message, message_of, no_flags, StoredEnd, new_stored_end}
use Rattle.dna_rows.proofs.Prelude.{StoredStepped, stored_plays, StoredPlayed, stored_play, Stopped, Stop, BadStep, Full}
use Rattle.capture_record.specs.declared.event.Event.TheVariants as event
use Rattle.dna_station.specs.declared.state.State.TheVariants as states
use Rattle.dna_play.specs.Script.{Start}
use Rattle.dna_play.specs.Owed as owing
use Rattle.dna_play.specs.LinkOwed as links_owing
use Rattle.dna_rows.proofs.Courses.{head_1}
use Rattle.dna_rows.proofs.Units.{hex}
use Rattle.dna_rows.proofs.Scripts.{a, b, script, called, playing}

abbrev packet : HeldPacket (Unit {0})
packet = record { body = 5 ∷ []; label = None }

-- in RUNNING: the numbers received and acknowledged, how many packets are outstanding, and how many of them come before the next to send
abbrev station : (received acknowledged outstanding ahead : ℕ) → StationVariables (Unit {0})
station received acknowledged outstanding ahead =
    record { state = states.Running; received = received; acknowledged = acknowledged; ahead = ahead; held = replicate outstanding packet }

abbrev owes_ack : Owed
owes_ack = record owing.nothing { ack = true }

abbrev letter : Piece
letter = record { begins = true; ends = true; body = 0x61 ∷ [] }

-- in RUN, with a message that is in no segment
abbrev link : (acknowledged outstanding ahead : ℕ) → LinkEnd
link acknowledged outstanding ahead = record {
  port = record { phase = Running; opened = true; own = Some 1; far = Some 2 };
  variables = record {
    unsent = record { begun = false; messages = (0x62 ∷ []) ∷ [] };
    acknowledged = acknowledged;
    outstanding =
        replicate outstanding letter;
    received = 4095;
    pieces = [];
  };
  owed = record links_owing.nothing { ahead = ahead };
}

abbrev unsent : Bool → (length : ℕ) → Unsent
unsent begun length = record { begun = begun; messages = replicate length 7 ∷ (8 ∷ []) ∷ [] }

-- an end that has given so many addresses
abbrev with_given : ℕ → StoredEnd → StoredEnd
with_given count end = record end { addresses = count }

abbrev end_b : Result StoredPlayed (Stopped StoredPlayed) → StoredEnd
end_b (Ok played) = played.pair.b.end
end_b (Err stopped) = stopped.so_far.pair.b.end

abbrev records_of : Result StoredStepped Stop → Result (List Record) Stop
records_of (Ok made) = Ok made.records
records_of (Err stop) = Err stop

record Rows : Type 0 where
  -- ---- the station
  -- a new packet while 254 are outstanding, and none while 255 are
  room_for_one : choice (station 0 0 254 254) owes_ack (Some (OfLink 0 SegmentDuty)) ≡ Some (SendNew (OfLink 0 SegmentDuty))
  no_room : choice (station 0 0 255 255) owes_ack (Some (OfLink 0 SegmentDuty)) ≡ Some SendAck
  repeats_when_full : choice (station 0 0 255 254) owes_ack (Some (OfLink 0 SegmentDuty)) ≡ Some SendAgain
  -- number 256 is 0 on the line, and so is the highest given in a REP; RESP is R
  number_across_the_wrap : message_of SendAgain head_1 (station 7 255 1 0) [] ≡ Some (Data no_flags 7 0 (5 ∷ []))
  rep_across_the_wrap : message_of SendRep head_1 (station 7 254 2 2) [] ≡ Some (Rep no_flags 0)
  -- damage brings a NAK in RUNNING alone
  damage_in_astrt : arrival_debt (record (station 0 0 0 0) { state = states.Astrt }) HeaderBad false ≡ None
  bad_data_in_istrt : arrival_debt (record (station 0 0 0 0) { state = states.Istrt }) DataBad false ≡ None
  -- ---- links
  -- a new segment while 2,046 are outstanding, and none while 2,047 are
  room_for_a_segment : duty_of (link 0 2046 2046) ≡ Some SegmentDuty
  no_room_for_a_segment : duty_of (link 0 2047 2047) ≡ None
  repeats_a_segment_when_full : duty_of (link 0 2047 2046) ≡ Some SegmentDuty
  -- number 4,096 is 0 on the line, new and again; a data ack has R
  segment_across_the_wrap : nsp_bytes (duty_message SegmentDuty (link 4095 0 0)) ≡ hex (codes "6002000100000062")
  segment_again_across_the_wrap : nsp_bytes (duty_message SegmentDuty (link 4094 3 1)) ≡ hex (codes "6002000100000061")
  data_ack_below_the_wrap : nsp_bytes (duty_message DataAckDuty (link 0 0 0)) ≡ hex (codes "0402000100ff8f")
  -- ---- pieces: 512 bytes of a message, or all that is left
  longest_message_in_one : next_piece (unsent false 512) ≡ record { begins = true; ends = true; body = replicate 512 7 }
  first_of_two : next_piece (unsent false 513) ≡ record { begins = true; ends = false; body = replicate 512 7 }
  piece_between : next_piece (unsent true 513) ≡ record { begins = false; ends = false; body = replicate 512 7 }
  last_of_two : next_piece (unsent true 1) ≡ record { begins = false; ends = true; body = 7 ∷ [] }
  piece_of_nothing : next_piece (unsent false 0) ≡ record { begins = true; ends = true; body = [] }
  -- ---- addresses
  last_address : records_of (stored_plays (with_given 65534 (new_stored_end head_1)) [] Open) ≡ Ok (User (event.Open 65535) ∷ [])
  no_address : records_of (stored_plays (with_given 65535 (new_stored_end head_1)) [] Open) ≡ Err Full
  -- an answer wants a call, and then an address
  no_address_for_the_answer : records_of (stored_plays (with_given 65535 (end_b (stored_play (script called)))) [] (Accept 1)) ≡ Err Full
  no_call_and_no_address : records_of (stored_plays (with_given 65535 (end_b (stored_play (script called)))) [] (Accept 2)) ≡ Err BadStep
  -- ---- data that lead from ASTRT to RUNNING and are taken bring ACK; the connect ack that goes first clears it
  data_in_astrt_bring_ack :
      (end_b (stored_play (script (a Start ∷ b Start ∷ a Send ∷ b Deliver ∷ b Send ∷ a Deliver ∷ a Open ∷ a Send ∷ b Deliver ∷ [])))).station.owed
      ≡ owes_ack

computed : Rows
unfolding playing
computed = search
