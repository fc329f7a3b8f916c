-- What comes to a node of the player it takes: a unit as it was sent, with its packet where that can be taken, and a damaged one.
use Rattle.dna_play.proofs.Prelude.{◌≡◌, ℕ, ◌+◌, ◌≤◌, Bool, true, false, cond, Some, None, option_map, List, Result, Ok, refl, ap, ◌∙◌, le-ltb}
use Rattle.dna_play.proofs.Prelude.{eq-eqb, sym, slice_get, bytes_eq, and_parts, slice_get-map, bytes_eq-Decides, Made, stepped, advance}
use Rattle.dna_play.proofs.Prelude.{MessageValue, reading, NspValue, DataSegment, LinkService, DataAck, OtherDataAck, ConnectInitiate}
use Rattle.dna_play.proofs.Prelude.{ConnectConfirm, DisconnectInitiate, DisconnectConfirm, Fate, NotKept, is_kept, is_met, Received, Without}
use Rattle.dna_play.proofs.Prelude.{LinkTest, LiveTo, TheLink, CallingAt, ActedOn, LinkRefusal, StepRefusal, row, Sound, has_packet, num_of}
use Rattle.dna_play.proofs.Prelude.{arrival_refusal, after_arrival, IsWithin, unlabelled, StationVariables, wire_is_next, wire_arrival_refusal}
use Rattle.dna_play.proofs.Prelude.{coming_by, comes, LinkOf, LinkTruth, with_link, of_anyone, message_arrived, TrueSegments, Numbers}
use Rattle.dna_play.proofs.Prelude.{true_segments, Links, links_arrived, SentMessage, by_bytes, judged, PeriodRule, cut, looked, Layers, LayersNode}
use Rattle.dna_play.proofs.Prelude.{LayersUnit, keeps, layers_machine, unit_of_station, can_take, end_step, arrival_refusal_same, is_data}
use Rattle.dna_play.proofs.Prelude.{row_is_data, meets_it}
use Rattle.dna_play.proofs.{Played.Facts.Facts, Stored.Segments.left_half, Ends.TrueEnd.End, Ends.TrueEnd.variables_of}
use Rattle.dna_play.proofs.Ends.DamagedUnits.{ShownDamage, OfHeader, OfData, read_of, arrival_of}

-- a packet that can be taken is of data
pub taken_is_data : {L : Type 0} (k : StationVariables L) (m : MessageValue) → can_take k m ≡ true → is_data m ≡ true
taken_is_data k m e = row_is_data k.state m (and_parts (has_packet (row k.state m).effects) (wire_is_next k (num_of m)) e).0

-- ---- the links

abbrev pub Takes : Result Links LinkRefusal → Type 0
Takes r = (left : Links) × (r ≡ Ok left)

-- a look-up that refuses nothing
found_takes : (test : LinkTest) (s otherwise : Links) (next : ℕ → LinkOf TrueSegments → Links) →
    Takes (with_link test s (Ok otherwise) (λ number link. Ok (next number link)))
found_takes test s otherwise next = looked test s (Ok otherwise) (λ number link. Ok (next number link))
    (with_link test s (Ok otherwise) (λ number link. Ok (next number link))) refl (λ none e. (otherwise, sym e))
    (λ number link found e. (next number link, sym e))

-- and one by either of two tests
either_takes : (first second : LinkTest) (s otherwise : Links) (next : ℕ → LinkOf TrueSegments → Links) →
    Takes (with_link first s (with_link second s (Ok otherwise) (λ number link. Ok (next number link))) (λ number link. Ok (next number link)))
either_takes first second s otherwise next =
    looked first s (with_link second s (Ok otherwise) (λ number link. Ok (next number link))) (λ number link. Ok (next number link))
    (with_link first s (with_link second s (Ok otherwise) (λ number link. Ok (next number link))) (λ number link. Ok (next number link))) refl
    (λ none e. let taken = found_takes second s otherwise next in (taken.0, sym e ∙ taken.1))
    (λ number link found e. (next number link, sym e))

message_takes : (s : Links) (m : NspValue) (truth : LinkTruth Numbers) → Takes (message_arrived Without true_segments of_anyone s m truth)
message_takes s (ConnectInitiate retransmitted src services info segsize user_data) truth = found_takes (LiveTo src) s _ _
message_takes s (ConnectConfirm dst src services info segsize user_data) truth = found_takes (CallingAt dst) s _ _
message_takes s (DisconnectInitiate dst src reason user_data) truth = either_takes (TheLink dst src) (CallingAt dst) s _ _
message_takes s (DisconnectConfirm dst src reason) truth = either_takes (TheLink dst src) (CallingAt dst) s _ _
message_takes s (DataSegment segment) truth = found_takes (ActedOn segment.dstaddr segment.srcaddr) s _ _
message_takes s (DataAck dst src acks) truth = found_takes (ActedOn dst src) s _ _
message_takes s (LinkService interrupt dst src rest) truth = found_takes (ActedOn dst src) s _ _
message_takes s (OtherDataAck dst src rest) truth = found_takes (ActedOn dst src) s _ _
message_takes s m truth = (_, refl)

pub links_take : (s : Links) (u : SentMessage) → u.packet.src ≡ s.peer → u.packet.dst ≡ s.node →
    Takes (links_arrived Without of_anyone s u.packet u.truth)
links_take s u from to = let m = message_takes s u.packet.message u.truth in (m.0, rw (eq-eqb _ _ from, eq-eqb _ _ to) m.1)

-- ---- the node

module _ (own other : End) (facts : Facts own other) (ahead : own.half.state.front ≤ own.passed) (unit : LayersUnit)
    (there : slice_get other.half.sent own.passed ≡ Some unit) where
  abbrev s : Layers
  s = own.half.state.station

  -- what comes for the unit is met
  abbrev met_by : Fate → List ℕ → Result LayersNode StepRefusal
  met_by fate bytes =
      comes (layers_machine by_bytes) own.half.state (own.passed + 1) fate (coming_by (bytes_eq bytes unit.bytes) unit (reading bytes))

  is_made : (fate : Fate) (bytes : List ℕ) (left : LayersNode) → met_by fate bytes ≡ Ok left →
      advance end_step own.half other.half (Received own.passed fate bytes) ≡ Made (stepped own.half left)
  unfolding end_step
  is_made fate bytes left met_it = rw (there, le-ltb own.passed own.half.state.front ahead, met_it) refl

  pub damage_made : (d : ShownDamage) (bytes : List ℕ) → bytes_eq bytes unit.bytes ≡ false → reading bytes ≡ read_of d →
      advance end_step own.half other.half (Received own.passed NotKept bytes)
      ≡ Made (left_half own (after_arrival s.station (arrival_of d) false) s.links)
  damage_made OfHeader bytes differs shows = is_made NotKept bytes _ (rw (shows, differs) refl)
  damage_made OfData bytes differs shows = is_made NotKept bytes _ (rw (shows, differs) refl)

  pub within : IsWithin s.station unit.message unit.known.station
  within = facts.known.bounded.within own.passed (unit_of_station unit)
      (slice_get-map unit_of_station other.half.sent own.passed ∙ ap (option_map unit_of_station) there) ahead
      (meets_it own.half other.half facts.known.ready own.passed unit there)

  -- by this rule on periods
  refusal_same : (rule : PeriodRule) (kept : Bool) →
      arrival_refusal rule s.station (Sound unit.message unit.known.station) kept
      ≡ wire_arrival_refusal rule (cut (unlabelled {L = Unit {0}} s.station.packets) s.station) (Sound unit.message unit.known.station.tag) kept
  refusal_same rule kept = arrival_refusal_same (unlabelled {L = Unit {0}} s.station.packets) rule s.station unit.message unit.known.station kept
      (λ e. within)

  -- the judge takes it too
  pub judged_takes : can_take (variables_of own.half) unit.message ≡ true →
      arrival_refusal judged.periods s.station (Sound unit.message unit.known.station) true ≡ None
  judged_takes can = refusal_same judged.periods true
      ∙ rw (meets_it own.half other.half facts.known.ready own.passed unit there, can) refl

  allowed : (kept : Bool) → (kept ≡ true → can_take (variables_of own.half) unit.message ≡ true) →
      arrival_refusal by_bytes.periods s.station (Sound unit.message unit.known.station) kept ≡ None
  allowed false can = refusal_same by_bytes.periods false
  allowed true can = refusal_same by_bytes.periods true ∙ rw (can refl) refl

  abbrev after : Bool → Layers
  after kept = record s { station = after_arrival s.station (Sound unit.message unit.known.station) kept }

  -- as it was sent, kept only where its packet can be taken; with the links after it
  pub unit_made : (fate : Fate) → (is_kept fate ≡ true → can_take (variables_of own.half) unit.message ≡ true) → (links : Links) →
      let kept = after (is_kept fate) in
      cond (is_met fate) (keeps by_bytes kept unit.known.carried) (Ok kept) ≡ Ok (record kept { links = links }) →
      advance end_step own.half other.half (Received own.passed fate unit.bytes)
      ≡ Made (left_half own (after_arrival s.station (Sound unit.message unit.known.station) (is_kept fate)) links)
  unit_made fate can links kept_it =
      is_made fate unit.bytes _ (rw ((bytes_eq-Decides unit.bytes unit.bytes).1 refl, allowed (is_kept fate) can, kept_it) refl)
