-- In a world within the bounds the wire station does the same as the station on true numbers, and so the same becomes of a record at its node.
use Rattle.std.proofs.Common.{◌≡◌, ℕ, Bool, true, false, cond, Option, Some, None, Ok, List, [], ◌∷◌, map, refl, sym, ap, ap₂, ◌∙◌}
use Rattle.std.proofs.lemmas.List.{map-append}
use Rattle.two_nodes.specs.Nodes.{Half, advance}
use Rattle.two_nodes.specs.Cutting.{cut_half, cut_outcome}
use Rattle.ddcmp_msg.specs.Message.{MessageValue}
use Rattle.capture_record.specs.declared.fate.Fate.{Fate}
use Rattle.capture_record.specs.Fates.{is_kept}
use Rattle.capture_record.specs.declared.record.Record.{Record}
use Rattle.capture_record.specs.declared.event.Event.{Event}
use Rattle.capture_record.specs.declared.event.Event.TheVariants as events
use Rattle.dna_station.specs.declared.state.StationEvent.{StationEvent}
use Rattle.dna_station.specs.declared.state.StationEvent.TheVariants.{Start, Halt}
use Rattle.dna_station.specs.declared.refusal.StationRefusal.{StationRefusal}
use Rattle.dna_station.specs.declared.refusal.StationRefusal.TheVariants.{CrossedPeriod}
use Rattle.dna_station.specs.Table.{user_refusal, Change, SendPacket, change_of}
use Rattle.dna_station.specs.PeriodRule.{of_period}
use Rattle.dna_station.specs.Book.{ArrivalValue, Sound, HeaderBad, DataBad, body_of, keep_refusal}
use Rattle.dna_station.specs.Station.{Station, after_event}
use Rattle.dna_station.specs.Truth.{Truth, tag_of}
use Rattle.dna_station.specs.StationBook.{is_new, with_packet, sends, sending_refusal, after_sending, truth_of, takes, meets_needs, arrival_refusal}
use Rattle.dna_station.specs.StationBook.{after_arrival}
use Rattle.dna_station.specs.WireStation.{HeldPacket, WireStation, with_new, wire_after_event}
use Rattle.dna_station.specs.WireBook.{wire_after_sending, wire_after_arrival}
use Rattle.dna_station.specs.Line.{SentUnit}
use Rattle.dna_station.specs.Machine.{unless_refused}
use Rattle.dna_station.specs.Node.{Node, station_machine, step}
use Rattle.dna_station.specs.Bounds.{IsOrdered, IsWithin, IsBounded}
use Rattle.dna_station.specs.Cut.{cut, all_with}
use Rattle.dna_station.specs.WireNode.{wire_machine, wire_step, unlabelled, seen}
use Rattle.dna_station.proofs.Steps.Effects.{arrival_stays}
use Rattle.dna_station.proofs.Cut.Sending.{body_at, sending_refusal_same, sending_same}
use Rattle.dna_station.proofs.Cut.Arriving.{arrival_refusal_same, arrival_same, header_same, data_bad_same}
use Rattle.dna_station.proofs.Cut.Machines.{cut_result, cut_sent, DoTheSame, record_same as made_same}

-- what is not refused is what its row needs
pub not_crossed : (s : Station) (m : MessageValue) (u : Truth) (kept : Bool) → arrival_refusal of_period s (Sound m u) kept ≡ None →
    meets_needs of_period s m u ≡ true
not_crossed s m u kept = go (meets_needs of_period s m u)
  where
    go : (b : Bool) → cond b (keep_refusal (takes s m u) kept) (Some CrossedPeriod) ≡ None → b ≡ true
    go true e = refl
    go false e = absurd cc

-- ---- packets without labels

-- an arrival gives no packet
pub arrival_packets : (s : Station) (arrival : ArrivalValue Truth) (kept : Bool) → (after_arrival s arrival kept).packets ≡ s.packets
arrival_packets s arrival kept = (arrival_stays s arrival kept).packets

pub unlabelled_bodies : (L : Type 0) (packets : List (List ℕ)) → map (body_at {L = L}) (unlabelled packets) ≡ packets
unlabelled_bodies L [] = refl
unlabelled_bodies L (p ∷ ps) = ap (λ (qs : List (List ℕ)). p ∷ qs) (unlabelled_bodies L ps)

module _ {L : Type 0} where
  new_unlabelled : (new : Bool) (packets : List (List ℕ)) (body : List ℕ) →
      with_new {L = L} new (unlabelled packets) body ≡ unlabelled (with_packet new packets body)
  new_unlabelled true packets body = sym (map-append (λ (b : List ℕ). record { body = b; label = None }) packets (body ∷ []))
  new_unlabelled false packets body = refl

  pub sending_unlabelled : (s : Station) (m : MessageValue) (change : Change) →
      all_with {L = L} change (unlabelled s.packets) s (body_of m) ≡ unlabelled (sends s m change).packets
  sending_unlabelled s m SendPacket = new_unlabelled (is_new s) s.packets (body_of m)
  sending_unlabelled s m change = refl

  -- a station without labels
  abbrev station_seen : Station → WireStation L
  station_seen s = cut (unlabelled s.packets) s

  seen_sending : (s : Station) (m : MessageValue) → IsOrdered s → station_seen (after_sending s m) ≡ wire_after_sending (station_seen s) m
  seen_sending s m ordered =
      ap (λ (all : List (HeldPacket L)). cut all (after_sending s m)) (sym (sending_unlabelled s m (change_of m)))
      ∙ sending_same (unlabelled s.packets) s (unlabelled_bodies L s.packets) ordered m

  seen_event : (s : Station) (event : StationEvent) → wire_after_event (station_seen s) event ≡ station_seen (after_event s event)
  seen_event s Start = refl
  seen_event s Halt = refl

  -- what is left after an arrival, with the packets as they are
  seen_packets : (s : Station) (arrival : ArrivalValue Truth) (kept : Bool) →
      cut (unlabelled {L = L} s.packets) (after_arrival s arrival kept) ≡ station_seen (after_arrival s arrival kept)
  seen_packets s arrival kept = ap (λ (ps : List (List ℕ)). cut (unlabelled ps) (after_arrival s arrival kept)) (sym (arrival_packets s arrival kept))

  -- ---- the machines

  -- refused alike, and alike where not refused
  alike : (p o : Option StationRefusal) (w : WireStation L) (t : Station) → p ≡ o → (o ≡ None → w ≡ station_seen t) →
      unless_refused p w ≡ cut_result station_seen (λ (m : MessageValue) (u : Truth). u.tag) (station_machine of_period) (wire_machine of_period)
      (unless_refused o t)
  alike p None w t e same = ap (λ (x : Option StationRefusal). unless_refused x w) e ∙ ap Ok (same refl)
  alike p (Some refusal) w t e same = ap (λ (x : Option StationRefusal). unless_refused x w) e

  module _ (own other : Half Node SentUnit) (bounded : IsBounded own other) where
    bounded_same : DoTheSame (station_seen) (λ (m : MessageValue) (u : Truth). u.tag) (station_machine of_period) (wire_machine of_period) own other
    bounded_same = record {
      user = user_same;
      sending = sending_made;
      sound = λ k unit fate there ahead. sound_made unit fate (bounded.within k unit there ahead);
      header_bad = λ fate. let kept = is_kept fate in alike (keep_refusal false kept) (keep_refusal false kept) _ _ refl
          (λ e. sym (header_same (unlabelled own.state.station.packets) own.state.station kept) ∙ seen_packets own.state.station HeaderBad kept);
      data_bad = λ fate. let kept = is_kept fate in alike (keep_refusal false kept) (keep_refusal false kept) _ _ refl
          (λ e. sym (data_bad_same (unlabelled own.state.station.packets) own.state.station kept) ∙ seen_packets own.state.station DataBad kept);
    }
      where
        user_same : (event : Event) → (wire_machine of_period).user (station_seen own.state.station) event ≡ cut_result station_seen
            (λ (m : MessageValue) (u : Truth). u.tag) (station_machine of_period) (wire_machine of_period)
            ((station_machine of_period).user own.state.station event)
        user_same events.Start =
            alike _ (user_refusal own.state.station.state Start) (wire_after_event (station_seen own.state.station) Start)
            (after_event own.state.station Start) refl (λ e. seen_event own.state.station Start)
        user_same events.Halt =
            alike _ (user_refusal own.state.station.state Halt) (wire_after_event (station_seen own.state.station) Halt)
            (after_event own.state.station Halt) refl (λ e. seen_event own.state.station Halt)
        user_same events.Boot =
            alike _ (user_refusal own.state.station.state Halt) (wire_after_event (station_seen own.state.station) Halt)
            (after_event own.state.station Halt) refl (λ e. seen_event own.state.station Halt)
        user_same event = refl

        sending_made : (m : MessageValue) → (wire_machine of_period).sends (station_seen own.state.station) m ≡ cut_sent station_seen
            (λ (m : MessageValue) (u : Truth). u.tag) (station_machine of_period) (wire_machine of_period) m
            ((station_machine of_period).sends own.state.station m)
        sending_made m =
            ap₂ (λ (o : Option StationRefusal) (w : WireStation L). unless_refused o (w, tag_of own.state.station))
            (sym (sending_refusal_same (unlabelled own.state.station.packets) own.state.station (unlabelled_bodies L own.state.station.packets)
            bounded.ordered m))
            (sym (seen_sending own.state.station m bounded.ordered))
            ∙ go (sending_refusal own.state.station m)
          where
            go : (o : Option StationRefusal) →
                unless_refused o (station_seen (after_sending own.state.station m), tag_of own.state.station) ≡ cut_sent station_seen
                (λ (m : MessageValue) (u : Truth). u.tag) (station_machine of_period) (wire_machine of_period) m
                (unless_refused o (after_sending own.state.station m, truth_of own.state.station m))
            go None = refl
            go (Some refusal) = refl

        sound_made : (unit : SentUnit) (fate : Fate) →
            (meets_needs of_period own.state.station unit.message unit.known ≡ true → IsWithin own.state.station unit.message unit.known) →
            (wire_machine of_period).arrives (station_seen own.state.station) (Sound unit.message unit.known.tag) fate ≡ cut_result station_seen
            (λ (m : MessageValue) (u : Truth). u.tag) (station_machine of_period) (wire_machine of_period)
            ((station_machine of_period).arrives own.state.station (Sound unit.message unit.known) fate)
        sound_made unit fate within =
            alike _ (arrival_refusal of_period own.state.station (Sound unit.message unit.known) (is_kept fate))
            (wire_after_arrival (station_seen own.state.station) (Sound unit.message unit.known.tag) (is_kept fate))
            (after_arrival own.state.station (Sound unit.message unit.known) (is_kept fate))
            (sym (arrival_refusal_same {L = L} (unlabelled own.state.station.packets) of_period own.state.station unit.message unit.known
            (is_kept fate)
            within))
            (λ e. sym (arrival_same (unlabelled own.state.station.packets) own.state.station (unlabelled_bodies L own.state.station.packets)
            bounded.ordered unit.message unit.known (is_kept fate) (within (not_crossed own.state.station unit.message unit.known (is_kept fate) e)))
            ∙ seen_packets own.state.station (Sound unit.message unit.known) (is_kept fate))

    pub record_same : (r : Record) → advance (wire_step of_period) (cut_half (seen {L = L}) own) (cut_half (seen {L = L}) other) r ≡ cut_outcome seen
        (advance (step of_period) own other r)
    record_same r = made_same station_seen (λ (m : MessageValue) (u : Truth). u.tag) (station_machine of_period) (wire_machine of_period) own other
        bounded_same r
