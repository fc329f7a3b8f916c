-- What is kept of a side meets a record that its station alone makes.
use Rattle.std.proofs.Common.{◌≡◌, ℕ, ◌+◌, Bool, true, false, cond, nat_lt, Option, Some, None, List}
use Rattle.std.proofs.Common.{◌++◌, refl, sym, ap, subst, ◌∙◌}
use Rattle.std.specs.Option.{option_to_list}
use Rattle.std.proofs.lemmas.List.{append_assoc}
use Rattle.ddcmp_msg.specs.Message.{MessageValue}
use Rattle.ddcmp_msg.specs.Reading.{ReadingValue, reading, Sound, HeaderBad, DataBad, Malformed}
use Rattle.ddcmp_msg.specs.declared.nak_reason.NakReason.{NakReason}
use Rattle.ddcmp_msg.specs.declared.nak_reason.NakReason.TheVariants.{HeaderCheck, DataCheck}
use Rattle.capture_record.specs.Fates.{is_kept, is_met}
use Rattle.capture_record.specs.declared.fate.Fate.{Fate}
use Rattle.capture_record.specs.declared.fate.Fate.TheVariants.{NotKept, Kept, Dropped}
use Rattle.capture_record.specs.declared.record.Record.{Record}
use Rattle.capture_record.specs.declared.record.Record.TheVariants.{Sent, Received, Noise, User}
use Rattle.capture_record.specs.declared.event.Event.{Event}
use Rattle.capture_record.specs.declared.event.Event.TheVariants as events
use Rattle.dna_station.specs.declared.state.StationEvent.{StationEvent}
use Rattle.dna_station.specs.declared.state.StationEvent.TheVariants.{Start, Halt}
use Rattle.dna_station.specs.declared.refusal.StationRefusal.{StationRefusal}
use Rattle.dna_station.specs.declared.refusal.StepRefusal.{StepRefusal}
use Rattle.dna_station.specs.declared.refusal.StepRefusal.TheVariants.{HintOrder}
use Rattle.dna_station.specs.Table.{row, user_refusal, counts_damage}
use Rattle.dna_station.specs.Book as arriving
use Rattle.dna_station.specs.Book.{damaged_by, keep_refusal}
use Rattle.dna_station.specs.NakCauses.{with_cause}
use Rattle.dna_station.specs.Line.{damage}
use Rattle.dna_station.specs.Machine.{noise_comes, unless_refused}
use Rattle.dna_station.specs.WireStation.{StationVariables, WireStation, wire_after_event}
use Rattle.dna_station.specs.WireBook.{wire_book, wire_sending_refusal, wire_after_sending, wire_arrival_refusal, wire_after_arrival, wire_tag}
use Rattle.dna_station.specs.WireBook.{wire_is_new}
use Rattle.dna_links.specs.declared.tag.LinkTag.{LinkTag}
use Rattle.dna_station.specs.PeriodRule.{of_any_period}
use Rattle.dna_node.specs.Alone.{StepAlone, Makes, Refuses, station_end, step_alone, sent_alone, comes_alone, unknown_period}
use Rattle.dna_node.specs.Alone.{unless_wrong, then_unless_wrong, if_met, meets, ThisEnd}
use Rattle.dna_node.specs.Alone as alone
use Rattle.coverage.specs.declared.counts.Counts.{Counts}
use Rattle.coverage.specs.declared.half.Half.{Half}
use Rattle.coverage.specs.declared.tracker.Tracker.{Tracker}
use Rattle.coverage.specs.declared.row.Row.{Row}
use Rattle.coverage.specs.Counts.{AreCounts}
use Rattle.coverage.specs.Rows.{record_rows, sent_rows, received_rows, sent_row, link_sends, arrival_row, link_gets, damage_row, user_row}
use Rattle.coverage.specs.Rows.{link_row}
use Rattle.coverage.specs.inner.Met.{counted, met, met_sent, met_receipt, met_damage, met_event, tracked_event}
use Rattle.coverage.specs.inner.Tracked.{tracker_of, after_event}
use Rattle.coverage.proofs.Counting.{option_counted}
use Rattle.coverage.proofs.Tracks.{IsBounded, arrival_tracks, effects_bounded, event_tracks, event_bounded, sending_on}
use Rattle.coverage.proofs.Walks.{StationNode}

abbrev Wire : Type 0
Wire = WireStation LinkTag

-- a side that is tracked, with its rows counted
pub record Goes (half : Half) (w : Wire) (rows : List Row) : Type 0 where
  pub tracks : half.tracker ≡ tracker_of w.variables
  pub bounded : IsBounded w.variables
  pub counts : AreCounts half.counts.met rows

-- none, one or two rows more
two_counted : (counts : List ℕ) (rows : List Row) (one two : Option Row) → AreCounts counts rows →
    AreCounts (counted (counted counts one) two) (rows ++ (option_to_list one ++ option_to_list two))
two_counted counts rows one two are =
    subst (AreCounts (counted (counted counts one) two)) (append_assoc rows (option_to_list one) (option_to_list two))
    (option_counted (counted counts one) (rows ++ option_to_list one) two (option_counted counts rows one are))

damaged_same : (reason : NakReason) (w : Wire) (b : Bool) →
    (cond b (record w { causes = with_cause reason w.causes }) w).variables ≡ w.variables
damaged_same reason w true = refl
damaged_same reason w false = refl

module _ (counts : Counts) (n : StationNode) (rows : List Row) (bounded : IsBounded n.station.variables) (are : AreCounts counts.met rows) where
  abbrev w : Wire
  w = n.station

  abbrev half : Half
  half = record { tracker = tracker_of w.variables; counts = counts }

  -- where the station makes it, this is left, and so many rows are counted
  abbrev GoesOn : Half → StepAlone Wire → List Row → Type 0
  GoesOn left step further = (end : StationNode) → step ≡ Makes end → Goes left end.station (rows ++ further)

  abbrev station_or : StepAlone Wire → Wire
  station_or (Makes end) = end.station
  station_or (Refuses accused reason) = w

  made : (left : Half) (next end : StationNode) (further : List Row) → Goes left next.station (rows ++ further) →
      (let step : StepAlone Wire = Makes next in step ≡ Makes end) → Goes left end.station (rows ++ further)
  made left next end further goes is = subst (λ (s : Wire). Goes left s (rows ++ further)) (ap station_or is) goes

  -- ---- a unit is sent

  sent_made : (m : MessageValue) (o : Option StationRefusal) → wire_sending_refusal w m ≡ o →
      GoesOn (met_sent half (Sound m)) (alone.sends n (unless_refused o (wire_after_sending w m, wire_tag w))) (sent_rows w.variables (Sound m))
  sent_made m None none end is =
      let on = sending_on w bounded m none in
      made (met_sent half (Sound m)) (record n { station = wire_after_sending w m }) end (sent_rows w.variables (Sound m)) (record {
        tracks = sym on.0;
        bounded = on.1;
        counts = two_counted counts.met rows (sent_row w.variables.state (wire_is_new w.variables) m) (link_sends (wire_is_new w.variables) m) are;
      }) is
  sent_made m (Some refusal) none end is = absurd cc

  sent_goes : (read : ReadingValue) → GoesOn (met_sent half read) (sent_alone station_end n read) (sent_rows w.variables read)
  sent_goes (Sound m) = sent_made m (wire_sending_refusal w m) refl
  sent_goes HeaderBad = λ end made_is. absurd cc
  sent_goes DataBad = λ end made_is. absurd cc
  sent_goes (Malformed departure) = λ end made_is. absurd cc

  -- ---- what comes

  module _ (m : MessageValue) (fate : Fate) (front : ℕ) where
    abbrev kept : Bool
    kept = is_kept fate

    abbrev after : Wire
    after = wire_after_arrival w (arriving.Sound m unknown_period) kept

    sound_met : Goes (met_receipt half fate (Sound m)) after (rows ++ received_rows w.variables fate (Sound m))
    sound_met = record {
      tracks = sym (arrival_tracks m unknown_period kept w);
      bounded = effects_bounded m unknown_period kept (row w.variables.state m).effects w bounded;
      counts = two_counted counts.met rows (Some (arrival_row w.variables.state w.variables.received kept m)) (link_gets fate m) are;
    }

    sound_made : (wrong_unit wrong_taken : Option StepRefusal) (o : Option StationRefusal) →
        GoesOn (met_receipt half fate (Sound m)) (unless_wrong wrong_unit (then_unless_wrong wrong_taken (meets n front (unless_refused o after))))
        (received_rows w.variables fate (Sound m))
    sound_made None None None end is =
        made (met_receipt half fate (Sound m)) (record n { station = after; front = front }) end (received_rows w.variables fate (Sound m))
        sound_met is
    sound_made None None (Some refusal) end is = absurd cc
    sound_made None (Some wrong) None end is = absurd cc
    sound_made None (Some wrong) (Some refusal) end is = absurd cc
    sound_made (Some wrong) wrong_taken o end is = absurd cc

  -- damage is told, and no packet is taken
  module _ (reason : NakReason) (bad : ReadingValue) where
    damage_met : (next : Wire) → next.variables ≡ w.variables →
        Goes (met_damage half bad) next (rows ++ option_to_list (damage_row w.variables.state bad))
    damage_met next same = record {
      tracks = sym (ap (λ (k : StationVariables LinkTag). tracker_of k) same);
      bounded = subst IsBounded (sym same) bounded;
      counts = option_counted counts.met rows (damage_row w.variables.state bad) are;
    }

    damage_left : Goes (met_damage half bad) (damaged_by wire_book reason w) (rows ++ option_to_list (damage_row w.variables.state bad))
    damage_left = damage_met (damaged_by wire_book reason w) (damaged_same reason w (counts_damage w.variables.state))

    damage_comes : (fate : Fate) (front : ℕ) → met_receipt half fate bad ≡ met_damage half bad →
        GoesOn (met_receipt half fate bad) (meets n front (unless_refused (keep_refusal false (is_kept fate)) (damaged_by wire_book reason w)))
        (option_to_list (damage_row w.variables.state bad))
    damage_comes NotKept front same end made_is =
        subst (λ (left : Half). Goes left end.station (rows ++ option_to_list (damage_row w.variables.state bad))) (sym same)
        (made (met_damage half bad) (record n { station = damaged_by wire_book reason w; front = front }) end
        (option_to_list (damage_row w.variables.state bad)) damage_left made_is)
    damage_comes Kept front same end made_is = absurd cc
    damage_comes Dropped front same end made_is = absurd cc

  comes_goes : (fate : Fate) (front : ℕ) (read : ReadingValue) →
      GoesOn (met_receipt half fate read) (comes_alone station_end n front fate read) (received_rows w.variables fate read)
  comes_goes fate front (Sound m) =
      sound_made m fate front (station_end.wrong_unit w m) (if_met (is_met fate) None)
      (wire_arrival_refusal of_any_period w (arriving.Sound m unknown_period) (is_kept fate))
  comes_goes fate front HeaderBad = damage_comes HeaderCheck HeaderBad fate front refl
  comes_goes fate front DataBad = damage_comes DataCheck DataBad fate front refl
  comes_goes fate front (Malformed departure) = λ end made_is. absurd cc

  receives_goes : (late : Bool) (fate : Fate) (front : ℕ) (read : ReadingValue) →
      GoesOn (met_receipt half fate read) (cond late (Refuses ThisEnd HintOrder) (comes_alone station_end n front fate read))
      (received_rows w.variables fate read)
  receives_goes true fate front read = λ end made_is. absurd cc
  receives_goes false fate front read = comes_goes fate front read

  noise_goes : (read : ReadingValue) →
      GoesOn (met_damage half read) (alone.does n (noise_comes station_end.machine w (damage read)))
      (option_to_list (damage_row w.variables.state read))
  noise_goes (Sound m) end made_is = absurd cc
  noise_goes HeaderBad end made_is =
      made (met_damage half HeaderBad) (record n { station = damaged_by wire_book HeaderCheck w }) end
      (option_to_list (damage_row w.variables.state HeaderBad)) (damage_left HeaderCheck HeaderBad) made_is
  noise_goes DataBad end made_is =
      made (met_damage half DataBad) (record n { station = damaged_by wire_book DataCheck w }) end
      (option_to_list (damage_row w.variables.state DataBad)) (damage_left DataCheck DataBad) made_is
  noise_goes (Malformed departure) end made_is = absurd cc

  -- ---- what the user does

  abbrev event_rows : Event → List Row
  event_rows said = option_to_list (user_row w.variables.state said) ++ option_to_list (link_row said)

  station_event : (event : StationEvent) (said : Event) (o : Option StationRefusal) →
      tracked_event (tracker_of w.variables) said ≡ after_event (tracker_of w.variables) event →
      GoesOn (met_event half said) (alone.does n (unless_refused o (wire_after_event w event))) (event_rows said)
  station_event event said None same end made_is =
      made (met_event half said) (record n { station = wire_after_event w event }) end (event_rows said)
      (record {
        tracks = same ∙ sym (event_tracks event w);
        bounded = event_bounded event w bounded;
        counts = two_counted counts.met rows (user_row w.variables.state said) (link_row said) are;
      }) made_is
  station_event event said (Some refusal) same end made_is = absurd cc

  link_event : (said : Event) → tracked_event (tracker_of w.variables) said ≡ tracker_of w.variables →
      GoesOn (met_event half said) (Makes (record n { station = w })) (event_rows said)
  link_event said same end made_is =
      made (met_event half said) (record n { station = w }) end (event_rows said)
      (record {
        tracks = same;
        bounded = bounded;
        counts = two_counted counts.met rows (user_row w.variables.state said) (link_row said) are;
      }) made_is

  user_goes : (event : Event) → GoesOn (met_event half event) (alone.does n (station_end.machine.user w event)) (event_rows event)
  user_goes events.Start = station_event Start events.Start (user_refusal w.variables.state Start) refl
  user_goes events.Halt = station_event Halt events.Halt (user_refusal w.variables.state Halt) refl
  user_goes events.Boot = station_event Halt events.Boot (user_refusal w.variables.state Halt) refl
  user_goes (events.Open link) = link_event (events.Open link) refl
  user_goes (events.Accept partner link) = link_event (events.Accept partner link) refl
  user_goes (events.Reject partner link) = link_event (events.Reject partner link) refl
  user_goes (events.In link bytes) = link_event (events.In link bytes) refl
  user_goes (events.Up link bytes) = link_event (events.Up link bytes) refl
  user_goes (events.Close link) = link_event (events.Close link) refl
  user_goes (events.Abort link) = link_event (events.Abort link) refl
  user_goes (events.Composed bytes) = link_event (events.Composed bytes) refl
  user_goes (events.Interrupt link bytes) = link_event (events.Interrupt link bytes) refl
  user_goes (events.Interrupted link bytes) = link_event (events.Interrupted link bytes) refl

  -- ---- a record

  record_goes : (r : Record) → GoesOn (met half r) (step_alone station_end n r) (record_rows w.variables r)
  record_goes (Sent bytes) = sent_goes (reading bytes)
  record_goes (Received hint fate bytes) = receives_goes (nat_lt hint n.front) fate (hint + 1) (reading bytes)
  record_goes (Noise bytes) = noise_goes (reading bytes)
  record_goes (User event) = user_goes event

pub goes_on : (half : Half) (n end : StationNode) (rows : List Row) (r : Record) → Goes half n.station rows →
    step_alone station_end n r ≡ Makes end → Goes (met half r) end.station (rows ++ record_rows n.station.variables r)
goes_on half n end rows r goes is =
    subst (λ (t : Tracker). Goes (met (record { tracker = t; counts = half.counts }) r) end.station (rows ++ record_rows n.station.variables r))
    (sym goes.tracks) (record_goes half.counts n rows goes.bounded goes.counts r end is)
