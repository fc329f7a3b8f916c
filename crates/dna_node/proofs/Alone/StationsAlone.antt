-- The station of one end alone, beside a node of a pair that is judged as stations alone.
use Rattle.std.proofs.Common.{◌≡◌, ℕ, ◌+◌, ◌≤◌, Bool, true, false, cond, nat_lt, Option, Some, None, Result, Ok, Err, List, refl, ap, ◌∙◌, subst}
use Rattle.std.specs.Prelude.{slice_get}
use Rattle.two_nodes.specs.Nodes.{Half, World, Outcome, concluded, read, advance}
use Rattle.two_nodes.specs.Nodes.Outcome.{Made, Waits, Refused}
use Rattle.two_nodes.specs.Past.{Offends}
use Rattle.ddcmp_msg.specs.Message.{MessageValue}
use Rattle.capture_record.specs.declared.fate.Fate.{Fate}
use Rattle.capture_record.specs.Fates.{is_kept}
use Rattle.capture_record.specs.declared.record.Record.{Record}
use Rattle.capture_record.specs.declared.record.Record.TheVariants.{Sent, Received, Noise, User}
use Rattle.capture_record.specs.declared.event.Event.{Event}
use Rattle.capture_record.specs.declared.event.Event.TheVariants as events
use Rattle.dna_station.specs.declared.head.Head.{Head}
use Rattle.dna_station.specs.declared.state.StationEvent.TheVariants.{Start, Halt}
use Rattle.dna_station.specs.declared.tag.Tag.{Tag}
use Rattle.dna_links.specs.declared.tag.LinkTag.{LinkTag}
use Rattle.dna_station.specs.declared.refusal.StationRefusal.{StationRefusal}
use Rattle.dna_station.specs.declared.refusal.StationRefusal.TheVariants.{CrossedPeriod}
use Rattle.dna_station.specs.declared.refusal.StepRefusal.{StepRefusal}
use Rattle.dna_station.specs.declared.refusal.StepRefusal.TheVariants.{HintOrder, Station as OfStation}
use Rattle.dna_station.specs.Table.{user_refusal}
use Rattle.dna_station.specs.Book.{ArrivalValue, Sound, HeaderBad, DataBad, meets_by, takes_by, keep_refusal}
use Rattle.dna_station.specs.PeriodRule.{of_period, of_any_period}
use Rattle.dna_station.specs.Station.{Station}
use Rattle.dna_station.specs.Truth.{Truth}
use Rattle.dna_station.specs.WireStation.{WireStation, wire_after_event}
use Rattle.dna_station.specs.WireBook.{wire_book, wire_tag, wire_after_sending, wire_sending_refusal, wire_after_arrival}
use Rattle.dna_station.specs.StationBook.{arrival_refusal, after_arrival}
use Rattle.dna_station.specs.Line.{SentUnit, coming}
use Rattle.dna_station.specs.Machine.{met, comes, receives, step, unless_refused}
use Rattle.dna_station.specs.Node.{Node, station_machine}
use Rattle.dna_station.specs.WireNode.{wire_machine, unlabelled, cut_node, cut_unit, seen}
use Rattle.dna_node.specs.Kind.{kind_pair, kind_start, stations_alone}
use Rattle.dna_node.specs.Alone.{Accused, ThisEnd, accused_of, Refused as RefusedAt, unknown_period, station_end, judged_station_alone}
use Rattle.dna_node.specs.Alone.{is_seen_alone}
use Rattle.dna_station.proofs.Bounds.Runs.{BothSound, both_sound_kept, start_sound, sound_bounded}
use Rattle.dna_station.proofs.Cut.Node.{unlabelled_bodies, record_same}
use Rattle.dna_node.proofs.Alone.Along.{forget_result, Along, left_sent, GoesAlong}
use Rattle.dna_node.proofs.Alone.LinkEffects.{forget_tag}
use Rattle.dna_node.proofs.Alone.Station.{forget_station, event_along, sending_refusal_along, sending_along, arrival_along, header_along}
use Rattle.dna_node.proofs.Alone.Station.{data_bad_along}
use Rattle.dna_node.proofs.Alone.Forgotten.{wrong_response_of_along}
use Rattle.dna_node.proofs.Alone.Response.{message_right}
use Rattle.dna_node.proofs.Alone.Steps.{IsRight}
use Rattle.dna_node.proofs.Alone.Runs.{SeesRight, misses_nothing}

abbrev forget : WireStation LinkTag → WireStation LinkTag
forget w = forget_station forget_tag w

module _ (w : WireStation LinkTag) where
  -- ---- the user, and what is sent

  -- refused alike, and alike where not refused
  alike : (o : Option StationRefusal) (x y : WireStation LinkTag) → y ≡ forget x → unless_refused o y ≡ forget_result forget (unless_refused o x)
  alike None x y e = ap (λ (z : WireStation LinkTag). unless_refused None z) e
  alike (Some refusal) x y e = refl

  pub user_along : (event : Event) →
      (wire_machine of_any_period).user (forget w) event ≡ forget_result forget ((wire_machine of_period).user w event)
  user_along events.Start =
      alike (user_refusal w.variables.state Start) (wire_after_event w Start) (wire_after_event (forget w) Start) (event_along forget_tag w Start)
  user_along events.Halt =
      alike (user_refusal w.variables.state Halt) (wire_after_event w Halt) (wire_after_event (forget w) Halt) (event_along forget_tag w Halt)
  user_along events.Boot =
      alike (user_refusal w.variables.state Halt) (wire_after_event w Halt) (wire_after_event (forget w) Halt) (event_along forget_tag w Halt)
  user_along event = refl

  by_refusal : (m : MessageValue) (o : Option StationRefusal) →
      left_sent (unless_refused o (wire_after_sending (forget w) m, wire_tag (forget w)))
      ≡ forget_result forget (left_sent (unless_refused o (wire_after_sending w m, wire_tag w)))
  by_refusal m None = ap Ok (sending_along forget_tag w m)
  by_refusal m (Some refusal) = refl

  pub sends_along : (m : MessageValue) →
      left_sent ((wire_machine of_any_period).sends (forget w) m) ≡ forget_result forget (left_sent ((wire_machine of_period).sends w m))
  sends_along m =
      ap (λ (o : Option StationRefusal). left_sent (unless_refused o (wire_after_sending (forget w) m, wire_tag (forget w))))
      (sending_refusal_along forget_tag w m)
      ∙ by_refusal m (wire_sending_refusal w m)

  -- ---- an arrival

  module _ (m : MessageValue) (known : Tag) (fate : Fate) where
    abbrev kept : Bool
    kept = is_kept fate

    abbrev arrives_by : Bool → Result (WireStation LinkTag) StepRefusal
    arrives_by b =
        unless_refused (cond b (keep_refusal (takes_by wire_book w m known) kept) (Some CrossedPeriod))
        (wire_after_arrival w (Sound m known) kept)

    by_taking : (o : Option StationRefusal) →
        Along forget (unless_refused o (wire_after_arrival w (Sound m known) kept))
        (unless_refused o (wire_after_arrival (forget w) (Sound m unknown_period) kept))
    by_taking None = ap Ok (arrival_along forget_tag m known kept w)
    by_taking (Some refusal) = λ seen. refl

    by_period : (b : Bool) → Along forget (arrives_by b) ((wire_machine of_any_period).arrives (forget w) (Sound m unknown_period) fate)
    by_period true = by_taking (keep_refusal (takes_by wire_book w m known) kept)
    by_period false = λ seen. absurd cc

    pub sound_along : Along forget ((wire_machine of_period).arrives w (Sound m known) fate)
        ((wire_machine of_any_period).arrives (forget w) (Sound m unknown_period) fate)
    sound_along = by_period (meets_by wire_book of_period w m known)

    pub crossed : meets_by wire_book of_period w m known ≡ false →
        (wire_machine of_period).arrives w (Sound m known) fate ≡ Err (OfStation CrossedPeriod)
    crossed e = ap arrives_by e

  pub header_bad : (fate : Fate) →
      (wire_machine of_any_period).arrives (forget w) HeaderBad fate ≡ forget_result forget ((wire_machine of_period).arrives w HeaderBad fate)
  header_bad fate =
      alike (keep_refusal false (is_kept fate)) (wire_after_arrival w HeaderBad (is_kept fate))
      (wire_after_arrival (forget w) HeaderBad (is_kept fate))
      (header_along forget_tag w (is_kept fate))

  pub data_bad : (fate : Fate) →
      (wire_machine of_any_period).arrives (forget w) DataBad fate ≡ forget_result forget ((wire_machine of_period).arrives w DataBad fate)
  data_bad fate =
      alike (keep_refusal false (is_kept fate)) (wire_after_arrival w DataBad (is_kept fate)) (wire_after_arrival (forget w) DataBad (is_kept fate))
      (data_bad_along forget_tag w (is_kept fate))

abbrev pub station_along : GoesAlong (wire_machine of_period) station_end forget
station_along = record {
  meets = λ (w : WireStation LinkTag) (m : MessageValue) (known : Tag). meets_by wire_book of_period w m known;
  crossed = crossed;
  user = user_along;
  sends = sends_along;
  sound = sound_along;
  header_bad = header_bad;
  data_bad = data_bad;
  wrong_unit = λ w m. wrong_response_of_along forget_tag w.variables m;
  wrong_taken = λ w m. refl;
}

-- ---- in every run

pub a_right : (w : World Node SentUnit) (of_a of_b : List Record) → BothSound w of_a of_b → (hint : ℕ) (unit : SentUnit) →
    slice_get w.b.sent hint ≡ Some unit → w.a.state.front ≤ hint → IsRight station_along (cut_node w.a.state) (cut_unit unit)
a_right w of_a of_b sound hint unit there ahead =
    let b = sound_bounded w.a w.b sound.of_a sound.of_b in
    record {
      spelled = (sound.of_b.told hint unit there).reads;
      sent = λ met. message_right (unlabelled w.a.state.station.packets) w.a.state.station (unlabelled_bodies LinkTag w.a.state.station.packets)
          b.ordered unit.message unit.known (b.within hint unit there ahead met);
      taken = λ t made. refl;
    }

abbrev pub stations_see : SeesRight station_along stations_alone
stations_see = record {
  seen = seen;
  holds = BothSound;
  begins = start_sound;
  kept = both_sound_kept;
  same = λ w of_a of_b sound r. record_same w.a w.b (sound_bounded w.a w.b sound.of_a sound.of_b) r;
  right = a_right;
}

-- ---- what a station refuses accuses this end

abbrev AccusesThis : Record → Outcome Node SentUnit StepRefusal → Type 0
AccusesThis r (Made half) = Unit {0}
AccusesThis r Waits = Unit {0}
AccusesThis r (Refused reason) = accused_of r reason ≡ ThisEnd

no_receipt : (r : Record) → ((reason : StepRefusal) → accused_of r reason ≡ ThisEnd) → (o : Outcome Node SentUnit StepRefusal) → AccusesThis r o
no_receipt r this (Made half) = tt
no_receipt r this Waits = tt
no_receipt r this (Refused reason) = this reason

module _ (own other : Half Node SentUnit) (hint : ℕ) (fate : Fate) (bytes : List ℕ) where
  abbrev Here : Result Node StepRefusal → Type 0
  Here o = AccusesThis (Received hint fate bytes) (concluded own o)

  by_met : (o : Option StationRefusal) (s : Station) → Here (met own.state (hint + 1) (unless_refused o s))
  by_met None s = tt
  by_met (Some refusal) s = refl

  by_coming : (o : Option (ArrivalValue Truth)) → Here (comes (station_machine of_period) own.state (hint + 1) fate o)
  by_coming None = refl
  by_coming (Some arrival) =
      by_met (arrival_refusal of_period own.state.station arrival (is_kept fate)) (after_arrival own.state.station arrival (is_kept fate))

  by_hint : (b : Bool) (unit : SentUnit) →
      Here (cond b (Err HintOrder) (comes (station_machine of_period) own.state (hint + 1) fate (coming unit bytes)))
  by_hint true unit = refl
  by_hint false unit = by_coming (coming unit bytes)

  by_unit : (o : Option SentUnit) →
      AccusesThis (Received hint fate bytes) (read own (receives (station_machine of_period) own.state hint fate bytes) o)
  by_unit None = tt
  by_unit (Some unit) = by_hint (nat_lt hint own.state.front) unit

by_record : (own other : Half Node SentUnit) (r : Record) → AccusesThis r (advance (step (station_machine of_period)) own other r)
by_record own other (Sent bytes) = no_receipt (Sent bytes) (λ reason. refl) (advance (step (station_machine of_period)) own other (Sent bytes))
by_record own other (Received hint fate bytes) = by_unit own other hint fate bytes (slice_get other.sent hint)
by_record own other (Noise bytes) = no_receipt (Noise bytes) (λ reason. refl) (advance (step (station_machine of_period)) own other (Noise bytes))
by_record own other (User event) = no_receipt (User event) (λ reason. refl) (advance (step (station_machine of_period)) own other (User event))

pub misses_none : (head_own head_other : Head) (own other : List Record) (place : ℕ) (reason : StepRefusal) →
    Offends (kind_pair stations_alone) (kind_start stations_alone head_own head_other) own other place reason → is_seen_alone reason ≡ true →
    judged_station_alone head_own own ≡ RefusedAt place ThisEnd reason
misses_none head_own head_other own other place reason o seen =
    misses_nothing stations_see head_own head_other own other place reason o seen
    ∙ ap (λ (accused : Accused). RefusedAt place accused reason)
    (subst (AccusesThis o.offender) o.refused (by_record o.world.a o.world.b o.offender))
