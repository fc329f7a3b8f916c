-- What two nodes make that ask no rule on tags, two that do make too, where each side starts at most once and gives its link addresses in order.
use Rattle.std.proofs.Common.{◌≡◌, ℕ, ◌+◌, ◌≤◌, Bool, true, false, eqb, cond, nat_lt, Option, Some, None, Result, Ok, Err, option_map, List, [], ◌∷◌}
use Rattle.std.proofs.Common.{◌++◌, map}
use Rattle.std.proofs.Common.{refl, sym, ap, ◌∙◌, subst, arith}
use Rattle.std.specs.Prelude.{slice_get, bytes_eq}
use Rattle.std.proofs.lemmas.Bool.{and_parts}
use Rattle.std.proofs.lemmas.Grind.{flat_map-append}
use Rattle.std.proofs.lemmas.Option.{slice_get-map}
use Rattle.two_nodes.specs.Nodes.{Half, World, Run, Done, concluded, read, answered, advance, exchanged_world}
use Rattle.two_nodes.specs.Cutting.{cut_world}
use Rattle.two_nodes.proofs.Lasting.{lasts}
use Rattle.two_nodes.proofs.Order.{one_more_of_a, one_more_of_b, exchange}
use Rattle.ddcmp_msg.specs.Message.{MessageValue, Data, Ack, Strt}
use Rattle.ddcmp_msg.specs.Reading.{ReadingValue, reading}
use Rattle.ddcmp_msg.specs.Reading as read_as
use Rattle.capture_record.specs.declared.fate.Fate.{Fate}
use Rattle.capture_record.specs.declared.fate.Fate.TheVariants.{Kept, Dropped, NotKept}
use Rattle.capture_record.specs.Fates.{is_kept}
use Rattle.capture_record.specs.declared.event.Event.{Event}
use Rattle.capture_record.specs.declared.event.Event.TheVariants as events
use Rattle.capture_record.specs.declared.record.Record.{Record}
use Rattle.capture_record.specs.declared.record.Record.TheVariants.{Sent, Received, Noise, User}
use Rattle.dna_station.specs.declared.head.Head.{Head}
use Rattle.dna_station.specs.declared.state.State.{State}
use Rattle.dna_station.specs.declared.state.State.TheVariants.{Halted, Istrt, Astrt, Running}
use Rattle.dna_station.specs.declared.refusal.StationRefusal.TheVariants.{CrossedPeriod}
use Rattle.dna_station.specs.declared.refusal.StepRefusal.{StepRefusal}
use Rattle.dna_station.specs.declared.refusal.StepRefusal.TheVariants.{HintOrder}
use Rattle.dna_station.specs.Table.{row, Row, ignored}
use Rattle.dna_station.specs.PeriodRule.{meets}
use Rattle.dna_node.specs.TagRules.{judged, by_bytes}
use Rattle.dna_station.specs.Station.{Station}
use Rattle.dna_station.specs.Truth.{tag_of}
use Rattle.dna_station.specs.Book.{Sound, has_packet, keep_refusal}
use Rattle.dna_station.specs.StationBook.{takes, after_arrival}
use Rattle.dna_station.specs.Line.{damage, coming_by}
use Rattle.dna_station.specs.Machine.{does, met, comes, receives, sent_step, noise_step, user_step, unless_refused, step}
use Rattle.dna_links.specs.Links.{Carried}
use Rattle.dna_links.specs.declared.queue.Queues.TheVariants.{Without}
use Rattle.dna_links.specs.TrueLinks.{Links, links_arrived}
use Rattle.dna_links.specs.Runs.{SentMessage}
use Rattle.dna_node.specs.Content.{content}
use Rattle.dna_node.specs.Layers.{Layers, LayersTruth, LayersNode, LayersUnit, with_links, composes, keeps, meets_on, layers_machine, stations}
use Rattle.dna_node.specs.Layers.{unit_of_station}
use Rattle.dna_node.specs.LayersPair.{layers_pair, layers_start, link_event_in, link_events, side_of, bytes_pair}
use Rattle.dna_node.proofs.Once.Orderly.{AddressesRise, IsOrderly, starts-join}
use Rattle.dna_station.proofs.Bounds.Numbers.{is_data}
use Rattle.dna_node.proofs.Follows.{of_stations, lifted}
use Rattle.dna_node.proofs.Joined.{AreTold, LayersJoined, joined_kept, start_joined}
use Rattle.dna_node.proofs.Once.Starts.{AreBegun, BothBegun, begun_kept}
use Rattle.dna_node.proofs.Once.Meets.{meets_always}
use Rattle.dna_node.proofs.Once.AddressRuns.{IsAddressedSide, reached_addressed, rise_parts, anyone_same}
use Rattle.two_nodes.specs.Kept.{IsKept}

-- a row that takes a packet is of data
either_row : (b : Bool) (r : Row) → has_packet r.effects ≡ false → has_packet (cond b r ignored).effects ≡ false
either_row true r e = e
either_row false r e = refl

pub row_is_data : (state : State) (m : MessageValue) → has_packet (row state m).effects ≡ true → is_data m ≡ true
row_is_data Halted m e = absurd cc
row_is_data Istrt (Strt flags) e = absurd cc
row_is_data Istrt m e = absurd cc
row_is_data Astrt (Strt flags) e = absurd cc
row_is_data Astrt (Ack flags resp) e = let never = either_row (eqb resp 0) _ refl in absurd (never_true (sym e ∙ never))
  where
    never_true : true ≡ false → ⊥
    never_true e = cc
row_is_data Astrt (Data flags resp num body) e = refl
row_is_data Astrt m e = absurd cc
row_is_data Running (Data flags resp num body) e = refl
row_is_data Running m e = absurd cc

-- ---- one record

module _ (own other : Half LayersNode LayersUnit) where
  abbrev s : Layers
  s = own.state.station

  abbrev station : Station
  station = s.station

  -- what is known of both sides at this time
  pub record IsReady : Type 0 where
    pub few : station.period ≤ 1
    pub others : other.state.station.station.period ≤ 1
    pub begun : AreBegun station (map unit_of_station own.sent) other.state.station.station.period
    pub theirs : AreBegun other.state.station.station (map unit_of_station other.sent) station.period
    pub told : AreTold other
    pub front : ℕ
    pub of_other : ℕ
    pub most : ℕ
    pub most_of_other : ℕ
    pub addressed : IsAddressedSide (side_of own front) (side_of other of_other) most
    pub other_addressed : IsAddressedSide (side_of other of_other) (side_of own front) most_of_other

  module _ (h : IsReady) (hint : ℕ) (unit : LayersUnit) (there : slice_get other.sent hint ≡ Some unit) where
    pub meets_it : meets (row station.state unit.message).needs (tag_of station) unit.known.station.tag ≡ true
    meets_it = meets_always station other.state.station.station.period (unit_of_station unit) h.few h.others
        (h.theirs.units hint (unit_of_station unit) (slice_get-map unit_of_station other.sent hint ∙ ap (option_map unit_of_station) there))
        h.begun.started h.begun.partner

    -- a packet that is kept, with what was true of its message
    kept_same : (links_s : Layers) → links_s.links ≡ s.links → is_data unit.message ≡ true → (o : Option SentMessage) → unit.known.carried ≡ o →
        keeps by_bytes links_s o ≡ keeps judged links_s o
    kept_same links_s same d None is = refl
    kept_same links_s same d (Some message) is =
        ap (with_links links_s) (subst
        (λ (x : Links). links_arrived Without by_bytes.partners x message.packet message.truth ≡
        links_arrived Without judged.partners x message.packet message.truth)
        (sym same)
        (anyone_same (side_of own h.front) (side_of other h.of_other) h.most h.most_of_other h.addressed h.other_addressed message
        (h.other_addressed.told unit.known.station.place message (h.told.told hint unit there d ∙ ap Some is))))

    -- what comes is met in the same way
    kept_or_not : (fate : Fate) (takes : Bool) → (takes ≡ true → is_data unit.message ≡ true) →
        meets_on by_bytes s (Sound unit.message unit.known) fate
        (unless_refused (keep_refusal takes (is_kept fate)) (after_arrival station (Sound unit.message unit.known.station) (is_kept fate)))
        ≡ meets_on judged s (Sound unit.message unit.known) fate
        (unless_refused (keep_refusal takes (is_kept fate)) (after_arrival station (Sound unit.message unit.known.station) (is_kept fate)))
    kept_or_not NotKept takes d = refl
    kept_or_not Dropped true d = refl
    kept_or_not Dropped false d = refl
    kept_or_not Kept false d = refl
    kept_or_not Kept true d =
        kept_same (record s { station = after_arrival station (Sound unit.message unit.known.station) true }) refl (d refl) unit.known.carried refl

    sound_same : (fate : Fate) → (layers_machine by_bytes).arrives s (Sound unit.message unit.known) fate ≡ (layers_machine judged).arrives s
        (Sound unit.message unit.known) fate
    sound_same fate =
        kept_or_not fate (takes station unit.message unit.known.station) (λ e. row_is_data station.state unit.message (and_parts _ _ e).0)
        ∙ ap (λ (b : Bool). meets_on judged s (Sound unit.message unit.known) fate
        (unless_refused (cond b (keep_refusal (takes station unit.message unit.known.station) (is_kept fate)) (Some CrossedPeriod))
        (after_arrival station (Sound unit.message unit.known.station) (is_kept fate)))) (sym meets_it)

    damage_same : (fate : Fate) (read : ReadingValue) → comes (layers_machine by_bytes) own.state (hint + 1) fate (damage read) ≡ comes
        (layers_machine judged) own.state (hint + 1) fate (damage read)
    damage_same Kept read_as.HeaderBad = refl
    damage_same Dropped read_as.HeaderBad = refl
    damage_same NotKept read_as.HeaderBad = refl
    damage_same Kept read = refl
    damage_same Dropped read = refl
    damage_same NotKept read = refl

    comes_same : (fate : Fate) (read : ReadingValue) (b : Bool) →
        comes (layers_machine by_bytes) own.state (hint + 1) fate (coming_by b unit read) ≡ comes (layers_machine judged) own.state (hint + 1) fate
        (coming_by b unit read)
    comes_same fate read true = ap (met own.state (hint + 1)) (sound_same fate)
    comes_same fate read false = damage_same fate read

    receives_same : (fate : Fate) (bytes : List ℕ) → receives (layers_machine by_bytes) own.state hint fate bytes unit ≡ receives
        (layers_machine judged) own.state hint fate bytes unit
    receives_same fate bytes =
        ap (λ x. cond (nat_lt hint own.state.front) (Err HintOrder) x) (comes_same fate (reading bytes) (bytes_eq bytes unit.bytes))

  sent_same : (bytes : List ℕ) (r : ReadingValue) → sent_step (layers_machine by_bytes) own.state bytes r ≡ sent_step (layers_machine judged)
      own.state bytes r
  sent_same bytes (read_as.Sound m) = refl
  sent_same bytes read = refl

  noise_same : (r : ReadingValue) → noise_step (layers_machine by_bytes) own.state r ≡ noise_step (layers_machine judged) own.state r
  noise_same (read_as.Sound m) = refl
  noise_same read = refl

  packet_same : (r : Result (Option Carried) StepRefusal) →
      does {K = LayersTruth} own.state (composes by_bytes s r) ≡ does own.state (composes judged s r)
  packet_same (Ok (Some packet)) = refl
  packet_same (Ok None) = refl
  packet_same (Err refusal) = refl

  user_same : (event : Event) → user_step (layers_machine by_bytes) own.state event ≡ user_step (layers_machine judged) own.state event
  user_same events.Start = refl
  user_same (events.Composed packet) = packet_same (content packet)
  user_same event = refl

  -- each record becomes the same
  pub record_same : IsReady → (r : Record) → advance (step (layers_machine by_bytes)) own other r ≡ advance (step (layers_machine judged)) own other r
  record_same h (Sent bytes) = ap (answered own other) (sent_same bytes (reading bytes))
  record_same h (Noise bytes) = ap (answered own other) (noise_same (reading bytes))
  record_same h (User event) = ap (answered own other) (user_same event)
  record_same h (Received hint fate bytes) = go (slice_get other.sent hint) refl
    where
      go : (o : Option LayersUnit) → slice_get other.sent hint ≡ o → read own (receives (layers_machine by_bytes) own.state hint fate bytes) o ≡ read
          own (receives (layers_machine judged) own.state hint fate bytes) o
      go None there = refl
      go (Some unit) there = ap (concluded own) (receives_same h hint unit there fate bytes)

-- ---- a run

record HoldsAt (head_a head_b : Head) (w : World LayersNode LayersUnit) (made_a made_b : List Record) : Type 0 where
  joined : LayersJoined Without head_a head_b w made_a made_b
  begun : BothBegun (cut_world stations w) made_a made_b

module _ (head_a head_b : Head) where
  start_begun : BothBegun (cut_world stations (layers_start head_a head_b)) [] []
  start_begun = record {
    of_a = record { started = λ e. absurd cc; partner = λ e. absurd cc; units = λ i u at. absurd cc };
    of_b = record { started = λ e. absurd cc; partner = λ e. absurd cc; units = λ i u at. absurd cc };
    count_a = refl;
    count_b = refl;
  }

  holds_at : (w : World LayersNode LayersUnit) (made_a made_b : List Record) → Run layers_pair (layers_start head_a head_b) made_a made_b w →
      HoldsAt head_a head_b w made_a made_b
  holds_at w made_a made_b run = record {
    joined =
        lasts layers_pair (LayersJoined Without head_a head_b) (joined_kept Without head_a head_b) [] [] (start_joined Without head_a head_b) run;
    begun = lasts layers_pair (of_stations Without BothBegun) (lifted Without BothBegun begun_kept) [] [] start_begun run;
  }

  module _ (w : World LayersNode LayersUnit) (made_a made_b : List Record) (run : Run layers_pair (layers_start head_a head_b) made_a made_b w)
      (orderly_a : IsOrderly made_a) (orderly_b : IsOrderly made_b) where
    pub ready_a : IsReady w.a w.b
    ready_a =
        let h = holds_at w made_a made_b run in
        let a = reached_addressed head_a.own head_a.peer head_b.own head_b.peer h.joined.joined.reached orderly_a.rise orderly_b.rise in
        let count_a = h.begun.count_a in let few_a = orderly_a.few in let count_b = h.begun.count_b in let few_b = orderly_b.few in
        record {
          few = omega arith;
          others = omega arith;
          begun = h.begun.of_a;
          theirs = h.begun.of_b;
          told = h.joined.b_told;
          front = h.joined.joined.front_a;
          of_other = h.joined.joined.front_b;
          most = _;
          most_of_other = _;
          addressed = a.of_a;
          other_addressed = a.of_b;
        }

module _ (head_a head_b : Head) (w : World LayersNode LayersUnit) (made_a made_b : List Record)
    (run : Run layers_pair (layers_start head_a head_b) made_a made_b w) (orderly_a : IsOrderly made_a) (orderly_b : IsOrderly made_b) where
  -- the same with the sides exchanged
  pub ready_b : IsReady w.b w.a
  ready_b = ready_a head_b head_a (exchanged_world w) made_b made_a (exchange layers_pair run) orderly_b orderly_a

-- a beginning of what is orderly
orderly_first : (made later : List Record) → IsOrderly (made ++ later) → IsOrderly made
orderly_first made later o =
    let e = starts-join made later in let f = o.few in
    record {
      few = omega arith;
      rise = (rise_parts 0 (link_events made) (link_events later) (subst (AddressesRise 0) (flat_map-append link_event_in made later) o.rise)).0;
    }

module _ (head_a head_b : Head) where
  -- what was made so far, if it is orderly
  abbrev IsChecked : World LayersNode LayersUnit → List Record → List Record → Type 0
  IsChecked w of_a of_b = IsOrderly of_a → IsOrderly of_b → Run layers_pair (layers_start head_a head_b) of_a of_b w

  checked_kept : IsKept bytes_pair IsChecked
  checked_kept = record {
    by_a = λ w made_a made_b r h now made orderly_a orderly_b.
        let first = orderly_first made_a (r ∷ []) orderly_a in
        let run = now first orderly_b in
        one_more_of_a layers_pair r h run (sym (record_same w.a w.b (ready_a head_a head_b w made_a made_b run first orderly_b) r) ∙ made);
    by_b = λ w made_a made_b r h now made orderly_a orderly_b.
        let first = orderly_first made_b (r ∷ []) orderly_b in
        let run = now orderly_a first in
        one_more_of_b layers_pair r h run (sym (record_same w.b w.a (ready_b head_a head_b w made_a made_b run orderly_a first) r) ∙ made);
  }

  -- the run of nodes that ask no rule on tags is one of nodes that do
  pub is_checked_run : {end : World LayersNode LayersUnit} (of_a of_b : List Record) → Run bytes_pair (layers_start head_a head_b) of_a of_b end →
      IsOrderly of_a → IsOrderly of_b → Run layers_pair (layers_start head_a head_b) of_a of_b end
  is_checked_run of_a of_b run = lasts bytes_pair IsChecked checked_kept [] [] (λ orderly_a orderly_b. Done) run
