-- A record that is made over both layers does as `OnTop` says, and its station's node makes it of what that sees: so a run is one of the stations.
use Rattle.std.proofs.Common.{◌≡◌, ℕ, ◌+◌, Bool, true, false, cond, nat_lt, Option, Some, None, Result, Ok, Err, List, [], ◌∷◌, refl, sym, ap, ◌∙◌}
use Rattle.std.proofs.Common.{subst, option_map}
use Rattle.std.specs.Prelude.{slice_get, bytes_eq}
use Rattle.std.proofs.lemmas.List.{map-append}
use Rattle.std.proofs.lemmas.Option.{slice_get-map}
use Rattle.two_nodes.specs.Nodes.{Half, World, Outcome, Run, Done, OfA, OfB, answered, concluded, read, stepped, stepped_sending, advance}
use Rattle.two_nodes.specs.Nodes.Outcome.{Made}
use Rattle.two_nodes.specs.Kept.{IsKept}
use Rattle.two_nodes.specs.Cutting.{cut_half, cut_world, cut_outcome}
use Rattle.two_nodes.proofs.Order.{one_half}
use Rattle.ddcmp_msg.specs.declared.nak_reason.NakReason.{NakReason}
use Rattle.ddcmp_msg.specs.declared.nak_reason.NakReason.TheVariants.{HeaderCheck, DataCheck}
use Rattle.ddcmp_msg.specs.Message.{MessageValue}
use Rattle.ddcmp_msg.specs.Reading.{ReadingValue, reading}
use Rattle.ddcmp_msg.specs.Reading as read_as
use Rattle.capture_record.specs.declared.fate.Fate.{Fate}
use Rattle.capture_record.specs.declared.fate.Fate.TheVariants as fates
use Rattle.capture_record.specs.Fates.{is_kept}
use Rattle.capture_record.specs.declared.record.Record.{Record}
use Rattle.capture_record.specs.declared.record.Record.TheVariants.{Sent, Received, Noise, User}
use Rattle.capture_record.specs.declared.event.Event.{Event}
use Rattle.capture_record.specs.declared.event.Event.TheVariants as events
use Rattle.dna_station.specs.declared.state.StationEvent.{StationEvent}
use Rattle.dna_station.specs.declared.state.StationEvent.TheVariants.{Start, Halt}
use Rattle.dna_station.specs.declared.refusal.StationRefusal.{StationRefusal}
use Rattle.dna_station.specs.declared.refusal.StepRefusal.{StepRefusal}
use Rattle.dna_station.specs.declared.refusal.StepRefusal.TheVariants.{HintOrder}
use Rattle.dna_station.specs.declared.link_refusal.LinkRefusal.{LinkRefusal}
use Rattle.dna_station.specs.Table.{user_refusal, counts_damage}
use Rattle.dna_links.specs.declared.queue.Queues.{Queues}
use Rattle.dna_node.specs.TagRules.{Rules, judged_by}
use Rattle.dna_station.specs.Station.{Station, after_event}
use Rattle.dna_station.specs.Book.{ArrivalValue, Sound, HeaderBad, DataBad, body_of}
use Rattle.dna_station.specs.StationBook.{station_book, sending_refusal, after_sending, gives_number, truth_of, arrival_refusal, after_arrival}
use Rattle.dna_station.specs.Line.{SentUnit, damage, coming_by}
use Rattle.dna_station.specs.Machine.{does, user_step, sends, sent_step, met, comes, receives, noise_step, step, unless_refused}
use Rattle.dna_station.specs.Node.{Node, station_machine}
use Rattle.dna_station.specs.Pair.{pair}
use Rattle.dna_links.specs.Links.{Carried}
use Rattle.dna_links.specs.User.{LinkEventValue, Open, Accept, Reject, In, Up, Close, Boot, Abort}
use Rattle.dna_links.specs.Sending as links_sending
use Rattle.dna_links.specs.TrueSegments.{TrueSegments, Numbers}
use Rattle.dna_links.specs.TrueLinks.{Links, links_user, links_sent, links_arrived}
use Rattle.dna_links.specs.Runs.{SentMessage}
use Rattle.dna_node.specs.Content.{content, link_event}
use Rattle.dna_node.specs.Layers.{Layers, LayersTruth, LayersNode, LayersUnit, with_station, with_links, first_sent, with_message, sends_first}
use Rattle.dna_node.specs.Layers.{sends_again, sends_on, to_station, keeps, meets_on, with_composed, composes, layers_machine, unit_of_station}
use Rattle.dna_node.specs.Layers.{stations}
use Rattle.dna_node.specs.LayersPair.{layers_pair_by}
use Rattle.dna_station.proofs.Steps.Happens.{event_of}
use Rattle.dna_node.proofs.OnTop.{NoMessage, Message, NotKept, LostAbove, KeptNone, KeptOne, sent_by, sent_with, OnTop, ByStation, ByLinks, ByBoth}
use Rattle.dna_node.proofs.OnTop.{Composed, Carries, Again, First, Receipt, Counted, Unheard}

module _ (rules : Rules) (own other h : Half LayersNode LayersUnit) where
  abbrev s : Layers
  s = own.state.station

  abbrev low : Half Node SentUnit
  low = cut_half stations own

  abbrev low_other : Half Node SentUnit
  low_other = cut_half stations other

  -- a record becomes this of what the station's node sees
  pub record Follows (r : Record) (o : Outcome Node SentUnit StepRefusal) : Type 0 where
    pub station : o ≡ Made (cut_half stations h)
    pub links : OnTop rules own other r h

  left : (r : Record) (g : Half LayersNode LayersUnit) → OnTop rules own other r g →
      ◌≡◌ {A = Outcome LayersNode LayersUnit StepRefusal} (Made g) (Made h) → Follows r (Made (cut_half stations g))
  left r g p e = record { station = ap (cut_outcome stations) e; links = subst (λ x. OnTop rules own other r x) (one_half {Z = StepRefusal} g h e) p }

  -- ---- the user

  by_station : (event : StationEvent) (o : Option StationRefusal) →
      answered own other (does own.state (with_station s (unless_refused o (after_event s.station event)))) ≡ Made h →
      Follows (User (event_of event)) (answered low low_other (does low.state (unless_refused o (after_event s.station event))))
  by_station event None made = left _ _ (ByStation event) made
  by_station event (Some refusal) made = absurd cc

  by_links : (event : Event) (of_links : LinkEventValue) → link_event event ≡ Some of_links → (o : Result Links LinkRefusal) →
      links_user rules.queues s.links of_links ≡ o →
      answered own other (does own.state (with_links s o)) ≡ Made h → Follows (User event) (Made (stepped low low.state))
  by_links event of_links is (Ok links) done made = left _ _ (ByLinks event of_links links is done) made
  by_links event of_links is (Err refusal) done made = absurd cc

  by_boot : (o : Result Links LinkRefusal) → links_user rules.queues s.links Boot ≡ o →
      answered own other (does own.state (with_links (record s { station = after_event s.station Halt }) o)) ≡ Made h →
      Follows (User events.Boot) (Made (stepped low (record low.state { station = after_event s.station Halt })))
  by_boot (Ok links) done made = left _ _ (ByBoth links done) made
  by_boot (Err refusal) done made = absurd cc

  by_composed : (body : List ℕ) (packet : Carried) (o : Result (links_sending.Sent TrueSegments Numbers) LinkRefusal) →
      links_sent rules.queues s.links packet ≡ o → answered own other (does own.state (with_composed s o)) ≡ Made h →
      Follows (User (events.Composed body)) (Made (stepped low low.state))
  by_composed body packet (Ok made) done is = left _ _ (Composed body packet made done) is
  by_composed body packet (Err refusal) done is = absurd cc

  by_packet : (body : List ℕ) (o : Result (Option Carried) StepRefusal) → answered own other (does own.state (composes rules s o)) ≡ Made h →
      Follows (User (events.Composed body)) (Made (stepped low low.state))
  by_packet body (Ok (Some packet)) made = by_composed body packet _ refl made
  by_packet body (Ok None) made = left _ _ (Carries (events.Composed body) refl) made
  by_packet body (Err refusal) made = absurd cc

  by_user : (event : Event) → answered own other (user_step (layers_machine rules) own.state event) ≡ Made h →
      Follows (User event) (answered low low_other (user_step (station_machine rules.periods) low.state event))
  by_user events.Start made = by_station Start (user_refusal s.station.state Start) made
  by_user events.Halt made = by_station Halt None made
  by_user (events.Open link) made = by_links (events.Open link) (Open link) refl _ refl made
  by_user (events.Accept partner link) made = by_links (events.Accept partner link) (Accept partner link) refl _ refl made
  by_user (events.Reject partner link) made = by_links (events.Reject partner link) (Reject partner link) refl _ refl made
  by_user (events.In link bytes) made = by_links (events.In link bytes) (In link bytes) refl _ refl made
  by_user (events.Up link bytes) made = by_links (events.Up link bytes) (Up link bytes) refl _ refl made
  by_user (events.Close link) made = by_links (events.Close link) (Close link) refl _ refl made
  by_user (events.Abort link) made = by_links (events.Abort link) (Abort link) refl _ refl made
  by_user events.Boot made = by_boot _ refl made
  by_user (events.Composed body) made = by_packet body (content body) made
  by_user (events.Interrupt link bytes) made = left _ _ (Carries (events.Interrupt link bytes) refl) made
  by_user (events.Interrupted link bytes) made = left _ _ (Carries (events.Interrupted link bytes) refl) made

  -- ---- a message is sent

  pushed : (bytes : List ℕ) (m : MessageValue) (after : Layers × LayersTruth) → OnTop rules own other (Sent bytes) (sent_with own bytes m after) →
      ◌≡◌ {A = Outcome LayersNode LayersUnit StepRefusal} (Made (sent_with own bytes m after)) (Made h) →
      Follows (Sent bytes)
      (Made (stepped_sending low (record low.state { station = (after.0).station })
      (record { bytes = bytes; message = m; known = (after.1).station })))
  pushed bytes m after p made =
      let f = left (Sent bytes) (sent_with own bytes m after) p made in
      record {
        station = ap (λ (units : List SentUnit). Made
            (record { state = record { head = own.state.head; station = (after.0).station; front = own.state.front }; sent = units }))
            (sym (map-append unit_of_station own.sent (record { bytes = bytes; message = m; known = after.1 } ∷ [])))
            ∙ f.station;
        links = f.links;
      }

  module _ (bytes : List ℕ) (m : MessageValue) where
    abbrev low_sent : Half Node SentUnit
    low_sent = stepped_sending low (record low.state { station = after_sending s.station m })
        (record { bytes = bytes; message = m; known = truth_of s.station m })

    by_message : (packet : Carried) → content (body_of m) ≡ Ok (Some packet) → gives_number s.station m ≡ true →
        (o : Result (links_sending.Sent TrueSegments Numbers) LinkRefusal) → links_sent rules.queues s.links packet ≡ o →
        answered own other (sends own.state bytes m (with_message s (sent_by own m) packet o)) ≡ Made h → Follows (Sent bytes) (Made low_sent)
    by_message packet read new (Ok made) done is =
        pushed bytes m (first_sent s (sent_by own m) made.links (Some (record { packet = packet; truth = made.truth })))
        (First bytes m new made.links _ (Message packet made read done)) is
    by_message packet read new (Err refusal) done is = absurd cc

    by_content : gives_number s.station m ≡ true → (o : Result (Option Carried) StepRefusal) → content (body_of m) ≡ o →
        answered own other (sends own.state bytes m (sends_first rules s (sent_by own m) o)) ≡ Made h → Follows (Sent bytes) (Made low_sent)
    by_content new (Ok (Some packet)) read is = by_message packet read new _ refl is
    by_content new (Ok None) read is = pushed bytes m (first_sent s (sent_by own m) s.links None) (First bytes m new s.links None (NoMessage read)) is
    by_content new (Err refusal) read is = absurd cc

    by_number : (b : Bool) → gives_number s.station m ≡ b →
        answered own other (sends own.state bytes m
        (cond b (sends_first rules s (sent_by own m) (content (body_of m))) (Ok (sends_again s m (sent_by own m))))) ≡ Made h →
        Follows (Sent bytes) (Made low_sent)
    by_number true new is = by_content new (content (body_of m)) refl is
    by_number false new is = pushed bytes m (sends_again s m (sent_by own m)) (Again bytes m new) is

    by_refusal : (o : Option StationRefusal) →
        answered own other (sends own.state bytes m (sends_on rules s m (unless_refused o (sent_by own m)))) ≡ Made h →
        Follows (Sent bytes) (answered low low_other (sends low.state bytes m (unless_refused o (sent_by own m))))
    by_refusal None is = by_number (gives_number s.station m) refl is
    by_refusal (Some refusal) is = absurd cc

  by_reading : (bytes : List ℕ) (r : ReadingValue) → answered own other (sent_step (layers_machine rules) own.state bytes r) ≡ Made h →
      Follows (Sent bytes) (answered low low_other (sent_step (station_machine rules.periods) low.state bytes r))
  by_reading bytes (read_as.Sound m) made = by_refusal bytes m (sending_refusal s.station m) made
  by_reading bytes other made = absurd cc

  -- ---- a receipt

  module _ (hint : ℕ) (bytes : List ℕ) (unit : LayersUnit) (there : slice_get other.sent hint ≡ Some unit) where
    abbrev arrives_at : ArrivalValue LayersTruth → Bool → Station
    arrives_at arrival kept = after_arrival s.station (to_station arrival) kept

    by_kept : (arrival : ArrivalValue LayersTruth) (message : SentMessage) → unit.known.carried ≡ Some message → (o : Result Links LinkRefusal) →
        links_arrived rules.queues rules.partners s.links message.packet message.truth ≡ o →
        concluded own (met own.state (hint + 1) (with_links (record s { station = arrives_at arrival true }) o)) ≡ Made h →
        Follows (Received hint fates.Kept bytes) (Made (stepped low (record low.state { station = arrives_at arrival true; front = hint + 1 })))
    by_kept arrival message is (Ok links) done made =
        left _ _ (Receipt hint fates.Kept bytes unit arrival there links (KeptOne message links is done)) made
    by_kept arrival message is (Err refusal) done made = absurd cc

    by_carried : (arrival : ArrivalValue LayersTruth) (carried : Option SentMessage) → unit.known.carried ≡ carried →
        concluded own (met own.state (hint + 1) (keeps rules (record s { station = arrives_at arrival true }) carried)) ≡ Made h →
        Follows (Received hint fates.Kept bytes) (Made (stepped low (record low.state { station = arrives_at arrival true; front = hint + 1 })))
    by_carried arrival (Some message) is made = by_kept arrival message is _ refl made
    by_carried arrival None is made = left _ _ (Receipt hint fates.Kept bytes unit arrival there s.links (KeptNone is)) made

    by_sound : (fate : Fate) (o : Option StationRefusal) →
        concluded own (met own.state (hint + 1)
        (meets_on rules s (Sound unit.message unit.known) fate
        (unless_refused o (arrives_at (Sound unit.message unit.known) (is_kept fate))))) ≡ Made h →
        Follows (Received hint fate bytes)
        (concluded low (met low.state (hint + 1) (unless_refused o (arrives_at (Sound unit.message unit.known) (is_kept fate)))))
    by_sound fates.Kept None made = by_carried (Sound unit.message unit.known) unit.known.carried refl made
    by_sound fates.NotKept None made = left _ _ (Receipt hint fates.NotKept bytes unit (Sound unit.message unit.known) there s.links NotKept) made
    by_sound fates.Dropped None made = left _ _ (Receipt hint fates.Dropped bytes unit (Sound unit.message unit.known) there s.links LostAbove) made
    by_sound fate (Some refusal) made = absurd cc

    by_damage : (fate : Fate) (r : ReadingValue) → concluded own (comes (layers_machine rules) own.state (hint + 1) fate (damage r)) ≡ Made h →
        Follows (Received hint fate bytes) (concluded low (comes (station_machine rules.periods) low.state (hint + 1) fate (damage r)))
    by_damage fates.Kept read_as.HeaderBad made = absurd cc
    by_damage fates.Dropped read_as.HeaderBad made = absurd cc
    by_damage fates.NotKept read_as.HeaderBad made = left _ _ (Receipt hint fates.NotKept bytes unit HeaderBad there s.links NotKept) made
    by_damage fates.Kept read_as.DataBad made = absurd cc
    by_damage fates.Dropped read_as.DataBad made = absurd cc
    by_damage fates.NotKept read_as.DataBad made = left _ _ (Receipt hint fates.NotKept bytes unit DataBad there s.links NotKept) made
    by_damage fate (read_as.Sound m) made = absurd cc
    by_damage fate (read_as.Malformed departure) made = absurd cc

    by_coming : (fate : Fate) (same : Bool) (r : ReadingValue) →
        concluded own (comes (layers_machine rules) own.state (hint + 1) fate (coming_by same unit r)) ≡ Made h →
        Follows (Received hint fate bytes)
        (concluded low (comes (station_machine rules.periods) low.state (hint + 1) fate (coming_by same (unit_of_station unit) r)))
    by_coming fate true r made = by_sound fate (arrival_refusal rules.periods s.station (Sound unit.message unit.known.station) (is_kept fate)) made
    by_coming fate false r made = by_damage fate r made

  by_read : (hint : ℕ) (fate : Fate) (bytes : List ℕ) (o : Option LayersUnit) → slice_get other.sent hint ≡ o →
      read own (receives (layers_machine rules) own.state hint fate bytes) o ≡ Made h →
      Follows (Received hint fate bytes)
      (read low (receives (station_machine rules.periods) low.state hint fate bytes) (option_map unit_of_station o))
  by_read hint fate bytes None there made = absurd cc
  by_read hint fate bytes (Some unit) there made = go (nat_lt hint own.state.front) made
    where
      go : (b : Bool) → concluded own
          (cond b (Err HintOrder) (comes (layers_machine rules) own.state (hint + 1) fate
          (coming_by (bytes_eq bytes unit.bytes) unit (reading bytes)))) ≡ Made h →
          Follows (Received hint fate bytes)
          (concluded low (cond b (Err HintOrder)
          (comes (station_machine rules.periods) low.state (hint + 1) fate
          (coming_by (bytes_eq bytes unit.bytes) (unit_of_station unit) (reading bytes)))))
      go true made = absurd cc
      go false made = by_coming hint bytes unit there fate (bytes_eq bytes unit.bytes) (reading bytes) made

  -- ---- noise

  by_count : (bytes : List ℕ) (reason : NakReason) (b : Bool) →
      answered own other (does own.state (Ok (record s { station = cond b (station_book.counts reason s.station) s.station }))) ≡ Made h →
      Follows (Noise bytes) (answered low low_other (does low.state (Ok (cond b (station_book.counts reason s.station) s.station))))
  by_count bytes reason true made = left _ _ (Counted bytes reason) made
  by_count bytes reason false made = left _ _ (Unheard bytes) made

  by_noise : (bytes : List ℕ) (r : ReadingValue) → answered own other (noise_step (layers_machine rules) own.state r) ≡ Made h →
      Follows (Noise bytes) (answered low low_other (noise_step (station_machine rules.periods) low.state r))
  by_noise bytes read_as.HeaderBad made = by_count bytes HeaderCheck (counts_damage s.station.state) made
  by_noise bytes read_as.DataBad made = by_count bytes DataCheck (counts_damage s.station.state) made
  by_noise bytes (read_as.Sound m) made = absurd cc
  by_noise bytes (read_as.Malformed departure) made = absurd cc

  pub follows : (r : Record) → advance (step (layers_machine rules)) own other r ≡ Made h →
      Follows r (advance (step (station_machine rules.periods)) low low_other r)
  follows (Sent bytes) made = by_reading bytes (reading bytes) made
  follows (Received hint fate bytes) made =
      let f = by_read hint fate bytes (slice_get other.sent hint) refl made in
      record {
        station = ap (read low (receives (station_machine rules.periods) low.state hint fate bytes))
            (slice_get-map unit_of_station other.sent hint) ∙ f.station;
        links = f.links;
      }
  follows (Noise bytes) made = by_noise bytes (reading bytes) made
  follows (User event) made = by_user event made

module _ (queues : Queues) where
  -- ---- what each record of the station's nodes keeps, each record over both layers keeps

  module _ (holds : World Node SentUnit → List Record → List Record → Type 0) where
    abbrev pub of_stations : World LayersNode LayersUnit → List Record → List Record → Type 0
    of_stations w of_a of_b = holds (cut_world stations w) of_a of_b

    pub lifted : IsKept pair holds → IsKept (layers_pair_by queues) of_stations
    lifted kept = record {
      by_a = λ w made_a made_b r h now made. kept.by_a (cut_world stations w) made_a made_b r (cut_half stations h) now
          (follows (judged_by queues) w.a w.b h r made).station;
      by_b = λ w made_a made_b r h now made. kept.by_b (cut_world stations w) made_a made_b r (cut_half stations h) now
          (follows (judged_by queues) w.b w.a h r made).station;
    }

  -- ---- a run over both layers is one of the stations

  pub run_of_stations : (w end : World LayersNode LayersUnit) (of_a of_b : List Record) → Run (layers_pair_by queues) w of_a of_b end →
      Run pair (cut_world stations w) of_a of_b (cut_world stations end)
  run_of_stations w end of_a of_b Done = Done
  run_of_stations w end of_a of_b (OfA {h = h} {r = r} {xs = xs} made rest) =
      OfA (follows (judged_by queues) w.a w.b h r made).station (run_of_stations (record { a = h; b = w.b }) end xs of_b rest)
  run_of_stations w end of_a of_b (OfB {h = h} {r = r} {ys = ys} made rest) =
      OfB (follows (judged_by queues) w.b w.a h r made).station (run_of_stations (record { a = w.a; b = h }) end of_a ys rest)
