-- The node of one end alone is the wire node of the pair with the partner period, the partners of links and those in labels forgotten: what its user
-- does, what it sends and what comes go along, but for what only the two rules refuse.
use Rattle.std.proofs.Common.{◌≡◌, Bool, true, false, cond, Option, Some, None, Result, Ok, Err, refl, sym, ap, ◌∙◌, subst}
use Rattle.ddcmp_msg.specs.Message.{MessageValue}
use Rattle.capture_record.specs.declared.fate.Fate.{Fate}
use Rattle.capture_record.specs.declared.fate.Fate.TheVariants.{Kept, Dropped, NotKept}
use Rattle.capture_record.specs.Fates.{is_kept}
use Rattle.capture_record.specs.declared.event.Event.{Event}
use Rattle.capture_record.specs.declared.event.Event.TheVariants as events
use Rattle.dna_station.specs.declared.state.StationEvent.{StationEvent}
use Rattle.dna_station.specs.declared.state.StationEvent.TheVariants.{Start, Halt}
use Rattle.dna_station.specs.declared.tag.Tag.{Tag}
use Rattle.dna_links.specs.declared.queue.Queues.{Queues}
use Rattle.dna_links.specs.declared.tag.LinkTag.{LinkTag}
use Rattle.dna_station.specs.declared.refusal.StationRefusal.{StationRefusal}
use Rattle.dna_station.specs.declared.refusal.StationRefusal.TheVariants.{CrossedPeriod}
use Rattle.dna_station.specs.declared.refusal.StepRefusal.{StepRefusal}
use Rattle.dna_station.specs.declared.refusal.StepRefusal.TheVariants.{Station as OfStation}
use Rattle.dna_station.specs.declared.link_refusal.LinkRefusal.{LinkRefusal}
use Rattle.dna_station.specs.Table.{user_refusal}
use Rattle.dna_station.specs.Book.{Sound, HeaderBad, DataBad, body_of, meets_by, takes_by, keep_refusal}
use Rattle.dna_station.specs.WireStation.{WireStation, wire_after_event, wire_after_label}
use Rattle.dna_station.specs.WireBook.{wire_book, wire_tag, wire_after_sending, wire_sending_refusal, wire_after_arrival, gives_new}
use Rattle.dna_station.specs.PeriodRule.{of_period}
use Rattle.dna_station.specs.Machine.{unless_refused}
use Rattle.dna_links.specs.Links.{Carried}
use Rattle.dna_links.specs.User.{LinkEventValue, Open, Accept, Reject, In, Up, Close, Boot, Abort}
use Rattle.dna_links.specs.Sending.{Sent}
use Rattle.dna_links.specs.Arriving.{of_partner, of_anyone}
use Rattle.dna_links.specs.WireSegments.{WireSegments, wire_segments}
use Rattle.dna_links.specs.WireLinks.{WireLinks, wire_links_user, wire_links_sent, wire_links_arrived}
use Rattle.dna_node.specs.TagRules.{judged_by, by_bytes_with}
use Rattle.dna_node.specs.Content.{content}
use Rattle.dna_node.specs.WireLayers.{WireLayers, LayersTag, of_no_link, with_wire_station, with_wire_links, first_tagged, with_tag, wire_sends_first}
use Rattle.dna_node.specs.WireLayers.{with_wire_composed, wire_composes}
use Rattle.dna_node.specs.WireLayers.{wire_sends_again, wire_sends_on, tag_or_none, wire_keeps_packet, wire_meets_on, wire_layers_machine}
use Rattle.dna_node.specs.Alone.{unknown_period, unknown_tag, layers_end_by}
use Rattle.dna_node.proofs.Alone.Along.{forget_result, Along, left_sent, GoesAlong}
use Rattle.dna_node.proofs.Alone.LinkEffects.{forget_tag, forget_links, forget_sent}
use Rattle.dna_node.proofs.Alone.LinkEffects as effects
use Rattle.dna_node.proofs.Alone.Links.{user_along as links_user_along, sent_along as links_sent_along, arrived_along as links_arrived_along}
use Rattle.dna_node.proofs.Alone.Links as of_links
use Rattle.dna_node.proofs.Alone.Station.{forget_station, sending_refusal_along, sending_along, first_along, label_along}
use Rattle.dna_node.proofs.Alone.Station.{arrival_along, header_along, data_bad_along}
use Rattle.dna_node.proofs.Alone.Forgotten.{forget_layers, wrong_unit_along, wrong_taken_along}

abbrev left : WireLinks → WireStation LinkTag → Result WireLayers StepRefusal
left links station = Ok (record { station = station; links = links })

module _ (queues : Queues) (s : WireLayers) where
  -- ---- the user

  by_station : (event : StationEvent) (o : Option StationRefusal) →
      with_wire_station (forget_layers s) (unless_refused o (wire_after_event (forget_station forget_tag s.station) event))
      ≡ forget_result forget_layers (with_wire_station s (unless_refused o (wire_after_event s.station event)))
  by_station Start None = refl
  by_station Halt None = refl
  by_station event (Some refusal) = refl

  by_links : (o : Result WireLinks LinkRefusal) →
      with_wire_links (forget_layers s) (effects.forget_result o) ≡ forget_result forget_layers (with_wire_links s o)
  by_links (Ok links) = refl
  by_links (Err refusal) = refl

  link_along : (event : LinkEventValue) → with_wire_links (forget_layers s) (wire_links_user queues (forget_links s.links) event)
      ≡ forget_result forget_layers (with_wire_links s (wire_links_user queues s.links event))
  link_along event =
      ap (with_wire_links (forget_layers s)) (sym (links_user_along queues wire_segments s.links event))
      ∙ by_links (wire_links_user queues s.links event)

  boot_along : with_wire_links (record (forget_layers s) { station = wire_after_event (forget_station forget_tag s.station) Halt })
      (wire_links_user queues (forget_links s.links) Boot)
      ≡ forget_result forget_layers (with_wire_links (record s { station = wire_after_event s.station Halt }) (wire_links_user queues s.links Boot))
  boot_along =
      ap (with_wire_links (record (forget_layers s) { station = wire_after_event (forget_station forget_tag s.station) Halt }))
      (sym (links_user_along queues wire_segments s.links Boot))
      ∙ booted (wire_links_user queues s.links Boot)
    where
      booted : (o : Result WireLinks LinkRefusal) →
          with_wire_links (record (forget_layers s) { station = wire_after_event (forget_station forget_tag s.station) Halt })
          (effects.forget_result o)
          ≡ forget_result forget_layers (with_wire_links (record s { station = wire_after_event s.station Halt }) o)
      booted (Ok links) = refl
      booted (Err refusal) = refl

  composed_along : (o : Result (Sent WireSegments (Unit {0})) LinkRefusal) →
      with_wire_composed (forget_layers s) (forget_sent o) ≡ forget_result forget_layers (with_wire_composed s o)
  composed_along (Ok made) = refl
  composed_along (Err refusal) = refl

  packet_along : (r : Result (Option Carried) StepRefusal) →
      wire_composes (by_bytes_with queues) (forget_layers s) r ≡ forget_result forget_layers (wire_composes (judged_by queues) s r)
  packet_along (Ok (Some packet)) =
      ap (λ (o : Result (Sent WireSegments (Unit {0})) LinkRefusal). with_wire_composed (forget_layers s) o)
      (sym (links_sent_along queues wire_segments s.links packet))
      ∙ composed_along (wire_links_sent queues s.links packet)
  packet_along (Ok None) = refl
  packet_along (Err refusal) = refl

  pub user_along : (event : Event) → (wire_layers_machine (by_bytes_with queues)).user (forget_layers s) event
      ≡ forget_result forget_layers ((wire_layers_machine (judged_by queues)).user s event)
  user_along events.Start = by_station Start (user_refusal s.station.variables.state Start)
  user_along events.Halt = by_station Halt (user_refusal s.station.variables.state Halt)
  user_along (events.Open link) = link_along (Open link)
  user_along (events.Accept partner link) = link_along (Accept partner link)
  user_along (events.Reject partner link) = link_along (Reject partner link)
  user_along (events.In link message) = link_along (In link message)
  user_along (events.Up link message) = link_along (Up link message)
  user_along (events.Close link) = link_along (Close link)
  user_along events.Boot = boot_along
  user_along (events.Abort link) = link_along (Abort link)
  user_along (events.Composed packet) = packet_along (content packet)
  user_along (events.Interrupt link message) = refl
  user_along (events.Interrupted link message) = refl

-- ---- a message is sent: what is left of the node, whatever is known of the unit

module _ (queues : Queues) (s : WireLayers) (m : MessageValue) where
  abbrev v : WireStation LinkTag
  v = forget_station forget_tag s.station

  abbrev after : WireStation LinkTag × Tag
  after = (wire_after_sending s.station m, wire_tag s.station)

  abbrev after_alone : WireStation LinkTag × Tag
  after_alone = (wire_after_sending v m, wire_tag v)

  abbrev GoAlong : Result (WireLayers × LayersTag) StepRefusal → Result (WireLayers × LayersTag) StepRefusal → Type 0
  GoAlong x y = left_sent y ≡ forget_result forget_layers (left_sent x)

  tagged_along : (links : WireLinks) (tag : LinkTag) →
      GoAlong (Ok (first_tagged after links tag)) (Ok (first_tagged after_alone (forget_links links) (forget_tag tag)))
  tagged_along links tag =
      ap (left (forget_links links))
      (ap (λ (w : WireStation LinkTag). wire_after_label w (forget_tag tag)) (sending_along forget_tag s.station m)
      ∙ label_along forget_tag (wire_after_sending s.station m) tag)

  by_message : (o : Result (Sent WireSegments (Unit {0})) LinkRefusal) →
      GoAlong (with_tag after o) (with_tag after_alone (forget_sent o))
  by_message (Ok made) = tagged_along made.links made.truth.tag
  by_message (Err refusal) = refl

  by_content : (r : Result (Option Carried) StepRefusal) →
      GoAlong (wire_sends_first (judged_by queues) s after r) (wire_sends_first (by_bytes_with queues) (forget_layers s) after_alone r)
  by_content (Ok (Some packet)) =
      ap (λ (o : Result (Sent WireSegments (Unit {0})) LinkRefusal). left_sent (with_tag after_alone o))
      (sym (links_sent_along queues wire_segments s.links packet))
      ∙ by_message (wire_links_sent queues s.links packet)
  by_content (Ok None) = tagged_along s.links of_no_link
  by_content (Err refusal) = refl

  again_along : GoAlong (Ok (wire_sends_again s m after)) (Ok (wire_sends_again (forget_layers s) m after_alone))
  again_along = ap (left (forget_links s.links)) (sending_along forget_tag s.station m)

  by_number : (b : Bool) → GoAlong (cond b (wire_sends_first (judged_by queues) s after (content (body_of m))) (Ok (wire_sends_again s m after)))
      (cond b (wire_sends_first (by_bytes_with queues) (forget_layers s) after_alone (content (body_of m)))
      (Ok (wire_sends_again (forget_layers s) m after_alone)))
  by_number true = by_content (content (body_of m))
  by_number false = again_along

  by_refusal : (o : Option StationRefusal) →
      GoAlong (wire_sends_on (judged_by queues) s m (unless_refused o after))
      (wire_sends_on (by_bytes_with queues) (forget_layers s) m (unless_refused o after_alone))
  by_refusal None =
      ap (λ (b : Bool). left_sent (cond b (wire_sends_first (by_bytes_with queues) (forget_layers s) after_alone (content (body_of m)))
      (Ok (wire_sends_again (forget_layers s) m after_alone)))) (first_along forget_tag s.station m)
      ∙ by_number (gives_new s.station m)
  by_refusal (Some refusal) = refl

  pub sends_along : left_sent ((wire_layers_machine (by_bytes_with queues)).sends (forget_layers s) m)
      ≡ forget_result forget_layers (left_sent ((wire_layers_machine (judged_by queues)).sends s m))
  sends_along =
      ap (λ (o : Option StationRefusal). left_sent (wire_sends_on (by_bytes_with queues) (forget_layers s) m (unless_refused o after_alone)))
      (sending_refusal_along forget_tag s.station m)
      ∙ by_refusal (wire_sending_refusal s.station m)

-- ---- an arrival

module _ (queues : Queues) (s : WireLayers) where
  by_links_result : (t : WireLayers) (o o' : Result WireLinks LinkRefusal) → of_links.Along o o' →
      Along forget_layers (with_wire_links t o) (with_wire_links (forget_layers t) o')
  by_links_result t (Ok links) o' same = ap (with_wire_links (forget_layers t)) same
  by_links_result t (Err refusal) o' same = λ seen. ap (with_wire_links (forget_layers t)) (same seen)

  keeps_along : (t : WireLayers) (tag : LinkTag) (r : Result (Option Carried) StepRefusal) →
      Along forget_layers (wire_keeps_packet (judged_by queues) t tag r) (wire_keeps_packet (by_bytes_with queues) (forget_layers t) of_no_link r)
  keeps_along t tag (Ok (Some packet)) =
      by_links_result t (wire_links_arrived queues of_partner t.links packet tag)
      (wire_links_arrived queues of_anyone (forget_links t.links) packet of_no_link)
      (links_arrived_along queues wire_segments t.links (record { tag = tag; known = tt }) packet)
  keeps_along t tag (Ok None) = refl
  keeps_along t tag (Err refusal) = λ seen. refl

  module _ (m : MessageValue) (known : LayersTag) (fate : Fate) where
    abbrev kept : Bool
    kept = is_kept fate

    abbrev w : WireStation LinkTag
    w = forget_station forget_tag s.station

    -- the packets that are kept
    by_kept : (k : Fate) (station : WireStation LinkTag) →
        Along forget_layers (wire_meets_on (judged_by queues) s (Sound m known) k (Ok station))
        (wire_meets_on (by_bytes_with queues) (forget_layers s) (Sound m unknown_tag) k (Ok (forget_station forget_tag station)))
    by_kept Kept station = keeps_along (record s { station = station }) (tag_or_none known.link) (content (body_of m))
    by_kept Dropped station = refl
    by_kept NotKept station = refl

    by_taking : (o : Option StationRefusal) →
        Along forget_layers
        (wire_meets_on (judged_by queues) s (Sound m known) fate (unless_refused o (wire_after_arrival s.station (Sound m known.station) kept)))
        (wire_meets_on (by_bytes_with queues) (forget_layers s) (Sound m unknown_tag) fate
        (unless_refused o (wire_after_arrival w (Sound m unknown_period) kept)))
    by_taking None =
        subst (λ (t : WireStation LinkTag). Along forget_layers (wire_meets_on (judged_by queues) s (Sound m known) fate
        (Ok (wire_after_arrival s.station (Sound m known.station) kept)))
        (wire_meets_on (by_bytes_with queues) (forget_layers s) (Sound m unknown_tag) fate (Ok t)))
        (sym (arrival_along forget_tag m known.station kept s.station)) (by_kept fate (wire_after_arrival s.station (Sound m known.station) kept))
    by_taking (Some refusal) = λ seen. refl

    by_period : (met : Bool) →
        Along forget_layers (wire_meets_on (judged_by queues) s (Sound m known) fate (unless_refused
        (cond met (keep_refusal (takes_by wire_book s.station m known.station) kept) (Some CrossedPeriod))
        (wire_after_arrival s.station (Sound m known.station) kept)))
        ((wire_layers_machine (by_bytes_with queues)).arrives (forget_layers s) (Sound m unknown_tag) fate)
    by_period true = by_taking (keep_refusal (takes_by wire_book s.station m known.station) kept)
    by_period false = λ seen. absurd cc

    pub sound_along : Along forget_layers ((wire_layers_machine (judged_by queues)).arrives s (Sound m known) fate)
        ((wire_layers_machine (by_bytes_with queues)).arrives (forget_layers s) (Sound m unknown_tag) fate)
    sound_along = by_period (meets_by wire_book of_period s.station m known.station)

  pub unit_header_bad_along : (fate : Fate) → (wire_layers_machine (by_bytes_with queues)).arrives (forget_layers s) HeaderBad fate
      ≡ forget_result forget_layers ((wire_layers_machine (judged_by queues)).arrives s HeaderBad fate)
  unit_header_bad_along Kept = refl
  unit_header_bad_along Dropped = refl
  unit_header_bad_along NotKept = ap (left (forget_links s.links)) (header_along forget_tag s.station false)

  pub unit_data_bad_along : (fate : Fate) → (wire_layers_machine (by_bytes_with queues)).arrives (forget_layers s) DataBad fate
      ≡ forget_result forget_layers ((wire_layers_machine (judged_by queues)).arrives s DataBad fate)
  unit_data_bad_along Kept = refl
  unit_data_bad_along Dropped = refl
  unit_data_bad_along NotKept = ap (left (forget_links s.links)) (data_bad_along forget_tag s.station false)

  -- what the rule on periods refuses
  pub unit_crossed : (m : MessageValue) (known : LayersTag) (fate : Fate) → meets_by wire_book of_period s.station m known.station ≡ false →
      (wire_layers_machine (judged_by queues)).arrives s (Sound m known) fate ≡ Err (OfStation CrossedPeriod)
  unit_crossed m known fate e =
      ap (λ (b : Bool). wire_meets_on (judged_by queues) s (Sound m known) fate (unless_refused
      (cond b (keep_refusal (takes_by wire_book s.station m known.station) (is_kept fate)) (Some CrossedPeriod))
      (wire_after_arrival s.station (Sound m known.station) (is_kept fate)))) e

abbrev pub layers_along : (queues : Queues) → GoesAlong (wire_layers_machine (judged_by queues)) (layers_end_by queues) forget_layers
layers_along queues = record {
  meets = λ (s : WireLayers) (m : MessageValue) (known : LayersTag). meets_by wire_book of_period s.station m known.station;
  crossed = unit_crossed queues;
  user = user_along queues;
  sends = sends_along queues;
  sound = sound_along queues;
  header_bad = unit_header_bad_along queues;
  data_bad = unit_data_bad_along queues;
  wrong_unit = wrong_unit_along;
  wrong_taken = wrong_taken_along;
}
