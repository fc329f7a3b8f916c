-- In a world within the bounds the wire station with links does the same as the one on true numbers, and so the same becomes of a record at its node.
use Rattle.std.proofs.Common.{◌≡◌, ℕ, ◌≤◌, Bool, true, false, Option, Some, None, Result, Ok, Err, List, length, drop, refl, sym, ap, ap₂, ◌∙◌}
use Rattle.std.proofs.Common.{option_map}
use Rattle.std.specs.Prelude.{slice_get}
use Rattle.std.proofs.lemmas.Option.{slice_get-map}
use Rattle.two_nodes.specs.Nodes.{Half, advance}
use Rattle.two_nodes.specs.Cutting.{cut_half, cut_outcome}
use Rattle.capture_record.specs.declared.record.Record.{Record}
use Rattle.capture_record.specs.declared.event.Event.{Event}
use Rattle.capture_record.specs.declared.event.Event.TheVariants as events
use Rattle.capture_record.specs.declared.fate.Fate.{Fate}
use Rattle.capture_record.specs.declared.fate.Fate.TheVariants.{NotKept, Kept, Dropped}
use Rattle.capture_record.specs.Fates.{is_kept}
use Rattle.dna_links.specs.declared.tag.LinkTag.{LinkTag}
use Rattle.dna_station.specs.declared.state.StationEvent.{StationEvent}
use Rattle.dna_station.specs.declared.state.StationEvent.TheVariants.{Start, Halt}
use Rattle.dna_station.specs.declared.refusal.StationRefusal.{StationRefusal}
use Rattle.dna_station.specs.declared.refusal.StepRefusal.{StepRefusal}
use Rattle.dna_station.specs.declared.link_refusal.LinkRefusal.{LinkRefusal}
use Rattle.dna_station.specs.Table.{user_refusal, Change, change_of}
use Rattle.dna_links.specs.declared.queue.Queues.{Queues}
use Rattle.dna_node.specs.TagRules.{judged_by}
use Rattle.dna_station.specs.Station.{Station, PastPeriod, packets_of, after_event}
use Rattle.dna_station.specs.Truth.{Truth}
use Rattle.dna_station.specs.Book.{ArrivalValue, Sound, HeaderBad, DataBad, body_of}
use Rattle.dna_station.specs.StationBook.{meets_needs, arrival_refusal, after_arrival}
use Rattle.dna_station.specs.WireStation.{HeldPacket, WireStation, wire_after_event}
use Rattle.dna_station.specs.WireBook.{wire_arrival_refusal, wire_after_arrival}
use Rattle.dna_station.specs.Bounds.{IsWithin}
use Rattle.dna_station.specs.Cut.{cut}
use Rattle.dna_station.specs.Machine.{unless_refused, step}
use Rattle.dna_links.specs.User.{LinkEventValue, Open, Accept, Reject, In, Up, Close, Abort, Boot}
use Rattle.dna_links.specs.Sending as links_sending
use Rattle.dna_links.specs.Links.{Carried}
use Rattle.dna_links.specs.TrueSegments.{TrueSegments, Numbers}
use Rattle.dna_links.specs.TrueLinks.{Links, links_user, links_sent, links_arrived}
use Rattle.dna_links.specs.WireSegments.{WireSegments}
use Rattle.dna_links.specs.WireLinks.{WireLinks, wire_links_user}
use Rattle.dna_links.specs.Arriving.{of_partner}
use Rattle.dna_links.specs.CutLinks.{cut_links}
use Rattle.dna_links.specs.CutLinks as of_links
use Rattle.dna_links.specs.Runs.{SentMessage}
use Rattle.dna_node.specs.Content.{content}
use Rattle.dna_node.specs.Layers.{Layers, LayersNode, LayersUnit, with_station, with_links}
use Rattle.dna_node.specs.Layers.{keeps, meets_on, with_composed, composes, layers_machine, unit_of_station}
use Rattle.dna_node.specs.WireLayers.{WireLayers, with_wire_station, with_wire_links}
use Rattle.dna_node.specs.WireLayers.{tag_or_none, wire_keeps_packet, wire_meets_on, wire_layers_machine}
use Rattle.dna_node.specs.WireLayers.{with_wire_composed, wire_composes}
use Rattle.dna_node.specs.CutLayers.{tag_of_packet, with_tags, tagged_packets, cut_layers_by, tag_by, cut_truth, layers_seen_by}
use Rattle.dna_station.proofs.Cut.Arriving.{arrival_refusal_same, arrival_same, header_same, data_bad_same}
use Rattle.dna_station.proofs.Cut.Node.{not_crossed, arrival_packets}
use Rattle.dna_station.proofs.Cut.Machines.{DoTheSame, record_same as made_same}
use Rattle.dna_node.proofs.Joined.{arrival_earlier}
use Rattle.dna_node.proofs.ReadInRange.{content_in_range}
use Rattle.dna_node.proofs.LayersRead.{packet_in}
use Rattle.dna_node.proofs.LayersLabels.{layers_labelled}
use Rattle.dna_node.proofs.LayersBounded.{HasItsMessage, IsLayersBounded, layers_result}
use Rattle.dna_node.proofs.CutLayersSends.{sends_made}

-- what is left at the cut node
abbrev wire_left : WireLinks → WireStation LinkTag → Result WireLayers StepRefusal
wire_left links station = Ok (record { station = station; links = links })

module _ (queues : Queues) (own other : Half LayersNode LayersUnit) (front of_other : ℕ) (c : IsLayersBounded queues own other front of_other) where
  abbrev s : Layers
  s = own.state.station

  abbrev all : List (HeldPacket LinkTag)
  all = tagged_packets s

  abbrev w : WireStation LinkTag
  w = cut all s.station

  -- ---- the user

  by_station : (event : StationEvent) (o : Option StationRefusal) →
      with_wire_station ((cut_layers_by queues) s) (unless_refused o (wire_after_event w event)) ≡
      layers_result queues (with_station s (unless_refused o (after_event s.station event)))
  by_station Start None = refl
  by_station Halt None = refl
  by_station event (Some refusal) = refl

  by_links : (t : Layers) (o : Result Links LinkRefusal) →
      with_wire_links ((cut_layers_by queues) t) (of_links.cut_result queues o) ≡ layers_result queues (with_links t o)
  by_links t (Ok links) = refl
  by_links t (Err refusal) = refl

  link_made : (event : LinkEventValue) →
      with_wire_links ((cut_layers_by queues) s) (wire_links_user queues (cut_links queues s.links) event) ≡
      layers_result queues (with_links s (links_user queues s.links event))
  link_made event = ap (λ o. with_wire_links ((cut_layers_by queues) s) o) (sym (c.links.user event)) ∙ by_links s (links_user queues s.links event)

  -- a boot halts the station, and ends the links
  boot_made : with_wire_links (record ((cut_layers_by queues) s) { station = wire_after_event w Halt })
      (wire_links_user queues (cut_links queues s.links) Boot)
      ≡ layers_result queues (with_links (record s { station = after_event s.station Halt }) (links_user queues s.links Boot))
  boot_made =
      ap (λ o. with_wire_links (record ((cut_layers_by queues) s) { station = wire_after_event w Halt }) o) (sym (c.links.user Boot))
      ∙ by_links (record s { station = after_event s.station Halt }) (links_user queues s.links Boot)

  composed_made : (o : Result (links_sending.Sent TrueSegments Numbers) LinkRefusal) →
      with_wire_composed ((cut_layers_by queues) s) (of_links.cut_sent queues o) ≡ layers_result queues (with_composed s o)
  composed_made (Ok made) = refl
  composed_made (Err refusal) = refl

  packet_made : (r : Result (Option Carried) StepRefusal) →
      wire_composes (judged_by queues) ((cut_layers_by queues) s) r ≡ layers_result queues (composes (judged_by queues) s r)
  packet_made (Ok (Some packet)) =
      ap (λ (o : Result (links_sending.Sent WireSegments (Unit {0})) LinkRefusal). with_wire_composed ((cut_layers_by queues) s) o)
      (sym (c.links.sent packet))
      ∙ composed_made (links_sent queues s.links packet)
  packet_made (Ok None) = refl
  packet_made (Err refusal) = refl

  user_made : (event : Event) → (wire_layers_machine (judged_by queues)).user ((cut_layers_by queues) s) event
      ≡ layers_result queues ((layers_machine (judged_by queues)).user s event)
  user_made events.Start = by_station Start (user_refusal s.station.state Start)
  user_made events.Halt = by_station Halt (user_refusal s.station.state Halt)
  user_made (events.Open link) = link_made (Open link)
  user_made (events.Accept partner link) = link_made (Accept partner link)
  user_made (events.Reject partner link) = link_made (Reject partner link)
  user_made (events.In link message) = link_made (In link message)
  user_made (events.Up link message) = link_made (Up link message)
  user_made (events.Close link) = link_made (Close link)
  user_made events.Boot = boot_made
  user_made (events.Abort link) = link_made (Abort link)
  user_made (events.Composed packet) = packet_made (content packet)
  user_made (events.Interrupt link message) = refl
  user_made (events.Interrupted link message) = refl

  -- ---- an arrival

  -- what it leaves of the station, with the packets as they are
  module _ (arrival : ArrivalValue Truth) (kept : Bool) where
    abbrev left : Layers
    left = record s { station = after_arrival s.station arrival kept }

    packets_still : tagged_packets left ≡ all
    packets_still =
        ap₂ (λ (packets : List (List ℕ)) (earlier : List PastPeriod). with_tags packets (drop (length (packets_of earlier)) s.messages))
        (arrival_packets s.station arrival kept) (arrival_earlier s.station arrival kept)

    left_station : cut all (after_arrival s.station arrival kept) ≡ ((cut_layers_by queues) left).station
    left_station = ap (λ (l : List (HeldPacket LinkTag)). cut l (after_arrival s.station arrival kept)) (sym packets_still)

  header_made : (fate : Fate) → (wire_layers_machine (judged_by queues)).arrives ((cut_layers_by queues) s) HeaderBad fate ≡
      layers_result queues ((layers_machine (judged_by queues)).arrives s HeaderBad fate)
  header_made Kept = refl
  header_made Dropped = refl
  header_made NotKept = ap (wire_left (cut_links queues s.links)) (sym (header_same all s.station false) ∙ left_station HeaderBad false)

  data_bad_made : (fate : Fate) → (wire_layers_machine (judged_by queues)).arrives ((cut_layers_by queues) s) DataBad fate ≡
      layers_result queues ((layers_machine (judged_by queues)).arrives s DataBad fate)
  data_bad_made Kept = refl
  data_bad_made Dropped = refl
  data_bad_made NotKept = ap (wire_left (cut_links queues s.links)) (sym (data_bad_same all s.station false) ∙ left_station DataBad false)

  module _ (hint : ℕ) (unit : LayersUnit) (there : slice_get other.sent hint ≡ Some unit) (ahead : own.state.front ≤ hint) where
    abbrev u : Truth
    u = unit.known.station

    within : meets_needs (judged_by queues).periods s.station unit.message u ≡ true → IsWithin s.station unit.message u
    within = c.station.within hint (unit_of_station unit) (slice_get-map unit_of_station other.sent hint ∙ ap (option_map unit_of_station) there)
        ahead

    -- the packet is read again, and its message is met
    by_carried : (station : Station) → HasItsMessage other front unit → (carried : Option SentMessage) → unit.known.carried ≡ carried →
        wire_keeps_packet (judged_by queues) ((cut_layers_by queues) (record s { station = station })) (tag_of_packet carried)
        (Ok (packet_in carried))
        ≡ layers_result queues (keeps (judged_by queues) (record s { station = station }) carried)
    by_carried station h None is = refl
    by_carried station h (Some message) is =
        let small = content_in_range (body_of unit.message) message.packet (h.read ∙ ap (λ (x : Option SentMessage). Ok (packet_in x)) is) in
        let met = c.links.kept u.place message h.ahead (h.told ∙ ap Some is) small in
        ap (λ (o : Result WireLinks LinkRefusal). with_wire_links ((cut_layers_by queues) (record s { station = station })) o) (sym met)
        ∙ by_links (record s { station = station }) (links_arrived queues of_partner s.links message.packet message.truth)

    by_kept : (station : Station) → HasItsMessage other front unit →
        wire_keeps_packet (judged_by queues) ((cut_layers_by queues) (record s { station = station }))
        (tag_or_none (tag_by (change_of unit.message) unit.known.carried))
        (content (body_of unit.message))
        ≡ layers_result queues (keeps (judged_by queues) (record s { station = station }) unit.known.carried)
    by_kept station h =
        ap₂ (λ (change : Change) (r : Result (Option Carried) StepRefusal). wire_keeps_packet (judged_by queues)
        ((cut_layers_by queues) (record s { station = station }))
        (tag_or_none (tag_by change unit.known.carried)) r)
        h.packet h.read
        ∙ by_carried station h unit.known.carried refl

    station_left : (kept : Bool) → arrival_refusal (judged_by queues).periods s.station (Sound unit.message u) kept ≡ None →
        wire_after_arrival w (Sound unit.message u.tag) kept ≡ ((cut_layers_by queues) (left (Sound unit.message u) kept)).station
    station_left kept allowed =
        sym (arrival_same all s.station (layers_labelled s) c.station.ordered unit.message u kept
        (within (not_crossed s.station unit.message u kept allowed)))
        ∙ left_station (Sound unit.message u) kept

    abbrev wire_met : Fate → Result (WireStation LinkTag) StepRefusal → Result WireLayers StepRefusal
    wire_met fate o = wire_meets_on (judged_by queues) ((cut_layers_by queues) s) (Sound unit.message (cut_truth unit.message unit.known)) fate o

    by_arrival : (fate : Fate) (o : Option StationRefusal) →
        arrival_refusal (judged_by queues).periods s.station (Sound unit.message u) (is_kept fate) ≡ o →
        wire_met fate (unless_refused o (wire_after_arrival w (Sound unit.message u.tag) (is_kept fate)))
        ≡ layers_result queues (meets_on (judged_by queues) s (Sound unit.message unit.known) fate
        (unless_refused o (after_arrival s.station (Sound unit.message u) (is_kept fate))))
    by_arrival Kept None allowed =
        ap (λ (x : WireStation LinkTag). wire_met Kept (Ok x)) (station_left true allowed)
        ∙ by_kept (after_arrival s.station (Sound unit.message u) true) (c.kept hint unit there ahead allowed)
    by_arrival Dropped None allowed = ap (λ (x : WireStation LinkTag). wire_met Dropped (Ok x)) (station_left true allowed)
    by_arrival NotKept None allowed = ap (λ (x : WireStation LinkTag). wire_met NotKept (Ok x)) (station_left false allowed)
    by_arrival fate (Some refusal) allowed = refl

    sound_made : (fate : Fate) →
        wire_met fate (unless_refused (wire_arrival_refusal (judged_by queues).periods w (Sound unit.message u.tag) (is_kept fate))
        (wire_after_arrival w (Sound unit.message u.tag) (is_kept fate)))
        ≡ layers_result queues ((layers_machine (judged_by queues)).arrives s (Sound unit.message unit.known) fate)
    sound_made fate =
        ap (λ (o : Option StationRefusal). wire_met fate (unless_refused o (wire_after_arrival w (Sound unit.message u.tag) (is_kept fate))))
        (sym (arrival_refusal_same {L = LinkTag} all (judged_by queues).periods s.station unit.message u (is_kept fate) within))
        ∙ by_arrival fate (arrival_refusal (judged_by queues).periods s.station (Sound unit.message u) (is_kept fate)) refl

  -- ---- a record

  layers_same : DoTheSame (cut_layers_by queues) cut_truth (layers_machine (judged_by queues)) (wire_layers_machine (judged_by queues)) own other
  layers_same = record {
    user = user_made;
    sending = sends_made queues own other front of_other c;
    sound = λ hint unit fate there ahead. sound_made hint unit there ahead fate;
    header_bad = header_made;
    data_bad = data_bad_made;
  }

  pub record_same : (r : Record) →
      advance (step (wire_layers_machine (judged_by queues))) (cut_half (layers_seen_by queues) own) (cut_half (layers_seen_by queues) other) r ≡
      cut_outcome (layers_seen_by queues) (advance (step (layers_machine (judged_by queues))) own other r)
  record_same r =
      made_same (cut_layers_by queues) cut_truth (layers_machine (judged_by queues)) (wire_layers_machine (judged_by queues)) own other layers_same r
