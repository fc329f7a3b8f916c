-- In every run each unit that the other side sent, and that may still come, is one of a right end.
use Rattle.std.proofs.Common.{◌≡◌, ℕ, ◌≤◌, true, Option, Some, None, Result, Ok, Err, List, map, refl, sym, ap, ap₂, ◌∙◌, option_map}
use Rattle.std.specs.Prelude.{slice_get}
use Rattle.std.proofs.lemmas.Option.{slice_get-map}
use Rattle.two_nodes.specs.Nodes.{Half, World}
use Rattle.ddcmp_msg.specs.Message.{MessageValue, Data, Ack, Nak}
use Rattle.capture_record.specs.declared.fate.Fate.TheVariants.{Kept}
use Rattle.capture_record.specs.declared.record.Record.{Record}
use Rattle.dna_station.specs.declared.head.Head.{Head}
use Rattle.dna_station.specs.declared.refusal.StationRefusal.{StationRefusal}
use Rattle.dna_station.specs.declared.refusal.StepRefusal.{StepRefusal}
use Rattle.dna_station.specs.declared.link_refusal.LinkRefusal.{LinkRefusal}
use Rattle.dna_links.specs.declared.queue.Queues.{Queues}
use Rattle.dna_links.specs.declared.tag.LinkTag.{LinkTag}
use Rattle.dna_station.specs.Table.{Change, change_of}
use Rattle.dna_station.specs.Station.{all_given}
use Rattle.dna_station.specs.Truth.{Truth}
use Rattle.dna_station.specs.Book.{Sound, body_of}
use Rattle.dna_station.specs.StationBook.{meets_needs, arrival_refusal}
use Rattle.dna_station.specs.WireStation.{WireStation}
use Rattle.dna_station.specs.WireBook.{wire_arrival_refusal, wire_after_arrival}
use Rattle.dna_station.specs.Bounds.{IsOrdered, IsWithin}
use Rattle.dna_station.specs.Cut.{cut}
use Rattle.dna_station.specs.Machine.{unless_refused}
use Rattle.dna_links.specs.Links.{Carried}
use Rattle.dna_links.specs.Bounds.{AreLinksBounded}
use Rattle.dna_links.specs.Runs.{SentMessage}
use Rattle.dna_links.specs.Arriving.{of_partner}
use Rattle.dna_links.specs.CutLinks.{cut_links}
use Rattle.dna_links.specs.WireLinks.{WireLinks, wire_links_arrived}
use Rattle.dna_node.specs.TagRules.{judged_by}
use Rattle.dna_node.specs.Content.{content}
use Rattle.dna_node.specs.Layers.{Layers, LayersNode, LayersUnit, unit_of_station}
use Rattle.dna_node.specs.WireLayers.{WireLayers, with_wire_links, tag_or_none, wire_keeps_packet, wire_meets_on}
use Rattle.dna_node.specs.WireLayers.{wire_layers_machine}
use Rattle.dna_node.specs.LayersPair.{side_of}
use Rattle.dna_node.specs.CutLayers.{tag_of_packet, tagged_packets, cut_layers_by, tag_by, cut_truth, cut_layers_node, cut_layers_unit}
use Rattle.dna_node.specs.Accusing.{wrong_content, or_else, wrong_unit, wrong_carried, wrong_taken}
use Rattle.dna_station.proofs.Bounds.Numbers.{is_data}
use Rattle.dna_station.proofs.Cut.Arriving.{arrival_refusal_same}
use Rattle.dna_links.proofs.Runs.Every.{bounded}
use Rattle.dna_node.proofs.ReadInRange.{content_in_range}
use Rattle.dna_node.proofs.LayersRead.{LayersRead, packet_in, body_read}
use Rattle.dna_node.proofs.LayersLabels.{layers_labelled}
use Rattle.dna_node.proofs.LayersBounded.{HasItsMessage, IsLayersBounded}
use Rattle.dna_node.proofs.LayersBounds.{a_bounded}
use Rattle.dna_node.proofs.Alone.Acks.{packet_right}
use Rattle.dna_node.proofs.Alone.Layers.{layers_along}
use Rattle.dna_node.proofs.Alone.Response.{message_right}
use Rattle.dna_node.proofs.Alone.Steps.{IsRight}

-- ---- any unit

module _ (queues : Queues) (s : Layers) (ordered : IsOrdered s.station) where
  unit_right : (m : MessageValue) (u : Truth) (carried : Option SentMessage) → IsWithin s.station m u →
      (is_data m ≡ true → content (body_of m) ≡ Ok (packet_in carried)) → wrong_unit (cut_layers_by queues s) m ≡ None
  unit_right (Data flags resp num body) u carried within reads =
      ap₂ or_else (message_right (tagged_packets s) s.station (layers_labelled s) ordered (Data flags resp num body) u within)
      (ap wrong_content (reads refl))
  unit_right (Ack flags resp) u carried within reads =
      message_right (tagged_packets s) s.station (layers_labelled s) ordered (Ack flags resp) u within
  unit_right (Nak flags reason resp) u carried within reads =
      message_right (tagged_packets s) s.station (layers_labelled s) ordered (Nak flags reason resp) u within
  unit_right other u carried within reads = refl

-- ---- a packet that is taken

-- the links that let a message pass
links_left : (t left : WireLayers) (o : Result WireLinks LinkRefusal) → with_wire_links t o ≡ Ok left → (links : WireLinks) × (o ≡ Ok links)
links_left t left (Ok links) e = (links, refl)
links_left t left (Err refusal) e = absurd cc

module _ (queues : Queues) (own other : Half LayersNode LayersUnit) (front of_other : ℕ) (c : IsLayersBounded queues own other front of_other)
    (links : AreLinksBounded (side_of own front) (side_of other of_other)) (hint : ℕ) (unit : LayersUnit)
    (there : slice_get other.sent hint ≡ Some unit) (ahead : own.state.front ≤ hint) where
  abbrev s : Layers
  s = own.state.station

  abbrev w : WireStation LinkTag
  w = cut (tagged_packets s) s.station

  abbrev m : MessageValue
  m = unit.message

  abbrev u : Truth
  u = unit.known.station

  within : meets_needs (judged_by queues).periods s.station m u ≡ true → IsWithin s.station m u
  within = c.station.within hint (unit_of_station unit) (slice_get-map unit_of_station other.sent hint ∙ ap (option_map unit_of_station) there) ahead

  by_carried : (t left : WireLayers) → HasItsMessage other front unit → t.links ≡ cut_links queues s.links → (carried : Option SentMessage) →
      unit.known.carried ≡ carried → wire_keeps_packet (judged_by queues) t (tag_of_packet carried) (Ok (packet_in carried)) ≡ Ok left →
      wrong_carried (cut_links queues s.links) (Ok (packet_in carried)) ≡ None
  by_carried t left h same None is made = refl
  by_carried t left h same (Some message) is made =
      let small = content_in_range (body_of m) message.packet (h.read ∙ ap (λ (x : Option SentMessage). Ok (packet_in x)) is) in
      let near = links.near u.place message h.ahead (h.told ∙ ap Some is) small in
      let l = links_left t left (wire_links_arrived queues of_partner t.links message.packet message.truth.tag) made in
      packet_right queues s.links links.ordered message.truth message.packet near l.0
      (ap (λ (x : WireLinks). wire_links_arrived queues of_partner x message.packet message.truth.tag) (sym same) ∙ l.1)

  by_kept : (t left : WireLayers) → HasItsMessage other front unit → t.links ≡ cut_links queues s.links →
      wire_keeps_packet (judged_by queues) t (tag_or_none (tag_by (change_of m) unit.known.carried)) (content (body_of m)) ≡ Ok left →
      wrong_taken (cut_layers_by queues s) m ≡ None
  by_kept t left h same made =
      ap (wrong_carried (cut_links queues s.links)) h.read
      ∙ by_carried t left h same unit.known.carried refl
      (sym (ap₂ (λ (change : Change) (r : Result (Option Carried) StepRefusal). wire_keeps_packet (judged_by queues) t
      (tag_or_none (tag_by change unit.known.carried)) r) h.packet h.read) ∙ made)

  abbrev met : Option StationRefusal → Result WireLayers StepRefusal
  met o =
      wire_meets_on (judged_by queues) (cut_layers_by queues s) (Sound m (cut_truth m unit.known)) Kept
      (unless_refused o (wire_after_arrival w (Sound m u.tag) true))

  by_refusal : (left : WireLayers) (o : Option StationRefusal) → arrival_refusal (judged_by queues).periods s.station (Sound m u) true ≡ o →
      met o ≡ Ok left → wrong_taken (cut_layers_by queues s) m ≡ None
  by_refusal left None allowed made =
      by_kept (record (cut_layers_by queues s) { station = wire_after_arrival w (Sound m u.tag) true }) left (c.kept hint unit there ahead allowed)
      refl made
  by_refusal left (Some refusal) allowed made = absurd cc

  taken_right : (left : WireLayers) →
      (wire_layers_machine (judged_by queues)).arrives (cut_layers_by queues s) (Sound m (cut_truth m unit.known)) Kept ≡ Ok left →
      wrong_taken (cut_layers_by queues s) m ≡ None
  taken_right left made =
      by_refusal left (wire_arrival_refusal (judged_by queues).periods w (Sound m u.tag) true)
      (arrival_refusal_same {L = LinkTag} (tagged_packets s) (judged_by queues).periods s.station m u true within) made

-- ---- in every run

module _ (queues : Queues) (head_a head_b : Head) (w : World LayersNode LayersUnit) (of_a of_b : List Record)
    (c : LayersRead queues head_a head_b w of_a of_b) where
  pub a_right : (hint : ℕ) (unit : LayersUnit) → slice_get w.b.sent hint ≡ Some unit → w.a.state.front ≤ hint →
      IsRight (layers_along queues) (cut_layers_node queues w.a.state) (cut_layers_unit unit)
  a_right hint unit there ahead =
      let b = a_bounded queues head_a head_b w of_a of_b c in
      let order = c.joined.placed.order in
      let low : slice_get (map unit_of_station w.b.sent) hint ≡ Some (unit_of_station unit) =
      slice_get-map unit_of_station w.b.sent hint ∙ ap (option_map unit_of_station) there in
      let l = (bounded head_a.own head_a.peer head_b.own head_b.peer _ _ _ queues c.joined.joined.reached).0 in
      record {
        spelled = (order.of_b.sound.told hint (unit_of_station unit) low).reads;
        sent = λ met. unit_right queues w.a.state.station b.station.ordered unit.message unit.known.station unit.known.carried
            (within queues w.a w.b c.joined.joined.front_a c.joined.joined.front_b b l hint unit there ahead met)
            (λ d. body_read queues unit.message unit.known.station w.b.state.station.messages (all_given w.b.state.station.station)
            unit.known.carried c.b_read d
            (order.of_b.places hint (unit_of_station unit) low) (c.joined.b_told.told hint unit there d));
        taken = taken_right queues w.a w.b c.joined.joined.front_a c.joined.joined.front_b b l hint unit there ahead;
      }
