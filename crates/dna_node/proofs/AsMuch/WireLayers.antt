-- The node of one end alone makes with queues whatever it makes without, and accuses the other end of no more.
use Rattle.std.proofs.Common.{◌≡◌, ℕ, Bool, true, false, cond, Option, Some, None, List, Result, Ok, Err, refl, sym, ap, ◌∙◌, subst}
use Rattle.std.proofs.lemmas.Bool.{and_parts}
use Rattle.ddcmp_msg.specs.Message.{MessageValue, Data, Ack, Nak}
use Rattle.capture_record.specs.declared.fate.Fate.{Fate}
use Rattle.capture_record.specs.declared.fate.Fate.TheVariants.{Kept, Dropped, NotKept}
use Rattle.capture_record.specs.declared.event.Event.{Event}
use Rattle.capture_record.specs.declared.event.Event.TheVariants as events
use Rattle.dna_packet.specs.declared.ack_word.AckWord.{AckWord}
use Rattle.dna_packet.specs.Nsp.{NspValue, DataSegment, DataAck}
use Rattle.dna_station.specs.declared.tag.Tag.{Tag}
use Rattle.dna_station.specs.declared.refusal.StepRefusal.{StepRefusal}
use Rattle.dna_station.specs.declared.link_refusal.LinkRefusal.{LinkRefusal}
use Rattle.dna_station.specs.PeriodRule.{of_any_period}
use Rattle.dna_station.specs.Book.{ArrivalValue, Sound, HeaderBad, DataBad, body_of}
use Rattle.dna_station.specs.declared.state.StationEvent.TheVariants.{Halt}
use Rattle.dna_station.specs.WireStation.{WireStation, wire_after_event, wire_after_label}
use Rattle.dna_station.specs.WireBook.{gives_new}
use Rattle.dna_station.specs.WireNode.{wire_machine}
use Rattle.dna_links.specs.declared.queue.Queues.TheVariants.{Without, With}
use Rattle.dna_links.specs.declared.tag.LinkTag.{LinkTag}
use Rattle.dna_links.specs.declared.port.LinkTest.TheVariants.{ActedOn}
use Rattle.dna_links.specs.LookUps.{is_connected, has_both}
use Rattle.dna_links.specs.Links.{Carried}
use Rattle.dna_links.specs.User.{LinkEventValue, Open, Accept, Reject, In, Up, Close, Boot, Abort}
use Rattle.dna_links.specs.Sending.{Sent}
use Rattle.dna_links.specs.Arriving.{of_anyone}
use Rattle.dna_links.specs.WireSegments.{WireSegments, wire_segments}
use Rattle.dna_links.specs.WireLinks.{WireLinks, wire_links_user}
use Rattle.dna_links.proofs.Tables.Outcomes.{looked}
use Rattle.dna_links.proofs.Cut.User.{live_if}
use Rattle.dna_node.specs.TagRules.{by_bytes, by_bytes_with}
use Rattle.dna_node.specs.Content.{content}
use Rattle.dna_node.specs.WireLayers.{WireLayers, LayersTag, of_no_link, with_wire_station, with_wire_links, first_tagged, with_tag, to_wire_station}
use Rattle.dna_node.specs.WireLayers.{wire_sends_first, wire_sends_again, wire_sends_on, tag_or_none, wire_keeps_packet, wire_keeps, wire_meets_on}
use Rattle.dna_node.specs.WireLayers.{with_wire_composed, wire_composes, wire_layers_machine}
use Rattle.dna_node.specs.Accusing.{wrong_unit, wrong_words, wrong_acks, wrong_message, wrong_carried, wrong_taken}
use Rattle.dna_node.proofs.AsMuch.Nodes.{IsDone, IsSent, DoesAsMuch}
use Rattle.dna_links.proofs.AsMuch.Plain.{plain_links, at_found, at_none, number_plain, plain_at, live_segments}
use Rattle.dna_links.proofs.AsMuch.Fit.{AllFit, AreDone, AreSent}
use Rattle.dna_links.proofs.AsMuch.User.{user_done}
use Rattle.dna_links.proofs.AsMuch.Sending.{sent_done}
use Rattle.dna_links.proofs.AsMuch.Arriving.{arrived_done}
use Rattle.dna_links.proofs.AsMuch.WireBook.{wire_lets_go}

abbrev plain_of : WireLinks → WireLinks
plain_of s = plain_links wire_segments s

abbrev pub plain_layers : WireLayers → WireLayers
plain_layers t = record t { links = plain_of t.links }

-- an end with queues beside one without
pub record Stands (s t : WireLayers) : Type 0 where
  pub same : plain_layers t ≡ s
  pub fits : AllFit t.links

-- ---- what becomes of the links

with_links_done : (t : WireLayers) (o o' : Result WireLinks LinkRefusal) → AreDone wire_segments o o' →
    IsDone Stands (with_wire_links (plain_layers t) o) (with_wire_links t o')
with_links_done t (Ok links) o' done = record {
  left = record t { links = done.links };
  is = ap (with_wire_links t) done.does;
  beside = record { same = ap (λ (x : WireLinks). record (plain_layers t) { links = x }) done.same; fits = done.fit };
}
with_links_done t (Err refusal) o' done = tt

-- ---- the node

module _ (t : WireLayers) (fits : AllFit t.links) where
  abbrev alone : WireStation LinkTag → WireLayers
  alone station = record t { station = station }

  left_same : IsDone Stands (Ok (plain_layers t)) (Ok t)
  left_same = record { left = t; is = refl; beside = record { same = refl; fits = fits } }

  by_station : (o : Result (WireStation LinkTag) StepRefusal) → IsDone Stands (with_wire_station (plain_layers t) o) (with_wire_station t o)
  by_station (Ok station) = record { left = alone station; is = refl; beside = record { same = refl; fits = fits } }
  by_station (Err refusal) = tt

  link_done : (event : LinkEventValue) → IsDone Stands (with_wire_links (plain_layers t) (wire_links_user Without (plain_of t.links) event))
      (with_wire_links t (wire_links_user With t.links event))
  link_done event = with_links_done t _ _ (user_done wire_segments wire_lets_go t.links fits event)

  abbrev halted : WireLayers
  halted = alone (wire_after_event t.station Halt)

  boot_done : IsDone Stands (with_wire_links (plain_layers halted) (wire_links_user Without (plain_of t.links) Boot))
      (with_wire_links halted (wire_links_user With t.links Boot))
  boot_done =
      with_links_done halted (wire_links_user Without (plain_of t.links) Boot) (wire_links_user With t.links Boot)
      (user_done wire_segments wire_lets_go t.links fits Boot)

  composed_done : (o o' : Result (Sent WireSegments (Unit {0})) LinkRefusal) → AreSent wire_segments o o' →
      IsDone Stands (with_wire_composed (plain_layers t) o) (with_wire_composed t o')
  composed_done (Ok made) o' f = record {
    left = record t { links = f.sent.links };
    is = ap (with_wire_composed t) f.does;
    beside = record { same = ap (λ (x : Sent WireSegments (Unit {0})). record (plain_layers t) { links = x.links }) f.same; fits = f.fit };
  }
  composed_done (Err refusal) o' f = tt

  packet_composed : (r : Result (Option Carried) StepRefusal) →
      IsDone Stands (wire_composes by_bytes (plain_layers t) r) (wire_composes (by_bytes_with With) t r)
  packet_composed (Ok (Some packet)) = composed_done _ _ (sent_done wire_segments wire_lets_go t.links fits packet)
  packet_composed (Ok None) = left_same
  packet_composed (Err refusal) = tt

  event_done : (event : Event) →
      IsDone Stands ((wire_layers_machine by_bytes).user (plain_layers t) event) ((wire_layers_machine (by_bytes_with With)).user t event)
  event_done events.Start = by_station ((wire_machine of_any_period).user t.station events.Start)
  event_done events.Halt = by_station ((wire_machine of_any_period).user t.station events.Halt)
  event_done (events.Open link) = link_done (Open link)
  event_done (events.Accept partner link) = link_done (Accept partner link)
  event_done (events.Reject partner link) = link_done (Reject partner link)
  event_done (events.In link message) = link_done (In link message)
  event_done (events.Up link message) = link_done (Up link message)
  event_done (events.Close link) = link_done (Close link)
  event_done events.Boot = boot_done
  event_done (events.Abort link) = link_done (Abort link)
  event_done (events.Composed packet) = packet_composed (content packet)
  event_done (events.Interrupt link message) = left_same
  event_done (events.Interrupted link message) = left_same

  -- ---- a message is sent

  module _ (after : WireStation LinkTag × Tag) where
    abbrev left_with : LinkTag → WireLinks → WireLayers
    left_with tag links = record { station = wire_after_label after.0 tag; links = links }

    abbrev made_with : WireLinks → LinkTag → Result (WireLayers × LayersTag) StepRefusal
    made_with links tag = Ok (first_tagged after links tag)

    message_done : (o o' : Result (Sent WireSegments (Unit {0})) LinkRefusal) → AreSent wire_segments o o' →
        IsSent Stands (with_tag after o) (with_tag after o')
    message_done (Ok made) o' f = record {
      left = left_with made.truth.tag f.sent.links;
      is = ap (with_tag after) f.does ∙ ap (λ (x : Sent WireSegments (Unit {0})). made_with f.sent.links x.truth.tag) f.same;
      beside = record { same = ap (λ (x : Sent WireSegments (Unit {0})). left_with made.truth.tag x.links) f.same; fits = f.fit };
    }
    message_done (Err refusal) o' f = tt

    first_done : (r : Result (Option Carried) StepRefusal) →
        IsSent Stands (wire_sends_first by_bytes (plain_layers t) after r) (wire_sends_first (by_bytes_with With) t after r)
    first_done (Ok (Some packet)) = message_done _ _ (sent_done wire_segments wire_lets_go t.links fits packet)
    first_done (Ok None) = record { left = left_with of_no_link t.links; is = refl; beside = record { same = refl; fits = fits } }
    first_done (Err refusal) = tt

    by_number : (m : MessageValue) (b : Bool) →
        IsSent Stands
        (cond b (wire_sends_first by_bytes (plain_layers t) after (content (body_of m))) (Ok (wire_sends_again (plain_layers t) m after)))
        (cond b (wire_sends_first (by_bytes_with With) t after (content (body_of m))) (Ok (wire_sends_again t m after)))
    by_number m true = first_done (content (body_of m))
    by_number m false = record { left = alone after.0; is = refl; beside = record { same = refl; fits = fits } }

  by_sending : (m : MessageValue) (o : Result (WireStation LinkTag × Tag) StepRefusal) →
      IsSent Stands (wire_sends_on by_bytes (plain_layers t) m o) (wire_sends_on (by_bytes_with With) t m o)
  by_sending m (Ok after) = by_number after m (gives_new t.station m)
  by_sending m (Err refusal) = tt

  -- ---- an arrival

  packet_done : (tag : LinkTag) (r : Result (Option Carried) StepRefusal) →
      IsDone Stands (wire_keeps_packet by_bytes (plain_layers t) tag r) (wire_keeps_packet (by_bytes_with With) t tag r)
  packet_done tag (Ok (Some packet)) =
      with_links_done t _ _ (arrived_done wire_segments wire_lets_go of_anyone t.links fits (record { tag = tag; known = tt }) packet)
  packet_done tag (Ok None) = left_same
  packet_done tag (Err refusal) = tt

  keeps_done : (arrival : ArrivalValue LayersTag) →
      IsDone Stands (wire_keeps by_bytes (plain_layers t) arrival) (wire_keeps (by_bytes_with With) t arrival)
  keeps_done (Sound m known) = packet_done (tag_or_none known.link) (content (body_of m))
  keeps_done HeaderBad = left_same
  keeps_done DataBad = left_same

arrival_done : (t : WireLayers) → AllFit t.links → (arrival : ArrivalValue LayersTag) (fate : Fate) (o : Result (WireStation LinkTag) StepRefusal) →
    IsDone Stands (wire_meets_on by_bytes (plain_layers t) arrival fate o) (wire_meets_on (by_bytes_with With) t arrival fate o)
arrival_done t fits arrival Kept (Ok station) = keeps_done (record t { station = station }) fits arrival
arrival_done t fits arrival Dropped (Ok station) = left_same (record t { station = station }) fits
arrival_done t fits arrival NotKept (Ok station) = left_same (record t { station = station }) fits
arrival_done t fits arrival fate (Err refusal) = tt

-- ---- what is asked of the other end

module _ (t : WireLayers) where
  unit_asked : (m : MessageValue) → wrong_unit t m ≡ wrong_unit (plain_layers t) m
  unit_asked (Data flags resp num body) = refl
  unit_asked (Ack flags resp) = refl
  unit_asked (Nak flags reason resp) = refl
  unit_asked other = refl

  acks_asked : (own far : ℕ) (acks : List AckWord) → wrong_acks own far acks t.links ≡ wrong_acks own far acks (plain_of t.links)
  acks_asked own far acks =
      looked (ActedOn own far) t.links None (λ n l. wrong_words acks l.segments) (wrong_acks own far acks t.links) refl
      (λ none e. sym e ∙ sym (at_none (plain_of t.links) (ActedOn own far) None (λ n l. wrong_words acks l.segments)
      (number_plain wire_segments (ActedOn own far) t.links ∙ none)))
      (λ number m found e. sym e
      ∙ ap (wrong_words acks) (sym (live_segments wire_segments m (live_if is_connected refl m.port.phase
      (and_parts (is_connected m.port.phase) (has_both m.port own far) found.passed).0)))
      ∙ sym (at_found (plain_of t.links) (ActedOn own far) number _ None (λ n l. wrong_words acks l.segments)
      (number_plain wire_segments (ActedOn own far) t.links ∙ found.found) (plain_at wire_segments t.links number m found.there)))

  message_asked : (m : NspValue) → wrong_message t.links m ≡ wrong_message (plain_of t.links) m
  message_asked (DataSegment segment) = acks_asked segment.dstaddr segment.srcaddr segment.acks
  message_asked (DataAck dst src acks) = acks_asked dst src acks
  message_asked m = refl

  carried_asked : (r : Result (Option Carried) StepRefusal) → wrong_carried t.links r ≡ wrong_carried (plain_of t.links) r
  carried_asked (Ok (Some packet)) = message_asked packet.message
  carried_asked (Ok None) = refl
  carried_asked (Err refusal) = refl

-- ---- beside each other

module _ (s t : WireLayers) (stands : Stands s t) where
  pub unit_same : (m : MessageValue) → wrong_unit t m ≡ wrong_unit s m
  unit_same m = unit_asked t m ∙ ap (λ (x : WireLayers). wrong_unit x m) stands.same

  pub taken_same : (m : MessageValue) → wrong_taken t m ≡ wrong_taken s m
  taken_same m = carried_asked t (content (body_of m)) ∙ ap (λ (x : WireLayers). wrong_taken x m) stands.same

  user_beside : (event : Event) →
      IsDone Stands ((wire_layers_machine by_bytes).user s event) ((wire_layers_machine (by_bytes_with With)).user t event)
  user_beside event =
      subst (λ (x : WireLayers). IsDone Stands ((wire_layers_machine by_bytes).user x event)
      ((wire_layers_machine (by_bytes_with With)).user t event)) stands.same (event_done t stands.fits event)

  sends_beside : (m : MessageValue) →
      IsSent Stands ((wire_layers_machine by_bytes).sends s m) ((wire_layers_machine (by_bytes_with With)).sends t m)
  sends_beside m =
      subst (λ (x : WireLayers). IsSent Stands ((wire_layers_machine by_bytes).sends x m)
      ((wire_layers_machine (by_bytes_with With)).sends t m)) stands.same
      (by_sending t stands.fits m ((wire_machine of_any_period).sends t.station m))

  arrives_beside : (arrival : ArrivalValue LayersTag) (fate : Fate) →
      IsDone Stands ((wire_layers_machine by_bytes).arrives s arrival fate) ((wire_layers_machine (by_bytes_with With)).arrives t arrival fate)
  arrives_beside arrival fate =
      subst (λ (x : WireLayers). IsDone Stands ((wire_layers_machine by_bytes).arrives x arrival fate)
      ((wire_layers_machine (by_bytes_with With)).arrives t arrival fate)) stands.same
      (arrival_done t stands.fits arrival fate ((wire_machine of_any_period).arrives t.station (to_wire_station arrival) fate))

pub wire_layers_do_as_much : DoesAsMuch (wire_layers_machine by_bytes) (wire_layers_machine (by_bytes_with With)) Stands
wire_layers_do_as_much = record { user = user_beside; sends = sends_beside; arrives = arrives_beside }
