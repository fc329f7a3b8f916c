-- In a world within the bounds the wire station with links does the same as the one on true numbers with a message that is sent.
use Rattle.std.proofs.Common.{◌≡◌, ℕ, Bool, true, false, cond, Option, Some, None, Result, Ok, Err, List, refl, sym, ap, ap₂, ◌∙◌}
use Rattle.two_nodes.specs.Nodes.{Half}
use Rattle.ddcmp_msg.specs.Message.{MessageValue}
use Rattle.dna_station.specs.declared.tag.Tag.{Tag}
use Rattle.dna_links.specs.declared.tag.LinkTag.{LinkTag}
use Rattle.dna_station.specs.declared.refusal.StationRefusal.{StationRefusal}
use Rattle.dna_station.specs.declared.refusal.StepRefusal.{StepRefusal}
use Rattle.dna_station.specs.declared.link_refusal.LinkRefusal.{LinkRefusal}
use Rattle.dna_station.specs.Table.{Change}
use Rattle.dna_links.specs.declared.queue.Queues.{Queues}
use Rattle.dna_node.specs.TagRules.{judged_by}
use Rattle.dna_station.specs.Station.{Station}
use Rattle.dna_station.specs.Truth.{Truth, tag_of}
use Rattle.dna_station.specs.Book.{body_of}
use Rattle.dna_station.specs.StationBook.{sending_refusal, after_sending, gives_number, truth_of}
use Rattle.dna_station.specs.WireStation.{HeldPacket, WireStation, wire_after_label}
use Rattle.dna_station.specs.WireBook.{wire_after_sending}
use Rattle.dna_station.specs.Cut.{AreLabelled, cut, all_after}
use Rattle.dna_station.specs.Machine.{unless_refused}
use Rattle.dna_links.specs.Sending as links_sending
use Rattle.dna_links.specs.Links.{Carried}
use Rattle.dna_links.specs.TrueSegments.{TrueSegments, Numbers}
use Rattle.dna_links.specs.TrueLinks.{Links, links_sent}
use Rattle.dna_links.specs.WireSegments.{WireSegments}
use Rattle.dna_links.specs.WireLinks.{WireLinks}
use Rattle.dna_links.specs.CutLinks.{cut_links}
use Rattle.dna_links.specs.CutLinks as of_links
use Rattle.dna_links.specs.Runs.{SentMessage}
use Rattle.dna_node.specs.Content.{content}
use Rattle.dna_node.specs.Layers.{Layers, LayersNode, LayersUnit, first_sent, with_message, sends_first}
use Rattle.dna_node.specs.Layers.{sends_again, sends_on, layers_machine}
use Rattle.dna_node.specs.WireLayers.{WireLayers, LayersTag, first_tagged, with_tag, wire_sends_first}
use Rattle.dna_node.specs.WireLayers.{wire_sends_again, wire_sends_on, wire_layers_machine}
use Rattle.dna_node.specs.CutLayers.{tag_of_packet, tagged_packets, cut_layers_by, tag_by}
use Rattle.dna_station.proofs.Cut.Sending.{sending_labelled, sending_refusal_same, sending_same, first_same, label_same}
use Rattle.dna_station.proofs.Cut.Label as newest
use Rattle.dna_station.proofs.Cut.Machines.{cut_sent}
use Rattle.dna_node.proofs.LayersLabels.{layers_labelled, first_tagged_same, again_tagged_same, again_tag_same, newest_outstanding, gives_packet}
use Rattle.dna_node.proofs.LayersBounded.{IsLayersBounded, layers_sent}

-- what is made at the cut node
abbrev wire_made : WireLinks → Tag → WireStation LinkTag → Option LinkTag → Result (WireLayers × LayersTag) StepRefusal
wire_made links tag station link = Ok (record { station = station; links = links }, record { station = tag; link = link })

module _ (queues : Queues) (own other : Half LayersNode LayersUnit) (front of_other : ℕ) (c : IsLayersBounded queues own other front of_other) where
  abbrev s : Layers
  s = own.state.station

  abbrev all : List (HeldPacket LinkTag)
  all = tagged_packets s

  abbrev w : WireStation LinkTag
  w = cut all s.station

  fits : AreLabelled all s.station
  fits = layers_labelled s

  module _ (m : MessageValue) where
    abbrev after : Station × Truth
    after = (after_sending s.station m, truth_of s.station m)

    abbrev wire_after : WireStation LinkTag × Tag
    wire_after = (wire_after_sending w m, tag_of s.station)

    sent_station : cut (all_after all s.station m) (after_sending s.station m) ≡ wire_after_sending w m
    sent_station = sending_same all s.station fits c.station.ordered m

    first_station : gives_number s.station m ≡ true → (links : Links) (carried : Option SentMessage) →
        wire_after_label (wire_after_sending w m) (tag_of_packet carried) ≡ ((cut_layers_by queues) (first_sent s after links carried).0).station
    first_station new links carried =
        ap (λ (x : WireStation LinkTag). wire_after_label x (tag_of_packet carried)) (sym sent_station)
        ∙ sym (newest.label_same (all_after all s.station m) (after_sending s.station m)
        (sending_labelled all s.station fits m) (newest_outstanding s m c.station.ordered new) (tag_of_packet carried))
        ∙ ap (λ (l : List (HeldPacket LinkTag)). cut l (after_sending s.station m)) (sym (first_tagged_same s c.counted m links carried new))

    first : gives_number s.station m ≡ true → (links : Links) (carried : Option SentMessage) →
        Ok (first_tagged wire_after (cut_links queues links) (tag_of_packet carried)) ≡ layers_sent queues m (Ok (first_sent s after links carried))
    first new links carried =
        ap₂ (wire_made (cut_links queues links) (tag_of s.station)) (first_station new links carried)
        (sym (ap (λ (change : Change). tag_by change carried) (gives_packet s.station m new)))

    by_message : gives_number s.station m ≡ true → (packet : Carried) (o : Result (links_sending.Sent TrueSegments Numbers) LinkRefusal) →
        with_tag wire_after (of_links.cut_sent queues o) ≡ layers_sent queues m (with_message s after packet o)
    by_message new packet (Ok made) = first new made.links (Some (record { packet = packet; truth = made.truth }))
    by_message new packet (Err refusal) = refl

    by_content : gives_number s.station m ≡ true → (r : Result (Option Carried) StepRefusal) →
        wire_sends_first (judged_by queues) ((cut_layers_by queues) s) wire_after r ≡ layers_sent queues m (sends_first (judged_by queues) s after r)
    by_content new (Ok (Some packet)) =
        ap (λ (o : Result (links_sending.Sent WireSegments (Unit {0})) LinkRefusal). with_tag wire_after o) (sym (c.links.sent packet))
        ∙ by_message new packet (links_sent queues s.links packet)
    by_content new (Ok None) = first new s.links None
    by_content new (Err refusal) = refl

    again : gives_number s.station m ≡ false →
        Ok (wire_sends_again ((cut_layers_by queues) s) m wire_after) ≡ layers_sent queues m (Ok (sends_again s m after))
    again old =
        ap₂ (wire_made (cut_links queues s.links) (tag_of s.station))
        (sym sent_station ∙ ap (λ (l : List (HeldPacket LinkTag)). cut l (after_sending s.station m)) (sym (again_tagged_same s c.counted m old)))
        (label_same all s.station c.station.ordered m ∙ again_tag_same s c.counted m c.station.ordered old)

    by_number : (b : Bool) → gives_number s.station m ≡ b →
        cond b (wire_sends_first (judged_by queues) ((cut_layers_by queues) s) wire_after (content (body_of m)))
        (Ok (wire_sends_again ((cut_layers_by queues) s) m wire_after))
        ≡ layers_sent queues m (cond b (sends_first (judged_by queues) s after (content (body_of m))) (Ok (sends_again s m after)))
    by_number true new = by_content new (content (body_of m))
    by_number false old = again old

    by_refusal : (o : Option StationRefusal) →
        wire_sends_on (judged_by queues) ((cut_layers_by queues) s) m (unless_refused o wire_after) ≡
        layers_sent queues m (sends_on (judged_by queues) s m (unless_refused o after))
    by_refusal None =
        ap (λ (b : Bool). cond b (wire_sends_first (judged_by queues) ((cut_layers_by queues) s) wire_after (content (body_of m)))
        (Ok (wire_sends_again ((cut_layers_by queues) s) m wire_after)))
        (first_same all s.station fits c.station.ordered m)
        ∙ by_number (gives_number s.station m) refl
    by_refusal (Some refusal) = refl

    pub sends_made : (wire_layers_machine (judged_by queues)).sends ((cut_layers_by queues) s) m ≡
        layers_sent queues m ((layers_machine (judged_by queues)).sends s m)
    sends_made =
        ap (λ (o : Option StationRefusal). wire_sends_on (judged_by queues) ((cut_layers_by queues) s) m (unless_refused o wire_after))
        (sym (sending_refusal_same all s.station fits c.station.ordered m))
        ∙ by_refusal (sending_refusal s.station m)
