-- What one end makes of what it sends, what is left of it makes of what is left of that.
use Rattle.leaving_runs.proofs.Prelude.{◌≡◌, ℕ, Bool, true, false, cond, Option, Some, None, Result, Ok, Err, List, refl, sym, ap, ◌∙◌, subst}
use Rattle.leaving_runs.proofs.Prelude.{MessageValue, Data, IsBytes, reading, StationRefusal, StepRefusal, LinkRefusal, Tag, SendPacket, change_of}
use Rattle.leaving_runs.proofs.Prelude.{body_of, unless_refused, WireStation, wire_after_label, wire_tag, wire_sending_refusal, wire_after_sending}
use Rattle.leaving_runs.proofs.Prelude.{gives_new, Queues, LinkTag, Carried, WireSegments, WireLinks, wire_links_sent, by_bytes_with, content}
use Rattle.leaving_runs.proofs.Prelude.{WireLayers, LayersTag, of_no_link, first_tagged, with_tag, wire_sends_again, wire_sends_first}
use Rattle.leaving_runs.proofs.Prelude.{wire_sends_on, source_of, destination_of, sent_out, with_body, Leaves, PacketsFit}
use Rattle.ddcmp_msg.specs.Reading as read_as
use Rattle.dna_links.specs.Sending.{Sent}
use Rattle.leaving_runs.proofs.Bytes.{body_bytes}
use Rattle.leaving_runs.proofs.Alone.Stations.{by_held, after_left, gives_left, sending_left, labels_left}
use Rattle.leaving_runs.proofs.Alone.Layers.{IsLeft, Station, LayersLeft, SentLeft, unread, refused_by, packet_by}

-- only a data message gives a number
body_is : (packet : List ℕ → List ℕ) (w : WireStation LinkTag) (m : MessageValue) → gives_new w m ≡ true →
    body_of (with_body packet m) ≡ packet (body_of m)
body_is packet w (Data flags resp num body) new = refl
body_is packet w m new = absurd cc

sends_packet : (w : WireStation LinkTag) (m : MessageValue) → gives_new w m ≡ true → change_of m ≡ SendPacket
sends_packet w (Data flags resp num body) new = refl
sends_packet w m new = absurd cc

module _ (queues : Queues) (leaves : Leaves) (node peer : ℕ) where
  module _ (s t : WireLayers) (l : LayersLeft queues leaves node peer s t) (fits : PacketsFit leaves.out node peer leaves.packets.own) where
    abbrev Sends : (is_judged : Type 0) → Result (WireLayers × LayersTag) StepRefusal → Result (WireLayers × LayersTag) StepRefusal → Type 0
    Sends is_judged o p = SentLeft queues leaves node peer is_judged o p

    module _ (bytes : List ℕ) (is_bytes : IsBytes bytes) (m : MessageValue) (read : reading bytes ≡ read_as.Sound m) (J : Type 0)
        (judged : J → (packet : Carried) → change_of m ≡ SendPacket → content (body_of m) ≡ Ok (Some packet) →
        sent_out leaves.out (source_of packet.message) (destination_of packet.message) ≡ false) where
      abbrev n : MessageValue
      n = with_body leaves.packets.own m

      abbrev sent_station : WireStation LinkTag × Tag
      sent_station = (wire_after_sending s.station m, wire_tag s.station)

      abbrev left_station : WireStation LinkTag × Tag
      left_station = (wire_after_sending t.station n, wire_tag t.station)

      after_sent : Station queues leaves node peer sent_station.0 left_station.0
      after_sent =
          by_held leaves.packets.own s.station t.station
          (λ (v : WireStation LinkTag). Station queues leaves node peer (wire_after_sending s.station m) (wire_after_sending v n)) l.station
          (λ held e. after_left leaves.packets.own s.station held e m)

      -- with any label
      labelled : (links left : WireLinks) → IsLeft queues leaves node peer links left → (tag other : LinkTag) →
          LayersLeft queues leaves node peer (first_tagged sent_station links tag).0 (first_tagged left_station left other).0
      labelled links left along tag other = record {
        station = by_held leaves.packets.own sent_station.0 left_station.0
            (λ (v : WireStation LinkTag). Station queues leaves node peer (wire_after_label sent_station.0 tag) (wire_after_label v other)) after_sent
            (λ held e. labels_left leaves.packets.own sent_station.0 held e tag other);
        links = along;
      }

      first_by : change_of m ≡ SendPacket → (packet : Carried) → content (body_of m) ≡ Ok (Some packet) →
          (r : Result (Sent WireSegments (Unit {0})) LinkRefusal) → wire_links_sent queues s.links packet ≡ r →
          Sends J (with_tag sent_station r)
          (wire_sends_first (by_bytes_with queues) t left_station (content (leaves.packets.own (body_of m))))
      first_by sends packet held (Err refusal) done =
          λ j of. let left = refused_by queues leaves node peer s t l fits (body_of m) (body_bytes bytes m is_bytes read) J
          (λ i one found. judged i one sends found) packet held refusal done j in
          ap (wire_sends_first (by_bytes_with queues) t left_station) left.0 ∙ ap (with_tag left_station) left.1
      first_by sends packet held (Ok made) done =
          packet_by queues leaves node peer s t l fits (body_of m) (body_bytes bytes m is_bytes read) J
          (λ i one found. judged i one sends found) packet
          held made done
          (λ (o : Result (Option Carried) StepRefusal). Sends J (Ok (first_tagged sent_station made.links made.truth.tag))
          (wire_sends_first (by_bytes_with queues) t left_station o))
          (λ left. labelled made.links t.links left made.truth.tag of_no_link)
          (λ sent e left. subst (λ (r : Result (Sent WireSegments (Unit {0})) LinkRefusal).
          Sends J (Ok (first_tagged sent_station made.links made.truth.tag)) (with_tag left_station r)) (sym e)
          (labelled made.links sent.links left made.truth.tag sent.truth.tag))

      first_left : change_of m ≡ SendPacket → (o : Result (Option Carried) StepRefusal) → content (body_of m) ≡ o →
          Sends J (wire_sends_first (by_bytes_with queues) s sent_station o)
          (wire_sends_first (by_bytes_with queues) t left_station (content (leaves.packets.own (body_of m))))
      first_left sends (Ok (Some packet)) held = first_by sends packet held (wire_links_sent queues s.links packet) refl
      first_left sends (Ok None) held =
          subst (λ (o : Result (Option Carried) StepRefusal). Sends J (Ok (first_tagged sent_station s.links of_no_link))
          (wire_sends_first (by_bytes_with queues) t left_station o))
          (sym (fits.none (body_of m) (body_bytes bytes m is_bytes read) held))
          (labelled s.links t.links l.links of_no_link of_no_link)
      first_left sends (Err refusal) held = λ j of. absurd (unread (body_of m) refusal held of)

      by_number : (b : Bool) → gives_new s.station m ≡ b →
          Sends J
          (cond b (wire_sends_first (by_bytes_with queues) s sent_station (content (body_of m))) (Ok (wire_sends_again s m sent_station)))
          (cond b (wire_sends_first (by_bytes_with queues) t left_station (content (body_of n))) (Ok (wire_sends_again t n left_station)))
      by_number true new =
          subst (λ (body : List ℕ). Sends J (wire_sends_first (by_bytes_with queues) s sent_station (content (body_of m)))
          (wire_sends_first (by_bytes_with queues) t left_station (content body))) (sym (body_is leaves.packets.own s.station m new))
          (first_left (sends_packet s.station m new) (content (body_of m)) refl)
      by_number false old = record { station = after_sent; links = l.links }

      gives_same : gives_new t.station n ≡ gives_new s.station m
      gives_same =
          by_held leaves.packets.own s.station t.station (λ (v : WireStation LinkTag). gives_new v n ≡ gives_new s.station m) l.station
          (λ held e. gives_left leaves.packets.own s.station held e m)

      allowed_left : wire_sending_refusal s.station m ≡ None → wire_sending_refusal t.station n ≡ None
      allowed_left allowed =
          by_held leaves.packets.own s.station t.station (λ (v : WireStation LinkTag). wire_sending_refusal v n ≡ None) l.station
          (λ held e. sending_left leaves.packets.own s.station held e m allowed)

      by_refusal : (o : Option StationRefusal) → wire_sending_refusal s.station m ≡ o →
          Sends J (wire_sends_on (by_bytes_with queues) s m (unless_refused o sent_station))
          (wire_sends_on (by_bytes_with queues) t n (unless_refused (wire_sending_refusal t.station n) left_station))
      by_refusal (Some refusal) refused = λ j of. absurd of
      by_refusal None allowed =
          subst (λ (o : Option StationRefusal). Sends J (wire_sends_on (by_bytes_with queues) s m (Ok sent_station))
          (wire_sends_on (by_bytes_with queues) t n (unless_refused o left_station))) (sym (allowed_left allowed))
          (subst (λ (b : Bool). Sends J (wire_sends_on (by_bytes_with queues) s m (Ok sent_station))
          (cond b (wire_sends_first (by_bytes_with queues) t left_station (content (body_of n))) (Ok (wire_sends_again t n left_station))))
          (sym gives_same) (by_number (gives_new s.station m) refl))

      pub sent_left : Sends J (wire_sends_on (by_bytes_with queues) s m (unless_refused (wire_sending_refusal s.station m) sent_station))
          (wire_sends_on (by_bytes_with queues) t n (unless_refused (wire_sending_refusal t.station n) left_station))
      sent_left = by_refusal (wire_sending_refusal s.station m) refl
