-- What is left of one end over both layers, and what it makes of what the user of links does and of packets that are composed.
use Rattle.leaving_runs.proofs.Prelude.{◌≡◌, ℕ, Bool, true, false, cond, not, ◌&&◌, Option, Some, None, Result, Ok, Err, List, refl, sym, ap, ◌∙◌}
use Rattle.leaving_runs.proofs.Prelude.{subst, IsBytes, StationRefusal, StepRefusal, BadPacket, BadNsp, PacketFault, NspFault, PacketValue}
use Rattle.leaving_runs.proofs.Prelude.{NspValue, packet_at, nsp_at, LinkRefusal, unless_refused, WireStation, Queues, LinkTag, Carried}
use Rattle.leaving_runs.proofs.Prelude.{LinkEventValue, WireSegments, WireLinks, wire_links_user}
use Rattle.leaving_runs.proofs.Prelude.{wire_links_sent, by_bytes_with, content, content_of, is_returned, message_in, WireLayers, LayersTag}
use Rattle.leaving_runs.proofs.Prelude.{with_wire_station, with_wire_links, with_wire_composed, wire_composes, OfUser, LeftOut, source_of}
use Rattle.leaving_runs.proofs.Prelude.{destination_of, sent_out, kept_out, is_judged_there, event_out, message_out, EventBinds, other_out, Leaves}
use Rattle.leaving_runs.proofs.Prelude.{PacketsFit}
use Rattle.dna_station.specs.declared.refusal.StepRefusal.TheVariants.{Links as OfLinks}
use Rattle.dna_packet.specs.Packet as packets
use Rattle.dna_links.specs.User as user
use Rattle.dna_links.specs.Sending.{Sent}
use Rattle.leaving_runs.proofs.Alone.Stations.{StationLeft}
use Rattle.leaving_runs.proofs.Alone.Links.{event_plain, LinksLeft, refused_left, unseen, seen, sent_nodes, sent_stays, sent_unseen, sent_seen}
use Rattle.leaving_runs.proofs.Alone.Links.{sent_refused}

-- a refusal of the links
abbrev pub IsOfLinks : StepRefusal → Type 0
IsOfLinks (OfLinks refusal) = Unit {0}
IsOfLinks refusal = ⊥

-- none is a packet that can't be read
pub unread : (body : List ℕ) (refusal : StepRefusal) → content body ≡ Err refusal → IsOfLinks refusal → ⊥
unread body refusal e of = by_packet (packet_at body) e
  where
    same : (other : StepRefusal) → ◌≡◌ {A = Result (Option Carried) StepRefusal} (Err other) (Err refusal) → IsOfLinks other
    same other e = subst IsOfLinks (sym (ap error e)) of
      where
        error : Result (Option Carried) StepRefusal → StepRefusal
        error (Err r) = r
        error (Ok c) = other

    by_message : (dst src : ℕ) (r : Result NspValue NspFault) → message_in dst src r ≡ Err refusal → ⊥
    by_message dst src (Ok m) e = absurd cc
    by_message dst src (Err fault) e = same BadNsp e

    by_returned : (b : Bool) (dst src : ℕ) (r : Result NspValue NspFault) → cond b (Ok None) (message_in dst src r) ≡ Err refusal → ⊥
    by_returned true dst src r e = absurd cc
    by_returned false dst src r e = by_message dst src r e

    by_packet : (r : Result PacketValue PacketFault) → content_of r ≡ Err refusal → ⊥
    by_packet (Ok (packets.Data rtflg dst src forward nsp)) e = by_returned (is_returned rtflg) dst src (nsp_at nsp) e
    by_packet (Ok (packets.Control bytes)) e = absurd cc
    by_packet (Err fault) e = same BadPacket e

-- a message that is judged at its sender stays
stays_out : (out : LeftOut) (m : NspValue) → sent_out out (source_of m) (destination_of m) ≡ false → message_out out m ≡ false
stays_out out m is = ap (λ (b : Bool). b && not (is_judged_there out m)) is

module _ (queues : Queues) (leaves : Leaves) (node peer : ℕ) where
  abbrev pub IsLeft : WireLinks → WireLinks → Type 0
  IsLeft x y = LinksLeft queues leaves.out node peer x y

  abbrev pub Station : WireStation LinkTag → WireStation LinkTag → Type 0
  Station w v = StationLeft leaves.packets.own w v

  -- this is left of one end over both layers
  pub record LayersLeft (s t : WireLayers) : Type 0 where
    pub station : Station s.station t.station
    pub links : IsLeft s.links t.links

  -- so of what is not refused; and what links refuse is, where it is judged, refused alike
  abbrev pub ResultLeft : (is_judged : Type 0) → Result WireLayers StepRefusal → Result WireLayers StepRefusal → Type 0
  ResultLeft is_judged (Ok s) (Ok t) = LayersLeft s t
  ResultLeft is_judged (Ok s) (Err refusal) = ⊥
  ResultLeft is_judged (Err refusal) o = is_judged → IsOfLinks refusal → o ≡ Err refusal

  -- and of what is sent
  abbrev pub SentLeft : (is_judged : Type 0) → Result (WireLayers × LayersTag) StepRefusal → Result (WireLayers × LayersTag) StepRefusal → Type 0
  SentLeft is_judged (Ok a) (Ok b) = LayersLeft a.0 b.0
  SentLeft is_judged (Ok a) (Err refusal) = ⊥
  SentLeft is_judged (Err refusal) o = is_judged → IsOfLinks refusal → o ≡ Err refusal

  module _ (s t : WireLayers) (l : LayersLeft s t) where
    -- ---- the user

    pub station_left : (J : Type 0) (o : Option StationRefusal) (w v : WireStation LinkTag) → Station w v →
        ResultLeft J (with_wire_station s (unless_refused o w)) (with_wire_station t (unless_refused o v))
    station_left J None w v same = record { station = same; links = l.links }
    station_left J (Some refusal) w v same = λ j of. absurd of

    by_links : (e : LinkEventValue) → user.IsInRange e → EventBinds leaves.out e → (o : Result WireLayers StepRefusal) →
        (event_out leaves.out e ≡ true → o ≡ Ok t) → (event_out leaves.out e ≡ false → o ≡ with_wire_links t (wire_links_user queues t.links e)) →
        (r : Result WireLinks LinkRefusal) → wire_links_user queues s.links e ≡ r →
        ResultLeft (event_out leaves.out e ≡ false) (with_wire_links s r) o
    by_links e range binds o if_out if_judged (Err refusal) done =
        λ judged of. if_judged judged ∙ ap (with_wire_links t)
        (refused_left queues leaves.out node peer s.links t.links l.links (OfUser e) (event_plain leaves.out e range binds) judged refusal done)
    by_links e range binds o if_out if_judged (Ok x) done = at (event_out leaves.out e) refl
      where
        at : (b : Bool) → event_out leaves.out e ≡ b → ResultLeft (event_out leaves.out e ≡ false) (Ok (record s { links = x })) o
        at true is =
            subst (ResultLeft (event_out leaves.out e ≡ false) (Ok (record s { links = x }))) (sym (if_out is))
            (record {
              station = l.station;
              links = unseen queues leaves.out node peer s.links t.links l.links (OfUser e) (event_plain leaves.out e range binds) x done is;
            })
        at false is =
            let along = seen queues leaves.out node peer s.links t.links l.links (OfUser e) (event_plain leaves.out e range binds) x done is in
            subst (ResultLeft (event_out leaves.out e ≡ false) (Ok (record s { links = x }))) (sym (if_judged is ∙ ap (with_wire_links t) along.1))
            (record { station = l.station; links = along.2 })

    pub events_left : (e : LinkEventValue) → user.IsInRange e → EventBinds leaves.out e → (o : Result WireLayers StepRefusal) →
        (event_out leaves.out e ≡ true → o ≡ Ok t) → (event_out leaves.out e ≡ false → o ≡ with_wire_links t (wire_links_user queues t.links e)) →
        ResultLeft (event_out leaves.out e ≡ false) (with_wire_links s (wire_links_user queues s.links e)) o
    events_left e range binds o if_out if_judged = by_links e range binds o if_out if_judged (wire_links_user queues s.links e) refl

    -- ---- what is composed

    module _ (fits : PacketsFit leaves.out node peer leaves.packets.own) (body : List ℕ) (is_bytes : IsBytes body) (J : Type 0)
        (judged : J → (packet : Carried) → content body ≡ Ok (Some packet) →
        sent_out leaves.out (source_of packet.message) (destination_of packet.message) ≡ false) where
      -- of a packet with a message of the links: what is left of it, and what the links make of that
      module _ (packet : Carried) (held : content body ≡ Ok (Some packet)) (made : Sent WireSegments (Unit {0}))
          (done : wire_links_sent queues s.links packet ≡ Ok made) (P : Result (Option Carried) StepRefusal → Type 0)
          (if_out : IsLeft made.links t.links → P (Ok None))
          (if_judged : (left : Sent WireSegments (Unit {0})) → wire_links_sent queues t.links packet ≡ Ok left → IsLeft made.links left.links →
          P (Ok (Some packet))) where
        at : (b : Bool) → message_out leaves.out packet.message ≡ b → (c : Bool) →
            kept_out (other_out leaves.out) (source_of packet.message) (destination_of packet.message) ≡ c →
            P (content (leaves.packets.own body))
        at true is true there =
            subst P (sym (fits.goes body packet is_bytes held is there))
            (if_out (sent_unseen queues leaves.out node peer s.links t.links l.links packet made done is))
        at true is false there =
            let stays = sent_stays queues leaves.out node peer s.links t.links l.links packet made done there in
            absurd cc
        at false is c there =
            let nodes = sent_nodes queues leaves.out node peer s.links t.links l.links packet made done in
            let along = sent_seen queues leaves.out node peer s.links t.links l.links packet made done is in
            subst P (sym (fits.stays body packet is_bytes held nodes.0 nodes.1 is)) (if_judged along.0 along.1 along.2)

        pub packet_by : P (content (leaves.packets.own body))
        packet_by =
            at (message_out leaves.out packet.message) refl
            (kept_out (other_out leaves.out) (source_of packet.message) (destination_of packet.message)) refl

      -- where links refuse it
      pub refused_by : (packet : Carried) (held : content body ≡ Ok (Some packet)) (refusal : LinkRefusal) →
          wire_links_sent queues s.links packet ≡ Err refusal → J →
          (content (leaves.packets.own body) ≡ Ok (Some packet)) × (wire_links_sent queues t.links packet ≡ Err refusal)
      refused_by packet held refusal done j =
          let stays = judged j packet held in (
            fits.same body packet is_bytes held stays,
            sent_refused queues leaves.out node peer s.links t.links l.links packet (stays_out leaves.out packet.message stays) refusal done,
          )

      composed_by : (packet : Carried) → content body ≡ Ok (Some packet) → (r : Result (Sent WireSegments (Unit {0})) LinkRefusal) →
          wire_links_sent queues s.links packet ≡ r →
          ResultLeft J (with_wire_composed s r) (wire_composes (by_bytes_with queues) t (content (leaves.packets.own body)))
      composed_by packet held (Err refusal) done =
          λ j of. let left = refused_by packet held refusal done j in
          ap (wire_composes (by_bytes_with queues) t) left.0 ∙ ap (with_wire_composed t) left.1
      composed_by packet held (Ok made) done =
          packet_by packet held made done
          (λ (o : Result (Option Carried) StepRefusal). ResultLeft J (Ok (record s { links = made.links }))
          (wire_composes (by_bytes_with queues) t o))
          (λ left. record { station = l.station; links = left })
          (λ sent e left. subst (λ (r : Result (Sent WireSegments (Unit {0})) LinkRefusal).
          ResultLeft J (Ok (record s { links = made.links })) (with_wire_composed t r)) (sym e) (record { station = l.station; links = left }))

      pub composes_left : (o : Result (Option Carried) StepRefusal) → content body ≡ o → ResultLeft J
          (wire_composes (by_bytes_with queues) s o)
          (wire_composes (by_bytes_with queues) t (content (leaves.packets.own body)))
      composes_left (Ok (Some packet)) held = composed_by packet held (wire_links_sent queues s.links packet) refl
      composes_left (Ok None) held =
          subst (λ (o : Result (Option Carried) StepRefusal). ResultLeft J (Ok s) (wire_composes (by_bytes_with queues) t o))
          (sym (fits.none body is_bytes held)) l
      composes_left (Err refusal) held = λ j of. absurd (unread body refusal held of)
