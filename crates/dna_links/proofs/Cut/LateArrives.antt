-- Cutting the links of a node with queues to what it keeps of them commutes with what comes.
use Rattle.std.proofs.Common.{◌≡◌, ℕ, Bool, true, false, ◌&&◌, eqb, Some, Result, Ok, refl, sym, ap, ◌∙◌}
use Rattle.std.specs.Prelude.{slice_get}
use Rattle.std.proofs.lemmas.Bool.{and_parts}
use Rattle.dna_packet.specs.Nsp.{NspValue, DataSegment, LinkService, DataAck, OtherDataAck, ConnectAck, NoOperation, ConnectInitiate}
use Rattle.dna_packet.specs.Nsp.{ConnectConfirm, DisconnectInitiate, DisconnectConfirm}
use Rattle.dna_station.specs.declared.link_refusal.LinkRefusal.{LinkRefusal}
use Rattle.dna_station.specs.declared.link_refusal.LinkRefusal.TheVariants.{WrongNode, CrossedLink}
use Rattle.dna_links.specs.declared.tag.LinkTag.{LinkTag}
use Rattle.dna_links.specs.declared.port.Phase.TheVariants.{Running}
use Rattle.dna_links.specs.declared.port.LinkTest.TheVariants.{TheLink, LiveTo, CallingAt, ActedOn}
use Rattle.dna_links.specs.declared.queue.Queues.TheVariants.{With}
use Rattle.dna_links.specs.LookUps.{passes, is_live, is_calling, is_connected, is_at, has_both}
use Rattle.dna_links.specs.Links.{LinkOf, Carried, LinkTruth, check, with_link, begun, changed, with_segments}
use Rattle.dna_links.specs.Queues.{has_waiting, goes_on, ends_by_message}
use Rattle.dna_links.specs.inner.Forms.{called}
use Rattle.dna_links.specs.Arriving.{PartnerRule, is_for, is_of_pair, message_arrived}
use Rattle.dna_links.specs.TrueSegments.{TrueSegments, Numbers, takes_segment, takes_acks, true_segments}
use Rattle.dna_links.specs.WireSegments.{WireSegments, wire_segments}
use Rattle.dna_links.specs.WireSegments as wire
use Rattle.dna_links.specs.TrueLinks.{Links, links_arrived}
use Rattle.dna_links.specs.WireLinks.{WireLinks, wire_links_arrived}
use Rattle.dna_links.specs.CutSegments.{cut}
use Rattle.dna_links.specs.CutLinks.{cut_link, cut_links, cut_result, AreOrdered, ArrivesNear}
use Rattle.dna_links.proofs.Cut.SegmentsArriving.{takes_acks_same, takes_segment_same}
use Rattle.dna_links.proofs.Cut.LookUps.{with_link_same, begun_same}
use Rattle.dna_links.proofs.Cut.User.{live_if}
use Rattle.dna_links.proofs.Cut.LateLinks.{kept_segments}
use Rattle.dna_links.proofs.Cut.LateLinks.{or_left, ends_same}
use Rattle.dna_links.proofs.Cut.LateUser.{result_check, one_changed}

module _ (rule : PartnerRule) (s : Links) (ordered : AreOrdered s) where
  ends_late : (own far : ℕ) →
      cut_result With (with_link (TheLink own far) s
      (with_link {R = Result Links LinkRefusal} (CallingAt own) s (Ok s) (λ n l. Ok (changed n (ends_by_message true_segments With l) s)))
      (λ n l. Ok (changed n (ends_by_message true_segments With l) s)))
      ≡ with_link (TheLink own far) (cut_links With s)
      (with_link {R = Result WireLinks LinkRefusal} (CallingAt own) (cut_links With s) (Ok (cut_links With s))
      (λ n l. Ok (changed n (ends_by_message wire_segments With l) (cut_links With s))))
      (λ n l. Ok (changed n (ends_by_message wire_segments With l) (cut_links With s)))
  ends_late own far =
      with_link_same With (cut_result With) (TheLink own far) s _ _ _ _
      (λ none. with_link_same With (cut_result With) (CallingAt own) s (Ok s) (Ok (cut_links With s)) _ _ (λ nobody. refl)
      (λ n l there here. ap Ok (one_ended n l there
      (live_if is_calling refl l.port.phase (and_parts (is_calling l.port.phase) (is_at l.port.own own) here).0))))
      (λ n l there here. ap Ok (one_ended n l there (and_parts (is_live l.port.phase) (has_both l.port own far) here).0))
    where
      one_ended : (n : ℕ) (l : LinkOf TrueSegments) → slice_get s.links n ≡ Some l → is_live l.port.phase ≡ true →
          cut_links With (changed n (ends_by_message true_segments With l) s) ≡
          changed n (ends_by_message wire_segments With (cut_link With l)) (cut_links With s)
      one_ended n l there live = one_changed s n _ _ (ends_same l ((ordered n l there).fresh live) live)

  -- a message that is acted on, and what it does to the segments
  acted_late : (own far : ℕ) (tag : LinkTag) (takes : TrueSegments → TrueSegments) (takes' : WireSegments → WireSegments) →
      ((n : ℕ) (l : LinkOf TrueSegments) → slice_get s.links n ≡ Some l → passes (ActedOn own far) l.port ≡ true →
      rule (is_of_pair n l.partner tag) ≡ true → cut (takes l.segments) ≡ takes' (cut l.segments)) →
      cut_result With (with_link (ActedOn own far) s (Ok s) (λ n l. check (rule (is_of_pair n l.partner tag)) CrossedLink
      (Ok (changed n (with_segments (takes (goes_on true_segments (is_live l.port.phase) Running l).segments)
      (goes_on true_segments (is_live l.port.phase) Running l)) s))))
      ≡ with_link (ActedOn own far) (cut_links With s) (Ok (cut_links With s)) (λ n l. check (rule (is_of_pair n l.partner tag)) CrossedLink
      (Ok (changed n (with_segments (takes' (goes_on wire_segments (is_live l.port.phase) Running l).segments)
      (goes_on wire_segments (is_live l.port.phase) Running l)) (cut_links With s))))
  acted_late own far tag takes takes' same =
      with_link_same With (cut_result With) (ActedOn own far) s (Ok s) (Ok (cut_links With s)) _ _ (λ none. refl)
      (λ n l there here.
      let live = live_if is_connected refl l.port.phase (and_parts (is_connected l.port.phase) (has_both l.port own far) here).0 in
      result_check (rule (is_of_pair n l.partner tag)) CrossedLink _ _
      (λ e. ap Ok (one_changed s n _ _ (go l live (same n l there here e) (is_live l.port.phase) live))))
    where
      go : (l : LinkOf TrueSegments) → is_live l.port.phase ≡ true → cut (takes l.segments) ≡ takes' (cut l.segments) → (b : Bool) → b ≡ true →
          cut_link With (with_segments (takes (goes_on true_segments b Running l).segments) (goes_on true_segments b Running l))
          ≡ with_segments (takes' (goes_on wire_segments b Running (cut_link With l)).segments) (goes_on wire_segments b Running (cut_link With l))
      go l live same true e =
          ap (λ (w : WireSegments). with_segments w (goes_on wire_segments true Running (cut_link With l)))
          (same ∙ ap takes' (sym (kept_segments l (or_left (is_live l.port.phase) (has_waiting l.queue.waits l.queue.said) live))))
      go l live same false e = absurd cc

  module _ (truth : LinkTruth Numbers) where
    came_late : (m : NspValue) → ArrivesNear rule s m truth →
        cut_result With (message_arrived With true_segments rule s m truth) ≡
        message_arrived With wire_segments rule (cut_links With s) m (record { tag = truth.tag; known = tt })
    came_late (ConnectInitiate retransmitted src services info segsize user_data) near =
        with_link_same With (cut_result With) (LiveTo src) s (Ok (begun (called true_segments rule src segsize truth.tag) s))
        (Ok (begun (called wire_segments rule src segsize truth.tag) (cut_links With s))) (λ n l. Ok s) (λ n l. Ok (cut_links With s))
        (λ none. ap Ok (begun_same With (called true_segments rule src segsize truth.tag) s)) (λ n l there here. refl)
    came_late (ConnectAck dst) near = refl
    came_late (NoOperation rest) near = refl
    came_late (ConnectConfirm dst src services info segsize user_data) near =
        with_link_same With (cut_result With) (CallingAt dst) s (Ok s) (Ok (cut_links With s)) _ _ (λ none. refl)
        (λ n l there here.
        let live = live_if is_calling refl l.port.phase (and_parts (is_calling l.port.phase) (is_at l.port.own dst) here).0 in
        result_check (rule (is_for n truth.tag)) CrossedLink _ _
        (λ e. ap Ok (one_changed s n _ _ (go l live (is_live l.port.phase) live))))
      where
        go : (l : LinkOf TrueSegments) → is_live l.port.phase ≡ true → (b : Bool) → b ≡ true →
            cut_link With (goes_on true_segments b Running
            (record l { port = record l.port { far = Some src }; partner = truth.tag.link; segsize = segsize }))
            ≡ goes_on wire_segments b Running
            (record (cut_link With l) { port = record l.port { far = Some src }; partner = truth.tag.link; segsize = segsize })
        go l live true e =
            ap (λ (w : WireSegments). goes_on wire_segments true Running
            (record (cut_link With l) { port = record l.port { far = Some src }; partner = truth.tag.link; segsize = segsize; segments = w }))
            (sym (kept_segments l (or_left (is_live l.port.phase) (has_waiting l.queue.waits l.queue.said) live)))
        go l live false e = absurd cc
    came_late (DisconnectInitiate dst src reason user_data) near = ends_late dst src
    came_late (DisconnectConfirm dst src reason) near = ends_late dst src
    came_late (DataSegment segment) near =
        acted_late segment.dstaddr segment.srcaddr truth.tag (takes_segment segment truth.known) (wire.takes_segment segment tt)
        (λ n l there here e. let m = near n l there here e in
        takes_segment_same segment truth.known l.segments (ordered n l there).segments m.0 m.1 m.2 m.3)
    came_late (DataAck dst src acks) near =
        acted_late dst src truth.tag (takes_acks acks truth.known) (wire.takes_acks acks tt)
        (λ n l there here e. let m = near n l there here e in takes_acks_same acks truth.known l.segments (ordered n l there).segments m.0 m.1)
    came_late (LinkService interrupt dst src rest) near = acted_late dst src truth.tag (λ f. f) (λ f. f) (λ n l there here e. refl)
    came_late (OtherDataAck dst src rest) near = acted_late dst src truth.tag (λ f. f) (λ f. f) (λ n l there here e. refl)

    pub arrived_late : (packet : Carried) → ArrivesNear rule s packet.message truth →
        cut_result With (links_arrived With rule s packet truth) ≡ wire_links_arrived With rule (cut_links With s) packet truth.tag
    arrived_late packet near =
        result_check (eqb packet.src s.peer && eqb packet.dst s.node) WrongNode (message_arrived With true_segments rule s packet.message truth)
        (message_arrived With wire_segments rule (cut_links With s) packet.message (record { tag = truth.tag; known = tt }))
        (λ e. came_late packet.message near)
