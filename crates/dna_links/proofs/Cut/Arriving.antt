-- Cutting the links of a node to what it keeps of them commutes with what a message that comes does, where its numbers are near those of
-- the link that acts on it.
use Rattle.std.proofs.Common.{◌≡◌, ℕ, Bool, true, false, ◌&&◌, eqb, Some, Result, Ok, refl, sym, ap, ◌∙◌}
use Rattle.std.specs.Prelude.{slice_get}
use Rattle.std.proofs.lemmas.Bool.{and_parts}
use Rattle.dna_packet.specs.Nsp.{SegmentValue, NspValue, DataSegment, LinkService, DataAck, OtherDataAck, ConnectAck, NoOperation, ConnectInitiate}
use Rattle.dna_packet.specs.Nsp.{ConnectConfirm, DisconnectInitiate, DisconnectConfirm}
use Rattle.dna_station.specs.declared.link_refusal.LinkRefusal.{LinkRefusal}
use Rattle.dna_station.specs.declared.link_refusal.LinkRefusal.TheVariants.{WrongNode, CrossedLink}
use Rattle.dna_links.specs.Queues.{ended}
use Rattle.dna_links.specs.declared.queue.Queues.TheVariants.{Without}
use Rattle.dna_links.specs.declared.tag.LinkTag.{LinkTag}
use Rattle.dna_links.specs.declared.port.Phase.TheVariants.{Running}
use Rattle.dna_links.specs.declared.port.LinkTest.TheVariants.{TheLink, LiveTo, CallingAt, ActedOn}
use Rattle.dna_links.specs.LookUps.{is_live, is_calling, is_connected, is_at, has_both, passes}
use Rattle.dna_links.specs.Links.{LinkOf, LinksOf, Carried, LinkTruth, check, with_link, begun, changed, in_phase, with_segments}
use Rattle.dna_links.specs.Arriving.{PartnerRule, is_for, is_of_pair, message_arrived}
use Rattle.dna_links.specs.inner.Forms.{called, confirmed, ends_by, running, acted_on}
use Rattle.dna_links.specs.TrueSegments.{TrueSegments, Numbers, takes_acks, takes_segment, true_segments}
use Rattle.dna_links.specs.WireSegments.{WireSegments, wire_segments}
use Rattle.dna_links.specs.WireSegments as wire
use Rattle.dna_links.specs.TrueLinks.{Links, links_arrived}
use Rattle.dna_links.specs.WireLinks.{wire_links_arrived}
use Rattle.dna_links.specs.CutSegments.{cut}
use Rattle.dna_links.specs.CutLinks.{cut_link, cut_links, cut_result, AreOrdered, ArrivesNear}
use Rattle.dna_links.proofs.Cut.SegmentsArriving.{takes_acks_same, takes_segment_same}
use Rattle.dna_links.proofs.Cut.LookUps.{with_link_same, changed_same, begun_same}
use Rattle.dna_links.proofs.Cut.User.{live_if, live_segments}
use Rattle.dna_links.proofs.Cut.Sending.{ended_same}

arrived_check : (b : Bool) (reason : LinkRefusal) (r : Result Links LinkRefusal) (r' : Result (LinksOf WireSegments) LinkRefusal)
    → (b ≡ true → cut_result Without r ≡ r') → cut_result Without (check b reason r) ≡ check b reason r'
arrived_check true reason r r' same = same refl
arrived_check false reason r r' same = refl

module _ (rule : PartnerRule) (s : Links) (ordered : AreOrdered s) where
  -- a link that is changed
  one_changed : (n : ℕ) (after : LinkOf TrueSegments) (after' : LinkOf WireSegments) → cut_link Without after ≡ after' →
      cut_links Without (changed n after s) ≡ changed n after' (cut_links Without s)
  one_changed n after after' same = changed_same Without n after s ∙ ap (λ (w : LinkOf WireSegments). changed n w (cut_links Without s)) same

  ends_same : (own far : ℕ) → cut_result Without (ends_by true_segments rule own far s) ≡ ends_by wire_segments rule own far (cut_links Without s)
  ends_same own far =
      with_link_same Without (cut_result Without) (TheLink own far) s
      (with_link (CallingAt own) s (Ok s) (λ n l. Ok (changed n (ended true_segments l) s)))
      (with_link (CallingAt own) (cut_links Without s) (Ok (cut_links Without s))
      (λ n l. Ok (changed n (ended wire_segments l) (cut_links Without s))))
      (λ n l. Ok (changed n (ended true_segments l) s)) (λ n l. Ok (changed n (ended wire_segments l) (cut_links Without s)))
      (λ none. with_link_same Without (cut_result Without) (CallingAt own) s (Ok s) (Ok (cut_links Without s))
      (λ n l. Ok (changed n (ended true_segments l) s))
      (λ n l. Ok (changed n (ended wire_segments l) (cut_links Without s)))
      (λ nobody. refl) (λ n l there here. ap Ok (one_ended n l there
      (live_if is_calling refl l.port.phase (and_parts (is_calling l.port.phase) (is_at l.port.own own) here).0))))
      (λ n l there here. ap Ok (one_ended n l there (and_parts (is_live l.port.phase) (has_both l.port own far) here).0))
    where
      one_ended : (n : ℕ) (l : LinkOf TrueSegments) → slice_get s.links n ≡ Some l → is_live l.port.phase ≡ true
          → cut_links Without (changed n (ended true_segments l) s) ≡ changed n (ended wire_segments (cut_link Without l)) (cut_links Without s)
      one_ended n l there live =
          one_changed n (ended true_segments l) (ended wire_segments (cut_link Without l)) (ended_same l live (ordered n l there))

  -- a message that is acted on, and what it does to the segments
  acted_same : (own far : ℕ) (tag : LinkTag) (takes : LinkOf TrueSegments → TrueSegments) (takes' : LinkOf WireSegments → WireSegments)
      → ((n : ℕ) (l : LinkOf TrueSegments) → slice_get s.links n ≡ Some l → passes (ActedOn own far) l.port ≡ true →
      rule (is_of_pair n l.partner tag) ≡ true → is_live l.port.phase ≡ true → cut (takes l) ≡ takes' (cut_link Without l))
      → cut_result Without (acted_on true_segments rule own far tag takes s) ≡ acted_on wire_segments rule own far tag takes' (cut_links Without s)
  acted_same own far tag takes takes' same =
      with_link_same Without (cut_result Without) (ActedOn own far) s (Ok s) (Ok (cut_links Without s))
      (λ n l. check (rule (is_of_pair n l.partner tag)) CrossedLink (Ok (changed n (running true_segments rule takes l) s)))
      (λ n l. check (rule (is_of_pair n l.partner tag)) CrossedLink (Ok (changed n (running wire_segments rule takes' l) (cut_links Without s))))
      (λ none. refl) (λ n l there here.
      let live = live_if is_connected refl l.port.phase (and_parts (is_connected l.port.phase) (has_both l.port own far) here).0 in
      arrived_check (rule (is_of_pair n l.partner tag)) CrossedLink (Ok (changed n (running true_segments rule takes l) s))
      (Ok (changed n (running wire_segments rule takes' (cut_link Without l)) (cut_links Without s)))
      (λ e. ap Ok (one_changed n (running true_segments rule takes l) (running wire_segments rule takes' (cut_link Without l))
      (ap (λ (w : WireSegments). with_segments w (in_phase Running (cut_link Without l))) (same n l there here e live)))))

  -- a CC that is acted on
  confirmed_same : (far segsize : ℕ) (tag : LinkTag) (l : LinkOf TrueSegments) → is_live l.port.phase ≡ true
      → cut_link Without (confirmed true_segments rule far segsize tag l) ≡ confirmed wire_segments rule far segsize tag (cut_link Without l)
  confirmed_same far segsize tag l live =
      ap (λ (w : WireSegments). with_segments w (confirmed wire_segments rule far segsize tag (cut_link Without l))) (sym (live_segments l live))

  module _ (truth : LinkTruth Numbers) where
    -- of a message that comes, a node has the tag
    abbrev tagged : LinkTruth (Unit {0})
    tagged = record { tag = truth.tag; known = tt }

    segment_same : (segment : SegmentValue) → ArrivesNear rule s (DataSegment segment) truth → (n : ℕ) (l : LinkOf TrueSegments) →
        slice_get s.links n ≡ Some l
        → passes (ActedOn segment.dstaddr segment.srcaddr) l.port ≡ true → rule (is_of_pair n l.partner truth.tag) ≡ true →
        is_live l.port.phase ≡ true
        → cut (takes_segment segment truth.known l.segments) ≡ wire.takes_segment segment tt (cut_link Without l).segments
    segment_same segment near n l there here e live =
        let m = near n l there here e in
        takes_segment_same segment truth.known l.segments (ordered n l there).segments m.0 m.1 m.2 m.3 ∙
        ap (wire.takes_segment segment tt) (sym (live_segments l live))

    message_same : (m : NspValue) → ArrivesNear rule s m truth →
        cut_result Without (message_arrived Without true_segments rule s m truth) ≡ message_arrived Without wire_segments
        rule (cut_links Without s) m tagged
    message_same (ConnectInitiate retransmitted src services info segsize user_data) near =
        with_link_same Without (cut_result Without) (LiveTo src) s (Ok (begun (called true_segments rule src segsize truth.tag) s))
        (Ok (begun (called wire_segments rule src segsize truth.tag) (cut_links Without s))) (λ n l. Ok s) (λ n l. Ok (cut_links Without s))
        (λ none. ap Ok (begun_same Without (called true_segments rule src segsize truth.tag) s)) (λ n l there here. refl)
    message_same (ConnectAck dst) near = refl
    message_same (NoOperation rest) near = refl
    message_same (ConnectConfirm dst src services info segsize user_data) near =
        with_link_same Without (cut_result Without) (CallingAt dst) s (Ok s) (Ok (cut_links Without s))
        (λ n l. check (rule (is_for n truth.tag)) CrossedLink (Ok (changed n (confirmed true_segments rule src segsize truth.tag l) s)))
        (λ n l. check (rule (is_for n truth.tag)) CrossedLink
        (Ok (changed n (confirmed wire_segments rule src segsize truth.tag l) (cut_links Without s))))
        (λ none. refl) (λ n l there here.
        let live = live_if is_calling refl l.port.phase (and_parts (is_calling l.port.phase) (is_at l.port.own dst) here).0 in
        arrived_check (rule (is_for n truth.tag)) CrossedLink (Ok (changed n (confirmed true_segments rule src segsize truth.tag l) s))
        (Ok (changed n (confirmed wire_segments rule src segsize truth.tag (cut_link Without l)) (cut_links Without s)))
        (λ e. ap Ok
        (one_changed n (confirmed true_segments rule src segsize truth.tag l)
        (confirmed wire_segments rule src segsize truth.tag (cut_link Without l))
        (confirmed_same src segsize truth.tag l live))))
    message_same (DisconnectInitiate dst src reason user_data) near = ends_same dst src
    message_same (DisconnectConfirm dst src reason) near = ends_same dst src
    message_same (DataSegment segment) near =
        acted_same segment.dstaddr segment.srcaddr truth.tag (λ l. takes_segment segment truth.known l.segments)
        (λ l. wire.takes_segment segment tt l.segments) (segment_same segment near)
    message_same (DataAck dst src acks) near =
        acted_same dst src truth.tag (λ l. takes_acks acks truth.known l.segments) (λ l. wire.takes_acks acks tt l.segments) (λ n l there here e live.
        let m = near n l there here e in
        takes_acks_same acks truth.known l.segments (ordered n l there).segments m.0 m.1 ∙ ap (wire.takes_acks acks tt) (sym (live_segments l live)))
    message_same (LinkService interrupt dst src rest) near =
        acted_same dst src truth.tag (λ l. l.segments) (λ l. l.segments) (λ n l there here e live. sym (live_segments l live))
    message_same (OtherDataAck dst src rest) near =
        acted_same dst src truth.tag (λ l. l.segments) (λ l. l.segments) (λ n l there here e live. sym (live_segments l live))

    pub arrived_same : (packet : Carried) → ArrivesNear rule s packet.message truth →
        cut_result Without (links_arrived Without rule s packet truth) ≡ wire_links_arrived Without rule (cut_links Without s) packet truth.tag
    arrived_same packet near =
        arrived_check (eqb packet.src s.peer && eqb packet.dst s.node) WrongNode (message_arrived Without true_segments rule s packet.message truth)
        (message_arrived Without wire_segments rule (cut_links Without s) packet.message tagged)
        (λ e. message_same packet.message near)
