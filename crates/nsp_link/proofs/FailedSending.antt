-- A check that a message does not pass is the one for which the tables refuse it, and a permit is given where they allow the message.
use Rattle.std.proofs.Common.{◌≡◌, ℕ, ◌<◌, Bool, true, false, ◌&&◌, Option, Some, None, length, refl, sym, subst, ◌∙◌, option_map, ltb, eqb}
use Rattle.std.proofs.lemmas.Bool.{ltb-true}
use Rattle.std.specs.Prelude.{slice_get, position, Ok, Err, IsOk, IfOk, IfErr, OnOk}
use Rattle.dna_packet.specs.Nsp.{SegmentValue, NspValue, DataSegment, LinkService, DataAck, OtherDataAck, ConnectAck, NoOperation}
use Rattle.dna_packet.specs.Nsp.{ConnectInitiate, ConnectConfirm, DisconnectInitiate, DisconnectConfirm}
use Rattle.dna_station.specs.declared.link_refusal.LinkRefusal.TheVariants.{WrongNode}
use Rattle.dna_links.specs.declared.queue.Queues.{Queues}
use Rattle.dna_links.specs.declared.queue.Queues.TheVariants.{Without, With}
use Rattle.dna_links.specs.declared.queue.Said.{Said}
use Rattle.dna_links.specs.declared.queue.Said.TheVariants.{OfRun, Disconnect}
use Rattle.dna_links.specs.declared.port.LinkTest.TheVariants.{HasAddress, TheLink, OpenedAt, BegunBy, CalledBy}
use Rattle.dna_links.specs.declared.port.Phase.TheVariants.{Calling, Confirming, Running, Disconnecting}
use Rattle.dna_links.specs.LookUps.{passes}
use Rattle.dna_links.specs.SegmentBook.{REACH}
use Rattle.dna_links.specs.Links.{LinkOf, Carried, with_link, at_number, on_link, number_of}
use Rattle.dna_links.specs.Queues.{drops, in_use, may_send, shows}
use Rattle.dna_links.specs.Segmentation.{piece_of, is_next_piece}
use Rattle.dna_links.specs.Sending.{Sent, message_sent}
use Rattle.dna_links.specs.WireSegments.{WireSegments, is_new, LateSent, wire_segments}
use Rattle.dna_links.specs.WireLinks.{WireLinks, wire_links_sent}
use Rattle.nsp_link.specs.Missing.{refusal_in}
use Rattle.nsp_link.specs.Phases.{sending_takes_memory}
use Rattle.nsp_link.specs.FailedSending.{asked_to_settle, asked_message, asked_sending, failed_sending, refusal_of_sending, nodes_of}
use Rattle.nsp_link.specs.declared.failed.FailedLinkSending.TheVariants.{Nodes as Between}
use Rattle.nsp_link.specs.declared.permit.LinkSendPermit.{LinkSendPermit}
use Rattle.nsp_link.specs.declared.permit.LinkSendPermit.TheVariants.{OfNoLink, OfLink, Shows, Gives, Drops, Settles}
use Rattle.nsp_link.specs.inner.Indexing.{KeepsAt}
use Rattle.nsp_link.specs.inner.Permitted.{Fits, at_link, gave, of_link, permitted, segment_in, sent_by, settling, went_on as went_on_by}
use Rattle.nsp_link.specs.inner.Rows.{number_in_use}
use Rattle.nsp_link.proofs.Agreeing.{answer_allows, answer_refuses, goes_on, permit_by, permits, same_by}
use Rattle.nsp_link.proofs.Found.{called_found}
use Rattle.nsp_link.proofs.FailedTurn.{use_found}
use Rattle.nsp_link.proofs.KeptInUse.{running_keeps_at}
use Rattle.nsp_link.proofs.LookUps.{called_lives}
use Rattle.nsp_link.proofs.Rows.{in_use_same}
use Rattle.nsp_link.proofs.FailedSegment.{Agrees, Answer, allowed_as, turn_agrees, at_agrees, unless_agrees, cond_agrees, made_there}
use Rattle.nsp_link.proofs.FailedSegment.{within, no_link, unfound, lives, at_once_agrees, late_agrees, acks_agree}

-- ---- each message

module _ (queues : Queues) (o : Option SegmentValue) (memory : Bool) (s : WireLinks) (n : ℕ) (l : LinkOf WireSegments)
    (is : slice_get s.links n ≡ Some l) where
  low : n < length s.links
  low = within queues o memory s n l is

  here : (made : LinkOf WireSegments → Sent WireSegments (Unit {0})) → allowed_as (made l) ≡ allowed_as (at_link n s made)
  here made = made_there queues o memory s n l is made

  same_link : (link : LinkOf WireSegments) → slice_get s.links n ≡ Some link → l ≡ link
  same_link link there = let both : Some l ≡ Some link = sym is ∙ there in cc

module _ (queues : Queues) (s : WireLinks) (seg : SegmentValue) (n : ℕ) (l : LinkOf WireSegments)
    (e : number_in_use queues (TheLink seg.srcaddr seg.dstaddr) s ≡ Some n) (is : slice_get s.links n ≡ Some l)
    (turn : may_send queues Running l ≡ true) where
  abbrev takes : Bool
  takes = sending_takes_memory queues s (DataSegment seg)

  kept_so : KeepsAt n s
  kept_so = running_keeps_at queues (TheLink seg.srcaddr seg.dstaddr) s n l refl e is turn

  takes_so : is_new seg l.segments.variables ≡ true → takes ≡ true
  takes_so new =
      sym (in_use_same (TheLink seg.srcaddr seg.dstaddr) s false (λ number link. is_new seg link.segments.variables) queues)
      ∙ use_found queues (TheLink seg.srcaddr seg.dstaddr) s false (λ number link. is_new seg link.segments.variables) n l e is ∙ new

  gives_fits : (late : LateSent) → is_new seg l.segments.variables ≡ true → ltb (length l.segments.variables.outstanding) REACH ≡ true →
      is_next_piece (piece_of seg) l.segments.variables.unsent ≡ true → Fits (Some seg) takes s (Gives n late)
  gives_fits late new room next = (
    low queues (Some seg) takes s n l is,
    kept_so,
    (λ link there. subst (λ (k : LinkOf WireSegments). (length k.segments.variables.outstanding < 2047) ×
        (is_next_piece (piece_of seg) k.segments.variables.unsent ≡ true)) (same_link queues (Some seg) takes s n l is link there)
        (ltb-true (length l.segments.variables.outstanding) REACH room, next)),
    takes_so new,
  )

end_settles : (memory : Bool) (s : WireLinks) (own : ℕ) → Agrees With None memory s (asked_to_settle With own s)
    (Ok (record {
      links = with_link (HasAddress own) s s (λ number link. (settling number s link).links);
      truth = record { tag = record { link = None; partner = None }; known = tt };
    }))
end_settles memory s own = by_number (number_of (HasAddress own) s) where
  by_link : (n : ℕ) (k : Option (LinkOf WireSegments)) → slice_get s.links n ≡ k →
      Agrees With None memory s (on_link n k (Ok OfNoLink) (λ number link. Ok (Settles number)))
      (Ok (record {
        links = on_link n k s (λ number link. (settling number s link).links);
        truth = record { tag = record { link = None; partner = None }; known = tt };
      }))
  by_link n None is = no_link With None memory s
  by_link n (Some l) is = (low With None memory s n l is, here With None memory s n l is (settling n s))

  by_number : (r : Option ℕ) →
      Agrees With None memory s (at_number s.links r (Ok OfNoLink) (λ number link. Ok (Settles number)))
      (Ok (record {
        links = at_number s.links r s (λ number link. (settling number s link).links);
        truth = record { tag = record { link = None; partner = None }; known = tt };
      }))
  by_number None = no_link With None memory s
  by_number (Some n) = by_link n (slice_get s.links n) refl

-- a message that changes nothing, and one that shows how far its link has come
module _ (s : WireLinks) (memory : Bool) where
  stays : (queues : Queues) (o : Option SegmentValue) (n : ℕ) (l : LinkOf WireSegments) → slice_get s.links n ≡ Some l →
      Agrees queues o memory s (Ok (OfLink n)) (Ok (of_link n s l))
  stays queues o n l is = (low queues o memory s n l is, here queues o memory s n l is (of_link n s))

  shows_so : (said : Said) (n : ℕ) (l : LinkOf WireSegments) → slice_get s.links n ≡ Some l →
      Agrees With None memory s (Ok (Shows n said)) (Ok (sent_by n s (shows wire_segments said) l))
  shows_so said n l is = (low With None memory s n l is, here With None memory s n l is (sent_by n s (shows wire_segments said)))

  drops_so : (queues : Queues) (dst n : ℕ) (l : LinkOf WireSegments) → number_of (CalledBy dst) s ≡ Some n → slice_get s.links n ≡ Some l →
      Agrees queues None memory s (Ok (Drops n)) (Ok (sent_by n s (drops wire_segments queues) l))
  drops_so queues dst n l e is = (
    (low queues None memory s n l is, λ link there. called_lives link.port.phase (called_found dst s n link e there)),
    here queues None memory s n l is (sent_by n s (drops wire_segments queues)),
  )

pub message_agrees : (queues : Queues) (s : WireLinks) (m : NspValue) →
    Agrees queues (segment_in m) (sending_takes_memory queues s m) s (asked_message queues s m) (message_sent queues wire_segments s m)
message_agrees Without s (ConnectInitiate retransmitted src services info segsize user_data) =
    turn_agrees Without None false s (OpenedAt src) Calling _ _ (λ n l e is turn. stays s false Without None n l is)
message_agrees With s (ConnectInitiate retransmitted src services info segsize user_data) =
    turn_agrees With None false s (OpenedAt src) Calling _ _ (λ n l e is turn. stays s false With None n l is)
message_agrees Without s (ConnectAck dst) =
    at_agrees Without None false s _ _ (number_of (BegunBy dst) s) _ _ (unfound Without None false s (BegunBy dst))
    (λ n e l is. stays s false Without None n l is)
message_agrees With s (ConnectAck dst) =
    at_agrees With None false s _ _ (number_of (BegunBy dst) s) _ _
    (at_agrees With None false s _ _ (position (λ (l : LinkOf WireSegments). passes (BegunBy dst) (in_use With l)) s.links) _ _
    (unfound With None false s (BegunBy dst)) (λ n e l is. no_link With None false s))
    (λ n e l is. stays s false With None n l is)
message_agrees Without s (ConnectConfirm dst src services info segsize user_data) =
    turn_agrees Without None false s (TheLink src dst) Confirming _ _ (λ n l e is turn. stays s false Without None n l is)
message_agrees With s (ConnectConfirm dst src services info segsize user_data) =
    turn_agrees With None false s (TheLink src dst) Confirming _ _ (λ n l e is turn. stays s false With None n l is)
message_agrees Without s (DisconnectInitiate dst src reason user_data) =
    turn_agrees Without None false s (TheLink src dst) Disconnecting _ _ (λ n l e is turn. stays s false Without None n l is)
message_agrees With s (DisconnectInitiate dst src reason user_data) =
    turn_agrees With None false s (TheLink src dst) Disconnecting _ _ (λ n l e is turn. shows_so s false Disconnect n l is)
message_agrees Without s (DisconnectConfirm dst src reason) =
    at_agrees Without None false s _ _ (number_of (TheLink src dst) s) _ _
    (cond_agrees Without None false s (eqb src 0) _ _ _ _
    (at_agrees Without None false s _ _ (number_of (CalledBy dst) s) _ _ (no_link Without None false s)
    (λ n e l is. drops_so s false Without dst n l e is))
    (no_link Without None false s))
    (λ n e l is. lives Without None false s n)
message_agrees With s (DisconnectConfirm dst src reason) =
    at_agrees With None false s _ _ (number_of (TheLink src dst) s) _ _
    (cond_agrees With None false s (eqb src 0) _ _ _ _
    (at_agrees With None false s _ _ (number_of (CalledBy dst) s) _ _ (no_link With None false s)
    (λ n e l is. drops_so s false With dst n l e is))
    (end_settles false s src))
    (λ n e l is. lives With None false s n)
message_agrees Without s (DataSegment seg) =
    let memory = sending_takes_memory Without s (DataSegment seg) in
    turn_agrees Without (Some seg) memory s (TheLink seg.srcaddr seg.dstaddr) Running _ _ (λ n l e is turn.
    at_once_agrees Without (Some seg) memory s n l seg _
    (λ sent. (
      (low Without (Some seg) memory s n l is, kept_so Without s seg n l e is turn),
      here Without (Some seg) memory s n l is (sent_by n s (went_on_by Without sent)),
    ))
    (λ sent new room next. (
      gives_fits Without s seg n l e is turn (record { sent = sent; gap = 0 }) new room next,
      here Without (Some seg) memory s n l is (sent_by n s (gave Without (piece_of seg) (record { sent = sent; gap = 0 }))),
    )))
message_agrees With s (DataSegment seg) =
    let memory = sending_takes_memory With s (DataSegment seg) in
    turn_agrees With (Some seg) memory s (TheLink seg.srcaddr seg.dstaddr) Running _ _ (λ n l e is turn.
    late_agrees With (Some seg) memory s n l seg l.queue.gap _
    (λ sent. (
      (low With (Some seg) memory s n l is, kept_so With s seg n l e is turn),
      here With (Some seg) memory s n l is (sent_by n s (went_on_by With sent)),
    ))
    (λ late new room next. (
      gives_fits With s seg n l e is turn late new room next,
      here With (Some seg) memory s n l is (sent_by n s (gave With (piece_of seg) late)),
    )))
message_agrees Without s (DataAck dst src acks) =
    turn_agrees Without None false s (TheLink src dst) Running _ _ (λ n l e is turn.
    acks_agree Without None false s n acks l.segments _
    (λ sent. (
      (low Without None false s n l is, running_keeps_at Without (TheLink src dst) s n l refl e is turn),
      here Without None false s n l is (sent_by n s (went_on_by Without sent)),
    )))
message_agrees With s (DataAck dst src acks) =
    turn_agrees With None false s (TheLink src dst) Running _ _ (λ n l e is turn.
    acks_agree With None false s n acks l.segments _
    (λ sent. (
      (low With None false s n l is, running_keeps_at With (TheLink src dst) s n l refl e is turn),
      here With None false s n l is (sent_by n s (went_on_by With sent)),
    )))
message_agrees Without s (LinkService interrupt dst src rest) =
    turn_agrees Without None false s (TheLink src dst) Running _ _ (λ n l e is turn. stays s false Without None n l is)
message_agrees With s (LinkService interrupt dst src rest) =
    turn_agrees With None false s (TheLink src dst) Running _ _ (λ n l e is turn. shows_so s false OfRun n l is)
message_agrees Without s (OtherDataAck dst src rest) =
    turn_agrees Without None false s (TheLink src dst) Running _ _ (λ n l e is turn. stays s false Without None n l is)
message_agrees With s (OtherDataAck dst src rest) =
    turn_agrees With None false s (TheLink src dst) Running _ _ (λ n l e is turn. shows_so s false OfRun n l is)
message_agrees Without s (NoOperation rest) = no_link Without None false s
message_agrees With s (NoOperation rest) = no_link With None false s

packet_agrees : (queues : Queues) (s : WireLinks) (packet : Carried) →
    Agrees queues (segment_in packet.message) (sending_takes_memory queues s packet.message) s (asked_sending queues s packet)
    (wire_links_sent queues s packet)
packet_agrees queues s packet =
    unless_agrees queues (segment_in packet.message) (sending_takes_memory queues s packet.message) s
    (eqb packet.src s.node && eqb packet.dst s.peer)
    (Between (nodes_of packet) (record { source = s.node; destination = s.peer })) WrongNode (asked_message queues s packet.message)
    (message_sent queues wire_segments s packet.message) refl (λ goes. message_agrees queues s packet.message)

-- ---- what follows

module _ (queues : Queues) (s : WireLinks) (m : NspValue) where
  abbrev fits : LinkSendPermit → Type 0
  fits = Fits (segment_in m) (sending_takes_memory queues s m) s

  abbrev makes : LinkSendPermit → Sent WireSegments (Unit {0})
  makes = permitted queues (segment_in m) s

module _ (queues : Queues) (s : WireLinks) (packet : Carried) where
  pub sending_same : option_map refusal_of_sending (failed_sending queues s packet) ≡ refusal_in (wire_links_sent queues s packet)
  sending_same =
      same_by (fits queues s packet.message) (makes queues s packet.message) refusal_of_sending (asked_sending queues s packet)
      (wire_links_sent queues s packet) (packet_agrees queues s packet)

  module _ (answer : Answer) (is : answer ≡ asked_sending queues s packet) where
    pub asked_refuses : IfErr answer (λ failed. wire_links_sent queues s packet ≡ Err (refusal_of_sending failed))
    asked_refuses =
        answer_refuses (fits queues s packet.message) (makes queues s packet.message) refusal_of_sending answer _ _ is
        (packet_agrees queues s packet)

    pub asked_allows : OnOk answer (IsOk (wire_links_sent queues s packet))
    asked_allows =
        answer_allows (fits queues s packet.message) (makes queues s packet.message) refusal_of_sending answer _ _ is (packet_agrees queues s packet)

    pub asked_permits : IfOk answer (λ permit. asked_message queues s packet.message ≡ Ok permit)
    asked_permits = permits (eqb packet.src s.node && eqb packet.dst s.peer) _ answer (asked_message queues s packet.message) is

    pub asked_goes : OnOk answer (wire_links_sent queues s packet ≡ message_sent queues wire_segments s packet.message)
    asked_goes =
        goes_on (eqb packet.src s.node && eqb packet.dst s.peer) _ answer (asked_message queues s packet.message) is WrongNode
        (message_sent queues wire_segments s packet.message)

-- by the permit alone
module _ (queues : Queues) (s : WireLinks) (m : NspValue) (permit : LinkSendPermit) (is : asked_message queues s m ≡ Ok permit) where
  both : Fits (segment_in m) (sending_takes_memory queues s m) s permit × (message_sent queues wire_segments s m ≡
      Ok (permitted queues (segment_in m) s permit))
  both = permit_by (fits queues s m) (makes queues s m) refusal_of_sending _ _ permit is (message_agrees queues s m)

  pub permit_fits : Fits (segment_in m) (sending_takes_memory queues s m) s permit
  permit_fits = both.0

  pub permit_makes : message_sent queues wire_segments s m ≡ Ok (permitted queues (segment_in m) s permit)
  permit_makes = both.1
