-- A permit is given for a message that comes where the tables take it, and a check is named where they refuse it.
use Rattle.std.proofs.Common.{◌≡◌, ℕ, ◌<◌, Bool, true, false, ◌&&◌, Option, Some, None, List, Result, Ok, Err, OnOk, IfOk, IfErr, length}
use Rattle.std.proofs.Common.{refl, sym, ap, ◌∙◌, option_map, eqb}
use Rattle.std.specs.Prelude.{slice_get, IsOk}
use Rattle.std.proofs.lemmas.Option.{slice_get_within}
use Rattle.dna_packet.specs.Nsp.{SegmentValue, NspValue, DataSegment, LinkService, DataAck, OtherDataAck, ConnectAck, NoOperation, ConnectInitiate}
use Rattle.dna_packet.specs.Nsp.{ConnectConfirm, DisconnectInitiate, DisconnectConfirm}
use Rattle.dna_station.specs.declared.link_refusal.LinkRefusal.{LinkRefusal}
use Rattle.dna_station.specs.declared.link_refusal.LinkRefusal.TheVariants.{CrossedLink, WrongNode}
use Rattle.dna_links.specs.declared.queue.Queues.{Queues}
use Rattle.dna_links.specs.declared.queue.Queues.TheVariants.{Without, With}
use Rattle.dna_links.specs.declared.port.LinkTest.TheVariants.{CallingAt, TheLink, LiveTo, ActedOn}
use Rattle.dna_links.specs.declared.tag.LinkTag.{LinkTag}
use Rattle.dna_links.specs.Arriving.{PartnerRule, is_for, is_of_pair, message_arrived, of_partner}
use Rattle.dna_links.specs.Links.{LinkOf, Carried, at_number, changed, check, number_of, on_link, with_link}
use Rattle.dna_links.specs.WireSegments.{WireSegments, wire_segments}
use Rattle.dna_links.specs.WireLinks.{WireLinks, wire_links_arrived}
use Rattle.nsp_link.specs.FailedSending.{nodes_of}
use Rattle.nsp_link.specs.FailedArrival.{asked_arrival, asked_call, asked_confirm, asked_ending, asked_pair, asked_taken, failed_arrival}
use Rattle.nsp_link.specs.FailedArrival.{refusal_of_arrival}
use Rattle.nsp_link.specs.Missing.{refusal_in}
use Rattle.nsp_link.specs.Phases.{arrival_takes_memory}
use Rattle.nsp_link.specs.Segments.{is_held}
use Rattle.nsp_link.specs.declared.failed.FailedLinkArrival.{FailedLinkArrival}
use Rattle.nsp_link.specs.declared.failed.FailedLinkArrival.TheVariants.{Nodes as Between}
use Rattle.nsp_link.specs.declared.permit.LinkArrivalPermit.{LinkArrivalPermit}
use Rattle.nsp_link.specs.declared.permit.LinkArrivalPermit.TheVariants.{Ignored, Begins, OfLink}
use Rattle.nsp_link.specs.inner.Indexing.{LivesAt}
use Rattle.nsp_link.specs.inner.Taken.{FitsArrival, FitsLink, HoldsAs, acts_on, begins, taken}
use Rattle.nsp_link.proofs.Acted.{made_of}
use Rattle.nsp_link.proofs.Agreeing.{Agrees, answer_allows, answer_refuses, at_agrees, goes_on, permit_by, permits, same_by, unless_agrees}
use Rattle.nsp_link.proofs.Found.{calling_found, link_lives, number_within, some_there}
use Rattle.nsp_link.proofs.Settled.{calling_lives}

abbrev Answer : Type 0
Answer = Result LinkArrivalPermit FailedLinkArrival

abbrev Made : Type 0
Made = Result WireLinks LinkRefusal

abbrev allowed_as : WireLinks → Made
allowed_as s = Ok s

module _ (queues : Queues) (m : NspValue) (tag : LinkTag) (memory : Bool) (s : WireLinks) where
  abbrev ArrivalAgrees : Answer → Made → Type 0
  ArrivalAgrees = Agrees (FitsArrival m memory s) (taken queues m tag s) refusal_of_arrival

  -- the link with this number acts on it
  abbrev acts_at : ℕ → LinkOf WireSegments → Made
  acts_at number link = Ok (changed number (acts_on queues m tag link) s)

  acts_agrees : (n : ℕ) (l : LinkOf WireSegments) → slice_get s.links n ≡ Some l →
      FitsLink m memory n s → ArrivalAgrees (Ok (OfLink n)) (acts_at n l)
  acts_agrees n l is fits = (
    (slice_get_within s.links n l is, fits),
    ap allowed_as (made_of n s (λ link. changed n (acts_on queues m tag link) s) l is),
  )

  module _ (rule : PartnerRule) where
    pair_agrees : (own far : ℕ) →
        ((n : ℕ) (l : LinkOf WireSegments) → number_of (ActedOn own far) s ≡ Some n → slice_get s.links n ≡ Some l → FitsLink m memory n s) →
        ArrivalAgrees (asked_pair rule own far tag s)
        (with_link (ActedOn own far) s (Ok s) (λ number link. check (rule (is_of_pair number link.partner tag)) CrossedLink (acts_at number link)))
    pair_agrees own far fits =
        at_agrees (FitsArrival m memory s) (taken queues m tag s) refusal_of_arrival s _ _ (number_of (ActedOn own far) s) _ _ (tt, refl)
        (λ n e l is.
        unless_agrees (FitsArrival m memory s) (taken queues m tag s) refusal_of_arrival (rule (is_of_pair n l.partner tag)) _ CrossedLink _ _ refl
        (λ passes. acts_agrees n l is (fits n l e is)))

    confirm_agrees : (own : ℕ) →
        ((n : ℕ) (l : LinkOf WireSegments) → number_of (CallingAt own) s ≡ Some n → slice_get s.links n ≡ Some l → FitsLink m memory n s) →
        ArrivalAgrees (asked_confirm rule own tag s)
        (with_link (CallingAt own) s (Ok s) (λ number link. check (rule (is_for number tag)) CrossedLink (acts_at number link)))
    confirm_agrees own fits =
        at_agrees (FitsArrival m memory s) (taken queues m tag s) refusal_of_arrival s _ _ (number_of (CallingAt own) s) _ _ (tt, refl) (λ n e l is.
        unless_agrees (FitsArrival m memory s) (taken queues m tag s) refusal_of_arrival (rule (is_for n tag)) _ CrossedLink _ _ refl
        (λ passes. acts_agrees n l is (fits n l e is)))

  ending_agrees : (own far : ℕ) → ((n : ℕ) → LivesAt n s → FitsLink m memory n s) →
      ArrivalAgrees (asked_ending own far s)
      (with_link (TheLink own far) s (with_link (CallingAt own) s (Ok s) (λ number link. acts_at number link)) (λ number link. acts_at number link))
  ending_agrees own far fits =
      at_agrees (FitsArrival m memory s) (taken queues m tag s) refusal_of_arrival s _ _ (number_of (TheLink own far) s) _ _
      (at_agrees (FitsArrival m memory s) (taken queues m tag s) refusal_of_arrival s _ _ (number_of (CallingAt own) s) _ _ (tt, refl)
      (λ n e l is. acts_agrees n l is (fits n (λ link there. calling_lives link.port.phase (calling_found own s n link e there)))))
      (λ n e l is. acts_agrees n l is (fits n (λ link there. link_lives (TheLink own far) s n link refl e there)))

-- a CI
module _ (queues : Queues) (s : WireLinks) (tag : LinkTag) (retransmitted : Bool) (src services info segsize : ℕ) (user_data : List ℕ) where
  abbrev call : NspValue
  call = ConnectInitiate retransmitted src services info segsize user_data

  abbrev CallAgrees : Answer → Made → Type 0
  CallAgrees = ArrivalAgrees queues call tag (arrival_takes_memory s call) s

  call_agrees : CallAgrees (asked_call src s) (with_link (LiveTo src) s (Ok (begins call tag s)) (λ number link. Ok s))
  call_agrees = by_number (number_of (LiveTo src) s) refl where
    by_link : (n : ℕ) (k : Option (LinkOf WireSegments)) → slice_get s.links n ≡ k → n < length s.links →
        CallAgrees (on_link n k (Ok Begins) (λ number link. Ok Ignored)) (on_link n k (Ok (begins call tag s)) (λ number link. Ok s))
    by_link n None is low = absurd (some_there s.links n low is)
    by_link n (Some l) is low = (tt, refl)

    by_number : (r : Option ℕ) → number_of (LiveTo src) s ≡ r →
        CallAgrees (at_number s.links r (Ok Begins) (λ number link. Ok Ignored)) (at_number s.links r (Ok (begins call tag s)) (λ number link. Ok s))
    by_number None is = ((is, ap (λ (r : Option ℕ). at_number s.links r true (λ number link. false)) is), refl)
    by_number (Some n) is = by_link n (slice_get s.links n) refl (number_within (LiveTo src) s n is)

-- ---- each message

module _ (s : WireLinks) where
  lives : (own far n : ℕ) → number_of (ActedOn own far) s ≡ Some n → LivesAt n s
  lives own far n e link there = link_lives (ActedOn own far) s n link refl e there

  -- a segment takes memory where it is held
  holds : (segment : SegmentValue) (n : ℕ) → number_of (ActedOn segment.dstaddr segment.srcaddr) s ≡ Some n →
      HoldsAs segment (arrival_takes_memory s (DataSegment segment)) n s
  holds segment n e link there = sym (
      ap (λ (r : Option ℕ). at_number s.links r false (λ number k. is_held segment k.segments.variables)) e
      ∙ ap (λ (o : Option (LinkOf WireSegments)). on_link n o false (λ number k. is_held segment k.segments.variables)) there)

pub taken_agrees : (queues : Queues) (rule : PartnerRule) (s : WireLinks) (m : NspValue) (tag : LinkTag) →
    ArrivalAgrees queues m tag (arrival_takes_memory s m) s (asked_taken rule s m tag)
    (message_arrived queues wire_segments rule s m (record { tag = tag; known = tt }))
taken_agrees Without rule s (ConnectInitiate retransmitted src services info segsize user_data) tag =
    call_agrees Without s tag retransmitted src services info segsize user_data
taken_agrees Without rule s (ConnectConfirm dst src services info segsize user_data) tag =
    confirm_agrees Without (ConnectConfirm dst src services info segsize user_data) tag false s rule dst
    (λ n l e is link there. calling_found dst s n link e there)
taken_agrees Without rule s (DisconnectInitiate dst src reason user_data) tag =
    ending_agrees Without (DisconnectInitiate dst src reason user_data) tag false s dst src (λ n lives. lives)
taken_agrees Without rule s (DisconnectConfirm dst src reason) tag =
    ending_agrees Without (DisconnectConfirm dst src reason) tag false s dst src (λ n lives. lives)
taken_agrees Without rule s (DataSegment seg) tag =
    pair_agrees Without (DataSegment seg) tag (arrival_takes_memory s (DataSegment seg)) s rule seg.dstaddr seg.srcaddr
    (λ n l e is. (lives s seg.dstaddr seg.srcaddr n e, holds s seg n e))
taken_agrees Without rule s (DataAck dst src acks) tag =
    pair_agrees Without (DataAck dst src acks) tag false s rule dst src (λ n l e is. lives s dst src n e)
taken_agrees Without rule s (LinkService interrupt dst src rest) tag =
    pair_agrees Without (LinkService interrupt dst src rest) tag false s rule dst src (λ n l e is. lives s dst src n e)
taken_agrees Without rule s (OtherDataAck dst src rest) tag =
    pair_agrees Without (OtherDataAck dst src rest) tag false s rule dst src (λ n l e is. lives s dst src n e)
taken_agrees Without rule s (ConnectAck dst) tag =
    (tt, refl)
taken_agrees Without rule s (NoOperation rest) tag =
    (tt, refl)
taken_agrees With rule s (ConnectInitiate retransmitted src services info segsize user_data) tag =
    call_agrees With s tag retransmitted src services info segsize user_data
taken_agrees With rule s (ConnectConfirm dst src services info segsize user_data) tag =
    confirm_agrees With (ConnectConfirm dst src services info segsize user_data) tag false s rule dst
    (λ n l e is link there. calling_found dst s n link e there)
taken_agrees With rule s (DisconnectInitiate dst src reason user_data) tag =
    ending_agrees With (DisconnectInitiate dst src reason user_data) tag false s dst src (λ n lives. lives)
taken_agrees With rule s (DisconnectConfirm dst src reason) tag =
    ending_agrees With (DisconnectConfirm dst src reason) tag false s dst src (λ n lives. lives)
taken_agrees With rule s (DataSegment seg) tag =
    pair_agrees With (DataSegment seg) tag (arrival_takes_memory s (DataSegment seg)) s rule seg.dstaddr seg.srcaddr
    (λ n l e is. (lives s seg.dstaddr seg.srcaddr n e, holds s seg n e))
taken_agrees With rule s (DataAck dst src acks) tag =
    pair_agrees With (DataAck dst src acks) tag false s rule dst src (λ n l e is. lives s dst src n e)
taken_agrees With rule s (LinkService interrupt dst src rest) tag =
    pair_agrees With (LinkService interrupt dst src rest) tag false s rule dst src (λ n l e is. lives s dst src n e)
taken_agrees With rule s (OtherDataAck dst src rest) tag =
    pair_agrees With (OtherDataAck dst src rest) tag false s rule dst src (λ n l e is. lives s dst src n e)
taken_agrees With rule s (ConnectAck dst) tag =
    (tt, refl)
taken_agrees With rule s (NoOperation rest) tag =
    (tt, refl)

packet_agrees : (queues : Queues) (rule : PartnerRule) (s : WireLinks) (packet : Carried) (tag : LinkTag) →
    ArrivalAgrees queues packet.message tag (arrival_takes_memory s packet.message) s (asked_arrival rule s packet tag)
    (wire_links_arrived queues rule s packet tag)
packet_agrees queues rule s packet tag =
    unless_agrees (FitsArrival packet.message (arrival_takes_memory s packet.message) s) (taken queues packet.message tag s) refusal_of_arrival
    (eqb packet.src s.peer && eqb packet.dst s.node) (Between (nodes_of packet) (record { source = s.peer; destination = s.node })) WrongNode
    (asked_taken rule s packet.message tag) (message_arrived queues wire_segments rule s packet.message (record { tag = tag; known = tt })) refl
    (λ comes. taken_agrees queues rule s packet.message tag)

-- ---- what follows

module _ (queues : Queues) (m : NspValue) (tag : LinkTag) (s : WireLinks) where
  abbrev fits : LinkArrivalPermit → Type 0
  fits = FitsArrival m (arrival_takes_memory s m) s

  abbrev makes : LinkArrivalPermit → WireLinks
  makes = taken queues m tag s

pub arrival_same : (queues : Queues) (s : WireLinks) (packet : Carried) (tag : LinkTag) →
    option_map refusal_of_arrival (failed_arrival s packet tag) ≡ refusal_in (wire_links_arrived queues of_partner s packet tag)
arrival_same queues s packet tag =
    same_by (fits queues packet.message tag s) (makes queues packet.message tag s) refusal_of_arrival (asked_arrival of_partner s packet tag)
    (wire_links_arrived queues of_partner s packet tag) (packet_agrees queues of_partner s packet tag)

module _ (rule : PartnerRule) (s : WireLinks) (packet : Carried) (tag : LinkTag)
    (answer : Answer) (is : answer ≡ asked_arrival rule s packet tag) where
  pub arrival_refused : (queues : Queues) → IfErr answer (λ failed. wire_links_arrived queues rule s packet tag ≡ Err (refusal_of_arrival failed))
  arrival_refused queues =
      answer_refuses (fits queues packet.message tag s) (makes queues packet.message tag s) refusal_of_arrival answer _ _ is
      (packet_agrees queues rule s packet tag)

  pub arrival_allowed : (queues : Queues) → OnOk answer (IsOk (wire_links_arrived queues rule s packet tag))
  arrival_allowed queues =
      answer_allows (fits queues packet.message tag s) (makes queues packet.message tag s) refusal_of_arrival answer _ _ is
      (packet_agrees queues rule s packet tag)

  pub arrival_permits : IfOk answer (λ permit. asked_taken rule s packet.message tag ≡ Ok permit)
  arrival_permits = permits (eqb packet.src s.peer && eqb packet.dst s.node) _ answer (asked_taken rule s packet.message tag) is

  pub arrival_goes : (queues : Queues) → OnOk answer (wire_links_arrived queues rule s packet tag ≡
      message_arrived queues wire_segments rule s packet.message (record { tag = tag; known = tt }))
  arrival_goes queues =
      goes_on (eqb packet.src s.peer && eqb packet.dst s.node) _ answer (asked_taken rule s packet.message tag) is WrongNode
      (message_arrived queues wire_segments rule s packet.message (record { tag = tag; known = tt }))

-- by the permit alone
module _ (queues : Queues) (rule : PartnerRule) (s : WireLinks) (m : NspValue) (tag : LinkTag) (permit : LinkArrivalPermit)
    (is : asked_taken rule s m tag ≡ Ok permit) where
  both : FitsArrival m (arrival_takes_memory s m) s permit ×
      (message_arrived queues wire_segments rule s m (record { tag = tag; known = tt }) ≡ Ok (taken queues m tag s permit))
  both = permit_by (fits queues m tag s) (makes queues m tag s) refusal_of_arrival _ _ permit is (taken_agrees queues rule s m tag)

  pub arrival_fits : FitsArrival m (arrival_takes_memory s m) s permit
  arrival_fits = both.0

  pub arrival_makes : {E : Type 0} (r : Result (Unit {0}) E) (new : WireLinks) → OnOk r (new ≡ taken queues m tag s permit) →
      OnOk r (message_arrived queues wire_segments rule s m (record { tag = tag; known = tt }) ≡ Ok new)
  arrival_makes (Ok x) new made = both.1 ∙ ap Ok (sym made)
  arrival_makes (Err e) new made = tt
