-- What a message that is sent, or that comes, leaves of the links, over any book: one of a few things.
use Rattle.std.proofs.Common.{◌≡◌, ℕ, Bool, true, false, ◌==◌, cond, Some, None, List}
use Rattle.std.proofs.Common.{Result, Ok, Err, refl, ap, subst, eqb-true}
use Rattle.std.specs.Prelude.{slice_get}
use Rattle.dna_packet.specs.declared.ack_word.AckWord.{AckWord}
use Rattle.dna_packet.specs.Nsp.{SegmentValue, NspValue, DataSegment, LinkService, DataAck, OtherDataAck, ConnectAck, NoOperation, ConnectInitiate}
use Rattle.dna_packet.specs.Nsp.{ConnectConfirm, DisconnectInitiate, DisconnectConfirm}
use Rattle.dna_station.specs.declared.link_refusal.LinkRefusal.{LinkRefusal}
use Rattle.dna_station.specs.declared.link_refusal.LinkRefusal.TheVariants.{NoLink, LinkState, CrossedLink}
use Rattle.dna_links.specs.Queues.{ended}
use Rattle.dna_links.specs.declared.queue.Queues.TheVariants.{Without}
use Rattle.dna_links.specs.declared.port.Phase.{Phase}
use Rattle.dna_links.specs.declared.port.LinkTest.{LinkTest}
use Rattle.dna_links.specs.declared.port.LinkTest.TheVariants.{TheLink, LiveTo, OpenedAt, CallingAt, CalledBy, BegunBy, ActedOn}
use Rattle.dna_links.specs.LookUps.{is_calling, is_confirming, is_running, is_disconnecting}
use Rattle.dna_links.specs.SegmentBook.{SegmentBook, Sending}
use Rattle.dna_links.specs.Links.{LinkOf, LinksOf, Carried, LinkTruth, check, number_of, with_link, begun, changed}
use Rattle.dna_links.specs.Links.{with_segments}
use Rattle.dna_links.specs.Sending.{Sent}
use Rattle.dna_links.specs.inner.Forms.{of_no_link, truth_of, unchanged, ending, confirms_end, carries, in_run, segment_of, in_its_phase}
use Rattle.dna_links.specs.Sending.{message_sent, sent_step}
use Rattle.dna_links.specs.Arriving.{PartnerRule, is_for, is_of_pair, message_arrived, arrived_step}
use Rattle.dna_links.specs.inner.Forms.{called, confirmed, ends_by, running, acted_on}
use Rattle.dna_links.proofs.Tables.Outcomes.{IsFound, looked, checked, same_Ok}

-- whether the message has numbers of its own
abbrev pub has_numbers : NspValue → Bool
has_numbers (DataSegment segment) = true
has_numbers (DataAck dst src acks) = true
has_numbers m = false

-- a CI or a CC with this source and this SEGSIZE
abbrev pub Connects : NspValue → (src segsize : ℕ) → Type 0
Connects (ConnectInitiate retransmitted src services info segsize user_data) own size = (src ≡ own) × (segsize ≡ size)
Connects (ConnectConfirm dst src services info segsize user_data) own size = (src ≡ own) × (segsize ≡ size)
Connects m own size = ⊥

module _ {D K : Type 0} (book : SegmentBook D K) where
  -- ---- a message that is sent

  -- m is the message: what is sent of a link, or of none
  pub data SentDid (s : LinksOf D) (m : NspValue) : Sent D K → Type 0 where
    OfNone : has_numbers m ≡ false → SentDid s m (of_no_link book s)
    Stays : (number : ℕ) (link : LinkOf D) → has_numbers m ≡ false → slice_get s.links number ≡ Some link →
        SentDid s m (unchanged book s number link)
    EndsCalled : (far reason number : ℕ) (link : LinkOf D) → has_numbers m ≡ false → m ≡ DisconnectConfirm far 0 reason →
        IsFound (CalledBy far) s number link →
        SentDid s m (ending book s number link)
    Segment : (segment : SegmentValue) (number : ℕ) (link : LinkOf D) (sent : Sending D K) → m ≡ DataSegment segment →
        IsFound (TheLink segment.srcaddr segment.dstaddr) s number link →
        is_running link.port.phase ≡ true → book.sends_segment link.segsize segment link.segments ≡ Ok sent →
        SentDid s m (record { links = changed number (with_segments sent.segments link) s; truth = truth_of book number link sent.known })
    Acks : (dst src : ℕ) (acks : List AckWord) (number : ℕ) (link : LinkOf D) (sent : Sending D K) → m ≡ DataAck dst src acks →
        IsFound (TheLink src dst) s number link →
        is_running link.port.phase ≡ true → book.sends_acks acks link.segments ≡ Ok sent →
        SentDid s m (record { links = changed number (with_segments sent.segments link) s; truth = truth_of book number link sent.known })

  module _ (s : LinksOf D) (left : Sent D K) where
    did_send : (m : NspValue) (next : Sent D K) → SentDid s m next → ◌≡◌ {A = Result (Sent D K) LinkRefusal} (Ok next) (Ok left) → SentDid s m left
    did_send m next d e = subst (λ (x : Sent D K). SentDid s m x) (same_Ok next left e) d

    -- a message without numbers, in its phase
    phase_did : (m : NspValue) (test : LinkTest) (is_right : Phase → Bool) → has_numbers m ≡ false → in_its_phase book test is_right s ≡ Ok left →
        SentDid s m left
    phase_did m test is_right none e =
        looked test s (Err NoLink) (λ number link. check (is_right link.port.phase) LinkState (Ok (unchanged book s number link))) (Ok left) e
        (λ missing e. absurd cc)
        (λ number link found e. let c = checked _ _ _ left e in did_send m _ (Stays number link none found.there) c.1)

    -- a message with numbers, of a link in RUN
    carries_did : (m : NspValue) (number : ℕ) (link : LinkOf D) (o : Result (Sending D K) LinkRefusal) →
        ((sent : Sending D K) → o ≡ Ok sent →
        SentDid s m (record { links = changed number (with_segments sent.segments link) s; truth = truth_of book number link sent.known })) →
        carries book s number link o ≡ Ok left → SentDid s m left
    carries_did m number link (Err refusal) d e = absurd cc
    carries_did m number link (Ok sent) d e = did_send m _ (d sent refl) e

    run_did : (m : NspValue) (src dst : ℕ) (sends : LinkOf D → Result (Sending D K) LinkRefusal) →
        ((number : ℕ) (link : LinkOf D) (sent : Sending D K) → IsFound (TheLink src dst) s number link → is_running link.port.phase ≡ true →
        sends link ≡ Ok sent →
        SentDid s m (record { links = changed number (with_segments sent.segments link) s; truth = truth_of book number link sent.known })) →
        in_run book src dst sends s ≡ Ok left → SentDid s m left
    run_did m src dst sends d e =
        looked (TheLink src dst) s (Err NoLink)
        (λ number link. check (is_running link.port.phase) LinkState (carries book s number link (sends link))) (Ok left) e
        (λ missing e. absurd cc)
        (λ number link found e. let c = checked _ _ _ left e in
        carries_did m number link (sends link) (λ sent is. d number link sent found c.0 is) c.1)

    end_did : (dst src reason : ℕ) → confirms_end book s src dst ≡ Ok left → SentDid s (DisconnectConfirm dst src reason) left
    end_did dst src reason e = go (src == 0) refl e
      where
        go : (b : Bool) → (src == 0) ≡ b → ◌≡◌ {A = Result (Sent D K) LinkRefusal}
            (cond b (with_link (CalledBy dst) s (Ok (of_no_link book s)) (λ number link. Ok (ending book s number link))) (Ok (of_no_link book s)))
            (Ok left) → SentDid s (DisconnectConfirm dst src reason) left
        go true none e =
            looked (CalledBy dst) s (Ok (of_no_link book s)) (λ number link. Ok (ending book s number link)) (Ok left) e
            (λ missing e. did_send (DisconnectConfirm dst src reason) _ (OfNone refl) e)
            (λ number link found e. did_send (DisconnectConfirm dst src reason) _
            (EndsCalled dst reason number link refl (ap (λ (n : ℕ). DisconnectConfirm dst n reason) (eqb-true src 0 none)) found) e)
        go false none e = did_send (DisconnectConfirm dst src reason) _ (OfNone refl) e

    message_did : (m : NspValue) → message_sent Without book s m ≡ Ok left → SentDid s m left
    message_did (ConnectInitiate retransmitted src services info segsize user_data) e = phase_did _ (OpenedAt src) is_calling refl e
    message_did (ConnectAck dst) e =
        looked (BegunBy dst) s (Err NoLink) (λ number link. Ok (unchanged book s number link)) (Ok left) e (λ missing e. absurd cc)
        (λ number link found e. did_send (ConnectAck dst) _ (Stays number link refl found.there) e)
    message_did (ConnectConfirm dst src services info segsize user_data) e = phase_did _ (TheLink src dst) is_confirming refl e
    message_did (DisconnectInitiate dst src reason user_data) e = phase_did _ (TheLink src dst) is_disconnecting refl e
    message_did (DisconnectConfirm dst src reason) e =
        looked (TheLink src dst) s (confirms_end book s src dst) (λ number link. Err LinkState) (Ok left) e
        (λ missing e. end_did dst src reason e)
        (λ number link found e. absurd cc)
    message_did (DataSegment segment) e =
        run_did (DataSegment segment) segment.srcaddr segment.dstaddr (segment_of book segment)
        (λ number link sent found running is. Segment segment number link sent refl found running is) e
    message_did (DataAck dst src acks) e =
        run_did (DataAck dst src acks) src dst (λ link. book.sends_acks acks link.segments)
        (λ number link sent found running is. Acks dst src acks number link sent refl found running is) e
    message_did (LinkService interrupt dst src rest) e = phase_did _ (TheLink src dst) is_running refl e
    message_did (OtherDataAck dst src rest) e = phase_did _ (TheLink src dst) is_running refl e
    message_did (NoOperation rest) e = did_send (NoOperation rest) _ (OfNone refl) e

    pub sent_did : (packet : Carried) → sent_step Without book s packet ≡ Ok left → SentDid s packet.message left
    sent_did packet e = message_did packet.message (checked _ _ _ left e).1

  -- ---- a message that comes

  pub data ArrivedDid (rule : PartnerRule) (s : LinksOf D) (m : NspValue) (truth : LinkTruth K) : LinksOf D → Type 0 where
    Ignores : ArrivedDid rule s m truth s
    Begins : (far segsize : ℕ) → Connects m far segsize → number_of (LiveTo far) s ≡ None
        → ArrivedDid rule s m truth (begun (called book rule far segsize truth.tag) s)
    Confirms : (own far segsize number : ℕ) (link : LinkOf D) → Connects m far segsize → IsFound (CallingAt own) s number link
        → rule (is_for number truth.tag) ≡ true →
        ArrivedDid rule s m truth (changed number (confirmed book rule far segsize truth.tag link) s)
    Ends : (test : LinkTest) (number : ℕ) (link : LinkOf D) → IsFound test s number link →
        ArrivedDid rule s m truth (changed number (ended book link) s)
    TakesSegment : (own far : ℕ) (segment : SegmentValue) (number : ℕ) (link : LinkOf D) → m ≡ DataSegment segment →
        IsFound (ActedOn own far) s number link →
        rule (is_of_pair number link.partner truth.tag) ≡ true →
        ArrivedDid rule s m truth (changed number (running book rule (λ l. book.takes_segment segment truth.known l.segments) link) s)
    TakesAcks : (own far dst src : ℕ) (acks : List AckWord) (number : ℕ) (link : LinkOf D) → m ≡ DataAck dst src acks →
        IsFound (ActedOn own far) s number link →
        rule (is_of_pair number link.partner truth.tag) ≡ true →
        ArrivedDid rule s m truth (changed number (running book rule (λ l. book.takes_acks acks truth.known l.segments) link) s)
    TakesOther : (own far number : ℕ) (link : LinkOf D) → IsFound (ActedOn own far) s number link →
        rule (is_of_pair number link.partner truth.tag) ≡ true →
        ArrivedDid rule s m truth (changed number (running book rule (λ l. l.segments) link) s)

  module _ (rule : PartnerRule) (s left : LinksOf D) (truth : LinkTruth K) where
    did_arrive : (m : NspValue) (next : LinksOf D) → ArrivedDid rule s m truth next → ◌≡◌ {A = Result (LinksOf D) LinkRefusal} (Ok next) (Ok left) →
        ArrivedDid rule s m truth left
    did_arrive m next d e = subst (λ (x : LinksOf D). ArrivedDid rule s m truth x) (same_Ok next left e) d

    acts_did : (m : NspValue) (own far : ℕ) (takes : LinkOf D → D) →
        ((number : ℕ) (link : LinkOf D) → IsFound (ActedOn own far) s number link → rule (is_of_pair number link.partner truth.tag) ≡ true →
        ArrivedDid rule s m truth (changed number (running book rule takes link) s)) →
        acted_on book rule own far truth.tag takes s ≡ Ok left → ArrivedDid rule s m truth left
    acts_did m own far takes d e =
        looked (ActedOn own far) s (Ok s)
        (λ number link. check (rule (is_of_pair number link.partner truth.tag)) CrossedLink
        (Ok (changed number (running book rule takes link) s))) (Ok left) e
        (λ missing e. did_arrive m s Ignores e) (λ number link found e. let c = checked _ _ _ left e in did_arrive m _ (d number link found c.0) c.1)

    ends_did : (m : NspValue) (own far : ℕ) → ends_by book rule own far s ≡ Ok left → ArrivedDid rule s m truth left
    ends_did m own far e =
        looked (TheLink own far) s (with_link (CallingAt own) s (Ok s) (λ number link. Ok (changed number (ended book link) s)))
        (λ number link. Ok (changed number (ended book link) s)) (Ok left) e
        (λ missing e. looked (CallingAt own) s (Ok s) (λ number link. Ok (changed number (ended book link) s)) (Ok left) e
        (λ missing e. did_arrive m _ Ignores e) (λ number link found e. did_arrive m _ (Ends (CallingAt own) number link found) e))
        (λ number link found e. did_arrive m _ (Ends (TheLink own far) number link found) e)

    came_did : (m : NspValue) → message_arrived Without book rule s m truth ≡ Ok left → ArrivedDid rule s m truth left
    came_did (ConnectInitiate retransmitted src services info segsize user_data) e =
        looked (LiveTo src) s (Ok (begun (called book rule src segsize truth.tag) s)) (λ number link. Ok s) (Ok left) e
        (λ missing e. did_arrive _ _ (Begins src segsize (refl, refl) missing) e) (λ number link found e. did_arrive _ _ Ignores e)
    came_did (ConnectAck dst) e = did_arrive _ _ Ignores e
    came_did (NoOperation rest) e = did_arrive _ _ Ignores e
    came_did (ConnectConfirm dst src services info segsize user_data) e =
        looked (CallingAt dst) s (Ok s)
        (λ number link. check (rule (is_for number truth.tag)) CrossedLink
        (Ok (changed number (confirmed book rule src segsize truth.tag link) s))) (Ok left) e
        (λ missing e. did_arrive _ _ Ignores e)
        (λ number link found e. let c = checked _ _ _ left e in did_arrive _ _ (Confirms dst src segsize number link (refl, refl) found c.0) c.1)
    came_did (DisconnectInitiate dst src reason user_data) e = ends_did _ dst src e
    came_did (DisconnectConfirm dst src reason) e = ends_did _ dst src e
    came_did (DataSegment segment) e =
        acts_did (DataSegment segment) segment.dstaddr segment.srcaddr (λ link. book.takes_segment segment truth.known link.segments)
        (λ number link found of_pair. TakesSegment segment.dstaddr segment.srcaddr segment number link refl found of_pair) e
    came_did (DataAck dst src acks) e =
        acts_did (DataAck dst src acks) dst src (λ link. book.takes_acks acks truth.known link.segments)
        (λ number link found of_pair. TakesAcks dst src dst src acks number link refl found of_pair) e
    came_did (LinkService interrupt dst src rest) e =
        acts_did _ dst src (λ link. link.segments) (λ number link found of_pair. TakesOther dst src number link found of_pair) e
    came_did (OtherDataAck dst src rest) e =
        acts_did _ dst src (λ link. link.segments) (λ number link found of_pair. TakesOther dst src number link found of_pair) e

    pub arrived_did : (packet : Carried) → arrived_step Without book rule s packet truth ≡ Ok left → ArrivedDid rule s packet.message truth left
    arrived_did packet e = came_did packet.message (checked _ _ _ left e).1
