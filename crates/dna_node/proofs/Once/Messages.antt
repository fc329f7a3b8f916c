-- Where no link address is given twice, each message names its sender and its sender's partner by their addresses.
use Rattle.std.proofs.Common.{◌≡◌, ℕ, inl, Bool, true, Option, Some, None, Result, Ok, Err, refl, sym, ◌∙◌, subst, ap}
use Rattle.std.specs.Prelude.{slice_get}
use Rattle.std.proofs.lemmas.Bool.{and_parts}
use Rattle.dna_packet.specs.Nsp.{NspValue, DataSegment, LinkService, DataAck, OtherDataAck, ConnectAck, NoOperation, ConnectInitiate, ConnectConfirm}
use Rattle.dna_packet.specs.Nsp.{DisconnectInitiate, DisconnectConfirm}
use Rattle.dna_station.specs.declared.link_refusal.LinkRefusal.{LinkRefusal}
use Rattle.dna_station.specs.declared.link_refusal.LinkRefusal.TheVariants.{NoLink, LinkState}
use Rattle.dna_links.specs.Queues.{ended}
use Rattle.dna_links.specs.declared.queue.Queues.TheVariants.{Without}
use Rattle.dna_links.specs.declared.tag.LinkTag.{LinkTag}
use Rattle.dna_links.specs.declared.port.Phase.{Phase}
use Rattle.dna_links.specs.declared.port.LinkTest.{LinkTest}
use Rattle.dna_links.specs.declared.port.LinkTest.TheVariants.{TheLink, OpenedAt, ActedOn}
use Rattle.dna_links.specs.LookUps.{is_live, is_at, is_calling, is_confirming, is_running, is_disconnecting, has_both, passes}
use Rattle.dna_links.specs.SegmentBook.{Sending}
use Rattle.dna_links.specs.Links.{LinkOf, LinkTruth, check, changed, with_segments, in_phase}
use Rattle.dna_links.specs.Sending.{Sent, message_sent}
use Rattle.dna_links.specs.inner.Forms.{truth_of, unchanged, in_its_phase, carries, in_run, segment_of}
use Rattle.dna_links.specs.Arriving.{of_partner}
use Rattle.dna_links.specs.inner.Forms.{called, confirmed}
use Rattle.dna_links.specs.TrueSegments.{TrueSegments, Numbers, true_segments}
use Rattle.dna_links.specs.TrueLinks.{Links}
use Rattle.dna_links.proofs.Runs.Reads.{at_is}
use Rattle.dna_links.proofs.Tables.Outcomes.{looked, checked, IsFound}
use Rattle.dna_links.proofs.Tables.MessageOutcomes.{SentDid, OfNone, Stays, EndsCalled, Segment, Acks, Connects, ArrivedDid}
use Rattle.dna_links.proofs.Tables.MessageOutcomes.{Ignores, Begins, Confirms, Ends, TakesSegment, TakesAcks, TakesOther}
use Rattle.dna_node.proofs.Once.Addresses.{LinkList, Owner, owner_kept, KeepsAddresses, AreAddressed, LeavesAddressed, one_left, one_kept, one_more}
use Rattle.std.proofs.lemmas.Option.{same_Some}
use Rattle.dna_links.specs.declared.port.Phase.TheVariants.{Running}

-- the address of the sender's link in a message, and that of the link it is for; a DC names a link that is over
abbrev pub source : NspValue → Option ℕ
source (ConnectInitiate retransmitted src services info segsize user_data) = Some src
source (ConnectConfirm dst src services info segsize user_data) = Some src
source (DisconnectInitiate dst src reason user_data) = Some src
source (DataSegment segment) = Some segment.srcaddr
source (DataAck dst src acks) = Some src
source (LinkService interrupt dst src rest) = Some src
source (OtherDataAck dst src rest) = Some src
source (ConnectAck dst) = None
source (NoOperation rest) = None
source (DisconnectConfirm dst src reason) = None

abbrev pub target : NspValue → Option ℕ
target (ConnectInitiate retransmitted src services info segsize user_data) = None
target (ConnectConfirm dst src services info segsize user_data) = Some dst
target (DisconnectInitiate dst src reason user_data) = Some dst
target (DataSegment segment) = Some segment.dstaddr
target (DataAck dst src acks) = Some dst
target (LinkService interrupt dst src rest) = Some dst
target (OtherDataAck dst src rest) = Some dst
target (ConnectAck dst) = None
target (NoOperation rest) = None
target (DisconnectConfirm dst src reason) = None

connects_from : (m : NspValue) (src segsize : ℕ) → Connects m src segsize → source m ≡ Some src
connects_from (ConnectInitiate retransmitted own services info size user_data) src segsize is = ap Some is.0
connects_from (ConnectConfirm dst own services info size user_data) src segsize is = ap Some is.0
connects_from m src segsize is = absurd is

pub record IsAddressed (own others : LinkList) (m : NspValue) (tag : LinkTag) : Type 0 where
  pub from : (a : ℕ) → source m ≡ Some a → Owner own tag.link a
  pub to : (a : ℕ) → target m ≡ Some a → Owner others tag.partner a

pub message_kept : (own others further theirs : LinkList) (m : NspValue) (tag : LinkTag) → KeepsAddresses own further → KeepsAddresses others theirs →
    IsAddressed own others m tag → IsAddressed further theirs m tag
message_kept own others further theirs m tag mine more a = record {
  from = λ n e. owner_kept own further tag.link n mine (a.from n e);
  to = λ n e. owner_kept others theirs tag.partner n more (a.to n e);
}

-- ---- what is sent

module _ (s : Links) (others : LinkList) (most : ℕ) (h : AreAddressed s.links others most) where
  -- of a link with these addresses
  of_link : (m : NspValue) (number : ℕ) (link : LinkOf TrueSegments) (src : ℕ) → slice_get s.links number ≡ Some link → link.port.own ≡ Some src →
      source m ≡ Some src → ((a : ℕ) → target m ≡ Some a → link.port.far ≡ Some a) →
      IsAddressed s.links others m (record { link = Some number; partner = link.partner })
  of_link m number link src there owns is far = record {
    from = λ a e. record { number = number; is = refl; owns = record { link = link; there = there; owns = owns ∙ sym is ∙ e } };
    to = λ a e. h.far number link there a (far a e);
  }

  abbrev SentFrom : NspValue → Sent TrueSegments Numbers → Type 0
  SentFrom m made = IsAddressed s.links others m made.truth.tag

  abbrev OfThis : NspValue → LinkOf TrueSegments → Type 0
  OfThis m link = (src : ℕ) × (link.port.own ≡ Some src) × (source m ≡ Some src) × ((a : ℕ) → target m ≡ Some a → link.port.far ≡ Some a)

  -- the test tells both
  the_link : (m : NspValue) (src dst : ℕ) (link : LinkOf TrueSegments) → source m ≡ Some src → target m ≡ Some dst →
      passes (TheLink src dst) link.port ≡ true → OfThis m link
  the_link m src dst link is for passed =
      let both = and_parts (is_at link.port.own src) (is_at link.port.far dst)
      (and_parts (is_live link.port.phase) (has_both link.port src dst) passed).1 in
      (src, at_is link.port.own src both.0, is, λ a e. at_is link.port.far dst both.1 ∙ sym for ∙ e)

  same_sent : (x y : Sent TrueSegments Numbers) → ◌≡◌ {A = Result (Sent TrueSegments Numbers) LinkRefusal} (Ok x) (Ok y) → x ≡ y
  same_sent x y e = cc

  in_phase_from : (m : NspValue) (test : LinkTest) (is_right : Phase → Bool) (made : Sent TrueSegments Numbers) →
      ((link : LinkOf TrueSegments) → passes test link.port ≡ true → OfThis m link) → in_its_phase true_segments test is_right s ≡ Ok made →
      SentFrom m made
  in_phase_from m test is_right made tells e =
      looked test s (Err NoLink) (λ number link. check (is_right link.port.phase) LinkState (Ok (unchanged true_segments s number link))) (Ok made) e
      (λ missing e. absurd cc)
      (λ number link found e.
      let c = checked _ _ _ made e in let t = tells link found.passed in
      subst (SentFrom m) (same_sent (unchanged true_segments s number link) made c.1) (of_link m number link t.0 found.there t.1 t.2 t.3))

  run_from : (m : NspValue) (src dst : ℕ) (sends : LinkOf TrueSegments → Result (Sending TrueSegments Numbers) LinkRefusal)
      (made : Sent TrueSegments Numbers) →
      source m ≡ Some src → target m ≡ Some dst → in_run true_segments src dst sends s ≡ Ok made → SentFrom m made
  run_from m src dst sends made is for e =
      looked (TheLink src dst) s (Err NoLink)
      (λ number link. check (is_running link.port.phase) LinkState (carries true_segments s number link (sends link))) (Ok made) e
      (λ missing e. absurd cc)
      (λ number link found e. let c = checked _ _ _ made e in let t = the_link m src dst link is for found.passed in
      carried number link (sends link) (of_link m number link t.0 found.there t.1 t.2 t.3) c.1)
    where
      carried : (number : ℕ) (link : LinkOf TrueSegments) (o : Result (Sending TrueSegments Numbers) LinkRefusal) →
          IsAddressed s.links others m (record { link = Some number; partner = link.partner }) → carries true_segments s number link o ≡ Ok made →
          SentFrom m made
      carried number link (Err refusal) a e = absurd cc
      carried number link (Ok sent) a e =
          subst (SentFrom m) (same_sent (record
          { links = changed number (with_segments sent.segments link) s; truth = truth_of true_segments number link sent.known }) made e) a

  pub sent_from : (m : NspValue) (made : Sent TrueSegments Numbers) → message_sent Without true_segments s m ≡ Ok made → SentFrom m made
  sent_from (ConnectInitiate retransmitted src services info segsize user_data) made e =
      in_phase_from _ (OpenedAt src) is_calling made
      (λ link passed. (
        src,
        at_is link.port.own src
            (and_parts link.port.opened (is_at link.port.own src) (and_parts (is_live link.port.phase) _ passed).1).1,
        refl,
        λ a e. absurd cc,
      )) e
  sent_from (ConnectAck dst) made e = record { from = λ a e. absurd cc; to = λ a e. absurd cc }
  sent_from (ConnectConfirm dst src services info segsize user_data) made e =
      in_phase_from (ConnectConfirm dst src services info segsize user_data) (TheLink src dst) is_confirming made
      (λ link passed. the_link (ConnectConfirm dst src services info segsize user_data) src dst link refl refl passed) e
  sent_from (DisconnectInitiate dst src reason user_data) made e =
      in_phase_from (DisconnectInitiate dst src reason user_data) (TheLink src dst) is_disconnecting made
      (λ link passed. the_link (DisconnectInitiate dst src reason user_data) src dst link refl refl passed) e
  sent_from (DisconnectConfirm dst src reason) made e = record { from = λ a e. absurd cc; to = λ a e. absurd cc }
  sent_from (DataSegment segment) made e =
      run_from (DataSegment segment) segment.srcaddr segment.dstaddr (segment_of true_segments segment) made refl refl e
  sent_from (DataAck dst src acks) made e =
      run_from (DataAck dst src acks) src dst (λ link. true_segments.sends_acks acks link.segments) made refl refl e
  sent_from (LinkService interrupt dst src rest) made e =
      in_phase_from (LinkService interrupt dst src rest) (TheLink src dst) is_running made
      (λ link passed. the_link (LinkService interrupt dst src rest) src dst link refl refl passed) e
  sent_from (OtherDataAck dst src rest) made e =
      in_phase_from (OtherDataAck dst src rest) (TheLink src dst) is_running made
      (λ link passed. the_link (OtherDataAck dst src rest) src dst link refl refl passed) e
  sent_from (NoOperation rest) made e = record { from = λ a e. absurd cc; to = λ a e. absurd cc }

  -- and the links keep their addresses
  abbrev Stays' : Links → Type 0
  Stays' left = LeavesAddressed s others left most

  pub same_links : Stays' s
  same_links = record { addressed = h; keeps = λ i a o. o; nodes = record { node_is = refl; peer_is = refl } }

  with_segments_kept : (number : ℕ) (link : LinkOf TrueSegments) (f : TrueSegments) → slice_get s.links number ≡ Some link →
      Stays' (changed number (with_segments f link) s)
  with_segments_kept number link f there =
      one_kept s others most h number link (with_segments f link) there (record { own = refl; far = refl; partner = refl; called = λ c. c })

  ended_kept : (number : ℕ) (link : LinkOf TrueSegments) → slice_get s.links number ≡ Some link → Stays' (changed number (ended true_segments link) s)
  ended_kept number link there =
      one_kept s others most h number link (ended true_segments link) there
      (record { own = refl; far = refl; partner = refl; called = λ c. absurd cc })

  pub sent_stays : (m : NspValue) (made : Sent TrueSegments Numbers) → SentDid true_segments s m made → Stays' made.links
  sent_stays m made (OfNone none) = same_links
  sent_stays m made (Stays number link none there) = same_links
  sent_stays m made (EndsCalled far reason number link none is found) = ended_kept number link found.there
  sent_stays m made (Segment segment number link sent is found run does) = with_segments_kept number link sent.segments found.there
  sent_stays m made (Acks dst src acks number link sent is found run does) = with_segments_kept number link sent.segments found.there

  -- ---- what comes

  module _ (truth : LinkTruth Numbers) where
    acted_kept : (own far number : ℕ) (link : LinkOf TrueSegments) (f : TrueSegments) → IsFound (ActedOn own far) s number link →
        Stays' (changed number (with_segments f (in_phase Running link)) s)
    acted_kept own far number link f found = one_kept s others most h number link (with_segments f (in_phase Running link)) found.there
        (record { own = refl; far = refl; partner = refl; called = λ c. absurd cc })

    pub came_stays : (m : NspValue) (left : Links) → ((a : ℕ) → source m ≡ Some a → Owner others truth.tag.link a) →
        ArrivedDid true_segments of_partner s m truth left → Stays' left
    came_stays m left from Ignores = same_links
    came_stays m left from (Begins far segsize is none) =
        one_more s others most h (called true_segments of_partner far segsize truth.tag) tt
        (λ a e. subst (Owner others truth.tag.link) (same_Some far a e) (from far (connects_from m far segsize is)), λ c. refl)
    came_stays m left from (Confirms own far segsize number link is found may) =
        one_left s others most h None tt number link (confirmed true_segments of_partner far segsize truth.tag link) found.there (inl refl)
        (λ a e. subst (Owner others truth.tag.link) (same_Some far a e) (from far (connects_from m far segsize is)), λ c. absurd cc)
    came_stays m left from (Ends test number link found) = ended_kept number link found.there
    came_stays m left from (TakesSegment own far segment number link is found may) = acted_kept own far number link _ found
    came_stays m left from (TakesAcks own far dst src acks number link is found may) = acted_kept own far number link _ found
    came_stays m left from (TakesOther own far number link found may) = acted_kept own far number link _ found
