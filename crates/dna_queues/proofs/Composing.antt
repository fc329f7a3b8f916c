-- A message that the node with queues composes: its link, as one of the machine for which nothing waits, may send it.
use Rattle.dna_queues.proofs.Prelude.{◌≡◌, ℕ, true, not, ◌&&◌, Option, Some, None, List, Result, Ok, Err, refl, sym, ap, ◌∙◌, subst, slice_get}
use Rattle.dna_queues.proofs.Prelude.{AckWord, SegmentValue, NspValue, DataSegment, LinkService, DataAck, OtherDataAck, ConnectAck, ConnectInitiate}
use Rattle.dna_queues.proofs.Prelude.{ConnectConfirm, DisconnectInitiate, IsInRange, LinkRefusal, NoLink, LinkState, Phase, Calling, Confirming}
use Rattle.dna_queues.proofs.Prelude.{Running, Disconnecting, LinkTest, TheLink, OpenedAt, BegunBy, Without, OfRun, Disconnect, passes, is_in}
use Rattle.dna_queues.proofs.Prelude.{Piece, Sending, LinkTruth, check, with_link, changed, with_segments, is_silent, is_over, truth_of, unchanged}
use Rattle.dna_queues.proofs.Prelude.{Sent, message_sent, IsAnswered, Numbers, sends_late, sends_acks, looked, checked, LateSegments, late_segments}
use Rattle.dna_queues.proofs.Prelude.{late_sent, acks_sent, Links, is_composed}
use Rattle.dna_queues.proofs.{Facts.same_Ok, Facts.was_ok_first, Words.Carries, Segments.late_grows, Segments.acks_grow, Goes.Goes, Goes.said_as}
use Rattle.dna_queues.proofs.{WaitsToGo.grown_itself}
use Rattle.dna_queues.proofs.Acting.{LateLink, lift, level, seen_as}
use Rattle.dna_queues.proofs.LinkLists.{still_set, IsSet, set_changed}

-- what of a link no message that it sends changes
pub record Keeps (h k : LateLink) : Type 0 where
  pub seen : (used : Phase) → seen_as used k ≡ seen_as used h
  pub acknowledged : k.segments.segments.acknowledged ≡ h.segments.segments.acknowledged
  pub passed : k.segments.segments.passed ≡ h.segments.segments.passed

keeps_itself : (h : LateLink) → Keeps h h
keeps_itself h = record { seen = λ used. refl; acknowledged = refl; passed = refl }

pub record Composed (s : Links) (m : NspValue) (made : Sent LateSegments Numbers) : Type 0 where
  pub number : ℕ
  pub link : LateLink
  pub there : slice_get s.links number ≡ Some link
  pub left : LateLink
  pub set : IsSet s made.links number left
  pub tag : made.truth.tag.link ≡ Some number
  pub goes : IsInRange m → Goes (lift link) m (lift left)
  pub keeps : IsInRange m → IsAnswered link.segments.segments → Keeps link left

-- ---- phases

run_may : (p : Phase) → is_in Running p ≡ true → ((is_in Running p && not (is_over (level p))) ≡ true) × (level p ≡ OfRun)
run_may Running e = (refl, refl)
run_may p e = absurd cc

confirm_may : (p : Phase) → is_in Confirming p ≡ true → (is_in Confirming p && is_silent (level p)) ≡ true
confirm_may Confirming e = refl
confirm_may p e = absurd cc

call_may : (p : Phase) → is_in Calling p ≡ true → is_silent (level p) ≡ true
call_may Calling e = refl
call_may p e = absurd cc

close_said : (p : Phase) → is_in Disconnecting p ≡ true → level p ≡ Disconnect
close_said Disconnecting e = refl
close_said p e = absurd cc

run_said : (h : LateLink) → level h.port.phase ≡ OfRun → lift h ≡ said_as OfRun (lift h)
run_said h e = ap (λ s. record (lift h) { queue = record (lift h).queue { said = s } }) e
    ∙ sym (ap (λ s. said_as OfRun (record (lift h) { queue = record (lift h).queue { said = s } })) e)

closing_said : (h : LateLink) → level h.port.phase ≡ Disconnect → lift h ≡ said_as Disconnect (lift h)
closing_said h e = ap (λ s. record (lift h) { queue = record (lift h).queue { said = s } }) e
    ∙ sym (ap (λ s. said_as Disconnect (record (lift h) { queue = record (lift h).queue { said = s } })) e)

-- ---- by message

module _ (s : Links) (made : Sent LateSegments Numbers) where
  -- one that changes nothing
  stays : (m : NspValue) (n : ℕ) (h : LateLink) → slice_get s.links n ≡ Some h → Goes (lift h) m (lift h) →
      ◌≡◌ {A = Result (Sent LateSegments Numbers) LinkRefusal} (Ok (unchanged late_segments s n h)) (Ok made) → Composed s m made
  stays m n h there goes e = subst (λ (x : Sent LateSegments Numbers). Composed s m x) (same_Ok _ made e) (record {
    number = n;
    link = h;
    there = there;
    left = h;
    set = still_set _ _ _ there;
    tag = refl;
    goes = λ small. goes;
    keeps = λ small answered. keeps_itself h;
  })

  in_phase : (m : NspValue) (test : LinkTest) (phase : Phase) →
      with_link test s (Err NoLink) (λ n h. check (is_in phase h.port.phase) LinkState (Ok (unchanged late_segments s n h))) ≡ Ok made →
      ((h : LateLink) → passes test h.port ≡ true → is_in phase h.port.phase ≡ true → Goes (lift h) m (lift h)) → Composed s m made
  in_phase m test phase e goes =
      looked test s (Err NoLink) (λ n h. check (is_in phase h.port.phase) LinkState (Ok (unchanged late_segments s n h))) (Ok made) e
      (λ none e. absurd cc)
      (λ n h found e. let c = checked (is_in phase h.port.phase) LinkState _ made e in stays m n h found.there (goes h found.passed c.0) c.1)

  -- one with numbers
  carries : (m : NspValue) (n : ℕ) (h : LateLink) (sent : Sending LateSegments Numbers) → slice_get s.links n ≡ Some h →
      (IsInRange m → Goes (lift h) m (lift (with_segments sent.segments h))) →
      (IsInRange m → IsAnswered h.segments.segments → Carries h.segments.segments sent.segments.segments) →
      ◌≡◌ {A = Result (Sent LateSegments Numbers) LinkRefusal}
      (Ok (record { links = changed n (with_segments sent.segments h) s; truth = truth_of late_segments n h sent.known })) (Ok made) →
      Composed s m made
  carries m n h sent there goes kept e = subst (λ (x : Sent LateSegments Numbers). Composed s m x) (same_Ok _ made e) (record {
    number = n;
    link = h;
    there = there;
    left = with_segments sent.segments h;
    set = set_changed s n h (with_segments sent.segments h) there;
    tag = refl;
    goes = goes;
    keeps = λ small answered. let c = kept small answered in record {
      seen = λ used. ap (λ (ps : List (Option Piece)). record (seen_as used h) { received = ps }) c.received;
      acknowledged = c.acknowledged;
      passed = c.passed;
    };
  })

  composes_segment : (segment : SegmentValue) → message_sent Without late_segments s (DataSegment segment) ≡ Ok made →
      Composed s (DataSegment segment) made
  composes_segment segment e =
      looked (TheLink segment.srcaddr segment.dstaddr) s (Err NoLink) _ (Ok made) e (λ none e. absurd cc)
      (λ n h found e. let c = checked (is_in Running h.port.phase) LinkState _ made e in
      let r = was_ok_first (sends_late h.segments.gap h.segsize segment h.segments.segments) _ _ made c.1 in
      let m = run_may h.port.phase c.0 in
      carries (DataSegment segment) n h (late_sent r.0) found.there
      (λ small. record {
        passed = found.passed;
        moves = record { run = m.0; late = r.0; does = r.1; is = run_said (with_segments (late_sent r.0).segments h) m.1 };
      })
      (λ small answered. (late_grows None h.segments.segments h.segments.segments (grown_itself h.segments.segments answered) h.segments.gap
      h.segsize segment r.0 small.0 r.1).carries) r.2)

  composes_acks : (dst src : ℕ) (acks : List AckWord) → message_sent Without late_segments s (DataAck dst src acks) ≡ Ok made →
      Composed s (DataAck dst src acks) made
  composes_acks dst src acks e =
      looked (TheLink src dst) s (Err NoLink) _ (Ok made) e (λ none e. absurd cc)
      (λ n h found e. let c = checked (is_in Running h.port.phase) LinkState _ made e in
      let r = was_ok_first (sends_acks acks h.segments.segments) _ _ made c.1 in
      let m = run_may h.port.phase c.0 in
      carries (DataAck dst src acks) n h (acks_sent h.segments r.0) found.there
      (λ small. record {
        passed = found.passed;
        moves = record { run = m.0; sent = r.0; does = r.1; is = run_said (with_segments (acks_sent h.segments r.0).segments h) m.1 };
      })
      (λ small answered. (acks_grow None h.segments.segments h.segments.segments (grown_itself h.segments.segments answered) acks r.0 small.0
      r.1).carries) r.2)

  pub composes : (m : NspValue) → is_composed m ≡ true → message_sent Without late_segments s m ≡ Ok made → Composed s m made
  composes (ConnectInitiate retransmitted src services info segsize user_data) is e =
      in_phase _ (OpenedAt src) Calling e (λ h passed calling. record { passed = passed; moves = (call_may h.port.phase calling, refl) })
  composes (ConnectConfirm dst src services info segsize user_data) is e =
      in_phase _ (TheLink src dst) Confirming e (λ h passed phase. record { passed = passed; moves = (confirm_may h.port.phase phase, refl) })
  composes (DisconnectInitiate dst src reason user_data) is e =
      in_phase _ (TheLink src dst) Disconnecting e
      (λ h passed phase. record { passed = passed; moves = (phase, closing_said h (close_said h.port.phase phase)) })
  composes (DataSegment segment) is e = composes_segment segment e
  composes (DataAck dst src acks) is e = composes_acks dst src acks e
  composes (LinkService interrupt dst src rest) is e =
      in_phase _ (TheLink src dst) Running e
      (λ h passed phase. let m = run_may h.port.phase phase in record { passed = passed; moves = (m.0, run_said h m.1) })
  composes (OtherDataAck dst src rest) is e =
      in_phase _ (TheLink src dst) Running e
      (λ h passed phase. let m = run_may h.port.phase phase in record { passed = passed; moves = (m.0, run_said h m.1) })
  composes m is e = absurd cc

-- a connect ack, of any link that a CI from its address began
pub acknowledges : (s : Links) (m : NspValue) (truth : LinkTruth Numbers) (dst number : ℕ) (link : LateLink) → m ≡ ConnectAck dst →
    slice_get s.links number ≡ Some link → passes (BegunBy dst) link.port ≡ true → truth.tag.link ≡ Some number →
    Composed s m (record { links = s; truth = truth })
acknowledges s m truth dst number link is there passed tag = record {
  number = number;
  link = link;
  there = there;
  left = link;
  set = still_set _ _ _ there;
  tag = tag;
  goes = λ small. subst (λ (x : NspValue). Goes (lift link) x (lift link)) (sym is) (record { passed = passed; moves = refl });
  keeps = λ small answered. keeps_itself link;
}
