-- What the machine sends of a link that link may send.
use Rattle.dna_queues.proofs.Prelude.{◌≡◌, ℕ, Bool, true, ◌&&◌, not, Option, Some, None, List, Result, Ok, Err, refl, sym, ap, ◌∙◌, subst, position}
use Rattle.dna_queues.proofs.Prelude.{slice_get, and_parts, AckWord, SegmentValue, NspValue, DataSegment, LinkService, DataAck, OtherDataAck}
use Rattle.dna_queues.proofs.Prelude.{ConnectAck, ConnectInitiate, ConnectConfirm, DisconnectInitiate, LinkRefusal, NoLink, LinkState, Phase}
use Rattle.dna_queues.proofs.Prelude.{Calling, Confirming, Running, Disconnecting, Port, LinkTest, LiveAt, TheLink, OpenedAt, BegunBy, With, Said}
use Rattle.dna_queues.proofs.Prelude.{OfRun, Disconnect, passes, is_live, is_at, has_both, check, on_link, at_number, with_seen, changed, in_use}
use Rattle.dna_queues.proofs.Prelude.{with_in_use, may_send, shows, of_no_link, truth_of, unchanged, Sent, message_sent, TrueSegments, Numbers}
use Rattle.dna_queues.proofs.Prelude.{sends_late, sends_acks, sends_other, true_segments, looked, checked, position_passes, position_within}
use Rattle.dna_queues.proofs.Prelude.{there_is, is_composed}
use Rattle.dna_links.specs.TrueLinks.{Links}
use Rattle.dna_queues.proofs.Goes.{Link, Goes, said_as, late_link, wide_link}
use Rattle.dna_queues.proofs.{Sending.shows_is, Turns.Sane, Turns.live_use, Facts.same_links, Facts.was_ok}
use Rattle.dna_queues.proofs.LinkLists.{still_set, IsSet, set_changed}

-- all but a DC and a no operation is of a link
abbrev pub is_of_link : NspValue → Bool
is_of_link (ConnectAck dst) = true
is_of_link m = is_composed m

-- a test that only a live link passes
abbrev pub IsOfLive : LinkTest → Type 0
IsOfLive test = (p : Port) → passes test p ≡ true → is_live p.phase ≡ true

live_link : (own far : ℕ) → IsOfLive (TheLink own far)
live_link own far p e = (and_parts (is_live p.phase) (has_both p own far) e).0

live_opened : (own : ℕ) → IsOfLive (OpenedAt own)
live_opened own p e = (and_parts (is_live p.phase) (p.opened && is_at p.own own) e).0

pub live_at : (own : ℕ) → IsOfLive (LiveAt own)
live_at own p e = (and_parts (is_live p.phase) (is_at p.own own) e).0

live_begun : (far : ℕ) → IsOfLive (BegunBy far)
live_begun far p e = (and_parts (is_live p.phase) (not p.opened && is_at p.far far) e).0

module _ (t : Links) (sane : (i : ℕ) (l : Link) → slice_get t.links i ≡ Some l → Sane l) where
  pub record IsUsed (test : LinkTest) (i : ℕ) (l : Link) : Type 0 where
    pub there : slice_get t.links i ≡ Some l
    pub passed : passes test (in_use With l) ≡ true

  seen_used : {R P : Type 0} (test : LinkTest) (otherwise : R) (next : ℕ → Link → R) (r : R) → with_seen (in_use With) test t otherwise next ≡ r →
      (otherwise ≡ r → P) → ((i : ℕ) (l : Link) → IsUsed test i l → next i l ≡ r → P) → P
  seen_used {R} {P} test otherwise next r e none some = go (position (λ (k : Link). passes test (in_use With k)) t.links) refl e
    where
      go : (o : Option ℕ) → position (λ (k : Link). passes test (in_use With k)) t.links ≡ o → at_number t.links o otherwise next ≡ r → P
      go None found e = none e
      go (Some j) found e =
          let k = there_is t.links j (position_within (λ (x : Link). passes test (in_use With x)) t.links j found) in
          some j k.0 (record {
            there = k.1;
            passed = position_passes (λ (x : Link). passes test (in_use With x)) t.links j k.0 found k.1;
          }) (sym (ap (λ (o : Option Link). on_link j o otherwise next) k.1) ∙ e)

  -- what is found in use passes in use
  pub used : {R P : Type 0} (test : LinkTest) → IsOfLive test → (otherwise : R) (next : ℕ → Link → R) (r : R) →
      with_in_use With test t otherwise next ≡ r →
      (otherwise ≡ r → P) → ((i : ℕ) (l : Link) → IsUsed test i l → next i l ≡ r → P) → P
  used test live otherwise next r e none some =
      looked test t (with_seen (in_use With) test t otherwise next) next r e
      (λ missing e. seen_used test otherwise next r e none some)
      (λ i l found e. some i l (record {
        there = found.there;
        passed = ap (passes test) (live_use l (sane i l found.there) (live l.port found.passed)) ∙ found.passed;
      }) e)

  -- the message is of this link
  pub record SendsOf (m : NspValue) (left : Links) : Type 0 where
    pub number : ℕ
    pub link : Link
    pub there : slice_get t.links number ≡ Some link
    pub further : Link
    pub goes : Goes link m further
    pub set : IsSet t left number further

  module _ (made : Sent TrueSegments Numbers) where
    -- a link in whose turn the message is
    of_turn : (m : NspValue) (test : LinkTest) (phase : Phase) (next : ℕ → Link → Result (Sent TrueSegments Numbers) LinkRefusal) → IsOfLive test →
        with_in_use With test t (Err NoLink) (λ n k. check (may_send With phase k) LinkState (next n k)) ≡ Ok made →
        ((i : ℕ) (l : Link) → IsUsed test i l → may_send With phase l ≡ true → next i l ≡ Ok made → SendsOf m made.links) → SendsOf m made.links
    of_turn m test phase next live e sends =
        used test live (Err NoLink) _ (Ok made) e (λ e. absurd cc)
        (λ i l u e. let c = checked (may_send With phase l) LinkState _ made e in sends i l u c.0 c.1)

    -- it becomes this one, which is also that
    becomes : (m : NspValue) (i : ℕ) (l x y : Link) → slice_get t.links i ≡ Some l → Goes l m x → y ≡ x → changed i y t ≡ made.links →
        SendsOf m made.links
    becomes m i l x y there goes is same = record {
      number = i;
      link = l;
      there = there;
      further = x;
      goes = goes;
      set = subst (λ (s : Links). IsSet t s i x) same (subst (λ (z : Link). IsSet t (changed i y t) i z) is (set_changed t i l y there));
    }

    of_link : (m : NspValue) (i : ℕ) (l : Link) → slice_get t.links i ≡ Some l → Goes l m l → t ≡ made.links → SendsOf m made.links
    of_link m i l there goes same = record {
      number = i;
      link = l;
      there = there;
      further = l;
      goes = goes;
      set = subst (λ (s : Links). IsSet t s i l) same (still_set t i l there);
    }

    turned : (m : NspValue) (test : LinkTest) (phase : Phase) → IsOfLive test →
        ((i : ℕ) (l : Link) → IsUsed test i l → may_send With phase l ≡ true → Goes l m l) →
        with_in_use With test t (Err NoLink) (λ n k. check (may_send With phase k) LinkState (Ok (unchanged true_segments t n k))) ≡ Ok made →
        SendsOf m made.links
    turned m test phase live goes e =
        of_turn m test phase _ live e (λ i l u may same. of_link m i l u.there (goes i l u may) (same_links _ made same))

    shown : (m : NspValue) (dst src : ℕ) (phase : Phase) (said : Said) →
        ((i : ℕ) (l : Link) → IsUsed (TheLink src dst) i l → may_send With phase l ≡ true → Goes l m (said_as said l)) →
        with_in_use With (TheLink src dst) t (Err NoLink) (λ n k. check (may_send With phase k) LinkState (Ok (record {
          links = changed n (shows true_segments said k) t;
          truth = truth_of true_segments n (shows true_segments said k) (sends_other k.segments);
        }))) ≡ Ok made → SendsOf m made.links
    shown m dst src phase said goes e =
        of_turn m (TheLink src dst) phase _ (live_link src dst) e (λ i l u may same.
        becomes m i l (said_as said l) (shows true_segments said l) u.there (goes i l u may) (shows_is said l) (same_links _ made same))

    segment_of : (segment : SegmentValue) → message_sent With true_segments t (DataSegment segment) ≡ Ok made →
        SendsOf (DataSegment segment) made.links
    segment_of segment e =
        of_turn (DataSegment segment) (TheLink segment.srcaddr segment.dstaddr) Running _ (live_link segment.srcaddr segment.dstaddr) e
        (λ i l u run same. let r = was_ok (sends_late l.queue.gap l.segsize segment l.segments) _ made same in
        becomes (DataSegment segment) i l (said_as OfRun (late_link l r.0)) (shows true_segments OfRun (late_link l r.0)) u.there
        (record { passed = u.passed; moves = record { run = run; late = r.0; does = r.1; is = refl } }) (shows_is OfRun (late_link l r.0))
        (same_links _ made r.2))

    acks_of : (dst src : ℕ) (acks : List AckWord) → message_sent With true_segments t (DataAck dst src acks) ≡ Ok made →
        SendsOf (DataAck dst src acks) made.links
    acks_of dst src acks e =
        of_turn (DataAck dst src acks) (TheLink src dst) Running _ (live_link src dst) e
        (λ i l u run same. let r = was_ok (sends_acks acks l.segments) _ made same in
        becomes (DataAck dst src acks) i l (said_as OfRun (wide_link l r.0)) (shows true_segments OfRun (wide_link l r.0)) u.there
        (record { passed = u.passed; moves = record { run = run; sent = r.0; does = r.1; is = refl } }) (shows_is OfRun (wide_link l r.0))
        (same_links _ made r.2))

    acknowledged_of : (dst : ℕ) → message_sent With true_segments t (ConnectAck dst) ≡ Ok made → SendsOf (ConnectAck dst) made.links
    acknowledged_of dst e =
        looked (BegunBy dst) t (with_seen (in_use With) (BegunBy dst) t (Err NoLink) (λ n l. Ok (of_no_link true_segments t)))
        (λ n l. Ok (unchanged true_segments t n l)) (Ok made) e
        (λ none e. seen_used (BegunBy dst) (Err NoLink) (λ n l. Ok (of_no_link true_segments t)) (Ok made) e (λ e. absurd cc)
        (λ i l u e. of_link (ConnectAck dst) i l u.there (record { passed = u.passed; moves = refl }) (same_links _ made e)))
        (λ i l found e. of_link (ConnectAck dst) i l found.there (record {
          passed = ap (passes (BegunBy dst)) (live_use l (sane i l found.there) (live_begun dst l.port found.passed)) ∙ found.passed;
          moves = refl;
        }) (same_links _ made e))

    pub sends_of : (m : NspValue) → is_of_link m ≡ true → message_sent With true_segments t m ≡ Ok made → SendsOf m made.links
    sends_of (ConnectInitiate retransmitted src services info segsize user_data) is e =
        turned _ (OpenedAt src) Calling (live_opened src) (λ i l u may. record { passed = u.passed; moves = (may, refl) }) e
    sends_of (ConnectAck dst) is e = acknowledged_of dst e
    sends_of (ConnectConfirm dst src services info segsize user_data) is e =
        turned _ (TheLink src dst) Confirming (live_link src dst) (λ i l u may. record { passed = u.passed; moves = (may, refl) }) e
    sends_of (DisconnectInitiate dst src reason user_data) is e =
        shown _ dst src Disconnecting Disconnect (λ i l u may. record { passed = u.passed; moves = (may, refl) }) e
    sends_of (DataSegment segment) is e = segment_of segment e
    sends_of (DataAck dst src acks) is e = acks_of dst src acks e
    sends_of (LinkService interrupt dst src rest) is e =
        shown _ dst src Running OfRun (λ i l u may. record { passed = u.passed; moves = (may, refl) }) e
    sends_of (OtherDataAck dst src rest) is e =
        shown _ dst src Running OfRun (λ i l u may. record { passed = u.passed; moves = (may, refl) }) e
    sends_of m is e = absurd cc
