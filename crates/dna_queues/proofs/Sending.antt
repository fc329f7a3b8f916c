-- What a link of the machine may send the machine sends.
use Rattle.dna_queues.proofs.Prelude.{◌≡◌, ℕ, Bool, true, false, ◌&&◌, Option, Some, None, length, Result, Ok, Err, refl, sym, ap, ◌∙◌, subst}
use Rattle.dna_queues.proofs.Prelude.{position, slice_get, and_parts, same_Some, NspValue, DataSegment, LinkService, DataAck, OtherDataAck}
use Rattle.dna_queues.proofs.Prelude.{ConnectAck, ConnectInitiate, ConnectConfirm, DisconnectInitiate, LinkRefusal, NoLink, LinkState, Phase}
use Rattle.dna_queues.proofs.Prelude.{Calling, Confirming, Running, Disconnecting, Port, LinkTest, LiveAt, TheLink, OpenedAt, BegunBy, With, Said}
use Rattle.dna_queues.proofs.Prelude.{OfRun, Disconnect, passes, is_live, is_at, has_both, Sending, Late, check, on_link, at_number, with_seen}
use Rattle.dna_queues.proofs.Prelude.{changed, in_use, with_in_use, may_send, shows, keeps_numbers, on_ok, of_no_link, truth_of, unchanged, Sent}
use Rattle.dna_queues.proofs.Prelude.{message_sent, TrueSegments, Numbers, sends_other, true_segments, looked, position_passes, position_within}
use Rattle.dna_queues.proofs.Prelude.{position_none, there_is}
use Rattle.dna_links.specs.TrueLinks.{Links}
use Rattle.dna_queues.proofs.Facts.{lets_still, passed_check, by_option, not_both}
use Rattle.dna_queues.proofs.Goes.{Link, Goes, said_as, late_link, wide_link, use_own}
use Rattle.dna_queues.proofs.LinkLists.{IsSet, set_changed, IsUnique}

pub shows_is : (said : Said) (l : Link) → shows true_segments said l ≡ said_as said l
shows_is said l = ap (λ (f : TrueSegments). record (said_as said l) { segments = f })
    (lets_still (keeps_numbers l) (keeps_numbers (said_as said l)) l.segments)

-- ---- the link with this address, as what is sent finds it

abbrev pub Owns : LinkTest → ℕ → Type 0
Owns test own = (p : Port) → passes test p ≡ true → is_at p.own own ≡ true

pub link_owns : (own far : ℕ) → Owns (TheLink own far) own
link_owns own far p e = (and_parts (is_at p.own own) (is_at p.far far) (and_parts (is_live p.phase) (has_both p own far) e).1).0

pub opened_owns : (own : ℕ) → Owns (OpenedAt own) own
opened_owns own p e = (and_parts p.opened (is_at p.own own) (and_parts (is_live p.phase) (p.opened && is_at p.own own) e).1).1

pub live_owns : (own : ℕ) → Owns (LiveAt own) own
live_owns own p e = (and_parts (is_live p.phase) (is_at p.own own) e).1

module _ (t : Links) (unique : IsUnique t) where
  -- where this is the only one that passes it is found
  only : (test : Link → Bool) (i : ℕ) (l : Link) → slice_get t.links i ≡ Some l → test l ≡ true →
      ((j : ℕ) (k : Link) → slice_get t.links j ≡ Some k → test k ≡ true → j ≡ i) → position test t.links ≡ Some i
  only test i l there passed alone = by_option (position test t.links)
      (λ none. absurd (not_both _ passed (position_none test t.links i l none there)))
      (λ j found. let k = there_is t.links j (position_within test t.links j found) in
      found ∙ ap Some (alone j k.0 k.1 (position_passes test t.links j k.0 found k.1)))

  pub use_found : {R : Type 0} (test : LinkTest) (own i : ℕ) (l : Link) (otherwise : R) (next : ℕ → Link → R) → Owns test own →
      slice_get t.links i ≡ Some l → passes test (in_use With l) ≡ true → with_in_use With test t otherwise next ≡ next i l
  use_found test own i l otherwise next owns there passed =
      looked test t (with_seen (in_use With) test t otherwise next) next (with_in_use With test t otherwise next) refl
      (λ none e. sym e
      ∙ ap (λ (o : Option ℕ). at_number t.links o otherwise next)
      (only (λ (k : Link). passes test (in_use With k)) i l there passed (λ j k at p.
      unique j i k l at there own (ap (λ (o : Option ℕ). is_at o own) (sym (use_own k)) ∙ owns (in_use With k) p) own_l))
      ∙ ap (λ (o : Option Link). on_link i o otherwise next) there)
      (λ j k found e. let same : j ≡ i = unique j i k l found.there there own (owns k.port found.passed) own_l in
      sym e ∙ ap (λ (n : ℕ). next n k) same
      ∙ ap (next i) (same_Some k l (sym found.there ∙ ap (slice_get t.links) same ∙ there)))
    where
      own_l : is_at l.port.own own ≡ true
      own_l = ap (λ (o : Option ℕ). is_at o own) (sym (use_own l)) ∙ owns (in_use With l) passed

  -- ---- the message is sent

  pub record IsSent (m : NspValue) (i : ℕ) (x : Link) : Type 0 where
    pub made : Sent TrueSegments Numbers
    pub does : message_sent With true_segments t m ≡ Ok made
    pub set : IsSet t made.links i x

  module _ (i : ℕ) (l : Link) (there : slice_get t.links i ≡ Some l) where
    sent_still : (m : NspValue) (x : Link) (made : Sent TrueSegments Numbers) → message_sent With true_segments t m ≡ Ok made → made.links ≡ t →
        x ≡ l →
        IsSent m i x
    sent_still m x made does same is = record {
      made = made;
      does = does;
      set = record {
        node = ap (λ (s : Links). s.node) same;
        peer = ap (λ (s : Links). s.peer) same;
        size = ap (λ (s : Links). length s.links) same;
        here = ap (λ (s : Links). slice_get s.links i) same ∙ there ∙ ap Some (sym is);
        others = λ j differs. ap (λ (s : Links). slice_get s.links j) same;
      };
    }

    sent_changed : (m : NspValue) (x y : Link) (made : Sent TrueSegments Numbers) → message_sent With true_segments t m ≡ Ok made →
        made.links ≡ changed i y t → y ≡ x → IsSent m i x
    sent_changed m x y made does same is = record {
      made = made;
      does = does;
      set = subst (λ (s : Links). IsSet t s i x) (sym same) (subst (λ (z : Link). IsSet t (changed i y t) i z) is (set_changed t i l y there));
    }

    in_turn : (m : NspValue) (test : LinkTest) (own : ℕ) (phase : Phase) (x : Link) → Owns test own → passes test (in_use With l) ≡ true →
        may_send With phase l ≡ true → x ≡ l →
        message_sent With true_segments t m ≡ with_in_use With test t (Err NoLink)
        (λ n k. check (may_send With phase k) LinkState (Ok (unchanged true_segments t n k))) → IsSent m i x
    in_turn m test own phase x owns passed may is does =
        sent_still m x (unchanged true_segments t i l)
        (does ∙ use_found test own i l (Err NoLink) _ owns there passed ∙ passed_check (may_send With phase l) LinkState _ may) refl is

    shown : (m : NspValue) (dst src : ℕ) (phase : Phase) (said : Said) (x : Link) → passes (TheLink src dst) (in_use With l) ≡ true →
        may_send With phase l ≡ true → x ≡ said_as said l →
        message_sent With true_segments t m ≡ with_in_use With (TheLink src dst) t (Err NoLink)
        (λ n k. check (may_send With phase k) LinkState (Ok (record {
          links = changed n (shows true_segments said k) t;
          truth = truth_of true_segments n (shows true_segments said k) (sends_other k.segments);
        }))) → IsSent m i x
    shown m dst src phase said x passed may is does =
        sent_changed m x (shows true_segments said l) (record {
          links = changed i (shows true_segments said l) t;
          truth = truth_of true_segments i (shows true_segments said l) (sends_other l.segments);
        })
        (does ∙ use_found (TheLink src dst) src i l (Err NoLink) _ (link_owns src dst) there passed
        ∙ passed_check (may_send With phase l) LinkState _ may) refl (shows_is said l ∙ sym is)

    pub sends : (m : NspValue) (x : Link) → Goes l m x → IsSent m i x
    sends (ConnectInitiate retransmitted src services info segsize user_data) x g =
        in_turn _ (OpenedAt src) src Calling x (opened_owns src) g.passed g.moves.0 g.moves.1 refl
    sends (ConnectAck dst) x g =
        looked (BegunBy dst) t (with_seen (in_use With) (BegunBy dst) t (Err NoLink) (λ n k. Ok none)) (λ n k. Ok (unchanged true_segments t n k))
        (message_sent With true_segments t (ConnectAck dst)) refl
        (λ missing e. sent_still (ConnectAck dst) x none (sym e
        ∙ seen (position (λ (k : Link). passes (BegunBy dst) (in_use With k)) t.links) refl) refl g.moves)
        (λ n k found e. sent_still (ConnectAck dst) x (unchanged true_segments t n k) (sym e) refl g.moves)
      where
        none : Sent TrueSegments Numbers
        none = of_no_link true_segments t

        seen : (o : Option ℕ) → position (λ (k : Link). passes (BegunBy dst) (in_use With k)) t.links ≡ o →
            with_seen (in_use With) (BegunBy dst) t (Err NoLink) (λ n k. Ok none) ≡ Ok none
        seen None e =
            let no_one = position_none (λ (k : Link). passes (BegunBy dst) (in_use With k)) t.links i l e there in
            let y : true ≡ false = sym g.passed ∙ no_one in absurd cc
        seen (Some j) e =
            let k = there_is t.links j (position_within (λ (k : Link). passes (BegunBy dst) (in_use With k)) t.links j e) in
            ap (λ (o : Option ℕ). at_number {R = Result (Sent TrueSegments Numbers) LinkRefusal} t.links o (Err NoLink) (λ n k. Ok none)) e
            ∙ ap (λ (o : Option Link). on_link {R = Result (Sent TrueSegments Numbers) LinkRefusal} j o (Err NoLink) (λ n k. Ok none)) k.1
    sends (ConnectConfirm dst src services info segsize user_data) x g =
        in_turn _ (TheLink src dst) src Confirming x (link_owns src dst) g.passed g.moves.0 g.moves.1 refl
    sends (DisconnectInitiate dst src reason user_data) x g = shown _ dst src Disconnecting Disconnect x g.passed g.moves.0 g.moves.1 refl
    sends (DataSegment segment) x g =
        let m = g.moves in
        let left = shows true_segments OfRun (late_link l m.late) in
        sent_changed (DataSegment segment) x left
        (record { links = changed i left t; truth = truth_of true_segments i left m.late.sent.known })
        (use_found (TheLink segment.srcaddr segment.dstaddr) segment.srcaddr i l (Err NoLink) _ (link_owns segment.srcaddr segment.dstaddr) there
        g.passed
        ∙ passed_check (may_send With Running l) LinkState _ m.run
        ∙ ap (λ (r : Result (Late TrueSegments Numbers) LinkRefusal). on_ok r (λ late. let a : Result (Sent TrueSegments Numbers) LinkRefusal =
        Ok (record {
          links = changed i (shows true_segments OfRun (late_link l late)) t;
          truth = truth_of true_segments i (shows true_segments OfRun (late_link l late)) late.sent.known;
        }) in a)) m.does)
        refl (shows_is OfRun (late_link l m.late) ∙ sym m.is)
    sends (DataAck dst src acks) x g =
        let m = g.moves in
        let left = shows true_segments OfRun (wide_link l m.sent) in
        sent_changed (DataAck dst src acks) x left
        (record { links = changed i left t; truth = truth_of true_segments i left m.sent.known })
        (use_found (TheLink src dst) src i l (Err NoLink) _ (link_owns src dst) there g.passed
        ∙ passed_check (may_send With Running l) LinkState _ m.run
        ∙ ap (λ (r : Result (Sending TrueSegments Numbers) LinkRefusal). on_ok r (λ sent. let a : Result (Sent TrueSegments Numbers) LinkRefusal =
        Ok (record {
          links = changed i (shows true_segments OfRun (wide_link l sent)) t;
          truth = truth_of true_segments i (shows true_segments OfRun (wide_link l sent)) sent.known;
        }) in a)) m.does)
        refl (shows_is OfRun (wide_link l m.sent) ∙ sym m.is)
    sends (LinkService interrupt dst src rest) x g = shown _ dst src Running OfRun x g.passed g.moves.0 g.moves.1 refl
    sends (OtherDataAck dst src rest) x g = shown _ dst src Running OfRun x g.passed g.moves.0 g.moves.1 refl
    sends m x g = absurd g.moves
