-- A link of the machine as the node with queues has it, and the messages that it composes then.
use Rattle.dna_queues.proofs.Prelude.{◌≡◌, ℕ, true, false, Some, Result, Ok, Err, refl, sym, ap, ◌∙◌, subst, slice_get, NspValue, DataSegment}
use Rattle.dna_queues.proofs.Prelude.{LinkService, DataAck, OtherDataAck, ConnectAck, ConnectInitiate, ConnectConfirm, DisconnectInitiate}
use Rattle.dna_queues.proofs.Prelude.{LinkRefusal, NoLink, LinkState, Phase, Calling, Confirming, Running, Disconnecting, Port, LinkTest, TheLink}
use Rattle.dna_queues.proofs.Prelude.{OpenedAt, Without, With, passes, is_in, is_called, Sending, Late, LinkOf, check, with_link, changed}
use Rattle.dna_queues.proofs.Prelude.{with_segments, in_use, fresh, on_ok, truth_of, unchanged, Sent, message_sent, TrueSegments, Numbers, IsFound}
use Rattle.dna_queues.proofs.Prelude.{LateSegments, late_segments, late_sent, acks_sent, Links}
use Rattle.dna_queues.proofs.Facts.{passed_check}
use Rattle.dna_queues.proofs.Goes.{Link, phase_of, Goes, node_port, uncalled_use}
use Rattle.dna_queues.proofs.LinkLists.{still_set, IsUnique, IsSet, set_changed, found_one, at_found}
use Rattle.dna_queues.proofs.Sending.{Owns, link_owns, opened_owns}
use Rattle.dna_queues.proofs.Turns.{asks, is_now, is_in_same}

abbrev pub LateLink : Type 0
LateLink = LinkOf LateSegments

abbrev pub hide : Link → LateLink
hide l = record {
  port = node_port l;
  partner = l.partner;
  segsize = l.segsize;
  segments = record { segments = l.segments; gap = l.queue.gap };
  queue = fresh;
}

module _ (s : Links) (unique : IsUnique s) (i : ℕ) (l : Link) (there : slice_get s.links i ≡ Some (hide l)) where
  pub record ComposesNow (m : NspValue) (x : Link) : Type 0 where
    pub made : Sent LateSegments Numbers
    pub does : message_sent Without late_segments s m ≡ Ok made
    pub set : IsSet s made.links i (hide x)
    pub tag : made.truth.tag.link ≡ Some i

  pub found : (test : LinkTest) (own : ℕ) → Owns test own → passes test (node_port l) ≡ true → IsFound test s i (hide l)
  found test own owns passed = record {
    found = found_one s unique test own i (hide l) owns there passed;
    there = there;
    passed = passed;
  }

  -- a link whose phase stands, which is not Called, is at the node by its port in use
  stands_use : (phase : Phase) → is_called phase ≡ false → is_in phase (phase_of l) ≡ true → node_port l ≡ in_use With l
  stands_use phase uncalled stands = uncalled_use l (ap is_called (is_in_same phase (phase_of l) stands) ∙ uncalled)

  -- one that changes nothing
  stays : (m : NspValue) (x : Link) (test : LinkTest) (own : ℕ) (phase : Phase) → is_called phase ≡ false → Owns test own →
      message_sent Without late_segments s m ≡ with_link test s (Err NoLink)
      (λ n h. check (is_in phase h.port.phase) LinkState (Ok (unchanged late_segments s n h))) →
      passes test (in_use With l) ≡ true → is_in phase (phase_of l) ≡ true → hide x ≡ hide l → ComposesNow m x
  stays m x test own phase uncalled owns row passed stands same = record {
    made = unchanged late_segments s i (hide l);
    does = row ∙ at_found test s i (hide l) _ _ (found test own owns (ap (passes test) (stands_use phase uncalled stands) ∙ passed))
        ∙ passed_check (is_in phase (node_port l).phase) LinkState _ (ap (λ (p : Port). is_in phase p.phase) (stands_use phase uncalled stands)
        ∙ stands);
    set = subst (λ (y : LateLink). IsSet s s i y) (sym same)
        (still_set _ _ _ there);
    tag = refl;
  }

  -- one with numbers
  carries : (m : NspValue) (x : Link) (src dst : ℕ) (does : LateLink → Result (Sending LateSegments Numbers) LinkRefusal)
      (sent : Sending LateSegments Numbers) →
      message_sent Without late_segments s m ≡ with_link (TheLink src dst) s (Err NoLink) (λ n h. check (is_in Running h.port.phase) LinkState
      (on_ok (does h) (λ sent. let a : Result (Sent LateSegments Numbers) LinkRefusal = Ok (record {
        links = changed n (with_segments sent.segments h) s;
        truth = truth_of late_segments n h sent.known;
      }) in a))) →
      passes (TheLink src dst) (in_use With l) ≡ true → is_in Running (phase_of l) ≡ true → does (hide l) ≡ Ok sent →
      hide x ≡ with_segments sent.segments (hide l) → ComposesNow m x
  carries m x src dst does sent row passed stands so same = record {
    made = record {
      links = changed i (with_segments sent.segments (hide l)) s;
      truth = truth_of late_segments i (hide l) sent.known;
    };
    does = row ∙ at_found (TheLink src dst) s i (hide l) _ _ (found (TheLink src dst) src (link_owns src dst)
        (ap (passes (TheLink src dst)) (stands_use Running refl stands) ∙ passed))
        ∙ passed_check (is_in Running (node_port l).phase) LinkState _
        (ap (λ (p : Port). is_in Running p.phase) (stands_use Running refl stands) ∙ stands)
        ∙ ap (λ (r : Result (Sending LateSegments Numbers) LinkRefusal). on_ok r (λ sent. let a : Result (Sent LateSegments Numbers) LinkRefusal =
        Ok (record {
          links = changed i (with_segments sent.segments (hide l)) s;
          truth = truth_of late_segments i (hide l) sent.known;
        }) in a)) so;
    set = subst (λ (y : LateLink). IsSet s (changed i (with_segments sent.segments (hide l)) s) i y) (sym same)
        (set_changed s i (hide l) (with_segments sent.segments (hide l)) there);
    tag = refl;
  }

  pub composes_now : (m : NspValue) (x : Link) (phase : Phase) → asks m ≡ Some phase → Goes l m x → is_now (asks m) (phase_of l) ≡ true →
      ComposesNow m x
  composes_now (ConnectInitiate retransmitted src services info segsize user_data) x phase is g stands =
      stays _ x (OpenedAt src) src Calling refl (opened_owns src) refl g.passed stands (ap hide g.moves.1)
  composes_now (ConnectAck dst) x phase is g stands = absurd cc
  composes_now (ConnectConfirm dst src services info segsize user_data) x phase is g stands =
      stays _ x (TheLink src dst) src Confirming refl (link_owns src dst) refl g.passed stands (ap hide g.moves.1)
  composes_now (DisconnectInitiate dst src reason user_data) x phase is g stands =
      stays _ x (TheLink src dst) src Disconnecting refl (link_owns src dst) refl g.passed stands (ap hide g.moves.1)
  composes_now (DataSegment segment) x phase is g stands =
      let m = g.moves in
      carries (DataSegment segment) x segment.srcaddr segment.dstaddr (λ h. late_segments.sends_segment h.segsize segment h.segments)
      (late_sent m.late) refl g.passed stands
      (ap (λ (r : Result (Late TrueSegments Numbers) LinkRefusal). on_ok r (λ late. let a : Result (Sending LateSegments Numbers) LinkRefusal =
      Ok (late_sent late) in a)) m.does)
      (ap hide m.is)
  composes_now (DataAck dst src acks) x phase is g stands =
      let m = g.moves in
      carries (DataAck dst src acks) x src dst (λ h. late_segments.sends_acks acks h.segments) (acks_sent (hide l).segments m.sent) refl g.passed
      stands
      (ap (λ (r : Result (Sending TrueSegments Numbers) LinkRefusal). on_ok r (λ sent. let a : Result (Sending LateSegments Numbers) LinkRefusal =
      Ok (acks_sent (hide l).segments sent) in a)) m.does)
      (ap hide m.is)
  composes_now (LinkService interrupt dst src rest) x phase is g stands =
      stays _ x (TheLink src dst) src Running refl (link_owns src dst) refl g.passed stands (ap hide g.moves.1)
  composes_now (OtherDataAck dst src rest) x phase is g stands =
      stays _ x (TheLink src dst) src Running refl (link_owns src dst) refl g.passed stands (ap hide g.moves.1)
  composes_now m x phase is g stands = absurd g.moves
