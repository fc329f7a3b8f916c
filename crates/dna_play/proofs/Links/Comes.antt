-- What a message that comes, other than a segment, makes of the links of an end of the player is what it makes of those that are kept.
use Rattle.dna_play.proofs.Prelude.{◌≡◌, ℕ, ◌<◌, ◌^◌, Bool, true, false, Some, Result, Ok, Err, refl, sym, ap, subst, arith, eq-eqb, List}
use Rattle.dna_play.proofs.Prelude.{slice_get, and_parts, NspValue, DataSegment, LinkService, DataAck, OtherDataAck, ConnectAck, NoOperation}
use Rattle.dna_play.proofs.Prelude.{ConnectInitiate, ConnectConfirm, DisconnectInitiate, DisconnectConfirm, LinkRefusal, CrossedLink, ended}
use Rattle.dna_play.proofs.Prelude.{Without, Phase, Called, Confirming, Running, TheLink, LiveTo, CallingAt, ActedOn, is_running, is_calling, is_at}
use Rattle.dna_play.proofs.Prelude.{is_connected, has_both, LinkOf, LinkTruth, check, with_link, begun, changed, in_phase, with_segments}
use Rattle.dna_play.proofs.Prelude.{of_partner, is_for, is_of_pair, message_arrived, confirmed, ends_link, ends_by, running, acted_on, SEGSIZE}
use Rattle.dna_play.proofs.Prelude.{TrueSegments, Numbers, takes_acks, true_segments, LinkVariables, WireSegments, acknowledged_by_all, Links}
use Rattle.dna_play.proofs.Prelude.{IsOrdered, ArrivesNear, LinkOwed, ConnectAckDuty, ConfirmDuty, DataAckDuty, nothing, with_duty, same_phase}
use Rattle.dna_play.proofs.Prelude.{unless_left, LinkEnd, StoredLinks, takes_acks_same, IsFound, ends_ok}
use Rattle.dna_links.specs.inner.Forms.{called}
use Rattle.dna_links.specs.CutSegments.{cut}
use Rattle.dna_play.specs.StoredLinks as keeping
use Rattle.dna_play.proofs.{Links.Pays.end_of, Links.Pays.running_is, Links.Fits.IsPlain}
use Rattle.dna_play.proofs.Links.Owing.{duty_fits, nothing_fits, left_fits, still_fits, still_owed}
use Rattle.dna_play.proofs.Links.Goes.{SegmentsGo, ended_goes, confirmed_goes, runs_on, stays_as_it_is, took_acks}
use Rattle.dna_play.proofs.Links.Keeps.{At, is_kept, the_link_lives, live_to_lives, calling_at_lives, acted_on_lives, look, look_both}
use Rattle.dna_play.proofs.Links.Stage.{ConfirmHolds, LinkHolds, push_holds, set_holds, end_holds, owed_holds, confirming_holds}

-- a message that is no segment
abbrev pub NoSegment : NspValue → Type 0
NoSegment (DataSegment segment) = ⊥
NoSegment m = Unit {0}

-- the DC for a DI that has come names a link that is over then
abbrev pub EndsHold : Links → (most : ℕ) → NspValue → Type 0
EndsHold s most m = (dst src reason : ℕ) (user_data : List ℕ) → m ≡ DisconnectInitiate dst src reason user_data → (code : ℕ) → code < 2 ^ 16 →
    ConfirmHolds (ends_link true_segments of_partner dst src s).links most (record { dst = src; src = dst; reason = code })

-- a link that acts on something, with what it still owes
pub acted_end : (l : LinkOf TrueSegments) (g : TrueSegments) (o : LinkOwed) (v : LinkVariables) → (cut g).variables ≡ v →
    end_of (with_segments g (in_phase Running l)) (still_owed l (with_segments g (in_phase Running l)) o) ≡ keeping.acted_on v (end_of l o)
acted_end l g o v same = ap (λ (after : LinkVariables). keeping.acted_on after (end_of l o)) same

module _ (s : Links) (most : ℕ) (kept : StoredLinks) (h : LinkHolds s.links most kept)
    (ordered : (i : ℕ) (l : LinkOf TrueSegments) → slice_get s.links i ≡ Some l → IsOrdered l.segments) (truth : LinkTruth Numbers) where
  -- where the message is not refused
  abbrev Leads : Result Links LinkRefusal → StoredLinks → Type 0
  Leads (Ok left) after = LinkHolds left.links most after
  Leads (Err refusal) after = Unit {0}

  if_right : (b : Bool) (refusal : LinkRefusal) (left : Links) (after : StoredLinks) → (b ≡ true → LinkHolds left.links most after) →
      Leads (check b refusal (Ok left)) after
  if_right true refusal left after holds = holds refl
  if_right false refusal left after holds = tt

  -- ---- CI

  call_again : (n place : ℕ) (l : LinkOf TrueSegments) (o : LinkOwed) → At l o n place s.links kept.links → (phase : Phase) →
      l.port.phase ≡ phase → LinkHolds s.links most (keeping.changed place (keeping.called_again phase (end_of l o)) kept)
  call_again n place l o at Called is =
      owed_holds s most kept h at (with_duty ConnectAckDuty true o) (duty_fits l o ConnectAckDuty is (is_kept at).owes)
  call_again n place l o at Confirming is =
      owed_holds s most kept h at (with_duty ConfirmDuty true o) (duty_fits l o ConfirmDuty is (is_kept at).owes)
  call_again n place l o at phase is = owed_holds s most kept h at o (is_kept at).owes

  call_leads : (src segsize : ℕ) → segsize ≡ SEGSIZE →
      Leads (with_link (LiveTo src) s (Ok (begun (called true_segments of_partner src segsize truth.tag) s)) (λ number link. Ok s))
      (keeping.with_end (LiveTo src) kept (keeping.begun (keeping.called src) kept)
      (λ place link. keeping.changed place (keeping.called_again link.port.phase link) kept))
  call_leads src segsize size =
      let new = called true_segments of_partner src segsize truth.tag in
      look_both (LiveTo src) (live_to_lives src) Leads s kept h.keeps _ _ _ _
      (λ none. push_holds s most kept h new (with_duty ConnectAckDuty true nothing) most (omega arith) (record {
        lives = refl;
        fits = record { shape = eq-eqb segsize SEGSIZE size; segments = record { unsent = tt; given = tt } };
        owes = duty_fits new nothing ConnectAckDuty refl (nothing_fits new);
      }) (λ confirm given e. absurd cc)) (λ n place l o found at. call_again n place l o at l.port.phase refl)

  -- ---- CC

  again_holds : (dst src : ℕ) → LinkHolds s.links most
      (keeping.with_end (TheLink dst src) kept kept
      (λ place link. keeping.changed place (keeping.confirmed_again (is_running link.port.phase) link) kept))
  again_holds dst src = look (TheLink dst src) (the_link_lives dst src) (LinkHolds s.links most) s kept h.keeps kept
      (λ place link. keeping.changed place (keeping.confirmed_again (is_running link.port.phase) link) kept) (λ none. h)
      (λ n place l o found at. go n place l o at (is_running l.port.phase) refl)
    where
      go : (n place : ℕ) (l : LinkOf TrueSegments) (o : LinkOwed) → At l o n place s.links kept.links → (b : Bool) → is_running l.port.phase ≡ b →
          LinkHolds s.links most (keeping.changed place (keeping.confirmed_again b (end_of l o)) kept)
      go n place l o at true is =
          owed_holds s most kept h at (with_duty DataAckDuty true o) (duty_fits l o DataAckDuty (running_is l.port.phase is) (is_kept at).owes)
      go n place l o at false is = owed_holds s most kept h at o (is_kept at).owes

  confirm_leads : (dst src segsize : ℕ) → segsize ≡ SEGSIZE →
      Leads (with_link (CallingAt dst) s (Ok s) (λ number link. check (of_partner (is_for number truth.tag)) CrossedLink
      (Ok (changed number (confirmed true_segments of_partner src segsize truth.tag link) s)))) (keeping.confirm_came dst src kept)
  confirm_leads dst src segsize size =
      look_both (CallingAt dst) (calling_at_lives dst) Leads s kept h.keeps _ _ _ _ (λ none. again_holds dst src) (λ n place l o found at.
      let k = confirmed true_segments of_partner src segsize truth.tag l in
      let owed = unless_left (same_phase l.port.phase Running) o in
      if_right _ CrossedLink (changed n k s) _ (λ right. set_holds s most kept h at k (with_duty DataAckDuty true owed) most (omega arith)
      (confirmed_goes most l of_partner src segsize truth.tag size (and_parts (is_calling l.port.phase) (is_at l.port.own dst) found.passed).0) refl
      (duty_fits k owed DataAckDuty refl (left_fits l k o (ordered n l found.there) refl (is_kept at).owes))))

  -- ---- DI, DC

  -- where this is left if no link ends, and that if one does
  module _ (dst src : ℕ) (none_kept : StoredLinks) (then_owes : StoredLinks → StoredLinks) where
    abbrev EndsAs : Links → StoredLinks → Type 0
    EndsAs left after = left ≡ ends_link true_segments of_partner dst src s → LinkHolds left.links most after

    ends_hold : EndsAs s none_kept → ((left : Links) (after : StoredLinks) → LinkHolds left.links most after → EndsAs left (then_owes after)) →
        LinkHolds (ends_link true_segments of_partner dst src s).links most (keeping.ends_link dst src none_kept then_owes kept)
    ends_hold none one =
        look_both (TheLink dst src) (the_link_lives dst src) EndsAs s kept h.keeps _ _ _ _ (λ no.
        look_both (CallingAt dst) (calling_at_lives dst) EndsAs s kept h.keeps _ _ _ _ (λ no. none) (λ n place l o found at. over n place l o at))
        (λ n place l o found at. over n place l o at) refl
      where
        over : (n place : ℕ) (l : LinkOf TrueSegments) (o : LinkOwed) → At l o n place s.links kept.links →
            EndsAs (changed n (ended true_segments l) s) (then_owes (keeping.ended place kept))
        over n place l o at = one (changed n (ended true_segments l) s) (keeping.ended place kept)
            (end_holds s most kept h at (ended true_segments l) (ended_goes most l) refl)

  ends_lead : (dst src : ℕ) (after : StoredLinks) → LinkHolds (ends_link true_segments of_partner dst src s).links most after →
      Leads (ends_by true_segments of_partner dst src s) after
  ends_lead dst src after holds = subst (λ (r : Result Links LinkRefusal). Leads r after) (sym (ends_ok true_segments of_partner dst src s)) holds

  -- ---- what is acted on

  acts_lead : (own far : ℕ) (takes : LinkOf TrueSegments → TrueSegments) (change : LinkEnd → LinkEnd) →
      ((l : LinkOf TrueSegments) → SegmentsGo l.segments (takes l)) →
      ((n : ℕ) (l : LinkOf TrueSegments) (o : LinkOwed) → IsFound (ActedOn own far) s n l → of_partner (is_of_pair n l.partner truth.tag) ≡ true →
      end_of (running true_segments of_partner takes l) (still_owed l (running true_segments of_partner takes l) o) ≡ change (end_of l o)) →
      Leads (acted_on true_segments of_partner own far truth.tag takes s) (keeping.acts own far change kept)
  acts_lead own far takes change goes same =
      look_both (ActedOn own far) (acted_on_lives own far) Leads s kept h.keeps _ _ _ _ (λ none. h) (λ n place l o found at.
      let k = running true_segments of_partner takes l in
      let on = runs_on most l (takes l) (and_parts (is_connected l.port.phase) (has_both l.port own far) found.passed).0 (goes l) in
      if_right _ CrossedLink (changed n k s) (keeping.changed place (change (end_of l o)) kept) (λ right.
      rw (← same n l o found right)
      (set_holds s most kept h at k (still_owed l k o) most (omega arith) on refl
      (still_fits l k o (ordered n l found.there) (on.moves (ordered n l found.there)) (is_kept at).owes))))

  other_leads : (own far : ℕ) → Leads (acted_on true_segments of_partner own far truth.tag (λ link. link.segments) s)
      (keeping.acts own far (λ link. keeping.acted_on link.variables link) kept)
  other_leads own far = acts_lead own far (λ link. link.segments) (λ link. keeping.acted_on link.variables link) (λ l. stays_as_it_is l.segments)
      (λ n l o found pair. acted_end l l.segments o (cut l.segments).variables refl)

  -- ---- by message

  leads : (m : NspValue) → NoSegment m → IsPlain m → EndsHold s most m → ArrivesNear of_partner s m truth →
      Leads (message_arrived Without true_segments of_partner s m truth) (keeping.message_came m kept)
  leads (ConnectInitiate retransmitted src services info segsize user_data) is plain ends near = call_leads src segsize plain
  leads (ConnectAck dst) is plain ends near = h
  leads (NoOperation rest) is plain ends near = h
  leads (ConnectConfirm dst src services info segsize user_data) is plain ends near = confirm_leads dst src segsize plain
  leads (DisconnectInitiate dst src reason user_data) is plain ends near =
      ends_lead dst src _ (ends_hold dst src (keeping.confirming src dst 41 kept) (keeping.confirming src dst 42)
      (one_confirms 41 (omega arith) s kept h) (one_confirms 42 (omega arith)))
    where
      one_confirms : (code : ℕ) → code < 2 ^ 16 → (left : Links) (after : StoredLinks) → LinkHolds left.links most after →
          left ≡ ends_link true_segments of_partner dst src s → LinkHolds left.links most (keeping.confirming src dst code after)
      one_confirms code small left after l e = confirming_holds left most after l src dst code
          (rw e (ends dst src reason user_data refl code small))
  leads (DisconnectConfirm dst src reason) is plain ends near =
      ends_lead dst src _ (ends_hold dst src kept keeping.no_more (λ e. h) (λ left after l e. l))
  leads (DataAck dst src acks) is plain ends near =
      acts_lead dst src (λ link. takes_acks acks truth.known link.segments) (keeping.took_acks acks) (λ l. took_acks l.segments truth.known)
      (λ n l o found pair.
      let m = near n l found.there found.passed pair in
      acted_end l (takes_acks acks truth.known l.segments) o (acknowledged_by_all acks (cut l.segments).variables)
      (ap (λ (w : WireSegments). w.variables) (takes_acks_same acks truth.known l.segments (ordered n l found.there) m.0 m.1)))
  leads (LinkService interrupt dst src rest) is plain ends near = other_leads dst src
  leads (OtherDataAck dst src rest) is plain ends near = other_leads dst src
  leads (DataSegment segment) is plain ends near = absurd is

  pub message_holds : (left : Links) (m : NspValue) → NoSegment m → IsPlain m → EndsHold s most m → ArrivesNear of_partner s m truth →
      message_arrived Without true_segments of_partner s m truth ≡ Ok left → LinkHolds left.links most (keeping.message_came m kept)
  message_holds left m is plain ends near e =
      subst (λ (r : Result Links LinkRefusal). Leads r (keeping.message_came m kept)) e (leads m is plain ends near)
