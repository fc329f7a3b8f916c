-- A link of the node with queues: what it may send, what it is seen as, and what acting on a packet makes of it.
use Rattle.dna_queues.proofs.Prelude.{◌≡◌, ℕ, ◌-◌, ◌≤◌, Bool, true, false, ◌||◌, cond, Option, Some, None, [], refl, sym, ap, ◌∙◌, subst, and_parts}
use Rattle.dna_queues.proofs.Prelude.{cond_both, NspValue, DataSegment, LinkService, DataAck, OtherDataAck, ConnectConfirm, DisconnectInitiate}
use Rattle.dna_queues.proofs.Prelude.{DisconnectConfirm, Phase, Calling, Confirming, Running, Disconnecting, Ended, TheLink, CallingAt, ActedOn}
use Rattle.dna_queues.proofs.Prelude.{Said, Nothing, OfRun, Disconnect, passes, is_in, is_live, is_at, is_calling, is_called, is_connected}
use Rattle.dna_queues.proofs.Prelude.{has_both, piece_of, hold, LinkOf, LinkTruth, is_silent, is_over, TrueSegments, Numbers, takes_segment}
use Rattle.dna_queues.proofs.Prelude.{takes_acks, AreAtMost, LateSegments, over}
use Rattle.dna_queues.proofs.{Goes.Link, Came.acks_taken, Facts.no_case, Facts.no_other}
use Rattle.dna_queues.proofs.Ahead.{Seen, confirmed_if, ended_if, ran_if, taken_if, acted_as, takes_numbers}

abbrev pub LateLink : Type 0
LateLink = LinkOf LateSegments

-- how far a link in this phase has come in what it may still compose
abbrev pub level : Phase → Said
level Running = OfRun
level Disconnecting = Disconnect
level Ended = Disconnect
level phase = Nothing

-- the link as one of the machine for which nothing waits
abbrev pub lift : LateLink → Link
lift h = record {
  port = h.port;
  partner = h.partner;
  segsize = h.segsize;
  segments = h.segments.segments;
  queue = record {
    waits = None;
    ran = is_in Running h.port.phase;
    accepted = is_in Confirming h.port.phase;
    said = level h.port.phase;
    gap = h.segments.gap;
  };
}

abbrev pub seen_as : Phase → LateLink → Seen
seen_as used h =
    record { port = h.port; partner = h.partner; segsize = h.segsize; received = h.segments.segments.received; used = used }

-- ---- one packet is acted on

abbrev pub confirmed_late : (far size : ℕ) → Option ℕ → LateLink → LateLink
confirmed_late far size partner h = record h { port = record h.port { phase = Running; far = Some far }; partner = partner; segsize = size }

abbrev pub ended_late : LateLink → LateLink
ended_late h = record h { port = record h.port { phase = Ended } }

abbrev pub run_late : TrueSegments → LateLink → LateLink
run_late f h = record h { port = record h.port { phase = Running }; segments = over h.segments f }

abbrev pub acts_as : NspValue → LinkTruth Numbers → LateLink → LateLink
acts_as (ConnectConfirm dst src services info segsize user_data) truth h =
    cond (passes (CallingAt dst) h.port) (confirmed_late src segsize truth.tag.link h) h
acts_as (DisconnectInitiate dst src reason user_data) truth h =
    cond (passes (TheLink dst src) h.port || passes (CallingAt dst) h.port) (ended_late h) h
acts_as (DisconnectConfirm dst src reason) truth h = cond (passes (TheLink dst src) h.port || passes (CallingAt dst) h.port) (ended_late h) h
acts_as (DataSegment s) truth h =
    cond (passes (ActedOn s.dstaddr s.srcaddr) h.port) (run_late (takes_segment s truth.known h.segments.segments) h) h
acts_as (DataAck dst src acks) truth h =
    cond (passes (ActedOn dst src) h.port) (run_late (takes_acks acks truth.known h.segments.segments) h) h
acts_as (LinkService interrupt dst src rest) truth h = cond (passes (ActedOn dst src) h.port) (run_late h.segments.segments h) h
acts_as (OtherDataAck dst src rest) truth h = cond (passes (ActedOn dst src) h.port) (run_late h.segments.segments h) h
acts_as m truth h = h

-- what of a link acting on a packet leaves as it was, or does not begin
pub record Acts (m : NspValue) (truth : LinkTruth Numbers) (h k : LateLink) : Type 0 where
  pub own : k.port.own ≡ h.port.own
  pub opened : k.port.opened ≡ h.port.opened
  pub live : is_live k.port.phase ≡ true → is_live h.port.phase ≡ true
  pub closing : is_in Disconnecting k.port.phase ≡ true → is_in Disconnecting h.port.phase ≡ true
  pub confirming : is_in Confirming k.port.phase ≡ true → is_in Confirming h.port.phase ≡ true
  pub called : is_called k.port.phase ≡ true → is_called h.port.phase ≡ true
  pub silent : is_silent (level k.port.phase) ≡ true → is_silent (level h.port.phase) ≡ true
  pub is_not_over : is_over (level k.port.phase) ≡ false → is_over (level h.port.phase) ≡ false
  pub given : k.segments.segments.given ≡ h.segments.segments.given
  pub last : k.segments.segments.last ≡ h.segments.segments.last
  pub unsent : k.segments.segments.unsent ≡ h.segments.segments.unsent
  pub passed : k.segments.segments.passed ≡ h.segments.segments.passed
  pub gap : k.segments.gap ≡ h.segments.gap
  pub within : (high : ℕ) → h.segments.segments.acknowledged ≤ high →
      (takes_numbers m h.port ≡ true → AreAtMost high truth.known.acknowledgements) → k.segments.segments.acknowledged ≤ high

pub record ActsOn (m : NspValue) (truth : LinkTruth Numbers) (used : Phase) (h k : LateLink) : Type 0 where
  pub then_used : Phase
  pub of_use : is_live k.port.phase ≡ true → then_used ≡ k.port.phase
  pub seen : acted_as m truth (seen_as used h) ≡ seen_as then_used k
  pub fresh : is_calling k.port.phase ≡ true → k.port.far ≡ None
  pub acts : Acts m truth h k
  pub open acts use *

module _ (used : Phase) (h : LateLink) (of_use : is_live h.port.phase ≡ true → used ≡ h.port.phase)
    (fresh : is_calling h.port.phase ≡ true → h.port.far ≡ None) where
  acts_still : (m : NspValue) (truth : LinkTruth Numbers) → acted_as m truth (seen_as used h) ≡ seen_as used h → ActsOn m truth used h h
  acts_still m truth same = record { then_used = used; of_use = of_use; seen = same; fresh = fresh; acts = assumption }

  acts_ended : (m : NspValue) (truth : LinkTruth Numbers) → acted_as m truth (seen_as used h) ≡ ended_if true (seen_as used h) →
      ActsOn m truth used h (ended_late h)
  acts_ended m truth ends =
      record { then_used = used; of_use = λ e. absurd cc; seen = ends; fresh = λ e. absurd cc; acts = search (no_case, no_other) }

  may_run : (p : Phase) → (is_in Calling p || is_connected p) ≡ true → (is_live p ≡ true) × (is_over (level p) ≡ false)
  may_run Calling e = (refl, refl)
  may_run Confirming e = (refl, refl)
  may_run Running e = (refl, refl)
  may_run p e = absurd cc

  acts_run : (m : NspValue) (truth : LinkTruth Numbers) (k : LateLink) → (is_in Calling h.port.phase || is_connected h.port.phase) ≡ true →
      k.port.phase ≡ Running → acted_as m truth (seen_as used h) ≡ seen_as Running k → k.port.own ≡ h.port.own → k.port.opened ≡ h.port.opened →
      k.segments.gap ≡ h.segments.gap → (most : ℕ) →
      record k.segments.segments { received = []; acknowledged = 0 } ≡ record h.segments.segments { received = []; acknowledged = 0 } →
      k.segments.segments.acknowledged ≡ most → ((high : ℕ) → h.segments.segments.acknowledged ≤ high →
      (takes_numbers m h.port ≡ true → AreAtMost high truth.known.acknowledgements) → most ≤ high) →
      ActsOn m truth used h k
  acts_run m truth k may run seen own opened gap most same is within =
      let r = may_run h.port.phase may in
      record {
        then_used = Running;
        of_use = λ e. sym run;
        seen = seen;
        fresh = λ e. absurd (run_is_not is_calling refl e);
        acts = record {
          own = own;
          opened = opened;
          live = λ e. r.0;
          closing = λ e. absurd (run_is_not (is_in Disconnecting) refl e);
          confirming = λ e. absurd (run_is_not (is_in Confirming) refl e);
          called = λ e. absurd (run_is_not is_called refl e);
          silent = λ e. absurd (run_is_not (λ p. is_silent (level p)) refl e);
          is_not_over = λ e. r.1;
          given = ap (λ (f : TrueSegments). f.given) same;
          last = ap (λ (f : TrueSegments). f.last) same;
          unsent = ap (λ (f : TrueSegments). f.unsent) same;
          passed = ap (λ (f : TrueSegments). f.passed) same;
          gap = gap;
          within = λ high low taken. subst (λ (n : ℕ). n ≤ high) (sym is) (within high low taken);
        };
      }
    where
      run_is_not : (test : Phase → Bool) → test Running ≡ false → test k.port.phase ≡ true → ⊥
      run_is_not test never so = let same : true ≡ false = sym so ∙ ap test run ∙ never in absurd cc

  acts_if : (m : NspValue) (truth : LinkTruth Numbers) (k : LateLink) (c : Bool) → (c ≡ true → ActsOn m truth used h k) →
      (c ≡ false → ActsOn m truth used h h) → ActsOn m truth used h (cond c k h)
  acts_if m truth k c some none = cond_both c k h (λ x. ActsOn m truth used h x) some none

  or_connected : (own far : ℕ) → passes (ActedOn own far) h.port ≡ true → (is_in Calling h.port.phase || is_connected h.port.phase) ≡ true
  or_connected own far e = go h.port.phase (and_parts (is_connected h.port.phase) (has_both h.port own far) e).0
    where
      go : (p : Phase) → is_connected p ≡ true → (is_in Calling p || is_connected p) ≡ true
      go Confirming e = refl
      go Running e = refl
      go p e = absurd cc

  or_calling : (own : ℕ) → passes (CallingAt own) h.port ≡ true → (is_in Calling h.port.phase || is_connected h.port.phase) ≡ true
  or_calling own e = go h.port.phase (and_parts (is_in Calling h.port.phase) (is_at h.port.own own) e).0
    where
      go : (p : Phase) → is_in Calling p ≡ true → (is_in Calling p || is_connected p) ≡ true
      go Calling e = refl
      go p e = absurd cc

  pub acts_on : (m : NspValue) (truth : LinkTruth Numbers) → ActsOn m truth used h (acts_as m truth h)
  acts_on (ConnectConfirm dst src services info segsize user_data) truth =
      acts_if _ truth (confirmed_late src segsize truth.tag.link h) (passes (CallingAt dst) h.port)
      (λ e. acts_run _ truth (confirmed_late src segsize truth.tag.link h) (or_calling dst e) refl
      (ap (λ (b : Bool). confirmed_if b src segsize truth.tag.link (seen_as used h)) e) refl refl refl h.segments.segments.acknowledged refl refl
      (λ high low taken. low))
      (λ e. acts_still _ truth (ap (λ (b : Bool). confirmed_if b src segsize truth.tag.link (seen_as used h)) e))
  acts_on (DisconnectInitiate dst src reason user_data) truth =
      acts_if _ truth (ended_late h) (passes (TheLink dst src) h.port || passes (CallingAt dst) h.port)
      (λ e. acts_ended _ truth (ap (λ (b : Bool). ended_if b (seen_as used h)) e))
      (λ e. acts_still _ truth (ap (λ (b : Bool). ended_if b (seen_as used h)) e))
  acts_on (DisconnectConfirm dst src reason) truth =
      acts_if _ truth (ended_late h) (passes (TheLink dst src) h.port || passes (CallingAt dst) h.port)
      (λ e. acts_ended _ truth (ap (λ (b : Bool). ended_if b (seen_as used h)) e))
      (λ e. acts_still _ truth (ap (λ (b : Bool). ended_if b (seen_as used h)) e))
  acts_on (DataSegment s) truth =
      let f = h.segments.segments in
      let t = acks_taken f truth.known.acknowledgements in
      let place = truth.known.segment - 1 in
      acts_if _ truth (run_late (takes_segment s truth.known f) h) (passes (ActedOn s.dstaddr s.srcaddr) h.port)
      (λ e. acts_run _ truth (run_late (takes_segment s truth.known f) h) (or_connected s.dstaddr s.srcaddr e) refl
      (ap (λ (b : Bool). taken_if b s truth.known (seen_as used h)) e
      ∙ ap (λ (g : TrueSegments). seen_as Running (run_late (record g { received = hold place (piece_of s) g.received }) h))
      (sym t.is))
      refl refl refl t.most
      (ap (λ (g : TrueSegments). record g { received = []; acknowledged = 0 }) t.is) (ap (λ (g : TrueSegments). g.acknowledged) t.is)
      (λ high low taken. t.within high low (taken e)))
      (λ e. acts_still _ truth (ap (λ (b : Bool). taken_if b s truth.known (seen_as used h)) e))
  acts_on (DataAck dst src acks) truth =
      let f = h.segments.segments in
      let t = acks_taken f truth.known.acknowledgements in
      acts_if _ truth (run_late (takes_acks acks truth.known f) h) (passes (ActedOn dst src) h.port)
      (λ e. acts_run _ truth (run_late (takes_acks acks truth.known f) h) (or_connected dst src e) refl
      (ap (λ (b : Bool). ran_if b (seen_as used h)) e ∙ ap (λ (g : TrueSegments). seen_as Running (run_late g h)) (sym t.is))
      refl refl refl t.most
      (ap (λ (g : TrueSegments). record g { received = []; acknowledged = 0 }) t.is) (ap (λ (g : TrueSegments). g.acknowledged) t.is)
      (λ high low taken. t.within high low (taken e)))
      (λ e. acts_still _ truth (ap (λ (b : Bool). ran_if b (seen_as used h)) e))
  acts_on (LinkService interrupt dst src rest) truth =
      acts_if _ truth (run_late h.segments.segments h) (passes (ActedOn dst src) h.port)
      (λ e. acts_run _ truth (run_late h.segments.segments h) (or_connected dst src e) refl (ap (λ (b : Bool). ran_if b (seen_as used h)) e)
      refl refl refl h.segments.segments.acknowledged refl refl (λ high low taken. low))
      (λ e. acts_still _ truth (ap (λ (b : Bool). ran_if b (seen_as used h)) e))
  acts_on (OtherDataAck dst src rest) truth =
      acts_if _ truth (run_late h.segments.segments h) (passes (ActedOn dst src) h.port)
      (λ e. acts_run _ truth (run_late h.segments.segments h) (or_connected dst src e) refl (ap (λ (b : Bool). ran_if b (seen_as used h)) e)
      refl refl refl h.segments.segments.acknowledged refl refl (λ high low taken. low))
      (λ e. acts_still _ truth (ap (λ (b : Bool). ran_if b (seen_as used h)) e))
  acts_on m truth = acts_still _ truth refl
