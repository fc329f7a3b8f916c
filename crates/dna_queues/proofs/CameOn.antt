-- By what comes for it a link of the machine comes further, and is met as before.
use Rattle.dna_queues.proofs.Prelude.{◌≡◌, ℕ, ◌-◌, ◌≤◌, Bool, true, false, ◌||◌, cond, Option, Some, None, List, [], ◌∷◌, ◌++◌, fold, refl, sym, ap}
use Rattle.dna_queues.proofs.Prelude.{◌∙◌, subst, arith, inl, inr, and_parts, cond_both, or_cases, NspValue, DataSegment, LinkService, DataAck}
use Rattle.dna_queues.proofs.Prelude.{OtherDataAck, ConnectConfirm, DisconnectInitiate, DisconnectConfirm, Phase, Calling, Confirming, Running}
use Rattle.dna_queues.proofs.Prelude.{Disconnecting, Ended, Port, TheLink, CallingAt, ActedOn, passes, is_in, is_live, is_at, is_connected}
use Rattle.dna_queues.proofs.Prelude.{has_both, Piece, piece_of, hold, in_order, LinkTruth, port_of_waiting, IsAnswered, TrueSegments, Numbers}
use Rattle.dna_queues.proofs.Prelude.{takes_segment, takes_acks, acknowledged_through, SentMessage, AreAtMost}
use Rattle.dna_queues.proofs.{Facts.not_both, Words.Grown, Goes.Link, Goes.phase_of, WaitsToGo.grown_itself}
use Rattle.dna_queues.proofs.Pieces.{Below, below_itself, below_hold, below_order}
use Rattle.dna_queues.proofs.Ahead.{Seen, confirmed_if, ended_if, acted, takes_numbers, Meets, Ahead, is_open, at_most_more, none_at}
use Rattle.dna_queues.proofs.Came.{acks_taken, Fits, live_phase, confirmed_link, ended_link, run_link}
use Rattle.dna_queues.proofs.Came.{came_as, came, AreNearHere, ComesOn, comes_still}

module _ (l : Link) (fits : Fits l) where
  -- it ends
  comes_ended : (unit : SentMessage) → takes_numbers unit.packet.message l.port ≡ false → is_live l.port.phase ≡ true →
      ((a : Seen) → a.port ≡ l.port → acted unit a ≡ ended_if true a) → ComesOn unit l (ended_link l)
  comes_ended unit none live ends = record {
    fits = record {
      waits = λ e. absurd cc;
      ran = λ e. fits.ran (ap (is_in Running) (live_phase l fits live) ∙ e);
      calling = λ e. absurd cc;
    };
    grows = λ answered. let segments = grown_itself l.segments answered in
        let closing : is_in Disconnecting (phase_of l) ≡ true → is_in Disconnecting l.port.phase ≡ true =
        λ e. ap (is_in Disconnecting) (sym (live_phase l fits live)) ∙ e in assumption (segments, closing);
    acknowledged = omega arith;
    passed = refl;
    accepted = refl;
    own = refl;
    live = λ e. live;
    meets = λ a meets. (
      λ taken. absurd (not_both _ (ap (takes_numbers unit.packet.message) (sym meets.port) ∙ taken) none),
      subst (λ (b : Seen). Meets b (ended_link l)) (sym (ends a meets.port)) (record {
        port = ap (λ (p : Port). record p { phase = Ended }) meets.port;
        partner = meets.partner;
        segsize = meets.segsize;
        received = meets.received;
        exact = λ e. absurd cc;
        used = λ e. meets.used (ap is_live (live_phase l fits live) ∙ live) ∙ live_phase l fits live;
      }),
    );
  }

  calling_live : (p : Phase) → is_in Calling p ≡ true → (is_live p ≡ true) × (is_in Disconnecting p ≡ false) × (is_open p ≡ true)
  calling_live Calling e = (refl, refl, refl)
  calling_live p e = absurd cc

  connected_live : (p : Phase) → is_connected p ≡ true → (is_live p ≡ true) × (is_in Disconnecting p ≡ false) × (is_open p ≡ true)
  connected_live Confirming e = (refl, refl, refl)
  connected_live Running e = (refl, refl, refl)
  connected_live p e = absurd cc

  -- it is confirmed
  comes_confirmed : (unit : SentMessage) (far size : ℕ) → takes_numbers unit.packet.message l.port ≡ false → is_in Calling l.port.phase ≡ true →
      ((a : Seen) → a.port ≡ l.port → acted unit a ≡ confirmed_if true far size unit.truth.tag.link a) →
      ComesOn unit l (confirmed_link far size unit.truth.tag.link l)
  comes_confirmed unit far size none calling confirms =
      let c = calling_live l.port.phase calling in
      let running : phase_of (confirmed_link far size unit.truth.tag.link l) ≡ Running =
      ap (λ (w : Option Phase). (port_of_waiting w (record l.port { phase = Running; far = Some far })).phase) (fits.waits c.0) in
      let k = confirmed_link far size unit.truth.tag.link l in
      record {
        fits = record { waits = λ e. fits.waits c.0; ran = λ e. refl; calling = λ e. absurd cc };
        grows = λ answered. let segments = grown_itself l.segments answered in let usable = ap is_live running in
            let far_too : (n : ℕ) → is_at l.port.far n ≡ true → is_at (Some far) n ≡ true =
            λ n at. absurd (none_at l.port.far n (fits.calling calling).0 at) in
            let closing : is_in Disconnecting (phase_of l) ≡ true → is_in Disconnecting (phase_of k) ≡ true =
            λ e. absurd (not_both _ (ap (is_in Disconnecting) (sym (live_phase l fits c.0)) ∙ e) c.1) in
            let segsize : l.queue.ran ≡ true → size ≡ l.segsize = λ e. absurd (not_both _ e (fits.calling calling).1) in
            assumption (segments, usable, far_too, closing, segsize);
        acknowledged = omega arith;
        passed = refl;
        accepted = refl;
        own = refl;
        live = λ e. ap is_live running;
        meets = λ a meets. (
          λ taken. absurd (not_both _ (ap (takes_numbers unit.packet.message) (sym meets.port) ∙ taken) none),
          subst (λ (b : Seen). Meets b k) (sym (confirms a meets.port)) (record {
            port = ap (λ (p : Port). record p { phase = Running; far = Some far }) meets.port;
            partner = refl;
            segsize = refl;
            received = meets.received;
            exact = λ e. meets.exact c.2;
            used = λ e. sym running;
          }),
        );
      }

  -- it goes on in RUN
  comes_run : (unit : SentMessage) (f : TrueSegments) (received : Seen → List (Option Piece)) → is_connected l.port.phase ≡ true →
      (IsAnswered f → Grown None l.segments f) → f.passed ≡ l.segments.passed → l.segments.acknowledged ≤ f.acknowledged →
      ((a : Seen) → a.port ≡ l.port → acted unit a ≡ record a { port = record a.port { phase = Running }; used = Running; received = received a }) →
      ((a : Seen) → a.received ≡ l.segments.received → received a ≡ f.received) →
      (takes_numbers unit.packet.message l.port ≡ true → AreAtMost f.acknowledged unit.truth.known.acknowledgements) → ComesOn unit l (run_link f l)
  comes_run unit f received connected grown passed more runs same taken =
      let c = connected_live l.port.phase connected in
      let k = run_link f l in
      let running : phase_of k ≡ Running =
      ap (λ (w : Option Phase). (port_of_waiting w (record l.port { phase = Running })).phase) (fits.waits c.0) in
      record {
        fits = record { waits = λ e. fits.waits c.0; ran = λ e. refl; calling = λ e. absurd cc };
        grows = λ answered. let segments = grown answered in let usable = ap is_live running in
            let closing : is_in Disconnecting (phase_of l) ≡ true → is_in Disconnecting (phase_of k) ≡ true =
            λ e. absurd (not_both _ (ap (is_in Disconnecting) (sym (live_phase l fits c.0)) ∙ e) c.1) in assumption (segments, usable, closing);
        acknowledged = more;
        passed = passed;
        accepted = refl;
        own = refl;
        live = λ e. ap is_live running;
        meets = λ a meets. (
          λ taken_here. taken (ap (takes_numbers unit.packet.message) (sym meets.port) ∙ taken_here),
          subst (λ (b : Seen). Meets b k) (sym (runs a meets.port)) (record {
            port = ap (λ (p : Port). record p { phase = Running }) meets.port;
            partner = meets.partner;
            segsize = meets.segsize;
            received = subst (λ (ps : List (Option Piece)). Below ps f.received) (sym (same a (meets.exact c.2))) (below_itself f.received);
            exact = λ e. same a (meets.exact c.2);
            used = λ e. sym running;
          }),
        );
      }

  -- ---- by message

  acted_if : (unit : SentMessage) (k : Link) (test : Port → Bool) → (test l.port ≡ true → ComesOn unit l k) →
      (test l.port ≡ false → ComesOn unit l l) → ComesOn unit l (cond (test l.port) k l)
  acted_if unit k test some none = cond_both (test l.port) k l (λ x. ComesOn unit l x) some none

  ended_comes : (unit : SentMessage) (own far : ℕ) → takes_numbers unit.packet.message l.port ≡ false →
      ((a : Seen) → acted unit a ≡ ended_if (passes (TheLink own far) a.port || passes (CallingAt own) a.port) a) →
      ComesOn unit l (cond (passes (TheLink own far) l.port || passes (CallingAt own) l.port) (ended_link l) l)
  ended_comes unit own far none is =
      acted_if unit (ended_link l) (λ p. passes (TheLink own far) p || passes (CallingAt own) p)
      (λ e. comes_ended unit none (live e)
      (λ a same. is a ∙ ap (λ (b : Bool). ended_if b a) (ap (λ (p : Port). passes (TheLink own far) p || passes (CallingAt own) p) same ∙ e)))
      (λ e. comes_still unit l fits none
      (λ a same. is a ∙ ap (λ (b : Bool). ended_if b a) (ap (λ (p : Port). passes (TheLink own far) p || passes (CallingAt own) p) same ∙ e)))
    where
      live : (passes (TheLink own far) l.port || passes (CallingAt own) l.port) ≡ true → is_live l.port.phase ≡ true
      live e =
          elim (or_cases (passes (TheLink own far) l.port) _ e) [
            | inl first ↦ (and_parts (is_live l.port.phase) (has_both l.port own far) first).0
            | inr second ↦ (calling_live l.port.phase (and_parts (is_in Calling l.port.phase) (is_at l.port.own own) second).0).0
          ]

  ran_comes : (unit : SentMessage) (own far : ℕ) (f : TrueSegments) (received : Seen → List (Option Piece)) →
      (IsAnswered f → Grown None l.segments f) → f.passed ≡ l.segments.passed → l.segments.acknowledged ≤ f.acknowledged →
      ((a : Seen) → acted unit a ≡ cond (passes (ActedOn own far) a.port)
      (record a { port = record a.port { phase = Running }; used = Running; received = received a }) a) →
      ((a : Seen) → a.received ≡ l.segments.received → received a ≡ f.received) →
      (takes_numbers unit.packet.message l.port ≡ true → AreAtMost f.acknowledged unit.truth.known.acknowledgements) →
      (passes (ActedOn own far) l.port ≡ false → takes_numbers unit.packet.message l.port ≡ false) →
      ComesOn unit l (cond (passes (ActedOn own far) l.port) (run_link f l) l)
  ran_comes unit own far f received grown passed more is same taken none =
      acted_if unit (run_link f l) (passes (ActedOn own far))
      (λ e. comes_run unit f received (and_parts (is_connected l.port.phase) (has_both l.port own far) e).0 grown passed more
      (λ a port. is a ∙ ap (λ (b : Bool). cond b (record a { port = record a.port { phase = Running }; used = Running; received = received a }) a)
      (ap (passes (ActedOn own far)) port ∙ e)) same taken)
      (λ e. comes_still unit l fits (none e)
      (λ a port. is a ∙ ap (λ (b : Bool). cond b (record a { port = record a.port { phase = Running }; used = Running; received = received a }) a)
      (ap (passes (ActedOn own far)) port ∙ e)))

  abbrev by_message : NspValue → Type 0
  by_message m = (packet_dst packet_src : ℕ) (truth : LinkTruth Numbers) →
      AreNearHere (record { packet = record { dst = packet_dst; src = packet_src; message = m }; truth = truth }) l →
      ComesOn (record { packet = record { dst = packet_dst; src = packet_src; message = m }; truth = truth }) l (came_as m truth l)

  comes : (m : NspValue) → by_message m
  comes (ConnectConfirm dst src services info segsize user_data) d s truth near =
      acted_if _ (confirmed_link src segsize truth.tag.link l) (passes (CallingAt dst))
      (λ e. comes_confirmed _ src segsize refl (and_parts (is_in Calling l.port.phase) (is_at l.port.own dst) e).0
      (λ a same. ap (λ (b : Bool). confirmed_if b src segsize truth.tag.link a) (ap (passes (CallingAt dst)) same ∙ e)))
      (λ e. comes_still _ l fits refl (λ a same. ap (λ (b : Bool). confirmed_if b src segsize truth.tag.link a) (ap (passes (CallingAt dst)) same
      ∙ e)))
  comes (DisconnectInitiate dst src reason user_data) d s truth near = ended_comes _ dst src refl (λ a. refl)
  comes (DisconnectConfirm dst src reason) d s truth near = ended_comes _ dst src refl (λ a. refl)
  comes (DataSegment segment) d s truth near =
      let t = acks_taken l.segments truth.known.acknowledgements in
      let place = truth.known.segment - 1 in
      let f = takes_segment segment truth.known l.segments in
      let still : (fold acknowledged_through l.segments truth.known.acknowledgements).received ≡ l.segments.received =
      ap (λ (g : TrueSegments). g.received) t.is in
      let held : f.received ≡ hold place (piece_of segment) l.segments.received = ap (hold place (piece_of segment)) still in
      let most : f.acknowledged ≡ t.most = ap (λ (g : TrueSegments). g.acknowledged) t.is in
      let more = t.more in
      ran_comes _ segment.dstaddr segment.srcaddr f (λ a. hold place (piece_of segment) a.received)
      (λ answered. record {
        given = ap (λ (g : TrueSegments). g.given) t.is;
        last = ap (λ (g : TrueSegments). g.last) t.is;
        received = subst (λ (ps : List (Option Piece)). in_order l.segments.received ≤ in_order ps) (sym held)
            (below_order l.segments.received (hold place (piece_of segment) l.segments.received) (below_hold place (piece_of segment)
            l.segments.received));
        acknowledged = omega (arith, most, more);
        unsent = ap (λ (g : TrueSegments). g.unsent) t.is;
        answered = answered;
      })
      (ap (λ (g : TrueSegments). g.passed) t.is) (omega (arith, most, more))
      (λ a. refl)
      (λ a e. ap (hold place (piece_of segment)) e ∙ sym held)
      (λ e. subst (λ (n : ℕ). AreAtMost n truth.known.acknowledgements) (sym most) (t.all (near e)))
      (λ e. e)
  comes (DataAck dst src acks) d s truth near =
      let t = acks_taken l.segments truth.known.acknowledgements in
      let f = takes_acks acks truth.known l.segments in
      let most : f.acknowledged ≡ t.most = ap (λ (g : TrueSegments). g.acknowledged) t.is in
      let still : f.received ≡ l.segments.received = ap (λ (g : TrueSegments). g.received) t.is in
      let more = t.more in
      ran_comes _ dst src f (λ a. a.received)
      (λ answered. record {
        given = ap (λ (g : TrueSegments). g.given) t.is;
        last = ap (λ (g : TrueSegments). g.last) t.is;
        received = let order : in_order f.received ≡ in_order l.segments.received = ap in_order still in omega (arith, order);
        acknowledged = omega (arith, most, more);
        unsent = ap (λ (g : TrueSegments). g.unsent) t.is;
        answered = answered;
      })
      (ap (λ (g : TrueSegments). g.passed) t.is) (omega (arith, most, more))
      (λ a. refl) (λ a e. e ∙ sym still)
      (λ e. subst (λ (n : ℕ). AreAtMost n truth.known.acknowledgements) (sym most) (t.all (near e)))
      (λ e. e)
  comes (LinkService interrupt dst src rest) d s truth near =
      ran_comes _ dst src l.segments (λ a. a.received) (grown_itself l.segments) refl (omega arith)
      (λ a. refl) (λ a e. e) (λ e. absurd cc) (λ e. refl)
  comes (OtherDataAck dst src rest) d s truth near =
      ran_comes _ dst src l.segments (λ a. a.received) (grown_itself l.segments) refl (omega arith)
      (λ a. refl) (λ a e. e) (λ e. absurd cc) (λ e. refl)
  comes m d s truth near = comes_still _ l fits refl (λ a same. refl)

  pub came_on : (unit : SentMessage) → AreNearHere unit l → ComesOn unit l (came unit l)
  came_on unit near = comes unit.packet.message unit.packet.dst unit.packet.src unit.truth near

-- ---- it waits behind what waits

pub ahead_push : (units : List SentMessage) (unit : SentMessage) (a : Seen) (l k : Link) → ComesOn unit l k → Ahead units a l →
    Ahead (units ++ unit ∷ []) a k
ahead_push [] unit a l k on ahead = on.meets a ahead
ahead_push (first ∷ units) unit a l k on ahead = (
  λ taken. at_most_more l.segments.acknowledged k.segments.acknowledged _ on.acknowledged (ahead.0 taken),
  ahead_push units unit (acted first a) l k on ahead.1,
)
