-- A link is closed by its user: what it says until then in the phase that is over is composed before.
use Rattle.dna_queues.proofs.Prelude.{◌≡◌, ℕ, Bool, true, false, ◌&&◌, ◌||◌, cond, Option, Some, None, List, [], ◌∷◌, Ok, Err, refl, sym, ap, ap₂}
use Rattle.dna_queues.proofs.Prelude.{◌∙◌, subst, inl, inr, slice_get, and_parts, or_cases, same_Some, NspValue, NoOperation, DisconnectInitiate}
use Rattle.dna_queues.proofs.Prelude.{DisconnectConfirm, NoLink, Phase, Calling, Confirming, Running, Disconnecting, Ended, Port, LiveAt}
use Rattle.dna_queues.proofs.Prelude.{TheLink, CallingAt, With, passes, is_in, is_live, is_called, is_at, is_connected, has_both, changed, in_phase}
use Rattle.dna_queues.proofs.Prelude.{in_use, port_of_waiting, user_step, Close, TrueSegments, true_segments, SentMessage, checked, LinkRecord}
use Rattle.dna_queues.proofs.Prelude.{OfUser, Node, over, UserDoes}
use Rattle.dna_links.specs.TrueLinks as machine
use Rattle.dna_queues.proofs.Facts.{dead_phase, passed_check, same_Ok, not_both}
use Rattle.dna_queues.proofs.Goes.{Link, phase_of, test_of, use_port, at_node, node_port, at_node_some, at_node_same, uncalled_use}
use Rattle.dna_queues.proofs.{Closed.closed_link, Closed.closes_as, Sending.live_owns, Delivered.given_user, Moved.moved, Moved.gone_before}
use Rattle.dna_queues.proofs.{Timed.EndsFirst, Timed.is_end, SentTimed.Sound, UserTimed.Changes, UserTimed.one_sound}
use Rattle.dna_queues.proofs.LinkLists.{IsUnique, IsSet, set_changed, at_found}
use Rattle.dna_queues.proofs.Turns.{Began, CanWait, live_use, live_waits}
use Rattle.dna_queues.proofs.Hide.{LateLink, hide, found}
use Rattle.dna_queues.proofs.MachineSends.{IsUsed, used, live_at}
use Rattle.dna_queues.proofs.Dues.{Went, went_use, went_node, AreSane}

-- ---- ports in another phase

-- a live link passes a test on what it sends in each live phase
pub passes_phase : (m : NspValue) (p : Port) (now other : Phase) → is_live other ≡ true → passes (test_of m) (record p { phase = now }) ≡ true →
    passes (test_of m) (record p { phase = other }) ≡ true
passes_phase (NoOperation rest) p now other live e = e
passes_phase m p now other live e = ap₂ (λ (a b : Bool). a && b) live (and_parts (is_live now) _ e).1

connected_live : (p : Phase) → is_connected p ≡ true → (is_live p ≡ true) × (is_in Calling p ≡ false) × (is_called p ≡ false)
connected_live Confirming e = (refl, refl, refl)
connected_live Running e = (refl, refl, refl)
connected_live p e = absurd cc

module _ (dst src : ℕ) (p : Port) (connected : is_connected p.phase ≡ true) where
  closed_too : (passes (TheLink dst src) p || passes (CallingAt dst) p) ≡ true → (has_both p dst src || false) ≡ true
  closed_too e =
      elim (or_cases (passes (TheLink dst src) p) _ e) [
        | inl first ↦ ap (λ (c : Bool). c || false) (and_parts (is_live p.phase) (has_both p dst src) first).1
        | inr second ↦ absurd (not_both _ (and_parts (is_in Calling p.phase) (is_at p.own dst) second).0 (connected_live p.phase connected).1)
      ]

ends_closed : (m : NspValue) (p : Port) → is_connected p.phase ≡ true → is_end m p ≡ true → is_end m (record p { phase = Disconnecting }) ≡ true
ends_closed (DisconnectInitiate dst src reason user_data) p connected e = closed_too dst src p connected e
ends_closed (DisconnectConfirm dst src reason) p connected e = closed_too dst src p connected e
ends_closed m p connected e = absurd cc

module _ (s : machine.Links) (sane : AreSane s) (later : List LinkRecord) (left : machine.Links) (rest : AreSane left → Sound left later) where
  -- to this port, which waits so
  closes : (own i : ℕ) (l : Link) → IsUsed s sane.each (LiveAt own) i l → is_connected (phase_of l) ≡ true → (port : Port) (waits : Option Phase) →
      changed i (moved port waits l.segments.delivered l.segments.passed l) s ≡ left →
      port_of_waiting waits port ≡ record (in_use With l) { phase = Disconnecting } → port.own ≡ l.port.own → port.opened ≡ l.port.opened →
      (is_live port.phase ≡ true → is_live l.port.phase ≡ true) → (is_called port.phase ≡ true → (port.own ≡ None) × (port.opened ≡ false)) →
      ((p : Phase) → waits ≡ Some p → (port.phase ≡ Ended) × CanWait p port.opened × ((q : Phase) × (at_node l.queue.waits ≡ Some q))) →
      Sound s (OfUser (Close own) ∷ later)
  closes own i l u connected port waits same in_use_is own_same opened_same live_before called waits_before =
      let k = moved port waits l.segments.delivered l.segments.passed l in
      let was = sane.each i l u.there in
      one_sound s sane later (OfUser (Close own)) i l u.there left k
      (subst (λ (x : machine.Links). IsSet s x i k) same (set_changed s i l k u.there)) own_same
      (λ x y. moved port waits l.segments.delivered l.segments.passed x ≡ y)
      (record {
        began = subst (λ (p : Port). Began p.phase port.opened l.queue.accepted l.queue.ran) (sym in_use_is) tt;
        opened = λ e. was.opened (sym opened_same ∙ e);
        called = called;
        waits = λ p e. let w = waits_before p e in (w.0, w.1);
      })
      (λ due d. gone_before port waits l.segments.delivered l.segments.passed s.node s.peer due.packets l (phase_of k) (λ x. x ≡ due.link)
      (λ m e. passes_phase m (in_use With l) Disconnecting (phase_of l) (connected_live (phase_of l) connected).0
      (subst (λ (p : Port). passes (test_of m) p ≡ true) in_use_is e)) d.early d.can)
      (λ kept a. record {
        live = λ e. a.live (live_before e);
        over = λ p e. first kept (let w = waits_before p (at_node_some waits p e) in a.over w.2.0 w.2.1);
      })
      (λ n x y unique went q there. step n x y unique went q there) rest
    where
      before : node_port l ≡ in_use With l
      before = uncalled_use l (connected_live (phase_of l) connected).2

      -- it is in DI then, in use and at the node
      closed_node : (x : Link) → in_use With x ≡ in_use With l → node_port (moved port waits l.segments.delivered l.segments.passed x)
          ≡ record (in_use With l) { phase = Disconnecting }
      closed_node x same = uncalled_use (moved port waits l.segments.delivered l.segments.passed x) (ap (λ (p : Port). is_called p.phase) in_use_is)
          ∙ in_use_is

      first : (kept : List SentMessage) → EndsFirst l kept → EndsFirst (moved port waits l.segments.delivered l.segments.passed l) kept
      first [] e = e
      first (unit ∷ units) e =
          subst (λ (p : Port). is_end unit.packet.message p ≡ true) (sym (closed_node l refl))
          (ends_closed unit.packet.message (in_use With l) connected (subst (λ (p : Port). is_end unit.packet.message p ≡ true) before e))

      step : (n : Node) (x y : Link) → IsUnique n.links → Went l x → moved port waits l.segments.delivered l.segments.passed x ≡ y →
          slice_get n.links.links i ≡ Some (hide x) → Changes (OfUser (Close own)) i n (hide y)
      step n x y unique went q there =
          let h = in_phase Disconnecting (hide x) in
          let use_x = went_node l x went ∙ before in
          let is : h ≡ hide (moved port waits l.segments.delivered l.segments.passed x) =
          ap₂ (λ (p : Port) (f : TrueSegments). record (hide x) { port = p; segments = record { segments = f; gap = x.queue.gap } })
          (ap (λ (p : Port). record p { phase = Disconnecting }) use_x ∙ sym (closed_node x (went_use l x went)))
          (ap₂ (λ (ms : List (List ℕ)) (m : ℕ). given_user ms m x.segments) went.leaves.delivered went.leaves.passed) in
          record {
            links = changed i h n.links;
            makes = UserDoes (Close own) (changed i h n.links) tt
                (at_found (LiveAt own) n.links i (hide x) _ _
                (found n.links unique i x there (LiveAt own) own (live_owns own) (ap (passes (LiveAt own)) use_x ∙ u.passed))
                ∙ passed_check (is_connected (node_port x).phase) _ _ (ap (λ (p : Port). is_connected p.phase) use_x ∙ connected));
            set = subst (λ (g : LateLink). IsSet n.links (changed i h n.links) i g) (is ∙ ap hide q) (set_changed n.links i (hide x) h there);
          }

  pub close_sound : (own : ℕ) → user_step With true_segments s (Close own) ≡ Ok left → Sound s (OfUser (Close own) ∷ later)
  close_sound own e =
      used s sane.each (LiveAt own) (live_at own) (Err NoLink) _ (Ok left) e (λ e. absurd cc)
      (λ i l u e. let c = checked (is_connected (phase_of l)) _ _ left e in
      by_live i l u c.0 (ap (λ (x : Link). changed i x s) (sym (closes_as l)) ∙ same_Ok _ left c.1) (is_live l.port.phase) refl)
    where
      by_live : (i : ℕ) (l : Link) → IsUsed s sane.each (LiveAt own) i l → is_connected (phase_of l) ≡ true → changed i (closed_link l) s ≡ left →
          (b : Bool) → is_live l.port.phase ≡ b → Sound s (OfUser (Close own) ∷ later)
      by_live i l u connected same true live =
          closes own i l u connected (record l.port { phase = Disconnecting }) None
          (ap (λ (x : Link). changed i x s) (ap (λ (w : Option Phase). record l {
            port = record l.port { phase = Disconnecting };
            queue = record l.queue { waits = w };
          }) (sym (live_waits l (sane.each i l u.there) live))
          ∙ sym (ap (λ (b : Bool). cond b (record l { port = record l.port { phase = Disconnecting } })
          (record l { queue = record l.queue { waits = Some Disconnecting } })) live)) ∙ same)
          (ap (λ (p : Port). record p { phase = Disconnecting }) (sym (live_use l (sane.each i l u.there) live))) refl refl (λ e. live)
          (λ e. absurd cc) (λ p e. absurd cc)
      by_live i l u connected same false over =
          closes own i l u connected l.port (Some Disconnecting)
          (ap (λ (x : Link). changed i x s) (sym (ap (λ (b : Bool). cond b (record l { port = record l.port { phase = Disconnecting } })
          (record l { queue = record l.queue { waits = Some Disconnecting } })) over)) ∙ same)
          (sym (use_port l.queue.waits l.port Disconnecting)) refl refl (λ e. e) (sane.each i l u.there).called
          (λ p e. (
            dead_phase l.port.phase over,
            subst (λ (q : Phase). CanWait q l.port.opened) (same_Some Disconnecting p e) tt,
            waiting_phase l.queue.waits refl,
          ))
        where
          waiting_phase : (w : Option Phase) → l.queue.waits ≡ w → (q : Phase) × (at_node l.queue.waits ≡ Some q)
          waiting_phase (Some q) e = (
            q,
            ap at_node e ∙ at_node_same q
                (ap (λ (w : Option Phase). is_called (port_of_waiting w l.port).phase) (sym e) ∙ (connected_live (phase_of l) connected).2),
          )
          waiting_phase None e =
              let x : true ≡ false = sym (connected_live (phase_of l) connected).0
              ∙ ap (λ (w : Option Phase). is_live (port_of_waiting w l.port).phase) e ∙ over in absurd cc
