-- A packet that the machine acts on the node with queues may act on: what it does to the link with its address in both.
use Rattle.dna_queues.proofs.Prelude.{◌≡◌, ℕ, Bool, true, false, ◌||◌, cond, Option, Some, None, Result, Ok, refl, sym, ap, ◌∙◌, subst, inl, inr}
use Rattle.dna_queues.proofs.Prelude.{slice_get, and_parts, cond_both, or_cases, same_Some, NspValue, DataSegment, LinkService, DataAck}
use Rattle.dna_queues.proofs.Prelude.{OtherDataAck, ConnectConfirm, DisconnectInitiate, DisconnectConfirm, LinkRefusal, CrossedLink, Phase, Calling}
use Rattle.dna_queues.proofs.Prelude.{Running, Disconnecting, Port, LinkTest, TheLink, CallingAt, ActedOn, Without, With, passes, is_in, is_live}
use Rattle.dna_queues.proofs.Prelude.{is_called, is_at, is_connected, has_both, LinkTruth, check, with_link, changed, with_segments, in_use}
use Rattle.dna_queues.proofs.Prelude.{port_of_waiting, goes_on, ends_by_message, of_partner, is_for, is_of_pair, message_arrived, TrueSegments}
use Rattle.dna_queues.proofs.Prelude.{Numbers, takes_segment, takes_acks, true_segments, IsFound, late_segments, Links, dstaddr}
use Rattle.dna_links.specs.TrueLinks as machine
use Rattle.dna_queues.proofs.{Facts.connected_live, Facts.not_both, Turns.Sane, Turns.Began, Starts.Starts, Hide.LateLink, Hide.hide, Timed.is_end}
use Rattle.dna_queues.proofs.Goes.{Link, at_node, node_port, phase_of}
use Rattle.dna_queues.proofs.Came.{confirmed_link, ended_link, run_link, came_as}
use Rattle.dna_queues.proofs.Acting.{confirmed_late, ended_late, run_late, acts_as}
use Rattle.dna_queues.proofs.LinkLists.{IsUnique, IsChanged, changed_as, found_one}
use Rattle.dna_queues.proofs.Arrivals.{calling_owns, acted_owns, row_made, row_left, row_allowed, either, either_made, either_left}
use Rattle.dna_queues.proofs.MachineArrivals.{ended_is, if_same, run_is, confirmed_is}

module _ (s left : machine.Links) (unique : IsUnique s) (truth : LinkTruth Numbers) (address : ℕ) where
  -- the node has the link with this address as the machine has it
  abbrev pub IsSeen : Links → Type 0
  IsSeen t = (i : ℕ) (h : LateLink) → slice_get t.links i ≡ Some h → is_at h.port.own address ≡ true →
      (l : Link) × (slice_get s.links i ≡ Some l) × (h.port ≡ l.port) × (h.partner ≡ l.partner)

  pub record ArrivesToo (m : NspValue) (t : Links) : Type 0 where
    pub links : Links
    pub does : message_arrived Without late_segments of_partner t m truth ≡ Ok links
    pub changed : IsChanged t links address (acts_as m truth)

  pub record Arrives (m : NspValue) : Type 0 where
    pub changed : IsChanged s left address (came_as m truth)
    pub too : (t : Links) → IsUnique t → IsSeen t → ArrivesToo m t

  row_both : (m : NspValue) (test : LinkTest) (own : ℕ) → own ≡ address → ((p : Port) → passes test p ≡ true → is_at p.own own ≡ true) →
      (may : ℕ → Option ℕ → Bool) (f : Link → Link) (g : LateLink → LateLink) →
      with_link {R = Result machine.Links LinkRefusal} test s (Ok s) (λ n l. check (may n l.partner) CrossedLink (Ok (changed n (f l) s))) ≡ Ok left →
      ((t : Links) → message_arrived Without late_segments of_partner t m truth
      ≡ with_link test t (Ok t) (λ n h. check (may n h.partner) CrossedLink (Ok (changed n (g h) t)))) →
      ((l : Link) → cond (passes test l.port) (f l) l ≡ came_as m truth l) →
      ((h : LateLink) → cond (passes test h.port) (g h) h ≡ acts_as m truth h) → Arrives m
  row_both m test own same owns may f g e hidden same_f same_g = record {
    changed = changed_as s left address (λ l. cond (passes test l.port) (f l) l) (came_as m truth)
        (row_left s unique address test owned CrossedLink (λ n l. may n l.partner) f left e) same_f;
    too = λ t unique_t seen.
        let r = row_made t unique_t address test owned CrossedLink (λ n h. may n h.partner) g (λ n h found. allowed t seen n h found) in
        record {
          links = r.left;
          does = hidden t ∙ r.is;
          changed = changed_as t r.left address (λ h. cond (passes test h.port) (g h) h) (acts_as m truth) r.changed same_g;
        };
  }
    where
      owned : (p : Port) → passes test p ≡ true → is_at p.own address ≡ true
      owned p e = subst (λ (n : ℕ). is_at p.own n ≡ true) same (owns p e)

      allowed : (t : Links) → IsSeen t → (n : ℕ) (h : LateLink) → IsFound test t n h → may n h.partner ≡ true
      allowed t seen n h found =
          let l = seen n h found.there (owned h.port found.passed) in
          let passed = ap (passes test) (sym l.2) ∙ found.passed in
          ap (may n) l.3
          ∙ row_allowed s unique address test owned CrossedLink (λ n l. may n l.partner) f left e n l.0
          (record { found = found_one s unique test address n l.0 owned l.1 passed; there = l.1; passed = passed })

  ends_both : (m : NspValue) (dst src : ℕ) (same : dst ≡ address) →
      either s unique address dst src same (λ l. ends_by_message true_segments With l) ≡ Ok left →
      ((t : Links) (unique_t : IsUnique t) → message_arrived Without late_segments of_partner t m truth
      ≡ either t unique_t address dst src same ended_late) →
      ((l : Link) → cond (passes (TheLink dst src) l.port || passes (CallingAt dst) l.port) (ended_link l) l ≡ came_as m truth l) →
      ((h : LateLink) → cond (passes (TheLink dst src) h.port || passes (CallingAt dst) h.port) (ended_late h) h ≡ acts_as m truth h) → Arrives m
  ends_both m dst src same e hidden same_f same_g = record {
    changed = changed_as s left address
        (λ l. cond (passes (TheLink dst src) l.port || passes (CallingAt dst) l.port) (ends_by_message true_segments With l) l)
        (came_as m truth) (either_left s unique address dst src same (λ l. ends_by_message true_segments With l) left e)
        (λ l. ap (λ (x : Link). cond (passes (TheLink dst src) l.port || passes (CallingAt dst) l.port) x l) (ended_is l) ∙ same_f l);
    too = λ t unique_t seen.
        let r = either_made t unique_t address dst src same ended_late in
        record {
          links = r.left;
          does = hidden t unique_t ∙ r.is;
          changed = changed_as t r.left address (λ h. cond (passes (TheLink dst src) h.port || passes (CallingAt dst) h.port) (ended_late h) h)
              (acts_as m truth) r.changed same_g;
        };
  }

  pub arrives_both : (m : NspValue) → dstaddr m ≡ Some address → message_arrived With true_segments of_partner s m truth ≡ Ok left → Arrives m
  arrives_both (ConnectConfirm dst src services info segsize user_data) is e =
      row_both _ (CallingAt dst) dst (same_Some dst address is) (calling_owns dst) (λ n partner. is_for n truth.tag)
      (λ l. goes_on true_segments (is_live l.port.phase) Running
      (record l { port = record l.port { far = Some src }; partner = truth.tag.link; segsize = segsize }))
      (confirmed_late src segsize truth.tag.link) e (λ t. refl)
      (λ l. if_same (passes (CallingAt dst) l.port) l _ _ (confirmed_is dst src segsize truth.tag.link l)) (λ h. refl)
  arrives_both (DisconnectInitiate dst src reason user_data) is e =
      ends_both _ dst src (same_Some dst address is) e (λ t unique_t. refl) (λ l. refl) (λ h. refl)
  arrives_both (DisconnectConfirm dst src reason) is e =
      ends_both _ dst src (same_Some dst address is) e (λ t unique_t. refl) (λ l. refl) (λ h. refl)
  arrives_both (DataSegment g) is e =
      row_both _ (ActedOn g.dstaddr g.srcaddr) g.dstaddr (same_Some g.dstaddr address is) (acted_owns g.dstaddr g.srcaddr)
      (λ n partner. is_of_pair n partner truth.tag)
      (λ l. with_segments (takes_segment g truth.known (goes_on true_segments (is_live l.port.phase) Running l).segments)
      (goes_on true_segments (is_live l.port.phase) Running l))
      (λ l. run_late (takes_segment g truth.known l.segments.segments) l) e (λ t. refl)
      (λ l. if_same (passes (ActedOn g.dstaddr g.srcaddr) l.port) l _ _ (run_is g.dstaddr g.srcaddr (takes_segment g truth.known) l)) (λ h. refl)
  arrives_both (DataAck dst src acks) is e =
      row_both _ (ActedOn dst src) dst (same_Some dst address is) (acted_owns dst src) (λ n partner. is_of_pair n partner truth.tag)
      (λ l. with_segments (takes_acks acks truth.known (goes_on true_segments (is_live l.port.phase) Running l).segments)
      (goes_on true_segments (is_live l.port.phase) Running l))
      (λ l. run_late (takes_acks acks truth.known l.segments.segments) l) e (λ t. refl)
      (λ l. if_same (passes (ActedOn dst src) l.port) l _ _ (run_is dst src (takes_acks acks truth.known) l)) (λ h. refl)
  arrives_both (LinkService interrupt dst src rest) is e =
      row_both _ (ActedOn dst src) dst (same_Some dst address is) (acted_owns dst src) (λ n partner. is_of_pair n partner truth.tag)
      (λ l. goes_on true_segments (is_live l.port.phase) Running l) (λ l. run_late l.segments.segments l) e (λ t. refl)
      (λ l. if_same (passes (ActedOn dst src) l.port) l _ _ (run_is dst src (λ f. f) l)) (λ h. refl)
  arrives_both (OtherDataAck dst src rest) is e =
      row_both _ (ActedOn dst src) dst (same_Some dst address is) (acted_owns dst src) (λ n partner. is_of_pair n partner truth.tag)
      (λ l. goes_on true_segments (is_live l.port.phase) Running l) (λ l. run_late l.segments.segments l) e (λ t. refl)
      (λ l. if_same (passes (ActedOn dst src) l.port) l _ _ (run_is dst src (λ f. f) l)) (λ h. refl)
  arrives_both m is e = absurd cc

-- ---- the link

-- what a packet that comes makes of a live link of the machine, and of the node's
pub data CameTo (m : NspValue) (truth : LinkTruth Numbers) (l : Link) : Link → Type 0 where
  Still : ((h : LateLink) → h.port ≡ l.port → acts_as m truth h ≡ h) → CameTo m truth l l
  GoesOn : (k : Link) → Starts l k → Sane k → is_live k.port.phase ≡ true → k.queue.waits ≡ None → is_in Disconnecting (phase_of k) ≡ false →
      acts_as m truth (hide l) ≡ hide k → CameTo m truth l k
  IsOver : is_end m l.port ≡ true → CameTo m truth l (ended_link l)

module _ (truth : LinkTruth Numbers) (l : Link) (sane : Sane l) (live : is_live l.port.phase ≡ true) (none : l.queue.waits ≡ None) where
  in_use_is : in_use With l ≡ l.port
  in_use_is = ap (λ (w : Option Phase). port_of_waiting w l.port) none

  node_is : node_port l ≡ l.port
  node_is = ap (λ (w : Option Phase). port_of_waiting (at_node w) l.port) none

  goes_on_as : (m : NspValue) (k : Link) → k.queue.waits ≡ None → k.port.phase ≡ Running → k.port.own ≡ l.port.own → k.port.opened ≡ l.port.opened →
      (k.port.opened ≡ false → l.port.far ≡ k.port.far) → k.queue.accepted ≡ l.queue.accepted → k.queue.said ≡ l.queue.said →
      acts_as m truth (hide l) ≡ hide k → CameTo m truth l k
  goes_on_as m k waits run own opened far accepted said acts =
      let now : phase_of k ≡ Running = ap (λ (w : Option Phase). (port_of_waiting w k.port).phase) waits ∙ run in
      GoesOn k (record {
        live = ap (λ (p : Port). is_live p.phase) in_use_is ∙ live;
        own = sym own;
        opened = sym opened;
        far = far;
        accepted = sym accepted;
        said = sym said;
        only = λ e. accepted ∙ sane.opened (sym opened ∙ e);
      }) (record {
        began = subst (λ (p : Phase). Began p k.port.opened k.queue.accepted k.queue.ran) (sym now) tt;
        opened = λ e. accepted ∙ sane.opened (sym opened ∙ e);
        called = λ e. let never : true ≡ false = sym e ∙ ap is_called run in absurd cc;
        waits = λ p e. let never : None ≡ Some p = sym waits ∙ e in absurd cc;
      }) (ap is_live run) waits (ap (is_in Disconnecting) now) acts

  if_so : (m : NspValue) (test : Port → Bool) (k : Link) (g : LateLink → LateLink) →
      ((h : LateLink) → acts_as m truth h ≡ cond (test h.port) (g h) h) → (test l.port ≡ true → CameTo m truth l k) →
      CameTo m truth l (cond (test l.port) k l)
  if_so m test k g acts some = cond_both (test l.port) k l (λ x. CameTo m truth l x) some
      (λ e. Still (λ h same. acts h ∙ ap (λ (b : Bool). cond b (g h) h) (ap test same ∙ e)))

  run_acts : (own far : ℕ) (takes : TrueSegments → TrueSegments) → passes (ActedOn own far) l.port ≡ true →
      cond (passes (ActedOn own far) (node_port l)) (run_late (takes l.segments) (hide l)) (hide l) ≡ hide (run_link (takes l.segments) l)
  run_acts own far takes e =
      ap (λ (b : Bool). cond b (run_late (takes l.segments) (hide l)) (hide l)) (ap (passes (ActedOn own far)) node_is ∙ e)
      ∙ ap (λ (p : Port). record (run_late (takes l.segments) (hide l)) { port = record p { phase = Running } }) node_is
      ∙ ap (λ (w : Option Phase). record (run_late (takes l.segments) (hide l)) {
        port = port_of_waiting (at_node w) (record l.port { phase = Running });
      }) (sym none)

  pub came_kind : (m : NspValue) → CameTo m truth l (came_as m truth l)
  came_kind (ConnectConfirm dst src services info segsize user_data) =
      if_so _ (passes (CallingAt dst)) (confirmed_link src segsize truth.tag.link l) (confirmed_late src segsize truth.tag.link) (λ h. refl)
      (λ e. goes_on_as _ (confirmed_link src segsize truth.tag.link l) none refl refl refl
      (λ called. absurd (not_both _ (calling_opened l.port.phase (and_parts (is_in Calling l.port.phase) (is_at l.port.own dst) e).0 began) called))
      refl refl (confirms dst src segsize e))
    where
      began : Began l.port.phase l.port.opened l.queue.accepted l.queue.ran
      began = subst (λ (p : Port). Began p.phase l.port.opened l.queue.accepted l.queue.ran) in_use_is sane.began

      calling_opened : (p : Phase) → is_in Calling p ≡ true → Began p l.port.opened l.queue.accepted l.queue.ran → l.port.opened ≡ true
      calling_opened Calling e b = b.0
      calling_opened p e b = absurd cc

      confirms : (dst src segsize : ℕ) → passes (CallingAt dst) l.port ≡ true →
          cond (passes (CallingAt dst) (node_port l)) (confirmed_late src segsize truth.tag.link (hide l)) (hide l)
          ≡ hide (confirmed_link src segsize truth.tag.link l)
      confirms dst src segsize e =
          ap (λ (b : Bool). cond b (confirmed_late src segsize truth.tag.link (hide l)) (hide l)) (ap (passes (CallingAt dst)) node_is ∙ e)
          ∙ ap (λ (p : Port). record (hide l) { port = record p { phase = Running; far = Some src }; partner = truth.tag.link; segsize = segsize })
          node_is
          ∙ ap (λ (w : Option Phase). record (hide l) {
            port = port_of_waiting (at_node w) (record l.port { phase = Running; far = Some src });
            partner = truth.tag.link;
            segsize = segsize;
          }) (sym none)
  came_kind (DisconnectInitiate dst src reason user_data) =
      if_so _ (λ p. passes (TheLink dst src) p || passes (CallingAt dst) p) (ended_link l) ended_late (λ h. refl) (λ e. IsOver e)
  came_kind (DisconnectConfirm dst src reason) =
      if_so _ (λ p. passes (TheLink dst src) p || passes (CallingAt dst) p) (ended_link l) ended_late (λ h. refl) (λ e. IsOver e)
  came_kind (DataSegment g) =
      if_so _ (passes (ActedOn g.dstaddr g.srcaddr)) (run_link (takes_segment g truth.known l.segments) l)
      (λ h. run_late (takes_segment g truth.known h.segments.segments) h) (λ h. refl)
      (λ e. goes_on_as _ (run_link (takes_segment g truth.known l.segments) l) none refl refl refl (λ called. refl) refl refl
      (run_acts g.dstaddr g.srcaddr (takes_segment g truth.known) e))
  came_kind (DataAck dst src acks) =
      if_so _ (passes (ActedOn dst src)) (run_link (takes_acks acks truth.known l.segments) l)
      (λ h. run_late (takes_acks acks truth.known h.segments.segments) h) (λ h. refl)
      (λ e. goes_on_as _ (run_link (takes_acks acks truth.known l.segments) l) none refl refl refl (λ called. refl) refl refl
      (run_acts dst src (takes_acks acks truth.known) e))
  came_kind (LinkService interrupt dst src rest) =
      if_so _ (passes (ActedOn dst src)) (run_link l.segments l) (λ h. run_late h.segments.segments h) (λ h. refl)
      (λ e. goes_on_as _ (run_link l.segments l) none refl refl refl (λ called. refl) refl refl (run_acts dst src (λ f. f) e))
  came_kind (OtherDataAck dst src rest) =
      if_so _ (passes (ActedOn dst src)) (run_link l.segments l) (λ h. run_late h.segments.segments h) (λ h. refl)
      (λ e. goes_on_as _ (run_link l.segments l) none refl refl refl (λ called. refl) refl refl (run_acts dst src (λ f. f) e))
  came_kind m = Still (λ h same. refl)

-- a link that is over is left as it is
dead_if : (test : Port → Bool) (l k : Link) → ((p : Port) → test p ≡ true → is_live p.phase ≡ true) → is_live l.port.phase ≡ false →
    cond (test l.port) k l ≡ l
dead_if test l k live over = go (test l.port) refl
  where
    go : (b : Bool) → test l.port ≡ b → cond b k l ≡ l
    go false e = refl
    go true e = let never : true ≡ false = sym (live l.port e) ∙ over in absurd cc

calling_live : (own : ℕ) (p : Port) → passes (CallingAt own) p ≡ true → is_live p.phase ≡ true
calling_live own p e = go p.phase (and_parts (is_in Calling p.phase) (is_at p.own own) e).0
  where
    go : (q : Phase) → is_in Calling q ≡ true → is_live q ≡ true
    go Calling e = refl
    go q e = absurd cc

acted_live : (own far : ℕ) (p : Port) → passes (ActedOn own far) p ≡ true → is_live p.phase ≡ true
acted_live own far p e = connected_live p.phase (and_parts (is_connected p.phase) (has_both p own far) e).0

either_live : (own far : ℕ) (p : Port) → (passes (TheLink own far) p || passes (CallingAt own) p) ≡ true → is_live p.phase ≡ true
either_live own far p e =
    elim (or_cases (passes (TheLink own far) p) _ e) [
      | inl first ↦ (and_parts (is_live p.phase) (has_both p own far) first).0
      | inr second ↦ calling_live own p second
    ]

pub came_dead : (m : NspValue) (truth : LinkTruth Numbers) (l : Link) → is_live l.port.phase ≡ false → came_as m truth l ≡ l
came_dead (ConnectConfirm dst src services info segsize user_data) truth l over = dead_if (passes (CallingAt dst)) l _ (calling_live dst) over
came_dead (DisconnectInitiate dst src reason user_data) truth l over =
    dead_if (λ p. passes (TheLink dst src) p || passes (CallingAt dst) p) l _ (either_live dst src) over
came_dead (DisconnectConfirm dst src reason) truth l over =
    dead_if (λ p. passes (TheLink dst src) p || passes (CallingAt dst) p) l _ (either_live dst src) over
came_dead (DataSegment g) truth l over = dead_if (passes (ActedOn g.dstaddr g.srcaddr)) l _ (acted_live g.dstaddr g.srcaddr) over
came_dead (DataAck dst src acks) truth l over = dead_if (passes (ActedOn dst src)) l _ (acted_live dst src) over
came_dead (LinkService interrupt dst src rest) truth l over = dead_if (passes (ActedOn dst src)) l _ (acted_live dst src) over
came_dead (OtherDataAck dst src rest) truth l over = dead_if (passes (ActedOn dst src)) l _ (acted_live dst src) over
came_dead m truth l over = refl
