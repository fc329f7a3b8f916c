-- One link becomes another in both, as where a call is answered.
use Rattle.dna_queues.proofs.Prelude.{◌≡◌, ℕ, Bool, true, false, ◌&&◌, cond, Option, Some, None, List, [], ◌∷◌, length, Result, Ok, Err, refl, sym}
use Rattle.dna_queues.proofs.Prelude.{ap, ◌∙◌, subst, ◌||◌, eqb-true, slice_get, and_parts, false_from_ne_true, NspValue, DataSegment, LinkService}
use Rattle.dna_queues.proofs.Prelude.{DataAck, OtherDataAck, ConnectConfirm, DisconnectInitiate, DisconnectConfirm, LinkRefusal, NoLink}
use Rattle.dna_queues.proofs.Prelude.{AddressInUse, Phase, Called, Confirming, Running, Disconnecting, Port, LiveAt, CalledBy, CallingAt, TheLink}
use Rattle.dna_queues.proofs.Prelude.{ActedOn, LinkQueue, Without, With, passes, is_in, is_live, is_at, is_called, is_calling, LinkTruth, number_of}
use Rattle.dna_queues.proofs.Prelude.{with_link, changed, port_of_waiting, freed, goes_on, reached, is_silent, is_over, answered, LinkEventValue}
use Rattle.dna_queues.proofs.Prelude.{IsAnswered, Numbers, true_segments, SentMessage, IsFound, AreAnswered, next_links, late_segments, Links, Node}
use Rattle.dna_queues.proofs.Prelude.{link_it_is_for, link_it_is_of, waiting, IsFree, same_Some}
use Rattle.dna_links.specs.TrueLinks as machine
use Rattle.dna_queues.proofs.{Facts.not_both, Facts.by_test, Came.live_phase, Follows.Follows, Lists.waiting_none, Waiting.of_same, Beside.Beside}
use Rattle.dna_queues.proofs.{Beside.follows_as}
use Rattle.dna_queues.specs.Records as records
use Rattle.dna_queues.proofs.Goes.{Link, phase_of, Grows}
use Rattle.dna_queues.proofs.WaitsToGo.{can_more, can_grow, grown_itself}
use Rattle.dna_queues.proofs.Ahead.{Seen, Ahead, acted, acted_as, confirmed_if, ended_if, ran_if, taken_if, is_open, none_at}
use Rattle.dna_queues.proofs.Acting.{LateLink, lift, level, seen_as}
use Rattle.dna_queues.proofs.LinkLists.{IsSet, set_changed, IsUnique, at_none, at_found, number_same, there_too, set_each, unique_free}
use Rattle.dna_queues.proofs.SentOn.{Follow, grows_on, phase_same}
use Rattle.dna_queues.proofs.Given.{meets_now, live_same, free_beside, no_owner, left_h, left_l, free_node}

-- ---- one link becomes another in both

pub set_beside : (n : Node) (t : machine.Links) → Beside n t → (s : Links) (u : machine.Links) (number : ℕ) (k : LateLink) (y : Link) →
    IsSet n.links s number k → IsSet t u number y → IsUnique s →
    Follows k y (waiting link_it_is_for k.port.own n.kept) (waiting link_it_is_of (Some number) n.composed) → Beside (record n { links = s }) u
set_beside n t b s u number k y set_h set_l unique f = record {
  node = set_h.node ∙ b.node ∙ sym set_l.node;
  peer = set_h.peer ∙ b.peer ∙ sym set_l.peer;
  size = set_h.size ∙ b.size ∙ sym set_l.size;
  unique = unique;
  for_links = b.for_links;
  of_links = of_same _ _ _ s.node s.peer (length s.links) n.composed set_h.node set_h.peer set_h.size b.of_links;
  all = λ i x z at_x. set_each n.links s number k set_h
      (λ i x. slice_get u.links i ≡ Some z → Follows x z (waiting link_it_is_for x.port.own n.kept) (waiting link_it_is_of (Some i) n.composed))
      (λ at_z. subst (λ (v : Link). Follows k v (waiting link_it_is_for k.port.own n.kept) (waiting link_it_is_of (Some number) n.composed))
      (same_Some y z (sym set_l.here ∙ at_z)) f)
      (λ i x differs at_h at_z. b.all i x z at_h (sym (set_l.others i differs) ∙ at_z)) i x at_x;
}

-- ---- a call is answered

-- no link comes to Called by what comes
called_if : (b : Bool) (x a : Seen) → is_called x.port.phase ≡ false → is_called (cond b x a).port.phase ≡ true → is_called a.port.phase ≡ true
called_if true x a never e = absurd (not_both _ e never)
called_if false x a never e = e

called_before : (m : NspValue) (truth : LinkTruth Numbers) (a : Seen) → is_called (acted_as m truth a).port.phase ≡ true →
    is_called a.port.phase ≡ true
called_before (ConnectConfirm dst src services info segsize user_data) truth a e =
    called_if (passes (CallingAt dst) a.port) (confirmed_if true src segsize truth.tag.link a) a refl e
called_before (DisconnectInitiate dst src reason user_data) truth a e =
    called_if (passes (TheLink dst src) a.port || passes (CallingAt dst) a.port) (ended_if true a) a refl e
called_before (DisconnectConfirm dst src reason) truth a e =
    called_if (passes (TheLink dst src) a.port || passes (CallingAt dst) a.port) (ended_if true a) a refl e
called_before (DataSegment s) truth a e = called_if (passes (ActedOn s.dstaddr s.srcaddr) a.port) (taken_if true s truth.known a) a refl e
called_before (DataAck dst src acks) truth a e = called_if (passes (ActedOn dst src) a.port) (ran_if true a) a refl e
called_before (LinkService interrupt dst src rest) truth a e = called_if (passes (ActedOn dst src) a.port) (ran_if true a) a refl e
called_before (OtherDataAck dst src rest) truth a e = called_if (passes (ActedOn dst src) a.port) (ran_if true a) a refl e
called_before m truth a e = e

ahead_called : (units : List SentMessage) (a : Seen) (l : Link) → Ahead units a l → is_called l.port.phase ≡ true → is_called a.port.phase ≡ true
ahead_called [] a l meets e = ap (λ (p : Port). is_called p.phase) meets.port ∙ e
ahead_called (unit ∷ units) a l ahead e =
    called_before unit.packet.message unit.truth a (ahead_called units (acted unit a) l ahead.1 e)

called_phase : (p : Phase) → is_called p ≡ true → p ≡ Called
called_phase Called e = refl
called_phase p e = absurd cc

module _ (n : Node) (t : machine.Links) (b : Beside n t) where
  pub called_meets : (i : ℕ) (h : LateLink) (l : Link) (at_h : slice_get n.links.links i ≡ Some h) (at_l : slice_get t.links i ≡ Some l) →
      is_called h.port.phase ≡ true → waiting link_it_is_for h.port.own n.kept ≡ []
  called_meets i h l at_h at_l e =
      ap (λ (o : Option ℕ). waiting link_it_is_for o n.kept) ((b.all i h l at_h at_l).called e).0 ∙ waiting_none link_it_is_for n.kept

  -- the same calls wait in both
  pub called_same : (far : ℕ) → number_of (CalledBy far) n.links ≡ number_of (CalledBy far) t
  called_same far = number_same n.links t b.size (CalledBy far) (λ i h l at_h at_l. by_test (is_called h.port.phase)
      (λ e. ap (passes (CalledBy far)) (meets_now h l _ _ (b.all i h l at_h at_l) (called_meets i h l at_h at_l e)).port)
      (λ e. ap (λ (c : Bool). c && is_at h.port.far far) e ∙ sym (ap (λ (c : Bool). c && is_at l.port.far far)
      (false_from_ne_true (is_called l.port.phase) (λ f. let x = b.all i h l at_h at_l in
      not_both _ (ahead_called (waiting link_it_is_for h.port.own n.kept) (seen_as x.used h) l x.ahead f) e)))))

-- one link that a user has answered, in this phase
answer_follows : (own : ℕ) (phase : Phase) (q : LinkQueue) (h : LateLink) (l : Link) (composed : List SentMessage) → IsAnswered l.segments →
    (is_live phase ≡ true) × (is_in Running phase ≡ false) × (is_calling phase ≡ false) × (is_called phase ≡ false) →
    (q.waits ≡ l.queue.waits) × (q.ran ≡ l.queue.ran) × (q.said ≡ l.queue.said) × (q.gap ≡ l.queue.gap) →
    (l.queue.accepted ≡ true → q.accepted ≡ true) → (is_in Confirming phase ≡ true → q.accepted ≡ true) → is_called h.port.phase ≡ true →
    Follows h l [] composed →
    Follows (answered late_segments phase own h) (record l { port = record l.port { phase = phase; own = Some own }; queue = q }) [] composed
answer_follows own phase q h l composed near kind same accepted confirms called f =
    let k = answered late_segments phase own h in
    let y : Link = record l { port = record l.port { phase = phase; own = Some own }; queue = q } in
    let meets = meets_now h l [] composed f refl in
    let is = called_phase h.port.phase called in
    let is_l : l.port.phase ≡ Called = ap (λ (p : Port). p.phase) (sym meets.port) ∙ is in
    let none : l.port.own ≡ None = ap (λ (p : Port). p.own) (sym meets.port) ∙ (f.called called).0 in
    let waits : q.waits ≡ None = same.0 ∙ f.fits.waits (ap is_live is_l) in
    let now : phase_of y ≡ phase =
    ap (λ (w : Option Phase). (port_of_waiting w (record l.port { phase = phase; own = Some own })).phase) waits in
    let before : phase_of l ≡ Called = live_phase l f.fits (ap is_live is_l) ∙ is_l in
    record {
      used = phase;
      of_use = λ e. refl;
      fresh = λ e. absurd (not_both _ e kind.2);
      called = λ e. absurd (not_both _ e kind.3);
      ahead = let port = ap (λ (p : Port). record p { phase = phase; own = Some own }) meets.port in
          let exact = meets.exact (ap is_open is_l) in let used = sym now in assumption (port, exact, used, meets);
      acknowledged = f.acknowledged;
      passed = f.passed;
      accepted = confirms;
      usable = λ e. ap is_live now ∙ kind.0;
      fits = record {
        waits = λ e. waits;
        ran = λ e. absurd (not_both _ (ap (is_in Running) (sym now) ∙ e) kind.1);
        calling = λ e. absurd (not_both _ e kind.2);
      };
      can = can_more composed y (Grows None (lift h)) (Grows None (lift k)) near
          (can_grow None composed l y (Grows None (lift h)) (Grows None (lift h)) (record {
            own = λ n at. absurd (none_at l.port.own n none at);
            far = λ n at. at;
            opened = refl;
            usable = λ e. ap is_live now ∙ kind.0;
            closing = λ e. absurd (not_both _ e (ap (is_in Disconnecting) before));
            ran = λ e. same.1 ∙ e;
            accepted = accepted;
            silent = λ e. ap is_silent same.2 ∙ e;
            over = λ e. ap is_over same.2 ∙ e;
            gap = same.3;
            segsize = λ e. refl;
            segments = grown_itself l.segments near;
          }) f.can (λ x z grows p. grows_on None (lift h) x z p grows))
          (λ e s g. record {
            own = λ n at. ap (λ (p : Port). is_at p.own n) s.port ∙ at;
            far = g.far;
            opened = g.opened;
            usable = λ e. ap is_live (phase_same y _ s ∙ now) ∙ kind.0;
            closing = λ e. ap (is_in Disconnecting) (phase_same y _ s ∙ now) ∙ e;
            ran = λ e. absurd (not_both _ e kind.1);
            accepted = λ e. s.accepted ∙ confirms e;
            silent = λ e. g.silent (ap (λ (p : Phase). is_silent (level p)) is);
            over = λ e. g.over (ap (λ (p : Phase). is_over (level p)) is);
            gap = g.gap;
            segsize = λ e. absurd (not_both _ e kind.1);
            segments = g.segments;
          });
    }

module _ (n : Node) (t : machine.Links) (b : Beside n t) (near : AreAnswered t) where
  pub answers_beside : (event : LinkEventValue) (far own number : ℕ) (h : LateLink) (phase : Phase) → IsFree own n →
      IsFound (CalledBy far) n.links number h →
      number_of (LiveAt own) n.links ≡ None →
      (is_live phase ≡ true) × (is_in Running phase ≡ false) × (is_calling phase ≡ false) × (is_called phase ≡ false) →
      ((q : LinkQueue) → ((reached phase q).waits ≡ q.waits) × ((reached phase q).ran ≡ q.ran) × ((reached phase q).said ≡ q.said)
      × ((reached phase q).gap ≡ q.gap)) →
      ((q : LinkQueue) → (q.accepted ≡ true → (reached phase q).accepted ≡ true) × (is_in Confirming phase ≡ true →
      (reached phase q).accepted ≡ true)) →
      next_links t (records.OfUser event) ≡ with_link (CalledBy far) t (Err NoLink) (λ i l. with_link (LiveAt own) t
      (Ok (changed i (goes_on true_segments (is_live l.port.phase) phase (record l { port = record l.port { own = Some own } }))
      (freed true_segments With own t))) (λ i l. Err AddressInUse)) →
      Follow (record n { links = changed number (answered late_segments phase own h) (freed late_segments Without own n.links) }) t
      (records.OfUser event)
  answers_beside event far own number h phase free found none_live kind same accepted row = go (there_too t.links n.links.links number h (sym
      b.size) found.there)
    where
      called : is_called h.port.phase ≡ true
      called = (and_parts (is_called h.port.phase) (is_at h.port.far far) found.passed).0

      go : (l : Link) × (slice_get t.links number ≡ Some l) →
          Follow (record n { links = changed number (answered late_segments phase own h) (freed late_segments Without own n.links) }) t
          (records.OfUser event)
      go l =
          let f = b.all number h l.0 found.there l.1 in
          let nothing = called_meets n t b number h l.0 found.there l.1 called in
          let meets = meets_now h l.0 _ _ f nothing in
          let is_l : l.0.port.phase ≡ Called = ap (λ (p : Port). p.phase) (sym meets.port) ∙ called_phase h.port.phase called in
          let none_h : h.port.own ≡ None = (f.called called).0 in
          let none_l : l.0.port.own ≡ None = ap (λ (p : Port). p.own) (sym meets.port) ∙ none_h in
          let y : Link = record l.0 { port = record l.0.port { phase = phase; own = Some own }; queue = reached phase l.0.queue } in
          let as_y : goes_on true_segments (is_live l.0.port.phase) phase (record l.0 { port = record l.0.port { own = Some own } }) ≡ y =
          ap (λ (live : Bool). goes_on true_segments live phase (record l.0 { port = record l.0.port { own = Some own } })) (ap is_live is_l) in
          let fb = free_beside n t b own free none_live in
          let at_h = (left_h n t b own free none_live).other number h found.there (ap (λ (o : Option ℕ). is_at o own) none_h) in
          let at_l = (left_l n t b own free none_live).other number l.0 l.1 (ap (λ (o : Option ℕ). is_at o own) none_l) in
          let k = answered late_segments phase own h in
          let set_h = set_changed (freed late_segments Without own n.links) number h k at_h in
          let set_l = set_changed (freed true_segments With own t) number l.0 y at_l in
          let found_l : IsFound (CalledBy far) t number l.0 = record {
            found = sym (called_same n t b far) ∙ found.found;
            there = l.1;
            passed = ap (passes (CalledBy far)) (sym meets.port) ∙ found.passed;
          } in
          record {
            left = changed number y (freed true_segments With own t);
            is = row ∙ at_found (CalledBy far) t number l.0 _ _ found_l ∙ at_none (LiveAt own) t _ _ (sym (live_same n t b own free) ∙ none_live)
                ∙ ap (λ (x : Link). let r : Result machine.Links LinkRefusal = Ok (changed number x (freed true_segments With own t)) in r) as_y;
            beside = λ near_left. set_beside (free_node n t b own free none_live) (freed true_segments With own t) fb
                (changed number k (freed late_segments Without own n.links)) (changed number y (freed true_segments With own t)) number k y set_h
                set_l
                (unique_given (freed late_segments Without own n.links) (changed number k (freed late_segments Without own n.links)) k refl set_h
                fb.unique
                (no_owner n t b own free none_live))
                (follows_as k y [] _ _ _ (sym free.nothing_for) refl
                (answer_follows own phase (reached phase l.0.queue) h l.0 _ (near number l.0 l.1) kind (same l.0.queue) (accepted l.0.queue).0
                (accepted l.0.queue).1 called (follows_as h l.0 _ _ _ _ nothing refl f)));
          }
        where
          -- at most one link has this address, which none had
          unique_given : (s left : Links) (k : LateLink) → k.port.own ≡ Some own → IsSet s left number k → IsUnique s →
              ((i : ℕ) (g : LateLink) → slice_get s.links i ≡ Some g → is_at g.port.own own ≡ true → ⊥) → IsUnique left
          unique_given s left k is set unique none = unique_free s left number k set unique (λ i x m differs at own_x own_k.
              none i x at (ap (is_at x.port.own) (eqb-true own m (ap (λ (o : Option ℕ). is_at o m) (sym is) ∙ own_k)) ∙ own_x))
