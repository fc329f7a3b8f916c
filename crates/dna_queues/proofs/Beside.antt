-- The node with queues beside the machine: each link of the machine follows that of the node, and hidden steps change nothing of that.
use Rattle.dna_queues.proofs.Prelude.{◌≡◌, ℕ, Bool, true, false, ◌&&◌, ◌||◌, ◌==◌, cond, Option, Some, None, List, [], ◌∷◌, ◌++◌, length, Ok, refl}
use Rattle.dna_queues.proofs.Prelude.{sym, ap, ◌∙◌, subst, arith, eqb-true, append-nil, slice_get, slice_get_within, NspValue, DataSegment}
use Rattle.dna_queues.proofs.Prelude.{LinkService, DataAck, OtherDataAck, ConnectAck, ConnectConfirm, DisconnectInitiate, DisconnectConfirm}
use Rattle.dna_queues.proofs.Prelude.{IsInRange, WrongNode, Running, Confirming, Port, Without, TheLink, CallingAt, ActedOn, BegunBy, goes, passes}
use Rattle.dna_queues.proofs.Prelude.{is_in, is_live, is_at, is_calling, is_called, LinkTruth, are_same, Sent, sent_step, of_partner, arrived_step}
use Rattle.dna_queues.proofs.Prelude.{IsAnswered, Numbers, takes_segment, takes_acks, SentMessage, checked, AreAnswered, LateSegments}
use Rattle.dna_queues.proofs.Prelude.{late_segments, Links, Node, link_it_is_for, link_it_is_of, waiting, Takes, is_composed, false_from_ne_true}
use Rattle.dna_links.specs.TrueLinks as machine
use Rattle.dna_queues.proofs.Goes.{Link, Goes, Grows, goes_too}
use Rattle.dna_queues.proofs.{WaitsToGo.CanSend, WaitsToGo.can_push, Ahead.Seen, Ahead.Ahead, Arrivals.hidden_acts}
use Rattle.dna_queues.proofs.Acting.{LateLink, lift, confirmed_late, ended_late, run_late, acts_as}
use Rattle.dna_queues.proofs.Follows.{Follows, act_follows, is_behind}
use Rattle.dna_queues.proofs.Lists.{takes_first, takes_other, waiting_push}
use Rattle.dna_queues.proofs.LinkLists.{unique_set, IsUnique, unique_changed, changed_each, there_too, set_each}
use Rattle.dna_queues.proofs.Composing.{Composed, composes, acknowledges, Keeps}
use Rattle.dna_queues.proofs.Waiting.{AreFor, for_taken, AreOf, of_push, of_same}

pub record Beside (n : Node) (t : machine.Links) : Type 0 where
  pub node : n.links.node ≡ t.node
  pub peer : n.links.peer ≡ t.peer
  pub size : length n.links.links ≡ length t.links
  pub unique : IsUnique n.links
  pub for_links : AreFor n.kept
  pub of_links : AreOf n.links.node n.links.peer (length n.links.links) n.composed
  pub all : (i : ℕ) (h : LateLink) (l : Link) → slice_get n.links.links i ≡ Some h → slice_get t.links i ≡ Some l →
      Follows h l (waiting link_it_is_for h.port.own n.kept) (waiting link_it_is_of (Some i) n.composed)

-- at most one link of the machine has an address
pub unique_too : (n : Node) (t : machine.Links) → Beside n t → IsUnique t
unique_too n t b i j l k at_i at_j own own_l own_k =
    let h = there_too n.links.links t.links i l b.size at_i in
    let g = there_too n.links.links t.links j k b.size at_j in
    b.unique i j h.0 g.0 h.1 g.1 own
    (ap (λ (o : Option ℕ). is_at o own) (is_behind h.0 l _ _ (b.all i h.0 l h.1 at_i)).own ∙ own_l)
    (ap (λ (o : Option ℕ). is_at o own) (is_behind g.0 k _ _ (b.all j g.0 k g.1 at_j)).own ∙ own_k)

-- what is left once all has gone
pub can_end : (units : List SentMessage) (l : Link) (P : Link → Type 0) → CanSend units l P → (e : Link) × P e
can_end [] l P can = (l, can)
can_end (unit ∷ units) l P can = can_end units can.1 P can.3

pub eqb-same : (i number : ℕ) → i ≡ number → (i == number) ≡ true
eqb-same i number e = grind (arith, e)

pub eqb-other : (i number : ℕ) → (i ≡ number → ⊥) → (i == number) ≡ false
eqb-other i number differs = false_from_ne_true (i == number) (λ e. differs (eqb-true i number e))

pub follows_as : (h : LateLink) (l : Link) (kept kept' composed composed' : List SentMessage) → kept ≡ kept' → composed ≡ composed' →
    Follows h l kept composed → Follows h l kept' composed'
follows_as h l kept kept' composed composed' a b f =
    subst (λ (us : List SentMessage). Follows h l us composed') a (subst (λ (us : List SentMessage). Follows h l kept us) b f)

-- ---- a packet that waits is acted on

own_if : (b : Bool) (k h : LateLink) → k.port.own ≡ h.port.own → (cond b k h).port.own ≡ h.port.own
own_if true k h e = e
own_if false k h e = refl

acts_own : (m : NspValue) (truth : LinkTruth Numbers) (h : LateLink) → (acts_as m truth h).port.own ≡ h.port.own
acts_own (ConnectConfirm dst src services info segsize user_data) truth h =
    own_if (passes (CallingAt dst) h.port) (confirmed_late src segsize truth.tag.link h) h refl
acts_own (DisconnectInitiate dst src reason user_data) truth h =
    own_if (passes (TheLink dst src) h.port || passes (CallingAt dst) h.port) (ended_late h) h refl
acts_own (DisconnectConfirm dst src reason) truth h =
    own_if (passes (TheLink dst src) h.port || passes (CallingAt dst) h.port) (ended_late h) h refl
acts_own (DataSegment s) truth h =
    own_if (passes (ActedOn s.dstaddr s.srcaddr) h.port) (run_late (takes_segment s truth.known h.segments.segments) h) h refl
acts_own (DataAck dst src acks) truth h =
    own_if (passes (ActedOn dst src) h.port) (run_late (takes_acks acks truth.known h.segments.segments) h) h refl
acts_own (LinkService interrupt dst src rest) truth h = own_if (passes (ActedOn dst src) h.port) (run_late h.segments.segments h) h refl
acts_own (OtherDataAck dst src rest) truth h = own_if (passes (ActedOn dst src) h.port) (run_late h.segments.segments h) h refl
acts_own m truth h = refl

module _ (n : Node) (t : machine.Links) (b : Beside n t) (answered : AreAnswered t) where
  pub acts_beside : (unit : SentMessage) (left : List SentMessage) (links : Links) → Takes link_it_is_for n.kept unit left →
      arrived_step Without late_segments of_partner n.links unit.packet unit.truth ≡ Ok links →
      Beside (record { links = links; kept = left; composed = n.composed }) t
  acts_beside unit left links takes e =
      let r = for_taken n.kept left unit takes b.for_links in
      let address = r.0.0 in
      let c = hidden_acts n.links links b.unique unit.truth unit.packet.message address r.0.1 (checked _ WrongNode _ links e).1 in
      record {
        node = c.node ∙ b.node;
        peer = c.peer ∙ b.peer;
        size = c.size ∙ b.size;
        unique = unique_changed n.links links address (acts_as unit.packet.message unit.truth) c (acts_own unit.packet.message unit.truth) b.unique;
        for_links = r.1;
        of_links = of_same _ _ _ links.node links.peer (length links.links) n.composed c.node c.peer c.size b.of_links;
        all = λ i k l at_k at_l. changed_each n.links links address (acts_as unit.packet.message unit.truth) c
            (λ x. Follows x l (waiting link_it_is_for x.port.own left) (waiting link_it_is_of (Some i) n.composed)) i
            (λ h there own. follows_as (acts_as unit.packet.message unit.truth h) l (waiting link_it_is_for h.port.own left) _ _ _
            (ap (λ (o : Option ℕ). waiting link_it_is_for o left) (sym (acts_own unit.packet.message unit.truth h))) refl
            (act_follows h l unit (waiting link_it_is_for h.port.own left) (waiting link_it_is_of (Some i) n.composed) (answered i l at_l)
            (follows_as h l _ _ _ _ (takes_first link_it_is_for n.kept left unit h.port.own takes (same address r.0.1 h ∙ own)) refl
            (b.all i h l there at_l))))
            (λ h there own. follows_as h l _ _ _ _ (takes_other link_it_is_for n.kept left unit h.port.own takes (same address r.0.1 h ∙ own)) refl
            (b.all i h l there at_l)) k at_k;
      }
    where
      same : (address : ℕ) → link_it_is_for unit ≡ Some address → (h : LateLink) →
          are_same (link_it_is_for unit) h.port.own ≡ is_at h.port.own address
      same address is h = ap (λ (o : Option ℕ). are_same o h.port.own) is

  -- ---- a message is composed

  composed_follows : (h k : LateLink) (l : Link) (kept composed : List SentMessage) (unit : SentMessage) → IsInRange unit.packet.message →
      Goes (lift h) unit.packet.message (lift k) → (IsAnswered h.segments.segments → Keeps h k) → Follows h l kept composed →
      Follows k l kept (composed ++ unit ∷ [])
  composed_follows h k l kept composed unit small goes keeps f =
      let e = can_end composed l (Grows None (lift h)) f.can in
      let g = e.1 in
      let got = g.segments.received in let last = g.segments.last in let near = g.segments.answered in
      let same = keeps (omega (arith, got, last, near)) in
      let port : k.port ≡ h.port = ap (λ (a : Seen). a.port) (same.seen Running) in
      let low = f.acknowledged in let acknowledged = same.acknowledged in
      record {
        used = f.used;
        of_use = λ live. f.of_use (ap (λ (p : Port). is_live p.phase) (sym port) ∙ live) ∙ ap (λ (p : Port). p.phase) (sym port);
        fresh = λ calling. ap (λ (p : Port). p.far) port ∙ f.fresh (ap (λ (p : Port). is_calling p.phase) (sym port) ∙ calling);
        called = λ called. let c = f.called (ap (λ (p : Port). is_called p.phase) (sym port) ∙ called) in
            (ap (λ (p : Port). p.own) port ∙ c.0, ap (λ (p : Port). p.opened) port ∙ c.1);
        ahead = subst (λ (a : Seen). Ahead kept a l) (sym (same.seen f.used)) f.ahead;
        acknowledged = omega (arith, low, acknowledged);
        passed = f.passed ∙ sym same.passed;
        accepted = λ confirming. f.accepted (ap (λ (p : Port). is_in Confirming p.phase) (sym port) ∙ confirming);
        usable = λ live. f.usable (ap (λ (p : Port). is_live p.phase) (sym port) ∙ live);
        fits = f.fits;
        can = can_push composed unit l (Grows None (lift h)) (Grows None (lift k)) f.can (λ e g.
            let x = goes_too None (lift h) e g unit.packet.message (lift k) small goes in (small, x.left, x.goes, x.further));
      }

  composed_beside : (unit : SentMessage) (made : Sent LateSegments Numbers) → IsInRange unit.packet.message →
      Composed n.links unit.packet.message made → (unit.packet.src == n.links.node && unit.packet.dst == n.links.peer) ≡ true →
      unit.truth ≡ made.truth →
      Beside (record { links = made.links; kept = n.kept; composed = n.composed ++ unit ∷ [] }) t
  composed_beside unit made small c may truth =
      let within = slice_get_within n.links.links c.number c.link c.there in
      let of_link : link_it_is_of unit ≡ Some c.number = ap (λ (x : LinkTruth Numbers). x.tag.link) truth ∙ c.tag in
      record {
        node = c.set.node ∙ b.node;
        peer = c.set.peer ∙ b.peer;
        size = c.set.size ∙ b.size;
        unique = unique_set n.links made.links c.number c.link c.left c.set c.there (own c) b.unique;
        for_links = b.for_links;
        of_links = of_same _ _ _ made.links.node made.links.peer (length made.links.links) (n.composed ++ unit ∷ []) c.set.node c.set.peer c.set.size
            (of_push n.links.node n.links.peer (length n.links.links) n.composed unit b.of_links
            (record { number = c.number; is = of_link; within = within; goes = may }));
        all = λ i k l at_k at_l. set_each n.links made.links c.number c.left c.set
            (λ i k. slice_get t.links i ≡ Some l →
            Follows k l (waiting link_it_is_for k.port.own n.kept) (waiting link_it_is_of (Some i) (n.composed ++ unit ∷ [])))
            (λ at_l. follows_as c.left l (waiting link_it_is_for c.link.port.own n.kept) _
            (waiting link_it_is_of (Some c.number) n.composed ++ unit ∷ []) _
            (ap (λ (o : Option ℕ). waiting link_it_is_for o n.kept) (sym (own c)))
            (sym (pushed of_link c.number (eqb-same c.number c.number refl)))
            (composed_follows c.link c.left l (waiting link_it_is_for c.link.port.own n.kept) (waiting link_it_is_of (Some c.number) n.composed) unit
            small (c.goes small) (c.keeps small) (b.all c.number c.link l c.there at_l)))
            (λ i k differs at_h at_l. follows_as k l _ _ (waiting link_it_is_of (Some i) n.composed) _ refl
            (sym (pushed of_link i (eqb-other i c.number differs) ∙ append-nil (waiting link_it_is_of (Some i) n.composed)))
            (b.all i k l at_h at_l)) i k at_k at_l;
      }
    where
      keeps : (c : Composed n.links unit.packet.message made) → IsAnswered c.link.segments.segments → Keeps c.link c.left
      keeps c near = c.keeps small near

      end : (c : Composed n.links unit.packet.message made) → (l : Link) × (slice_get t.links c.number ≡ Some l)
      end c = there_too t.links n.links.links c.number c.link (sym b.size) c.there

      near : (c : Composed n.links unit.packet.message made) → IsAnswered c.link.segments.segments
      near c =
          let l = end c in
          let e = can_end _ l.0 (Grows None (lift c.link)) (b.all c.number c.link l.0 c.there l.1).can in
          let got = e.1.segments.received in let last = e.1.segments.last in let near = e.1.segments.answered in omega (arith, got, last, near)

      own : (c : Composed n.links unit.packet.message made) → c.left.port.own ≡ c.link.port.own
      own c = ap (λ (a : Seen). a.port.own) ((c.keeps small (near c)).seen Running)

      pushed : {number : ℕ} → link_it_is_of unit ≡ Some number → (i : ℕ) {b : Bool} → (i == number) ≡ b →
          waiting link_it_is_of (Some i) (n.composed ++ unit ∷ []) ≡ waiting link_it_is_of (Some i) n.composed ++ cond b (unit ∷ []) []
      pushed of_link i e =
          waiting_push link_it_is_of n.composed unit (Some i)
          ∙ ap (λ (b : Bool). waiting link_it_is_of (Some i) n.composed ++ cond b (unit ∷ []) [])
          (ap (λ (o : Option ℕ). are_same o (Some i)) of_link ∙ e)

  pub composes_beside : (unit : SentMessage) (made : Sent LateSegments Numbers) → is_composed unit.packet.message ≡ true →
      IsInRange unit.packet.message → sent_step Without late_segments n.links unit.packet ≡ Ok made → unit.truth ≡ made.truth →
      Beside (record { links = made.links; kept = n.kept; composed = n.composed ++ unit ∷ [] }) t
  composes_beside unit made may small e truth =
      let c = checked (unit.packet.src == n.links.node && unit.packet.dst == n.links.peer) WrongNode _ made e in
      composed_beside unit made small (composes n.links made unit.packet.message may c.1) c.0 truth

  pub acknowledges_beside : (unit : SentMessage) (dst number : ℕ) (link : LateLink) → unit.packet.message ≡ ConnectAck dst →
      goes {R = Links} unit.packet n.links.node n.links.peer (Ok n.links) ≡ Ok n.links → slice_get n.links.links number ≡ Some link →
      passes (BegunBy dst) link.port ≡ true → link_it_is_of unit ≡ Some number →
      Beside (record { links = n.links; kept = n.kept; composed = n.composed ++ unit ∷ [] }) t
  acknowledges_beside unit dst number link is e there passed of_link =
      composed_beside unit (record { links = n.links; truth = unit.truth }) (subst IsInRange (sym is) tt)
      (acknowledges n.links unit.packet.message unit.truth dst number link is there passed of_link)
      (checked (unit.packet.src == n.links.node && unit.packet.dst == n.links.peer) WrongNode _ n.links e).0 refl
