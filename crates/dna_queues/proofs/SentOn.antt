-- What is composed is sent: the machine sends it too, and follows the node as before.
use Rattle.dna_queues.proofs.Prelude.{◌≡◌, ℕ, ◌<◌, true, ◌&&◌, ◌==◌, Option, Some, None, List, ◌∷◌, length, Ok, refl, sym, ap, ap₂, ◌∙◌, subst}
use Rattle.dna_queues.proofs.Prelude.{arith, slice_get, same_Some, NspValue, WrongNode, Phase, Running, Port, With, is_in, is_live, is_calling}
use Rattle.dna_queues.proofs.Prelude.{Piece, are_same, port_of_waiting, message_sent, IsAnswered, true_segments, SentMessage, there_is, AreAnswered}
use Rattle.dna_queues.proofs.Prelude.{links_left, next_links, Node, link_it_is_for, link_it_is_of, waiting, Takes}
use Rattle.dna_links.specs.TrueLinks as machine
use Rattle.dna_queues.proofs.{Facts.passed_check, Words.added, Pieces.Below, WaitsToGo.goes_same, Came.Fits, Acting.LateLink, Acting.seen_as}
use Rattle.dna_queues.proofs.{Follows.Follows, Lists.takes_first, Lists.takes_other, LinkLists.there_too, LinkLists.set_each, Sending.sends}
use Rattle.dna_queues.proofs.{Waiting.AreOf, Waiting.of_taken}
use Rattle.dna_queues.specs.Records as records
use Rattle.dna_queues.proofs.Goes.{Link, phase_of, Goes, Grows, Same}
use Rattle.dna_queues.proofs.Ahead.{Seen, Meets, ahead_still, is_open}
use Rattle.dna_queues.proofs.Beside.{Beside, unique_too, follows_as, eqb-same, eqb-other}

-- ---- one after another

pub grows_on : (more : Option (List ℕ)) (x y z : Link) → Grows None x y → Grows more y z → Grows more x z
grows_on more x y z a b = record {
  own = λ n at. b.own n (a.own n at);
  far = λ n at. b.far n (a.far n at);
  opened = b.opened ∙ a.opened;
  usable = λ e. b.usable (a.usable e);
  closing = λ e. b.closing (a.closing e);
  ran = λ e. b.ran (a.ran e);
  accepted = λ e. b.accepted (a.accepted e);
  silent = λ e. b.silent (a.silent e);
  over = λ e. b.over (a.over e);
  gap = b.gap ∙ a.gap;
  segsize = λ e. b.segsize (a.ran e) ∙ a.segsize e;
  segments = let p = a.segments in let q = b.segments in let r = p.received in let s = q.received in let u = p.acknowledged in
      let v = q.acknowledged in record {
        given = q.given ∙ p.given;
        last = q.last ∙ p.last;
        received = omega (arith, r, s);
        acknowledged = omega (arith, u, v);
        unsent = q.unsent ∙ ap (added more) p.unsent;
        answered = q.answered;
      };
}

-- ---- a message that waits is sent

pub phase_same : (l x : Link) → Same l x → phase_of x ≡ phase_of l
phase_same l x s = ap₂ (λ (w : Option Phase) (p : Port). (port_of_waiting w p).phase) s.waits s.port

pub fits_same : (l x : Link) → Same l x → Fits l → Fits x
fits_same l x s f = record {
  waits = λ e. s.waits ∙ f.waits (ap (λ (p : Port). is_live p.phase) (sym s.port) ∙ e);
  ran = λ e. s.ran ∙ f.ran (ap (is_in Running) (sym (phase_same l x s)) ∙ e);
  calling = λ e. let c = f.calling (ap (λ (p : Port). is_calling p.phase) (sym s.port) ∙ e) in
      (ap (λ (p : Port). p.far) s.port ∙ c.0, s.ran ∙ c.1);
}

pub meets_same : (a : Seen) (l x : Link) → Same l x → Meets a l → Meets a x
meets_same a l x s m = record {
  port = m.port ∙ sym s.port;
  partner = m.partner ∙ sym s.partner;
  segsize = m.segsize ∙ sym s.segsize;
  received = subst (λ (ps : List (Option Piece)). Below a.received ps) (sym s.segments.received) m.received;
  exact = λ e. m.exact (ap (λ (p : Port). is_open p.phase) (sym s.port) ∙ e) ∙ sym s.segments.received;
  used = λ e. m.used (ap is_live (sym (phase_same l x s)) ∙ e) ∙ sym (phase_same l x s);
}

pub record SendsOn (h : LateLink) (l : Link) (m : NspValue) (kept composed : List SentMessage) : Type 0 where
  pub left : Link
  pub goes : Goes l m left
  pub follows : Follows h left kept composed

pub sends_on : (h : LateLink) (l : Link) (kept composed : List SentMessage) (unit : SentMessage) → IsAnswered l.segments →
    Follows h l kept (unit ∷ composed) → SendsOn h l unit.packet.message kept composed
sends_on h l kept composed unit answered f =
    let c = f.can in
    let x = c.1 in
    let s = goes_same l x unit.packet.message answered c.0 c.2 in
    let same = s.segments.acknowledged in let low = f.acknowledged in
    record {
      left = x;
      goes = c.2;
      follows = record {
        used = f.used;
        of_use = f.of_use;
        fresh = f.fresh;
        called = f.called;
        ahead = ahead_still kept (seen_as f.used h) l x (omega (arith, same)) (λ a m. meets_same a l x s m) f.ahead;
        acknowledged = omega (arith, same, low);
        passed = s.segments.passed ∙ f.passed;
        accepted = λ e. s.accepted ∙ f.accepted e;
        usable = λ e. ap is_live (phase_same l x s) ∙ f.usable e;
        fits = fits_same l x s f.fits;
        can = c.3;
      };
    }

-- what the machine makes of the record
pub record Follow (n : Node) (t : machine.Links) (one : records.LinkRecord) : Type 0 where
  pub left : machine.Links
  pub is : next_links t one ≡ Ok left
  pub beside : AreAnswered left → Beside n left

module _ (n : Node) (t : machine.Links) (b : Beside n t) (answered : AreAnswered t) where
  pub sends_beside : (unit : SentMessage) (left : List SentMessage) → Takes link_it_is_of n.composed unit left →
      Follow (record n { composed = left }) t (records.Sends unit.packet)
  sends_beside unit left takes =
      let r = of_taken n.links.node n.links.peer (length n.links.links) n.composed left unit takes b.of_links in
      let h = there_is_one r.0.number r.0.within in
      go r.0.number r.0.is r.0.goes h.0 h.1 h.2 h.3 r.1
    where
      there_is_one : (number : ℕ) → number < length n.links.links → (h : LateLink) × (l : Link) × (slice_get n.links.links number ≡ Some h) ×
          (slice_get t.links number ≡ Some l)
      there_is_one number within =
          let h = there_is n.links.links number within in
          let l = there_too t.links n.links.links number h.0 (sym b.size) h.1 in (h.0, l.0, h.1, l.1)

      go : (number : ℕ) → link_it_is_of unit ≡ Some number → (unit.packet.src == n.links.node && unit.packet.dst == n.links.peer) ≡ true →
          (h : LateLink) (l : Link) → slice_get n.links.links number ≡ Some h → slice_get t.links number ≡ Some l →
          AreOf n.links.node n.links.peer (length n.links.links) left → Follow (record n { composed = left }) t (records.Sends unit.packet)
      go number is may h l at_h at_l of_left =
          let f = b.all number h l at_h at_l in
          let first = takes_first link_it_is_of n.composed left unit (Some number) takes (ap (λ (o : Option ℕ). are_same o (Some number)) is
          ∙ eqb-same number number refl) in
          let on = sends_on h l (waiting link_it_is_for h.port.own n.kept) (waiting link_it_is_of (Some number) left) unit (answered number l at_l)
          (follows_as h l _ _ _ _ refl first f) in
          let sent = sends t (unique_too n t b) number l at_l unit.packet.message on.left on.goes in
          record {
            left = sent.made.links;
            is = ap links_left (passed_check (unit.packet.src == t.node && unit.packet.dst == t.peer) WrongNode
                (message_sent With true_segments t unit.packet.message)
                (ap₂ (λ (x y : ℕ). unit.packet.src == x && unit.packet.dst == y) (sym b.node) (sym b.peer) ∙ may) ∙ sent.does);
            beside = λ near. record {
              node = b.node ∙ sym sent.set.node;
              peer = b.peer ∙ sym sent.set.peer;
              size = b.size ∙ sym sent.set.size;
              unique = b.unique;
              for_links = b.for_links;
              of_links = of_left;
              all = λ i k x at_k at_x. set_each t sent.made.links number on.left sent.set
                  (λ i x. (k : LateLink) → slice_get n.links.links i ≡ Some k →
                  Follows k x (waiting link_it_is_for k.port.own n.kept) (waiting link_it_is_of (Some i) left))
                  (λ k at_k. subst (λ (g : LateLink). Follows g on.left (waiting link_it_is_for g.port.own n.kept)
                  (waiting link_it_is_of (Some number) left)) (same_Some h k (sym at_h ∙ at_k)) on.follows)
                  (λ i x differs at_x k at_k. follows_as k x _ _ (waiting link_it_is_of (Some i) n.composed) _ refl
                  (takes_other link_it_is_of n.composed left unit (Some i) takes
                  (ap (λ (o : Option ℕ). are_same o (Some i)) is ∙ eqb-other i number differs)) (b.all i k x at_k at_x)) i x at_x k at_k;
            };
          }
