-- A link of the machine beside that of the node, and when the latter acts on the first packet that waits for it.
use Rattle.dna_queues.proofs.Prelude.{◌≡◌, ℕ, ◌≤◌, true, false, Option, None, List, ◌∷◌, refl, sym, ap, ◌∙◌, subst, arith, Phase, Confirming}
use Rattle.dna_queues.proofs.Prelude.{Running, Port, is_in, is_live, is_at, is_calling, is_called, in_order, IsAnswered, SentMessage}
use Rattle.dna_queues.proofs.{Pieces.below_order, WaitsToGo.CanSend, WaitsToGo.can_more, Came.Fits}
use Rattle.dna_queues.proofs.Goes.{Link, phase_of, Grows}
use Rattle.dna_queues.proofs.Ahead.{Seen, Ahead, IsFresh, Behind, later, behind}
use Rattle.dna_queues.proofs.Acting.{LateLink, lift, seen_as, acts_as, acts_on}

-- ---- the two links

pub record Follows (h : LateLink) (l : Link) (kept composed : List SentMessage) : Type 0 where
  pub used : Phase
  pub of_use : is_live h.port.phase ≡ true → used ≡ h.port.phase
  pub fresh : is_calling h.port.phase ≡ true → h.port.far ≡ None
  pub called : is_called h.port.phase ≡ true → (h.port.own ≡ None) × (h.port.opened ≡ false)
  pub ahead : Ahead kept (seen_as used h) l
  pub acknowledged : h.segments.segments.acknowledged ≤ l.segments.acknowledged
  pub passed : l.segments.passed ≡ h.segments.segments.passed
  pub accepted : is_in Confirming h.port.phase ≡ true → l.queue.accepted ≡ true
  pub usable : is_live h.port.phase ≡ true → is_live (phase_of l) ≡ true
  pub fits : Fits l
  pub can : CanSend composed l (Grows None (lift h))

pub is_fresh : (h : LateLink) (l : Link) (kept composed : List SentMessage) (f : Follows h l kept composed) → IsFresh (seen_as f.used h)
is_fresh h l kept composed f = record { calling = f.fresh; used = f.of_use }

pub is_behind : (h : LateLink) (l : Link) (kept composed : List SentMessage) (f : Follows h l kept composed) → Behind (seen_as f.used h) l
is_behind h l kept composed f = behind kept (seen_as f.used h) l (is_fresh h l kept composed f) f.ahead

-- ---- it acts on the first packet that waits for it

level_run : (p : Phase) → is_in Running p ≡ true → (is_live p ≡ true) × (is_calling p ≡ false) × ((q : Phase) → later p q ≡ true →
    is_in Running q ≡ true)
level_run Running e = (refl, refl, run)
  where
    run : (q : Phase) → later Running q ≡ true → is_in Running q ≡ true
    run Running e = refl
    run q e = absurd cc
level_run p e = absurd cc

pub act_follows : (h : LateLink) (l : Link) (unit : SentMessage) (kept composed : List SentMessage) → IsAnswered l.segments →
    Follows h l (unit ∷ kept) composed → Follows (acts_as unit.packet.message unit.truth h) l kept composed
act_follows h l unit kept composed answered f =
    let k = acts_as unit.packet.message unit.truth h in
    let a = acts_on f.used h f.of_use f.fresh unit.packet.message unit.truth in
    let ahead : Ahead kept (seen_as a.then_used k) l = subst (λ (b : Seen). Ahead kept b l) a.seen f.ahead.1 in
    let low : k.segments.segments.acknowledged ≤ l.segments.acknowledged = a.within l.segments.acknowledged f.acknowledged f.ahead.0 in
    let b = behind kept (seen_as a.then_used k) l (record { calling = a.fresh; used = a.of_use }) ahead in
    record {
      used = a.then_used;
      of_use = a.of_use;
      fresh = a.fresh;
      called = λ e. let c = f.called (a.called e) in (a.own ∙ c.0, a.opened ∙ c.1);
      ahead = ahead;
      acknowledged = low;
      passed = f.passed ∙ sym a.passed;
      accepted = λ e. f.accepted (a.confirming e);
      usable = λ e. f.usable (a.live e);
      fits = f.fits;
      can = can_more composed l (Grows None (lift h)) (Grows None (lift k)) answered f.can (λ e same g. record {
        own = λ n at. g.own n (ap (λ (o : Option ℕ). is_at o n) (sym a.own) ∙ at);
        far = λ n at. ap (λ (p : Port). is_at p.far n) same.port ∙ b.far n at;
        opened = g.opened ∙ sym a.opened;
        usable = λ live. g.usable (a.live live);
        closing = λ closing. g.closing (a.closing closing);
        ran = λ run. let r = level_run k.port.phase run in
            same.ran ∙ f.fits.ran (r.2 (phase_of l) (ap (λ (p : Phase). later p (phase_of l)) (sym (a.of_use r.0))
            ∙ b.used (f.usable (a.live r.0))));
        accepted = λ confirming. g.accepted (a.confirming confirming);
        silent = λ silent. g.silent (a.silent silent);
        over = λ not_over. g.over (a.is_not_over not_over);
        gap = g.gap ∙ sym a.gap;
        segsize = λ run. let r = level_run k.port.phase run in same.segsize ∙ sym (b.segsize r.1);
        segments = record {
          given = g.segments.given ∙ sym a.given;
          last = g.segments.last ∙ sym a.last;
          received = let p = below_order k.segments.segments.received l.segments.received b.received in
              let q : in_order e.segments.received ≡ in_order l.segments.received = ap in_order same.segments.received in
              omega (arith, p, q);
          acknowledged = let p = same.segments.acknowledged in omega (arith, p, low);
          unsent = g.segments.unsent ∙ sym a.unsent;
          answered = g.segments.answered;
        };
      });
    }
