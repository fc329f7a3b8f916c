-- A message is delivered: nothing that is sent looks at that.
use Rattle.dna_queues.proofs.Prelude.{◌≡◌, ℕ, ◌+◌, Bool, true, false, Option, Some, None, List, [], ◌∷◌, ◌++◌, drop, Ok, Err, refl, sym, ap, ap₂}
use Rattle.dna_queues.proofs.Prelude.{◌∙◌, subst, slice_get, bytes_eq, same_Some, NoLink, Phase, Port, HasAddress, With, is_at, Whole, next_message}
use Rattle.dna_queues.proofs.Prelude.{changed, with_segments, port_of_waiting, user_step, Up, delivered, TrueSegments, delivers, delivers_whole}
use Rattle.dna_queues.proofs.Prelude.{delivered_as, true_segments, IsFound, looked, LinkRecord, OfUser, late_segments, Node, over, delivered_over}
use Rattle.dna_queues.proofs.Prelude.{UserDoes}
use Rattle.dna_links.specs.TrueLinks as machine
use Rattle.dna_queues.proofs.{Facts.same_Ok, Given.own_owns, Delivered.Leaves, Delivered.given_user, Moved.moved, Moved.gone_before, Dues.Went}
use Rattle.dna_queues.proofs.{Dues.AreSane, SentTimed.Sound, UserTimed.Changes, UserTimed.one_sound}
use Rattle.dna_queues.proofs.Goes.{Link, phase_of, node_own, at_node}
use Rattle.dna_queues.proofs.LinkLists.{IsUnique, IsSet, set_changed, at_found}
use Rattle.dna_queues.proofs.Hide.{LateLink, hide, found}

-- what is delivered of segments that received the same is the same
record DeliversToo (message : List ℕ) (f d g : TrueSegments) : Type 0 where
  pub is : d ≡ given_user d.delivered d.passed f
  pub too : delivers message g ≡ Some (given_user d.delivered d.passed g)

delivers_too : (message : List ℕ) (f d g : TrueSegments) → Leaves f g → delivers message f ≡ Some d → DeliversToo message f d g
delivers_too message f d g leaves e = go (next_message (drop f.passed f.received)) refl e
  where
    next_too : (o : Option Whole) → next_message (drop f.passed f.received) ≡ o → next_message (drop g.passed g.received) ≡ o
    next_too o is = ap₂ (λ (n : ℕ) ps. next_message (drop n ps)) leaves.passed leaves.received ∙ is

    by_bytes : (w : Whole) → next_message (drop f.passed f.received) ≡ Some w → (b : Bool) → bytes_eq message w.message ≡ b →
        delivered_as b w f ≡ Some d → DeliversToo message f d g
    by_bytes w next false same e = absurd cc
    by_bytes w next true same e =
        let is : given_user (f.delivered ++ w.message ∷ []) (f.passed + w.pieces) f ≡ d = same_Some _ d e in
        subst (λ (x : TrueSegments). DeliversToo message f x g) is (record {
          is = refl;
          too = ap (λ (o : Option Whole). delivers_whole o message g) (next_too _ next) ∙ ap (λ (b : Bool). delivered_as b w g) same
              ∙ ap₂ (λ (ms : List (List ℕ)) (n : ℕ). Some (given_user (ms ++ w.message ∷ []) (n + w.pieces) g)) leaves.delivered leaves.passed;
        })

    go : (o : Option Whole) → next_message (drop f.passed f.received) ≡ o → delivers_whole o message f ≡ Some d → DeliversToo message f d g
    go None next e = absurd cc
    go (Some w) next e = by_bytes w next _ refl e

module _ (s : machine.Links) (sane : AreSane s) (later : List LinkRecord) (left : machine.Links) (rest : AreSane left → Sound left later) where
  pub up_sound : (own : ℕ) (message : List ℕ) → user_step With true_segments s (Up own message) ≡ Ok left → Sound s (OfUser (Up own message) ∷ later)
  up_sound own message e =
      looked (HasAddress own) s (Err NoLink) _ (Ok left) e (λ none e. absurd cc)
      (λ i l f e. by_whole i l f (delivers message l.segments) refl e)
    where
      by_link : (i : ℕ) (l : Link) → IsFound (HasAddress own) s i l → (d : TrueSegments) → delivers message l.segments ≡ Some d →
          changed i (with_segments d l) s ≡ left → Sound s (OfUser (Up own message) ∷ later)
      by_link i l f d does same =
          let k = moved l.port l.queue.waits d.delivered d.passed l in
          let was = sane.each i l f.there in
          let is = (delivers_too message l.segments d l.segments (record { received = refl; delivered = refl; passed = refl }) does).is in
          one_sound s sane later (OfUser (Up own message)) i l f.there left k
          (subst (λ (x : machine.Links). IsSet s x i k) (ap (λ (g : TrueSegments). changed i (with_segments g l) s) (sym is) ∙ same)
          (set_changed s i l k f.there)) refl (λ x y. moved l.port l.queue.waits d.delivered d.passed x ≡ y)
          (record { began = was.began; opened = was.opened; called = was.called; waits = was.waits })
          (λ due x. gone_before l.port l.queue.waits d.delivered d.passed s.node s.peer due.packets l (phase_of l) (λ y. y ≡ due.link)
          (λ m e. e) x.early x.can)
          (λ kept a. record { live = a.live; over = a.over })
          (λ n x y unique went q there. step n x y unique went q there) rest
        where
          step : (n : Node) (x y : Link) → IsUnique n.links → Went l x → moved l.port l.queue.waits d.delivered d.passed x ≡ y →
              slice_get n.links.links i ≡ Some (hide x) → Changes (OfUser (Up own message)) i n (hide y)
          step n x y unique went q there =
              let g = over (hide x).segments (given_user d.delivered d.passed x.segments) in
              let h = with_segments g (hide x) in
              let t = delivers_too message l.segments d x.segments went.leaves does in
              record {
                links = changed i h n.links;
                makes = UserDoes (Up own message) (changed i h n.links) tt
                    (at_found (HasAddress own) n.links i (hide x) _ _
                    (found n.links unique i x there (HasAddress own) own (own_owns own)
                    (ap (λ (o : Option ℕ). is_at o own) (node_own x ∙ ap (λ (p : Port). p.own) went.port) ∙ f.passed))
                    ∙ ap (λ (o : Option TrueSegments). delivered late_segments i (hide x) n.links (delivered_over (hide x).segments o)) t.too);
                set = subst (λ (y : LateLink). IsSet n.links (changed i h n.links) i y)
                    (ap₂ (λ (p : Port) (w : Option Phase). record h { port = port_of_waiting (at_node w) p }) went.port went.waits ∙ ap hide q)
                    (set_changed n.links i (hide x) h there);
              }

      by_whole : (i : ℕ) (l : Link) → IsFound (HasAddress own) s i l → (o : Option TrueSegments) → delivers message l.segments ≡ o →
          delivered true_segments i l s o ≡ Ok left → Sound s (OfUser (Up own message) ∷ later)
      by_whole i l f None does e = absurd cc
      by_whole i l f (Some d) does e = by_link i l f d does (same_Ok _ left e)
