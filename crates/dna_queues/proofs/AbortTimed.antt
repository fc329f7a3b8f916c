-- A call is given up by its user: what it says of it until then is composed before, and its CI may go after that.
use Rattle.dna_queues.proofs.Prelude.{◌≡◌, ℕ, Bool, true, Option, Some, List, ◌∷◌, Ok, Err, refl, sym, ap, ap₂, ◌∙◌, subst, slice_get}
use Rattle.dna_queues.proofs.Prelude.{NoLink, Phase, Calling, Called, Ended, Port, LiveAt, With, passes, is_live, is_called, is_calling}
use Rattle.dna_queues.proofs.Prelude.{changed, in_use, ended, drops, drops_segments, call_of, user_step, Abort, TrueSegments, true_segments}
use Rattle.dna_queues.proofs.Prelude.{checked, LinkRecord, OfUser, late_segments, Node, UserDoes}
use Rattle.dna_links.specs.TrueLinks as machine
use Rattle.dna_queues.proofs.{Facts.passed_check, Facts.same_Ok, Delivered.given_user, Sending.live_owns, Moved.moved, Moved.gone_before}
use Rattle.dna_queues.proofs.{SentTimed.Sound, UserTimed.Changes, UserTimed.one_sound, ClosedTimed.passes_phase}
use Rattle.dna_queues.proofs.Goes.{Link, phase_of, test_of, use_port, at_node, node_port, uncalled_use}
use Rattle.dna_queues.proofs.LinkLists.{IsUnique, IsSet, set_changed, at_found}
use Rattle.dna_queues.proofs.Turns.{Began, CanWait, is_in_same}
use Rattle.dna_queues.proofs.Hide.{LateLink, hide, found}
use Rattle.dna_queues.proofs.MachineSends.{IsUsed, used, live_at}
use Rattle.dna_queues.proofs.Dues.{Went, went_node, AreSane}

module _ (s : machine.Links) (sane : AreSane s) (later : List LinkRecord) (left : machine.Links) (rest : AreSane left → Sound left later) where
  pub abort_sound : (own : ℕ) → user_step With true_segments s (Abort own) ≡ Ok left → Sound s (OfUser (Abort own) ∷ later)
  abort_sound own e =
      used s sane.each (LiveAt own) (live_at own) (Err NoLink) _ (Ok left) e (λ e. absurd cc)
      (λ i l u e. let c = checked (is_calling (phase_of l)) _ _ left e in by_link i l u c.0 (same_Ok _ left c.1))
    where
      by_link : (i : ℕ) (l : Link) → IsUsed s sane.each (LiveAt own) i l → is_calling (phase_of l) ≡ true →
          changed i (drops true_segments With l) s ≡ left → Sound s (OfUser (Abort own) ∷ later)
      by_link i l u calling same =
          one_sound s sane later (OfUser (Abort own)) i l u.there left (given_up l)
          (subst (λ (x : machine.Links). IsSet s x i (given_up l)) (ap (λ (x : Link). changed i x s) (sym drops_is) ∙ same)
          (set_changed s i l (given_up l) u.there)) refl (λ x y. given_up x ≡ y)
          (record {
            began = ((sane.each i l u.there).opened began.0, began.1);
            opened = (sane.each i l u.there).opened;
            called = λ e. absurd cc;
            waits = λ p e. (refl, waits_so p e);
          })
          (λ due d. gone_before over (Some Called) l.segments.delivered l.segments.passed s.node s.peer due.packets l Called (λ x. x ≡ due.link)
          (λ m e. passes_phase m (in_use With l) Called (phase_of l) (ap is_live phase_is)
          (subst (λ (p : Port). passes (test_of m) p ≡ true) (sym (use_port l.queue.waits l.port Called)) e)) d.early d.can)
          (λ kept a. record { live = λ e. absurd cc; over = λ p e. absurd cc })
          (λ n x y unique went q there. step n x y unique went q there) rest
        where
          over : Port
          over = record l.port { phase = Ended }

          given_up : Link → Link
          given_up x = moved over (Some Called) l.segments.delivered l.segments.passed x

          phase_is : phase_of l ≡ Calling
          phase_is = is_in_same Calling (phase_of l) calling

          began : Began Calling l.port.opened l.queue.accepted l.queue.ran
          began = subst (λ (p : Phase). Began p l.port.opened l.queue.accepted l.queue.ran) phase_is (sane.each i l u.there).began

          drops_is : drops true_segments With l ≡ given_up l
          drops_is = ap (λ (o : Bool). record l {
            port = over;
            segments = drops_segments true_segments o l.segments;
            queue = record l.queue { waits = call_of o };
          }) began.0

          waits_so : (p : Phase) → ◌≡◌ {A = Option Phase} (Some Called) (Some p) → CanWait p l.port.opened
          waits_so Called e = began.0
          waits_so p e = absurd cc

          node_is : node_port l ≡ in_use With l
          node_is = uncalled_use l (ap is_called phase_is)

          step : (n : Node) (x y : Link) → IsUnique n.links → Went l x → given_up x ≡ y → slice_get n.links.links i ≡ Some (hide x) →
              Changes (OfUser (Abort own)) i n (hide y)
          step n x y unique went q there =
              let h = ended late_segments (hide x) in
              let use_x = went_node l x went ∙ node_is in
              let is : h ≡ hide (given_up x) =
              ap₂ (λ (p : Port) (f : TrueSegments). record (hide x) { port = p; segments = record { segments = f; gap = x.queue.gap } })
              (use_port (at_node x.queue.waits) x.port Ended ∙ ap (λ (p : Port). record p { phase = Ended }) went.port)
              (ap₂ (λ (ms : List (List ℕ)) (m : ℕ). given_user ms m x.segments) went.leaves.delivered went.leaves.passed) in
              record {
                links = changed i h n.links;
                makes = UserDoes (Abort own) (changed i h n.links) tt
                    (at_found (LiveAt own) n.links i (hide x) _ _
                    (found n.links unique i x there (LiveAt own) own (live_owns own) (ap (passes (LiveAt own)) use_x ∙ u.passed))
                    ∙ passed_check (is_calling (node_port x).phase) _ _ (ap (λ (p : Port). is_calling p.phase) use_x ∙ calling));
                set = subst (λ (g : LateLink). IsSet n.links (changed i h n.links) i g) (is ∙ ap hide q) (set_changed n.links i (hide x) h there);
              }
