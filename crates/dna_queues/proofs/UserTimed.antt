-- What the user does with a link: it is done by the node with queues too, once what the link says in its phase until then is composed.
use Rattle.dna_queues.proofs.Prelude.{◌≡◌, ℕ, true, false, Option, Some, List, ◌∷◌, Ok, Err, refl, sym, ap, ◌∙◌, subst, slice_get, NoLink}
use Rattle.dna_queues.proofs.Prelude.{Phase, Calling, Confirming, Running, Disconnecting, Port, LiveAt, With, passes, is_in, is_live}
use Rattle.dna_queues.proofs.Prelude.{is_called, takes_messages, changed, with_segments, user_step, In, hands_in, true_segments, SentMessage}
use Rattle.dna_queues.proofs.Prelude.{checked, LinkRecord, OfUser, Links, Node, waiting, link_it_is_for, MakesStep, UserDoes, Makes}
use Rattle.dna_links.specs.TrueLinks as machine
use Rattle.dna_queues.proofs.{Facts.passed_check, Facts.same_Ok, Sending.live_owns, Turns.Sane, Early.CanGo, Starts.started_before, Timed.Awaits}
use Rattle.dna_queues.proofs.{Timed.unique_hidden, SentTimed.Sound}
use Rattle.dna_queues.proofs.Goes.{Link, phase_of, node_port, uncalled_use}
use Rattle.dna_queues.proofs.LinkLists.{IsUnique, IsSet, set_changed, at_found}
use Rattle.dna_queues.proofs.Hide.{LateLink, hide, found}
use Rattle.dna_queues.proofs.MachineSends.{IsUsed, used, live_at}
use Rattle.dna_queues.proofs.Dues.{put_packets, Due, put, put_here, Went, IsDue, AreSane}
use Rattle.dna_queues.proofs.Prepared.{prepare_set, set_timed, set_sane}

-- ---- one link, at any record of the user

pub record Changes (one : LinkRecord) (i : ℕ) (n : Node) (h : LateLink) : Type 0 where
  pub links : Links
  pub makes : MakesStep n one (record n { links = links })
  pub set : IsSet n.links links i h

module _ (s : machine.Links) (sane : AreSane s) (later : List LinkRecord) (one : LinkRecord) (i : ℕ) (l : Link) (at : slice_get s.links i ≡ Some l)
    (left : machine.Links) (k : Link) (set : IsSet s left i k) (own : k.port.own ≡ l.port.own) (becomes : Link → Link → Type 0) where
  pub one_sound : Sane k →
      ((due : Due) → IsDue s.node s.peer k due → CanGo s.node s.peer due.packets l (λ x. becomes x due.link)) →
      ((kept : List SentMessage) → Awaits l kept → Awaits k kept) →
      ((n : Node) (x y : Link) → IsUnique n.links → Went l x → becomes x y → slice_get n.links.links i ≡ Some (hide x) → Changes one i n (hide y)) →
      (AreSane left → Sound left later) → Sound s (one ∷ later)
  one_sound k_sane chain awaits step rest = go (rest (set_sane s sane i l at left k set own k_sane))
    where
      go : Sound left later → Sound s (one ∷ later)
      go r =
          let due = r.due.each i k set.here in
          let here_due = subst (λ (m : ℕ). IsDue m s.peer k (r.dues i)) set.node (subst (λ (m : ℕ). IsDue left.node m k (r.dues i)) set.peer due) in
          let packets = (r.dues i).packets in
          let p = prepare_set s sane i l at left k set r.dues r.due packets (λ x. becomes x (r.dues i).link) (chain (r.dues i) here_due) in
          record {
            dues = p.before;
            due = p.due;
            made = λ n t. p.on n t (one ∷ later) (λ x q next u.
                let mine : Due = record { packets = packets; link = x } in
                let here = put_here i i mine r.dues refl in
                let there = u.all i l at ∙ ap (λ (a : Due). Some (hide a.link)) here in
                let c = step next x (r.dues i).link (unique_hidden s sane (put i mine r.dues) next u)
                (subst (λ (a : Due). Went l a.link) here (u.went i l at)) q there in
                Makes next (record next { links = c.links }) one later c.makes (r.made (record next { links = c.links })
                (set_timed s sane i l at left k set r.dues r.due mine next (record next { links = c.links }) u c.set u.kept
                (subst (λ (o : Option ℕ). Awaits k (waiting link_it_is_for o next.kept)) (sym own) (awaits _ (u.awaits i l at)))
                (λ j y differs at_y. u.awaits j y at_y)
                (λ j. u.composed j ∙ put_packets i j mine r.dues refl))));
          }

module _ (s : machine.Links) (sane : AreSane s) (later : List LinkRecord) (left : machine.Links) (rest : AreSane left → Sound left later) where
  -- ---- a message is handed in

  takes_live : (p : Phase) → takes_messages p ≡ true → (is_live p ≡ true) × (is_in Disconnecting p ≡ false) × (is_called p ≡ false)
  takes_live Calling e = (refl, refl, refl)
  takes_live Confirming e = (refl, refl, refl)
  takes_live Running e = (refl, refl, refl)
  takes_live p e = absurd cc

  pub in_sound : (own : ℕ) (message : List ℕ) → user_step With true_segments s (In own message) ≡ Ok left → Sound s (OfUser (In own message) ∷ later)
  in_sound own message e =
      used s sane.each (LiveAt own) (live_at own) (Err NoLink) _ (Ok left) e (λ e. absurd cc)
      (λ i l u e. let c = checked (takes_messages (phase_of l)) _ _ left e in by_link i l u c.0 (same_Ok _ left c.1))
    where
      by_link : (i : ℕ) (l : Link) → IsUsed s sane.each (LiveAt own) i l → takes_messages (phase_of l) ≡ true →
          changed i (with_segments (hands_in message l.segments) l) s ≡ left → Sound s (OfUser (In own message) ∷ later)
      by_link i l u takes same =
          let k = with_segments (hands_in message l.segments) l in
          let was = sane.each i l u.there in
          let kind = takes_live (phase_of l) takes in
          one_sound s sane later (OfUser (In own message)) i l u.there left k
          (subst (λ (x : machine.Links). IsSet s x i k) same (set_changed s i l k u.there)) refl (λ x y. (x ≡ l) × (k ≡ y))
          (record { began = was.began; opened = was.opened; called = was.called; waits = was.waits })
          (λ due d. started_before l k (assumption (kind, was)) s.node s.peer due.packets (phase_of l) (λ x. x ≡ due.link) kind.1 d.early d.can)
          (λ kept a. record { live = a.live; over = a.over })
          (λ n x y unique went q there. step n x y unique q there) rest
        where
          step : (n : Node) (x y : Link) → IsUnique n.links → (x ≡ l) × (with_segments (hands_in message l.segments) l ≡ y) →
              slice_get n.links.links i ≡ Some (hide x) → Changes (OfUser (In own message)) i n (hide y)
          step n x y unique q there =
              let k = with_segments (hands_in message l.segments) l in
              let here = there ∙ ap (λ (z : Link). Some (hide z)) q.0 in
              let node_is = uncalled_use l (takes_live (phase_of l) takes).2 in
              record {
                links = changed i (hide k) n.links;
                makes = UserDoes (In own message) (changed i (hide k) n.links) tt
                    (at_found (LiveAt own) n.links i (hide l) _ _ (found n.links unique i l here (LiveAt own) own (live_owns own)
                    (ap (passes (LiveAt own)) node_is ∙ u.passed))
                    ∙ passed_check (takes_messages (node_port l).phase) _ _ (ap (λ (p : Port). takes_messages p.phase) node_is ∙ takes));
                set = subst (λ (z : Link). IsSet n.links (changed i (hide k) n.links) i (hide z)) q.1
                    (set_changed n.links i (hide l) (hide k) here);
              }
