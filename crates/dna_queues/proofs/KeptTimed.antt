-- A packet that the machine acts on: the node with queues acts on it at once, but where it ends its link, or that has ended.
use Rattle.dna_queues.proofs.Prelude.{◌≡◌, ℕ, Bool, true, false, ◌&&◌, ◌==◌, cond, Option, Some, None, List, [], ◌∷◌, ◌++◌, Ok, refl, sym, ap, ap₂}
use Rattle.dna_queues.proofs.Prelude.{◌∙◌, subst, append-nil, slice_get, same_Some, WrongNode, Phase, Called, Ended, Port, HasAddress, Without}
use Rattle.dna_queues.proofs.Prelude.{With, passes, is_live, is_called, is_at, are_same, in_use, port_of_waiting, of_partner, message_arrived}
use Rattle.dna_queues.proofs.Prelude.{TrueSegments, true_segments, SentMessage, looked, LinkRecord, Keeps, late_segments, Node, Acts, dstaddr}
use Rattle.dna_queues.proofs.Prelude.{waiting, link_it_is_for, MakesStep, KeepsForLink, MadeByHidden, Hides, Makes, false_from_ne_true}
use Rattle.dna_links.specs.TrueLinks as machine
use Rattle.dna_queues.proofs.{Facts.passed_check, Facts.by_test, Came.ended_link, Came.came_as, Acting.acts_as, Lists.waiting_push}
use Rattle.dna_queues.proofs.{Delivered.given_user, Early.CanGo, Moved.moved, Moved.gone_before, Starts.started_before, Hide.LateLink, Hide.hide}
use Rattle.dna_queues.proofs.{SentTimed.Sound, Addressed.awaits_nothing}
use Rattle.dna_queues.proofs.Goes.{Link, phase_of, test_of, node_port, at_node_same}
use Rattle.dna_queues.proofs.LinkLists.{still_set, IsUnique, IsSet, none_passes}
use Rattle.dna_queues.proofs.Turns.{Sane, Began, CanWait, live_use, live_waits, live_node}
use Rattle.dna_queues.proofs.Dues.{put_packets, Due, put, put_here, Went, went_node, IsDue, AreSane}
use Rattle.dna_queues.proofs.Timed.{Awaits, is_end, AreKept, Timed, unique_hidden}
use Rattle.dna_queues.proofs.Prepared.{prepare_set, set_timed, set_sane}
use Rattle.dna_queues.proofs.Arrives.{Arrives, arrives_both, CameTo, Still, GoesOn, IsOver, came_kind, came_dead}
use Rattle.dna_queues.proofs.KeptLists.{set_of_changed, same_lists, takes_last, at_is, kept_push, awaits_push}
use Rattle.dna_queues.proofs.AllTimed.{all_come, all_seen, all_may}

module _ (s : machine.Links) (sane : AreSane s) (unit : SentMessage) (address : ℕ) (is : dstaddr unit.packet.message ≡ Some address)
    (may : (unit.packet.src == s.peer && unit.packet.dst == s.node) ≡ true) (left : machine.Links)
    (e : message_arrived With true_segments of_partner s unit.packet.message unit.truth ≡ Ok left) (later : List LinkRecord)
    (rest : AreSane left → Sound left later) where
  arrives : Arrives s left sane.unique unit.truth address unit.packet.message
  arrives = arrives_both s left sane.unique unit.truth address unit.packet.message is e

  abbrev keeping : Node → Node
  keeping n = record n { kept = n.kept ++ unit ∷ [] }

  keeps : (dues : ℕ → Due) (n : Node) → Timed s dues n → MakesStep n (Keeps unit) (keeping n)
  keeps dues n t =
      let all = all_come s sane dues n t in
      let too = arrives.too all.links all.unique (λ i h at own. all_seen s sane dues n t i h at) in
      KeepsForLink unit address all.links too.links is all.comes
      (passed_check (unit.packet.src == all.links.peer && unit.packet.dst == all.links.node) WrongNode
      (message_arrived Without late_segments of_partner all.links unit.packet.message unit.truth) (all_may s sane dues n t unit may) ∙ too.does)

  pushed : (own : Option ℕ) (kept : List SentMessage) (b : Bool) → is_at own address ≡ b →
      waiting link_it_is_for own (kept ++ unit ∷ []) ≡ waiting link_it_is_for own kept ++ cond b (unit ∷ []) []
  pushed own kept b has =
      waiting_push link_it_is_for kept unit own
      ∙ ap (λ (c : Bool). waiting link_it_is_for own kept ++ cond c (unit ∷ []) []) (ap (λ (o : Option ℕ). are_same o own) is ∙ has)

  kept_too : (n : Node) → AreKept s.node s.peer n.kept → AreKept s.node s.peer (n.kept ++ unit ∷ [])
  kept_too n kept = kept_push s.node s.peer n.kept unit kept (record { address = address; for_it = is; goes = may })

  awaits_other : (l : Link) (kept : List SentMessage) → is_at l.port.own address ≡ false → Awaits l (waiting link_it_is_for l.port.own kept) →
      Awaits l (waiting link_it_is_for l.port.own (kept ++ unit ∷ []))
  awaits_other l kept has a =
      subst (Awaits l) (sym (pushed l.port.own kept false has ∙ append-nil (waiting link_it_is_for l.port.own kept))) a

  -- ---- no live link has the address

  pub over_sound : ((i : ℕ) (l : Link) → slice_get s.links i ≡ Some l → is_at l.port.own address ≡ true → is_live l.port.phase ≡ false) →
      Sound s (Keeps unit ∷ later)
  over_sound over = go (subst (λ (x : machine.Links). AreSane x → Sound x later) same rest sane)
    where
      links_same : left.links ≡ s.links
      links_same = same_lists s.links left.links arrives.changed.size (λ i l at. by_test (is_at l.port.own address)
          (λ own. arrives.changed.here i l at own ∙ ap Some (came_dead unit.packet.message unit.truth l (over i l at own)))
          (λ own. arrives.changed.other i l at own))

      same : left ≡ s
      same = ap (λ (m : ℕ). record left { node = m }) arrives.changed.node
          ∙ ap (λ (m : ℕ). record s { peer = m; links = left.links }) arrives.changed.peer
          ∙ ap (λ (ls : List Link). record s { links = ls }) links_same

      go : Sound s later → Sound s (Keeps unit ∷ later)
      go r = record {
        dues = r.dues;
        due = r.due;
        made = λ n t. Makes n (keeping n) (Keeps unit) later (keeps r.dues n t) (r.made (keeping n)
            (let kept = kept_too n t.kept in
            let awaits : (i : ℕ) (l : Link) → slice_get s.links i ≡ Some l → Awaits l (waiting link_it_is_for l.port.own (n.kept ++ unit ∷ [])) =
            λ i l at. by_test (is_at l.port.own address)
            (λ own. subst (Awaits l) (sym (pushed l.port.own n.kept true own))
            (awaits_push l (waiting link_it_is_for l.port.own n.kept) unit (over i l at own) (t.awaits i l at)))
            (λ own. awaits_other l n.kept own (t.awaits i l at)) in assumption (kept, awaits, t)));
      }

  -- ---- a live link has it

  module _ (i : ℕ) (l : Link) (at : slice_get s.links i ≡ Some l) (own : is_at l.port.own address ≡ true)
      (live : is_live l.port.phase ≡ true) where
    none : l.queue.waits ≡ None
    none = live_waits l (sane.each i l at) live

    in_use_is : in_use With l ≡ l.port
    in_use_is = live_use l (sane.each i l at) live

    node_is : node_port l ≡ l.port
    node_is = live_node l (sane.each i l at) live

    nothing : (kept : List SentMessage) → Awaits l (waiting link_it_is_for l.port.own kept) → waiting link_it_is_for (Some address) kept ≡ []
    nothing kept a = ap (λ (o : Option ℕ). waiting link_it_is_for o kept) (sym (at_is l.port.own address own)) ∙ a.live live

    own_other : (j : ℕ) (x : Link) → (j ≡ i → ⊥) → slice_get s.links j ≡ Some x → is_at x.port.own address ≡ false
    own_other j x differs at_x = false_from_ne_true _ (λ e. differs (sane.unique j i x l at_x at address e own))

    module _ (k : Link) (set : IsSet s left i k) (own_same : k.port.own ≡ l.port.own) (k_sane : Sane k) (becomes : Link → Link → Type 0)
        (chain : (due : Due) → IsDue s.node s.peer k due → CanGo s.node s.peer due.packets l (λ x. becomes x due.link))
        (step : (r : Sound left later) (x : Link) (n : Node) → becomes x (r.dues i).link → Went l x →
        Timed s (put i (record { packets = (r.dues i).packets; link = x }) r.dues) n → MadeByHidden n (Keeps unit ∷ later)) where
      -- what the link says in its phase until then is composed
      kept_sound : Sound s (Keeps unit ∷ later)
      kept_sound = go (rest (set_sane s sane i l at left k set own_same k_sane))
        where
          go : Sound left later → Sound s (Keeps unit ∷ later)
          go r =
              let due = subst (λ (m : ℕ). IsDue m s.peer k (r.dues i)) set.node
              (subst (λ (m : ℕ). IsDue left.node m k (r.dues i)) set.peer (r.due.each i k set.here)) in
              let p = prepare_set s sane i l at left k set r.dues r.due (r.dues i).packets (λ x. becomes x (r.dues i).link) (chain (r.dues i) due) in
              record {
                dues = p.before;
                due = p.due;
                made = λ n t. p.on n t (Keeps unit ∷ later) (λ x q next u.
                    step r x next q (subst (λ (a : Due). Went l a.link) (put_here i i (record { packets = (r.dues i).packets; link = x }) r.dues refl)
                    (u.went i l at)) u);
              }

    -- it acts at once
    acts_sound : (k : Link) → IsSet s left i k → k.port.own ≡ l.port.own → Sane k → k.queue.waits ≡ None → (becomes : Link → Link → Type 0) →
        ((due : Due) → IsDue s.node s.peer k due → CanGo s.node s.peer due.packets l (λ x. becomes x due.link)) →
        ((x y : Link) → Went l x → becomes x y → acts_as unit.packet.message unit.truth (hide x) ≡ hide y) → Sound s (Keeps unit ∷ later)
    acts_sound k set own_same k_sane k_waits becomes chain acts = kept_sound k set own_same k_sane becomes chain step
      where
        step : (r : Sound left later) (x : Link) (n : Node) → becomes x (r.dues i).link → Went l x →
            Timed s (put i (record { packets = (r.dues i).packets; link = x }) r.dues) n → MadeByHidden n (Keeps unit ∷ later)
        step r x n q went u =
            let mine : Due = record { packets = (r.dues i).packets; link = x } in
            let dues = put i mine r.dues in
            let unique = unique_hidden s sane dues n u in
            let there = u.all i l at ∙ ap (λ (a : Due). Some (hide a.link)) (put_here i i mine r.dues refl) in
            let hidden_own = ap (λ (p : Port). is_at p.own address) (went_node l x went ∙ node_is) ∙ own in
            let too = arrives.too n.links unique (λ j h at_h own_h. seen x n went unique there hidden_own j h at_h own_h) in
            let empty = nothing n.kept (u.awaits i l at) in
            let next : Node = record { links = too.links; kept = n.kept; composed = n.composed } in
            Makes n (keeping n) (Keeps unit) later (keeps dues n u)
            (Hides (keeping n) next later
            (Acts unit n.kept too.links (takes_last n.kept unit address is empty)
            (passed_check (unit.packet.src == n.links.peer && unit.packet.dst == n.links.node) WrongNode
            (message_arrived Without late_segments of_partner n.links unit.packet.message unit.truth)
            (ap₂ (λ (a b : ℕ). unit.packet.src == a && unit.packet.dst == b) u.peer u.node ∙ may) ∙ too.does))
            (r.made next
            (set_timed s sane i l at left k set r.dues r.due mine n next u
            (subst (λ (h : LateLink). IsSet n.links too.links i h) (acts x (r.dues i).link went q)
            (set_of_changed n.links too.links address (acts_as unit.packet.message unit.truth) too.changed unique i (hide x) there hidden_own))
            u.kept
            (awaits_nothing k _ k_waits (ap (λ (o : Option ℕ). waiting link_it_is_for o n.kept) (own_same ∙ at_is l.port.own address own) ∙ empty))
            (λ j y differs at_y. u.awaits j y at_y) (λ j. u.composed j ∙ put_packets i j mine r.dues refl))))
          where
            seen : (x : Link) (n : Node) → Went l x → IsUnique n.links → slice_get n.links.links i ≡ Some (hide x) →
                is_at (hide x).port.own address ≡ true → (j : ℕ) (h : LateLink) → slice_get n.links.links j ≡ Some h →
                is_at h.port.own address ≡ true → (y : Link) × (slice_get s.links j ≡ Some y) × (h.port ≡ y.port) × (h.partner ≡ y.partner)
            seen x n went unique there hidden_own j h at_h own_h =
                let here = unique j i h (hide x) at_h there address own_h hidden_own in
                let same : h ≡ hide x = same_Some h (hide x) (sym at_h ∙ ap (slice_get n.links.links) here ∙ there) in (
                  l,
                  ap (slice_get s.links) here ∙ at,
                  ap (λ (z : LateLink). z.port) same ∙ went_node l x went ∙ node_is,
                  ap (λ (z : LateLink). z.partner) same ∙ went.partner,
                )

    -- it waits, since it ends the link
    ends_sound : is_end unit.packet.message l.port ≡ true → IsSet s left i (ended_link l) → Sound s (Keeps unit ∷ later)
    ends_sound ends set =
        kept_sound (ended_link l) set refl ended_sane
        (λ x y. moved (record l.port { phase = Ended }) (Some l.port.phase) l.segments.delivered l.segments.passed x ≡ y)
        (λ due d. gone_before (record l.port { phase = Ended }) (Some l.port.phase) l.segments.delivered l.segments.passed s.node s.peer due.packets l
        l.port.phase (λ x. x ≡ due.link)
        (λ m e. subst (λ (p : Port). passes (test_of m) p ≡ true) (sym in_use_is) e) d.early d.can) step
      where
        live_ends : (p : Phase) → is_live p ≡ true → is_called p ≡ false → CanWait p l.port.opened
        live_ends Called e uncalled = absurd cc
        live_ends Ended e uncalled = absurd cc
        live_ends p e uncalled = tt

        uncalled : is_called l.port.phase ≡ false
        uncalled = false_from_ne_true _ (λ e.
            let x : true ≡ false = sym own ∙ ap (λ (o : Option ℕ). is_at o address) ((sane.each i l at).called e).0 in absurd cc)

        -- it is at the node as it was
        ended_is : node_port (ended_link l) ≡ l.port
        ended_is = ap (λ (w : Option Phase). port_of_waiting w (record l.port { phase = Ended })) (at_node_same l.port.phase uncalled)

        ended_sane : Sane (ended_link l)
        ended_sane = record {
          began = subst (λ (p : Port). Began p.phase l.port.opened l.queue.accepted l.queue.ran) in_use_is (sane.each i l at).began;
          opened = (sane.each i l at).opened;
          called = λ e. absurd cc;
          waits = λ p e. (
            refl,
            subst (λ (q : Phase). CanWait q l.port.opened) (same_Some l.port.phase p e) (live_ends l.port.phase live uncalled),
          );
        }

        step : (r : Sound left later) (x : Link) (n : Node) →
            moved (record l.port { phase = Ended }) (Some l.port.phase) l.segments.delivered l.segments.passed x ≡ (r.dues i).link → Went l x →
            Timed s (put i (record { packets = (r.dues i).packets; link = x }) r.dues) n → MadeByHidden n (Keeps unit ∷ later)
        step r x n q went u =
            let mine : Due = record { packets = (r.dues i).packets; link = x } in
            let dues = put i mine r.dues in
            let there = u.all i l at ∙ ap (λ (a : Due). Some (hide a.link)) (put_here i i mine r.dues refl) in
            let still : hide x ≡ hide (moved (record l.port { phase = Ended }) (Some l.port.phase) l.segments.delivered l.segments.passed x) =
            ap₂ (λ (p : Port) (f : TrueSegments). record (hide x) { port = p; segments = record { segments = f; gap = x.queue.gap } })
            (went_node l x went ∙ node_is ∙ sym ended_is)
            (ap₂ (λ (ms : List (List ℕ)) (m : ℕ). given_user ms m x.segments) went.leaves.delivered went.leaves.passed) in
            Makes n (keeping n) (Keeps unit) later (keeps dues n u)
            (r.made (keeping n)
            (set_timed s sane i l at left (ended_link l) set r.dues r.due mine n (keeping n) u (still_set _ _ _ (there ∙ ap Some (still ∙ ap hide q)))
            (kept_too n u.kept)
            (subst (Awaits (ended_link l)) (sym (pushed l.port.own n.kept true own
            ∙ ap (λ (us : List SentMessage). us ++ unit ∷ []) ((u.awaits i l at).live live))) (record {
              live = λ e. absurd cc;
              over = λ p e. ap (is_end unit.packet.message) ended_is ∙ ends;
            }))
            (λ j y differs at_y. awaits_other y n.kept (own_other j y differs at_y) (u.awaits j y at_y))
            (λ j. u.composed j ∙ put_packets i j mine r.dues refl)))

    by_kind : (k : Link) → CameTo unit.packet.message unit.truth l k → IsSet s left i k → Sound s (Keeps unit ∷ later)
    by_kind k (Still acts) set =
        acts_sound l set refl (sane.each i l at) none (λ x y. x ≡ y) (λ due d. d.can)
        (λ x y went q. acts (hide x) (went_node l x went ∙ node_is) ∙ ap hide q)
    by_kind k (GoesOn _ starts k_sane k_live k_waits unclosed acts) set =
        acts_sound k set (sym starts.own) k_sane k_waits (λ x y. (x ≡ l) × (k ≡ y))
        (λ due d. started_before l k starts s.node s.peer due.packets (phase_of k) (λ x. x ≡ due.link) unclosed d.early d.can)
        (λ x y went q. ap (λ (z : Link). acts_as unit.packet.message unit.truth (hide z)) q.0 ∙ acts ∙ ap hide q.1)
    by_kind k (IsOver ends) set = ends_sound ends set

    pub live_sound : Sound s (Keeps unit ∷ later)
    live_sound =
        by_kind (came_as unit.packet.message unit.truth l) (came_kind unit.truth l (sane.each i l at) live none unit.packet.message)
        (set_of_changed s left address (came_as unit.packet.message unit.truth) arrives.changed sane.unique i l at own)

  -- ---- either

  pub for_link_sound : Sound s (Keeps unit ∷ later)
  for_link_sound =
      looked {R = ℕ} (HasAddress address) s 0 (λ i l. 0) _ refl
      (λ missing e. over_sound (λ i l at own. let never : true ≡ false = sym own ∙ none_passes (HasAddress address) s missing i l at in absurd cc))
      (λ i l found e. by_test (is_live l.port.phase) (λ live. live_sound i l found.there found.passed live)
      (λ over. over_sound (λ j x at own. ap (λ (y : Link). is_live y.port.phase) (same_Some x l (sym at
      ∙ ap (slice_get s.links) (sane.unique j i x l at found.there address own found.passed) ∙ found.there)) ∙ over)))
