-- A call is answered: its link gets an address, and what waits for that is acted on before.
use Rattle.dna_queues.proofs.Prelude.{◌≡◌, ℕ, ◌≤◌, Bool, true, false, Option, Some, None, List, [], ◌∷◌, Ok, Err, refl, sym, ap, ap₂, ◌∙◌, subst}
use Rattle.dna_queues.proofs.Prelude.{eqb-true, slice_get, NoLink, AddressInUse, Phase, Called, Confirming, Disconnecting, Ended, Port, LiveAt}
use Rattle.dna_queues.proofs.Prelude.{CalledBy, Without, With, LinkQueue, is_live, is_at, is_called, Carried, number_of, with_link, begun, changed}
use Rattle.dna_queues.proofs.Prelude.{in_use, port_of_waiting, freed, goes_on, opened, answered, user_step, LinkEventValue, Open, Accept, Reject}
use Rattle.dna_queues.proofs.Prelude.{true_segments, IsFound, looked, LinkRecord, OfUser, late_segments, Links, Node, IsFree, MayBe, UserDoes}
use Rattle.dna_queues.proofs.Prelude.{MadeByHidden, Makes, false_from_ne_true}
use Rattle.dna_links.specs.TrueLinks as machine
use Rattle.dna_queues.proofs.{Facts.not_both, Facts.same_Ok, Given.freed_changed, Hide.LateLink, Hide.hide, Timed.Timed, SentTimed.Sound}
use Rattle.dna_queues.proofs.Goes.{Link, phase_of, at_node, node_port, node_own}
use Rattle.dna_queues.proofs.LinkLists.{IsSet, set_changed, at_none, at_found}
use Rattle.dna_queues.proofs.Turns.{Began, has_past, IsMute, live_waits, live_use, live_node, called_phase}
use Rattle.dna_queues.proofs.Early.{CanGo, AreEarly, none_before, none_refused}
use Rattle.dna_queues.proofs.Dues.{put_packets, none_link, Due, put, put_here, AreSane}
use Rattle.dna_queues.proofs.Prepared.{due_none, set_timed, set_sane_free}
use Rattle.dna_queues.proofs.Addressed.{awaits_nothing, called_use, flushed, flushed_number, flushed_other}
use Rattle.dna_queues.proofs.GivenTimed.{left, over, left_is, no_owner, left_sane, none_then, own_not_zero, Gives, gives, open_sound}

module _ (s : machine.Links) (sane : AreSane s) (own : ℕ) (one : 1 ≤ own) (none_live : number_of (LiveAt own) s ≡ None) where
  abbrev given : machine.Links
  given = left s sane own one none_live

  given_sane : AreSane given
  given_sane = left_sane s sane own one none_live

  module _ (later : List LinkRecord) (far : ℕ) (i : ℕ) (l : Link) (found : IsFound (CalledBy far) s i l) where
    phase_is : l.port.phase ≡ Called
    phase_is = called_phase far l.port found.passed

    not_own : is_at l.port.own own ≡ false
    not_own = false_from_ne_true _ (λ e. let never : Called ≡ Ended = sym phase_is ∙ over s sane own one none_live i l found.there e in cc)

    there : slice_get (left s sane own one none_live).links i ≡ Some l
    there = (left_is s sane own one none_live).other i l found.there not_own

    none_waits : l.queue.waits ≡ None
    none_waits = live_waits l (sane.each i l found.there) (ap is_live phase_is)

    in_use_is : in_use With l ≡ l.port
    in_use_is = live_use l (sane.each i l found.there) (ap is_live phase_is)

    node_is : node_port l ≡ l.port
    node_is = live_node l (sane.each i l found.there) (ap is_live phase_is)

    pub mute : IsMute l
    mute =
        let b = subst (λ (p : Phase). Began p l.port.opened l.queue.accepted l.queue.ran)
        (ap (λ (p : Port). p.phase) in_use_is ∙ phase_is) (sane.each i l found.there).began in
        record { opened = ((sane.each i l found.there).called (ap is_called phase_is)).1; accepted = b.0; ran = b.1 }

    module _ (event : LinkEventValue) (phase : Phase) (queue : LinkQueue)
        (may : (n : Node) → IsFree own n → MayBe event n)
        (row : (t : Links) → user_step Without late_segments t event ≡ with_link (CalledBy far) t (Err NoLink)
        (λ j h. with_link (LiveAt own) t (Ok (changed j (answered late_segments phase own h) (freed late_segments Without own t)))
        (λ j h. Err AddressInUse))) where
      abbrev answer : Link
      answer = record l { port = record l.port { phase = phase; own = Some own }; queue = queue }

      pub answer_sound : queue.waits ≡ l.queue.waits → queue.gap ≡ l.queue.gap → is_called phase ≡ false →
          Began phase l.port.opened queue.accepted queue.ran →
          ((packets : List Carried) (P : Link → Type 0) → phase_of answer ≡ phase → AreEarly (phase_of answer) packets →
          CanGo (left s sane own one none_live).node (left s sane own one none_live).peer packets answer P → packets ≡ []) →
          (AreSane (changed i answer (left s sane own one none_live)) → Sound (changed i answer (left s sane own one none_live)) later) →
          Sound s (OfUser event ∷ later)
      answer_sound waits gap not_called began none rest =
          go (rest (set_sane_free given given_sane i l there (changed i answer given) answer set
          (λ j x n differs at own_x own_k. no_owner s sane own one none_live j x at (ap (is_at x.port.own) (eqb-true own n own_k) ∙ own_x))
          (own_not_zero s sane own one none_live) (record {
            began = subst (λ (p : Phase). Began p l.port.opened queue.accepted queue.ran) (sym now) began;
            opened = λ e. absurd (not_both _ e mute.opened);
            called = λ e. absurd (not_both _ e not_called);
            waits = λ p e. let never : None ≡ Some p = sym (waits ∙ none_waits) ∙ e in absurd cc;
          })))
        where
          now : phase_of answer ≡ phase
          now = ap (λ (w : Option Phase). (port_of_waiting w (record l.port { phase = phase; own = Some own })).phase) (waits ∙ none_waits)

          set : IsSet (left s sane own one none_live) (changed i answer (left s sane own one none_live)) i answer
          set = set_changed (left s sane own one none_live) i l answer there

          go : Sound (changed i answer (left s sane own one none_live)) later → Sound s (OfUser event ∷ later)
          go r = record { dues = g.before; due = g.due; made = λ n t. by_node n t }
            where
              mine : Due
              mine = record { packets = []; link = l }

              g : Gives s sane own one none_live (put i mine r.dues)
              g = gives s sane own one none_live (put i mine r.dues)
                  (due_none given given_sane i l there (changed i answer given) answer set r.dues r.due)

              nothing_due : (r.dues i).packets ≡ []
              nothing_due = let d = r.due.each i answer set.here in none (r.dues i).packets (λ x. x ≡ (r.dues i).link) now d.early d.can

              link_is : answer ≡ (r.dues i).link
              link_is = none_link given.node given.peer answer (r.dues i) (r.due.each i answer set.here) nothing_due

              by_node : (n : Node) → Timed s g.before n → MadeByHidden n (OfUser event ∷ later)
              by_node n t =
                  let f = flushed s sane g.before n t own in
                  let fl = freed late_segments Without own f.next.links in
                  let u = g.timed n t in
                  let m : Node = record f.next { links = fl } in
                  let at_m : slice_get fl.links i ≡ Some (hide l) = u.all i l there
                  ∙ ap (λ (d : Due). Some (hide d.link)) (put_here i i mine r.dues refl) in
                  let at_f = flushed_other s sane g.before n t own i l found.there not_own in
                  let same = sym ((freed_changed late_segments Without own f.next.links f.unique).other i (hide (g.before i).link) at_f
                  (ap (λ (o : Option ℕ). is_at o own) (node_own (g.before i).link ∙ ap (λ (p : Port). p.own) (t.went i l found.there).port)
                  ∙ not_own))
                  ∙ at_m in
                  let found_h : IsFound (CalledBy far) f.next.links i (hide l) = record {
                    found = flushed_number s sane g.before n t own (CalledBy far) (λ j x at has. called_use far x (sane.each j x at)) ∙ found.found;
                    there = at_f ∙ same;
                    passed = called_use far l (sane.each i l found.there) ∙ found.passed;
                  } in
                  let links = changed i (answered late_segments phase own (hide l)) fl in
                  f.on (OfUser event ∷ later)
                  (Makes f.next (record f.next { links = links }) (OfUser event) later
                  (UserDoes event links (may f.next (g.free n t))
                  (row f.next.links ∙ at_found (CalledBy far) f.next.links i (hide l) _ _ found_h
                  ∙ at_none (LiveAt own) f.next.links _ _ (none_then s sane own one none_live g.before n t)))
                  (r.made (record f.next { links = links })
                  (set_timed given given_sane i l there (changed i answer given) answer set r.dues r.due mine m (record f.next { links = links }) u
                  (subst (λ (h : LateLink). IsSet fl links i h) (hidden_is ∙ ap hide link_is)
                  (set_changed fl i (hide l) (answered late_segments phase own (hide l)) at_m))
                  u.kept (awaits_nothing answer _ (waits ∙ none_waits) f.none) (λ j x differs at. u.awaits j x at)
                  (λ j. u.composed j ∙ put_packets i j mine r.dues (sym nothing_due)))))
                where
                  hidden_is : answered late_segments phase own (hide l) ≡ hide answer
                  hidden_is =
                      ap (λ (p : Port). record (hide l) { port = record p { phase = phase; own = Some own } }) node_is
                      ∙ ap₂ (λ (w : Option Phase) (m : ℕ). record (hide l) {
                        port = port_of_waiting (at_node w) (record l.port { phase = phase; own = Some own });
                        segments = record { segments = l.segments; gap = m };
                      }) (sym (waits ∙ none_waits)) (sym gap)

module _ (s : machine.Links) (sane : AreSane s) (later : List LinkRecord) (result : machine.Links)
    (rest : AreSane result → Sound result later) where
  on : (x : machine.Links) → x ≡ result → AreSane x → Sound x later
  on x same = subst (λ (x : machine.Links). AreSane x → Sound x later) (sym same) rest

  pub opens_sound : (own : ℕ) → 1 ≤ own → user_step With true_segments s (Open own) ≡ Ok result → Sound s (OfUser (Open own) ∷ later)
  opens_sound own one e =
      looked (LiveAt own) s (Ok (begun (opened true_segments own) (freed true_segments With own s))) (λ n l. Err AddressInUse) (Ok result) e
      (λ none e. open_sound s sane own one none later (on _ (same_Ok _ result e)))
      (λ n l found e. absurd cc)

  module _ (far own : ℕ) (one : 1 ≤ own) where
    -- the call that is answered, where no live link has the address
    answered_call : (event : LinkEventValue) (phase : Phase) →
        with_link (CalledBy far) s (Err NoLink) (λ i l. with_link (LiveAt own) s
        (Ok (changed i (goes_on true_segments (is_live l.port.phase) phase (record l { port = record l.port { own = Some own } }))
        (freed true_segments With own s))) (λ j k. Err AddressInUse)) ≡ Ok result →
        ((i : ℕ) (l : Link) (found : IsFound (CalledBy far) s i l) (free : number_of (LiveAt own) s ≡ None) →
        changed i (goes_on true_segments true phase (record l { port = record l.port { own = Some own } })) (freed true_segments With own s)
        ≡ result → Sound s (OfUser event ∷ later)) → Sound s (OfUser event ∷ later)
    answered_call event phase e sound =
        looked (CalledBy far) s (Err NoLink) _ (Ok result) e (λ none e. absurd cc)
        (λ i l found e. looked (LiveAt own) s _ (λ n k. Err AddressInUse) (Ok result) e
        (λ free e. sound i l found free (ap (λ (b : Bool). changed i (goes_on true_segments b phase
        (record l { port = record l.port { own = Some own } })) (freed true_segments With own s))
        (sym (ap is_live (called_phase far l.port found.passed))) ∙ same_Ok _ result e)) (λ n k other e. absurd cc))

    pub accepts_sound : user_step With true_segments s (Accept far own) ≡ Ok result → Sound s (OfUser (Accept far own) ∷ later)
    accepts_sound e = answered_call (Accept far own) Confirming e (λ i l found free same.
        let quiet = mute s sane own one free later far i l found in
        answer_sound s sane own one free later far i l found (Accept far own) Confirming (record l.queue { accepted = true }) (λ n f. f) (λ t. refl)
        refl refl refl (quiet.opened, quiet.ran) (λ packets P now early can. none_before _ _ packets _ P (ap has_past now) early can) (on _ same))

    pub rejects_sound : user_step With true_segments s (Reject far own) ≡ Ok result → Sound s (OfUser (Reject far own) ∷ later)
    rejects_sound e = answered_call (Reject far own) Disconnecting e (λ i l found free same.
        let quiet = mute s sane own one free later far i l found in
        answer_sound s sane own one free later far i l found (Reject far own) Disconnecting l.queue (λ n f. f) (λ t. refl) refl refl refl tt
        (λ packets P now early can. none_refused _ _ packets _ P
        (record { opened = quiet.opened; accepted = quiet.accepted; ran = quiet.ran }) early can) (on _ same))
