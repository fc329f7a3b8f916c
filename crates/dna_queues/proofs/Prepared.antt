-- Right before a record of a link: what has to be composed in the phase that the record ends is composed.
use Rattle.dna_queues.proofs.Prelude.{◌≡◌, ℕ, true, false, ◌⊎◌, inl, inr, Option, Some, None, List, [], ◌∷◌, ◌++◌, length, refl, sym, ap, ◌∙◌}
use Rattle.dna_queues.proofs.Prelude.{subst, append-nil, append_assoc, slice_get, cases_eq, same_Some, is_at, Carried, LinkRecord, Node, waiting}
use Rattle.dna_queues.proofs.Prelude.{link_it_is_for, link_it_is_of, MadeByHidden, Hides}
use Rattle.dna_links.specs.TrueLinks as machine
use Rattle.dna_queues.proofs.{Goes.Link, Goes.phase_of, Turns.Sane, Hide.hide}
use Rattle.dna_queues.proofs.LinkLists.{IsSet, set_each, unique_free}
use Rattle.dna_queues.proofs.Early.{CanGo, ends, AreNow, parts}
use Rattle.dna_queues.proofs.Dues.{Due, put, put_here, put_other, put_twice, IsDue, AreDue, AreSane, went_can}
use Rattle.dna_queues.proofs.Timed.{Awaits, AreKept, kept_as, packets_of, Timed, timed_as, composes_on}

module _ (s : machine.Links) (sane : AreSane s) (i : ℕ) (l : Link) (at : slice_get s.links i ≡ Some l) where
  -- all of these are composed
  compose_all : (now : List Carried) (dues : ℕ → Due) (n : Node) → Timed s dues n → AreNow (phase_of l) now → (P : Link → Type 0) →
      CanGo s.node s.peer now (dues i).link P → (records : List LinkRecord) →
      ((x : Link) → P x → (next : Node) → Timed s (put i (record { packets = (dues i).packets ++ now; link = x }) dues) next →
      MadeByHidden next records) → MadeByHidden n records
  compose_all [] dues n t timely P can records go = go (dues i).link can n (timed_as s dues _ n (λ j. same j (cases_eq j i)) t)
    where
      same : (j : ℕ) → (j ≡ i) ⊎ (j ≡ i → ⊥) → dues j ≡ put i (record { packets = (dues i).packets ++ []; link = (dues i).link }) dues j
      same j (inl e) = ap dues e ∙ ap (λ (ps : List Carried). record { packets = ps; link = (dues i).link }) (sym (append-nil (dues i).packets))
          ∙ sym (put_here i j _ dues e)
      same j (inr differs) = sym (put_other i j _ dues differs)
  compose_all (packet ∷ now) dues n t timely P can records go =
      let x = can.1 in
      let c = composes_on s sane i l at dues n t packet x can.0 timely.0 can.2 in
      let due : Due = record { packets = (dues i).packets ++ packet ∷ []; link = x } in
      let here = put_here i i due dues refl in
      Hides n c.next records c.step
      (compose_all now (put i due dues) c.next c.timed timely.1 P
      (subst (λ (d : Due). CanGo s.node s.peer now d.link P) (sym here) can.3) records
      (λ y p next u. go y p next (timed_as s _ _ next (λ j.
      ap (λ (d : Due). put i (record { packets = d.packets ++ now; link = y }) (put i due dues) j) here
      ∙ put_twice i j due (record { packets = ((dues i).packets ++ packet ∷ []) ++ now; link = y }) dues
      ∙ ap (λ (ps : List Carried). put i (record { packets = ps; link = y }) dues j)
      (append_assoc (dues i).packets (packet ∷ []) now)) u)))

  pub record Prepared (dues : ℕ → Due) (packets : List Carried) (P : Link → Type 0) : Type 0 where
    pub before : ℕ → Due
    pub due : AreDue s before
    pub on : (n : Node) → Timed s before n → (records : List LinkRecord) →
        ((x : Link) → P x → (next : Node) → Timed s (put i (record { packets = packets; link = x }) dues) next → MadeByHidden next records) →
        MadeByHidden n records

  -- these are due if what is due of the others, and of this link, is so
  pub due_put : (dues : ℕ → Due) → ((j : ℕ) (k : Link) → (j ≡ i → ⊥) → slice_get s.links j ≡ Some k → IsDue s.node s.peer k (dues j)) →
      ((j : ℕ) → slice_get s.links j ≡ None → (dues j).packets ≡ []) → (due : Due) → IsDue s.node s.peer l due → AreDue s (put i due dues)
  due_put dues others beyond due is = record {
    each = λ j k at_k. each j k at_k (cases_eq j i);
    beyond = λ j none. out j none (cases_eq j i);
  }
    where
      each : (j : ℕ) (k : Link) → slice_get s.links j ≡ Some k → (j ≡ i) ⊎ (j ≡ i → ⊥) → IsDue s.node s.peer k (put i due dues j)
      each j k at_k (inl e) =
          subst (IsDue s.node s.peer k) (sym (put_here i j due dues e))
          (subst (λ (x : Link). IsDue s.node s.peer x due) (same_Some l k (sym at ∙ ap (slice_get s.links) (sym e) ∙ at_k)) is)
      each j k at_k (inr differs) = subst (IsDue s.node s.peer k) (sym (put_other i j due dues differs)) (others j k differs at_k)

      out : (j : ℕ) → slice_get s.links j ≡ None → (j ≡ i) ⊎ (j ≡ i → ⊥) → (put i due dues j).packets ≡ []
      out j none (inl e) = let never : Some l ≡ None = sym at ∙ ap (slice_get s.links) (sym e) ∙ none in absurd cc
      out j none (inr differs) = ap (λ (d : Due). d.packets) (put_other i j due dues differs) ∙ beyond j none

  prepare : (dues : ℕ → Due) → ((j : ℕ) (k : Link) → (j ≡ i → ⊥) → slice_get s.links j ≡ Some k → IsDue s.node s.peer k (dues j)) →
      ((j : ℕ) → slice_get s.links j ≡ None → (dues j).packets ≡ []) → (packets : List Carried) (P : Link → Type 0) →
      CanGo s.node s.peer packets l P → Prepared dues packets P
  prepare dues others beyond packets P can =
      let p = parts s.node s.peer packets l P (sane.each i l at) can in
      let e = ends s.node s.peer p.before l (λ x. CanGo s.node s.peer p.now x P) p.can in
      let due : Due = record { packets = p.before; link = e.left } in
      let here = put_here i i due dues refl in
      record {
        before = put i due dues;
        due = due_put dues others beyond due (record { can = e.can; early = p.early });
        on = λ n t records go. compose_all p.now (put i due dues) n t p.timely P
            (subst (λ (d : Due). CanGo s.node s.peer p.now d.link P) (sym here) e.is) records
            (λ x q next u. go x q next (timed_as s _ _ next (λ j.
            ap (λ (d : Due). put i (record { packets = d.packets ++ p.now; link = x }) (put i due dues) j) here
            ∙ put_twice i j due (record { packets = p.before ++ p.now; link = x }) dues
            ∙ ap (λ (ps : List Carried). put i (record { packets = ps; link = x }) dues j) (sym p.is)) u));
      }

  -- but for this link
  pub record TimedBut (dues : ℕ → Due) (n : Node) : Type 0 where
    pub node : n.links.node ≡ s.node
    pub peer : n.links.peer ≡ s.peer
    pub size : length n.links.links ≡ length s.links
    pub all : (j : ℕ) (x : Link) → (j ≡ i → ⊥) → slice_get s.links j ≡ Some x → slice_get n.links.links j ≡ Some (hide (dues j).link)

  module _ (left : machine.Links) (k : Link) (set : IsSet s left i k) (dues : ℕ → Due) (due : AreDue left dues) where
    others_due : (j : ℕ) (x : Link) → (j ≡ i → ⊥) → slice_get s.links j ≡ Some x → IsDue s.node s.peer x (dues j)
    others_due j x differs at_x =
        subst (λ (m : ℕ). IsDue m s.peer x (dues j)) set.node (subst (λ (m : ℕ). IsDue left.node m x (dues j)) set.peer
        (due.each j x (set.others j differs ∙ at_x)))

    beyond_due : (j : ℕ) → slice_get s.links j ≡ None → (dues j).packets ≡ []
    beyond_due j none = due.beyond j (set.others j (λ e. there e) ∙ none)
      where
        there : j ≡ i → ⊥
        there e = let never : Some l ≡ None = sym at ∙ ap (slice_get s.links) (sym e) ∙ none in cc

    -- before a record that makes of this link that one
    pub prepare_set : (packets : List Carried) (P : Link → Type 0) → CanGo s.node s.peer packets l P → Prepared dues packets P
    prepare_set packets P can = prepare dues others_due beyond_due packets P can

    -- before which nothing of it is due
    pub due_none : AreDue s (put i (record { packets = []; link = l }) dues)
    due_none = due_put dues others_due beyond_due (record { packets = []; link = l }) (record { can = refl; early = tt })

    -- behind it
    pub set_timed_but : (mine : Due) (n next : Node) → TimedBut (put i mine dues) n → IsSet n.links next.links i (hide (dues i).link) →
        AreKept s.node s.peer next.kept → Awaits k (waiting link_it_is_for k.port.own next.kept) →
        ((j : ℕ) (x : Link) → (j ≡ i → ⊥) → slice_get s.links j ≡ Some x → Awaits x (waiting link_it_is_for x.port.own next.kept)) →
        ((j : ℕ) → packets_of (waiting link_it_is_of (Some j) next.composed) ≡ (dues j).packets) → Timed left dues next
    set_timed_but mine n next t set_h kept mine_awaits others composed = record {
      node = set_h.node ∙ t.node ∙ sym set.node;
      peer = set_h.peer ∙ t.peer ∙ sym set.peer;
      size = set_h.size ∙ t.size ∙ sym set.size;
      all = set_each s left i k set (λ j x. slice_get next.links.links j ≡ Some (hide (dues j).link)) set_h.here
          (λ j x d at_x. set_h.others j d ∙ t.all j x d at_x ∙ ap (λ (e : Due). Some (hide e.link)) (put_other i j mine dues d));
      went = λ j x at_x. let d = due.each j x at_x in went_can left.node left.peer (dues j).packets x (dues j).link d.can;
      kept = kept_as s.node s.peer left.node left.peer next.kept (sym set.node) (sym set.peer) kept;
      awaits = set_each s left i k set (λ j x. Awaits x (waiting link_it_is_for x.port.own next.kept)) mine_awaits others;
      composed = composed;
    }

    pub set_timed : (mine : Due) (n next : Node) → Timed s (put i mine dues) n → IsSet n.links next.links i (hide (dues i).link) →
        AreKept s.node s.peer next.kept → Awaits k (waiting link_it_is_for k.port.own next.kept) →
        ((j : ℕ) (x : Link) → (j ≡ i → ⊥) → slice_get s.links j ≡ Some x → Awaits x (waiting link_it_is_for x.port.own next.kept)) →
        ((j : ℕ) → packets_of (waiting link_it_is_of (Some j) next.composed) ≡ (dues j).packets) → Timed left dues next
    set_timed mine n next t set_h kept mine_awaits others composed =
        set_timed_but mine n next (record { node = t.node; peer = t.peer; size = t.size; all = λ j x differs at_x. t.all j x at_x }) set_h kept
        mine_awaits others composed

  module _ (left : machine.Links) (k : Link) (set : IsSet s left i k) where
    pub set_sane_free : ((j : ℕ) (x : Link) (n : ℕ) → (j ≡ i → ⊥) → slice_get s.links j ≡ Some x → is_at x.port.own n ≡ true →
        is_at k.port.own n ≡ true → ⊥) →
        is_at k.port.own 0 ≡ false → Sane k → AreSane left
    set_sane_free free zero is = record {
      unique = unique_free s left i k set sane.unique free;
      each = set_each s left i k set (λ j x. Sane x) is (λ j x d at_x. sane.each j x at_x);
      not_zero = set_each s left i k set (λ j x. is_at x.port.own 0 ≡ false) zero (λ j x d at_x. sane.not_zero j x at_x);
    }

    pub set_sane : k.port.own ≡ l.port.own → Sane k → AreSane left
    set_sane own is =
        set_sane_free (λ j x n differs at_x own_x own_k. differs (sane.unique j i x l at_x at n own_x (ap (λ (o : Option ℕ). is_at o n) (sym own) ∙
        own_k)))
        (ap (λ (o : Option ℕ). is_at o 0) own ∙ sane.not_zero i l at) is
