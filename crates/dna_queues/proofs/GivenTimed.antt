-- An address is given: what waits for it is acted on before, and the link that had it is forgotten. So where a link is opened.
use Rattle.dna_queues.proofs.Prelude.{◌≡◌, ℕ, ◌≤◌, Bool, true, false, ◌&&◌, Option, Some, None, List, [], ◌∷◌, refl, sym, ap, ap₂, ◌∙◌, subst}
use Rattle.dna_queues.proofs.Prelude.{eqb-true, arith, slice_get, Phase, Ended, Port, HasAddress, LiveAt, Without, With, passes, is_live, is_called}
use Rattle.dna_queues.proofs.Prelude.{is_at, Carried, number_of, begun, changed, freed, forgotten, opened, Open, true_segments, IsFound, looked}
use Rattle.dna_queues.proofs.Prelude.{LinkRecord, OfUser, late_segments, Links, Node, link_it_is_for, IsFree, UserDoes, Makes, false_from_ne_true}
use Rattle.dna_links.specs.TrueLinks as machine
use Rattle.dna_queues.proofs.{Facts.dead_phase, Facts.not_both, Given.freed_changed, Lists.waiting_none, Turns.Began, Turns.has_past, Hide.hide}
use Rattle.dna_queues.proofs.{Timed.Timed, Prepared.set_sane_free, SentTimed.Sound}
use Rattle.dna_queues.proofs.Goes.{Link, phase_of, node_port, node_own}
use Rattle.dna_queues.proofs.LinkLists.{IsSet, IsChanged, set_changed, at_none, at_found, none_passes, changed_each}
use Rattle.dna_queues.proofs.Early.{CanGo, AreEarly, none_before}
use Rattle.dna_queues.proofs.Dues.{Due, AreDue, AreSane}
use Rattle.dna_queues.proofs.Addressed.{stripped, awaits_nothing, flushed, flushed_number, flushed_owner, Addressed, addressed}
use Rattle.dna_queues.proofs.BegunTimed.{begun_sane, begun_due, begun_timed}

module _ (s : machine.Links) (sane : AreSane s) (own : ℕ) (one : 1 ≤ own) (none_live : number_of (LiveAt own) s ≡ None) where
  abbrev pub left : machine.Links
  left = freed true_segments With own s

  -- the link that had the address is over
  pub over : (i : ℕ) (l : Link) → slice_get s.links i ≡ Some l → is_at l.port.own own ≡ true → l.port.phase ≡ Ended
  over i l at has = dead_phase l.port.phase (false_from_ne_true _ (λ e. not_both (passes (LiveAt own) l.port) (ap₂ (λ (a b : Bool). a && b) e has)
      (none_passes (LiveAt own) s none_live i l at)))

  pub left_is : IsChanged s (freed true_segments With own s) own (forgotten true_segments With)
  left_is = freed_changed true_segments With own s sane.unique

  -- no link has it any more
  pub no_owner : (i : ℕ) (x : Link) → slice_get (freed true_segments With own s).links i ≡ Some x → is_at x.port.own own ≡ true → ⊥
  no_owner i = changed_each s _ own _ left_is (λ x. is_at x.port.own own ≡ true → ⊥) i (λ l there e has. absurd cc)
      (λ l there e has. not_both _ has e)

  pub left_sane : AreSane (freed true_segments With own s)
  left_sane =
      looked (HasAddress own) s s (λ i l. changed i (forgotten true_segments With l) s) (freed true_segments With own s) refl
      (λ none e. subst AreSane e sane)
      (λ i l found e. set_sane_free s sane i l found.there (freed true_segments With own s) (forgotten true_segments With l)
      (subst (λ (x : machine.Links). IsSet s x i (forgotten true_segments With l)) e
      (set_changed s i l (forgotten true_segments With l) found.there))
      (λ j x n differs at own_x own_k. absurd cc) refl (record {
        began = subst (λ (p : Phase). Began p l.port.opened l.queue.accepted l.queue.ran) (sym (over i l found.there found.passed)) tt;
        opened = (sane.each i l found.there).opened;
        called = λ e. let x : true ≡ false = sym e ∙ ap is_called (over i l found.there found.passed) in absurd cc;
        waits = λ p e. absurd cc;
      }))

  -- what is due then was due before, and the node goes along
  pub record Gives (dues : ℕ → Due) : Type 0 where
    pub before : ℕ → Due
    pub due : AreDue s before
    pub free : (n : Node) (t : Timed s before n) → IsFree own (flushed s sane before n t own).next
    pub timed : (n : Node) (t : Timed s before n) → Timed (freed true_segments With own s) dues (record (flushed s sane before n t own).next {
      links = freed late_segments Without own (flushed s sane before n t own).next.links;
    })

  pub gives : (dues : ℕ → Due) → AreDue (freed true_segments With own s) dues → Gives dues
  gives dues due =
      let a = addressed s sane own (forgotten true_segments With) (freed true_segments With own s) dues due refl
      (λ i l found packets P early can. none_before left.node left.peer packets (forgotten true_segments With l) P
      (ap has_past (over i l found.there found.passed)) early can)
      (λ i l found kept none. awaits_nothing (forgotten true_segments With l) _ refl (waiting_none link_it_is_for kept)) in
      record {
        before = a.before;
        due = a.due_before;
        free = a.free;
        timed = λ n t. a.timed n t (freed late_segments Without own (flushed s sane a.before n t own).next.links)
            (λ none. at_none (HasAddress own) (flushed s sane a.before n t own).next.links _ _ (flushed_owner s sane a.before n t own ∙ none))
            (λ i l found. forgets a n t i l found);
      }
    where
      forgets : (a : Addressed s sane own (forgotten true_segments With) (freed true_segments With own s) dues due) (n : Node)
          (t : Timed s a.before n) (i : ℕ) (l : Link) → IsFound (HasAddress own) s i l →
          IsSet (flushed s sane a.before n t own).next.links (freed late_segments Without own (flushed s sane a.before n t own).next.links) i
          (hide (forgotten true_segments With l))
      forgets a n t i l found =
          let f = flushed s sane a.before n t own in
          let here = a.here n t i l found in
          subst (λ (x : Links). IsSet f.next.links x i (hide (forgotten true_segments With l)))
          (sym (at_found (HasAddress own) f.next.links i (stripped l l) _ _ (record {
            found = flushed_owner s sane a.before n t own ∙ found.found;
            there = here;
            passed = found.passed;
          })))
          (set_changed f.next.links i (stripped l l) (hide (forgotten true_segments With l)) here)

  pub none_then : (dues : ℕ → Due) (n : Node) (t : Timed s dues n) → number_of (LiveAt own) (flushed s sane dues n t own).next.links ≡ None
  none_then dues n t =
      flushed_number s sane dues n t own (LiveAt own) (λ j l at has. fails (node_port l) (ap (λ (o : Option ℕ). is_at o own) (node_own l) ∙ has)
      ∙ sym (fails l.port has)) ∙ none_live
    where
      and_false : (b c : Bool) → c ≡ false → (b && c) ≡ false
      and_false true c e = e
      and_false false c e = refl

      fails : (p : Port) → is_at p.own own ≡ false → passes (LiveAt own) p ≡ false
      fails p has = and_false (is_live p.phase) (is_at p.own own) has

  pub own_not_zero : is_at (Some own) 0 ≡ false
  own_not_zero = grind (arith, one)

  module _ (later : List LinkRecord) where
    -- ---- a link is opened

    pub open_sound : (AreSane (begun (opened true_segments own) left) → Sound (begun (opened true_segments own) left) later) →
        Sound s (OfUser (Open own) ∷ later)
    open_sound rest = go (rest (begun_sane left k left_sane (record {
      began = (refl, refl);
      opened = λ e. refl;
      called = λ e. absurd cc;
      waits = λ p e. absurd cc;
    }) own_not_zero (λ i x n at own_x own_k. no_owner i x at (ap (is_at x.port.own) (eqb-true own n own_k) ∙ own_x))))
      where
        k : Link
        k = opened true_segments own

        none_early : (packets : List Carried) (P : Link → Type 0) → AreEarly (phase_of (opened true_segments own)) packets →
            CanGo (freed true_segments With own s).node (freed true_segments With own s).peer packets (opened true_segments own) P → packets ≡ []
        none_early packets P early can = none_before _ _ packets (opened true_segments own) P refl early can

        go : Sound (begun (opened true_segments own) left) later → Sound s (OfUser (Open own) ∷ later)
        go r =
            let g = gives r.dues (begun_due left (opened true_segments own) none_early r.dues r.due) in
            record {
              dues = g.before;
              due = g.due;
              made = λ n t. let f = flushed s sane g.before n t own in
                  let fl = freed late_segments Without own f.next.links in
                  f.on (OfUser (Open own) ∷ later)
                  (Makes f.next (record f.next { links = begun (opened late_segments own) fl }) (OfUser (Open own)) later
                  (UserDoes (Open own) (begun (opened late_segments own) fl) (g.free n t)
                  (at_none (LiveAt own) f.next.links _ _ (none_then g.before n t)))
                  (r.made (record f.next { links = begun (opened late_segments own) fl })
                  (begun_timed left (opened true_segments own) none_early r.dues r.due (record f.next { links = fl }) (g.timed n t)
                  (awaits_nothing (opened true_segments own) _ refl f.none))));
            }
