-- A boot: nothing that is composed before waits longer.
use Rattle.dna_queues.proofs.Prelude.{◌≡◌, ℕ, true, false, Option, Some, None, List, [], ◌∷◌, map, option_map, Ok, refl, sym, ap, ap₂, ◌∙◌, subst}
use Rattle.dna_queues.proofs.Prelude.{slice_get, length-map, slice_get-map, Phase, Ended, Port, Without, With, is_at, port_of_waiting, booted_link}
use Rattle.dna_queues.proofs.Prelude.{booted, blank, user_step, Boot, TrueSegments, true_segments, all_map, LinkRecord, OfUser, late_segments, Node}
use Rattle.dna_queues.proofs.Prelude.{link_it_is_for, waiting, MadeByHidden, Boots, Makes}
use Rattle.dna_links.specs.TrueLinks as machine
use Rattle.dna_queues.proofs.Facts.{same_Ok, by_option, drops_still}
use Rattle.dna_queues.proofs.{Goes.Link, Goes.at_node, Turns.Sane, Early.none_before, Hide.LateLink, Hide.hide, Timed.Awaits, Timed.Timed}
use Rattle.dna_queues.proofs.{SentTimed.Sound}
use Rattle.dna_queues.proofs.Dues.{Due, Went, went_itself, none_link, IsDue, AreDue, AreSane}

-- ---- nothing is due

abbrev link_or : Option Link → Link
link_or None = blank With true_segments
link_or (Some l) = l

abbrev pub none_due : machine.Links → ℕ → Due
none_due s i = record { packets = []; link = link_or (slice_get s.links i) }

pub none_are_due : (s : machine.Links) → AreDue s (none_due s)
none_are_due s = record { each = λ i l at. record { can = sym (ap link_or at); early = tt }; beyond = λ i none. refl }

-- ---- each link after a boot

abbrev over : Link → Link
over l = booted_link true_segments With l

abbrev over_late : LateLink → LateLink
over_late h = booted_link late_segments Without h

hide_over : (l : Link) → over_late (hide l) ≡ hide (over l)
hide_over l =
    ap₂ (λ (p : Port) (f : TrueSegments). record (hide l) { port = p; segments = record { segments = f; gap = l.queue.gap } })
    (use_over (at_node l.queue.waits)) (sym (drops_still l.port.opened l.segments))
  where
    use_over : (waits : Option Phase) → record (port_of_waiting waits l.port) { phase = Ended; own = None } ≡
        record l.port { phase = Ended; own = None }
    use_over None = refl
    use_over (Some phase) = refl

module _ (s : machine.Links) (sane : AreSane s) (later : List LinkRecord) where
  booted_sane : AreSane (booted true_segments With s)
  booted_sane = record {
    unique = λ i j l k at_i at_j own own_l own_k. absurd (no_own i l at_i own own_l);
    each = all_map (λ (i : ℕ) (k : Link). Sane k) over s.links (λ i l at. record {
      began = tt;
      opened = (sane.each i l at).opened;
      called = λ e. absurd cc;
      waits = λ p e. absurd cc;
    });
    not_zero = all_map (λ (i : ℕ) (k : Link). is_at k.port.own 0 ≡ false) over s.links (λ i l at. refl);
  }
    where
      no_own : (i : ℕ) (k : Link) → slice_get (map over s.links) i ≡ Some k → (own : ℕ) → is_at k.port.own own ≡ true → ⊥
      no_own = all_map (λ (i : ℕ) (k : Link). (own : ℕ) → is_at k.port.own own ≡ true → ⊥) over s.links (λ i l at own e. absurd cc)

  after_boot : Sound (booted true_segments With s) later → Sound s (OfUser Boot ∷ later)
  after_boot r = record { dues = none_due s; due = none_are_due s; made = λ n t. by_node n t }
    where
      is_due : (i : ℕ) (l : Link) → slice_get s.links i ≡ Some l → IsDue s.node s.peer (over l) (r.dues i)
      is_due i l at = r.due.each i (over l) (slice_get-map over s.links i ∙ ap (option_map over) at)

      nothing : (i : ℕ) (l : Link) → slice_get s.links i ≡ Some l → (r.dues i).packets ≡ []
      nothing i l at = let d = is_due i l at in none_before s.node s.peer (r.dues i).packets (over l) (λ x. x ≡ (r.dues i).link) refl d.early d.can

      link_is : (i : ℕ) (l : Link) → slice_get s.links i ≡ Some l → over l ≡ (r.dues i).link
      link_is i l at = none_link s.node s.peer (over l) (r.dues i) (is_due i l at) (nothing i l at)

      nothing_at : (i : ℕ) → (r.dues i).packets ≡ []
      nothing_at i = by_option (slice_get s.links i) (λ none. r.due.beyond i (slice_get-map over s.links i ∙ ap (option_map over) none))
          (λ l at. nothing i l at)

      next : Node → Node
      next n = record { links = booted late_segments Without n.links; kept = []; composed = [] }

      timed : (n : Node) → Timed s (none_due s) n → Timed (booted true_segments With s) r.dues (next n)
      timed n t = record {
        node = t.node;
        peer = t.peer;
        size = length-map n.links.links over_late ∙ t.size ∙ sym (length-map s.links over);
        all = all_map (λ (i : ℕ) (k : Link). slice_get (map over_late n.links.links) i ≡ Some (hide (r.dues i).link)) over s.links (λ i l at.
            slice_get-map over_late n.links.links i ∙ ap (option_map over_late) (t.all i l at ∙ ap (λ (o : Option Link). Some (hide (link_or o))) at)
            ∙ ap Some (hide_over l ∙ ap hide (link_is i l at)));
        went = all_map (λ (i : ℕ) (k : Link). Went k (r.dues i).link) over s.links
            (λ i l at. subst (Went (over l)) (link_is i l at) (went_itself (over l)));
        kept = tt;
        awaits = all_map (λ (i : ℕ) (k : Link). Awaits k (waiting link_it_is_for k.port.own [])) over s.links
            (λ i l at. record { live = λ e. absurd cc; over = λ p e. absurd cc });
        composed = λ i. sym (nothing_at i);
      }

      by_node : (n : Node) → Timed s (none_due s) n → MadeByHidden n (OfUser Boot ∷ later)
      by_node n t = Makes n (next n) (OfUser Boot) later Boots (r.made (next n) (timed n t))

  pub boot_sound : (left : machine.Links) → (AreSane left → Sound left later) → user_step With true_segments s Boot ≡ Ok left →
      Sound s (OfUser Boot ∷ later)
  boot_sound left rest e =
      after_boot (subst (λ (x : machine.Links). AreSane x → Sound x later) (sym (same_Ok _ left e)) rest booted_sane)
