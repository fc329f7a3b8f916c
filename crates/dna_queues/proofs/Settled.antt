-- One link of which nothing waits any more: it is settled by a DC.
use Rattle.dna_queues.proofs.Prelude.{◌≡◌, true, false, Option, Some, None, [], refl, sym, ap, ◌∙◌, subst, Phase, Running, Disconnecting, Ended}
use Rattle.dna_queues.proofs.Prelude.{Port, Said, OfRun, Disconnect, is_live, settled, shows_by, further, is_silent, is_over, keeps_numbers}
use Rattle.dna_queues.proofs.Prelude.{TrueSegments, true_segments}
use Rattle.dna_queues.proofs.Facts.{lets_still, not_both, no_case, no_other}
use Rattle.dna_queues.proofs.{Goes.Link, Goes.said_as, Ahead.Meets, Follows.Follows, Sending.shows_is, Given.meets_now}
use Rattle.dna_queues.proofs.Acting.{LateLink, level, seen_as}

-- ---- one link that is settled

-- a link of which no more is known than its own phase
said_follows : (h : LateLink) (l : Link) (said : Said) → (is_silent (level h.port.phase) ≡ true → is_silent (further said l.queue.said) ≡ true) →
    (is_over (level h.port.phase) ≡ false → is_over (further said l.queue.said) ≡ false) → Follows h l [] [] → Follows h (said_as said l) [] []
said_follows h l said silent over f =
    let m = meets_now h l [] [] f refl in
    let g = f.can in
    record {
      used = f.used;
      of_use = f.of_use;
      fresh = f.fresh;
      called = f.called;
      ahead = assumption m;
      acknowledged = f.acknowledged;
      passed = f.passed;
      accepted = f.accepted;
      usable = f.usable;
      fits = assumption f.fits;
      can = assumption (silent, over, g);
    }

-- one that has ended in both, and of which nothing waits any more
pub dead_follows : (h k : LateLink) (l y : Link) → k ≡ record h { port = record h.port { phase = Ended } } →
    y ≡ record l { port = record l.port { phase = Ended }; queue = record l.queue { waits = None } } →
    Follows h l [] [] → Follows k y [] []
dead_follows h k l y is_k is_y f =
    subst (λ (x : LateLink). Follows x y [] []) (sym is_k) (subst (λ (x : Link). Follows (record h { port = record h.port { phase = Ended } }) x
    [] []) (sym is_y)
    (let m = meets_now h l [] [] f refl in
    let g = f.can in
    record {
      used = f.used;
      of_use = λ e. absurd cc;
      fresh = λ e. absurd cc;
      called = λ e. absurd cc;
      ahead = let port = ap (λ (p : Port). record p { phase = Ended }) m.port in search (no_case, port, m);
      acknowledged = f.acknowledged;
      passed = f.passed;
      accepted = λ e. absurd cc;
      usable = λ e. absurd cc;
      fits = record { waits = λ e. refl; ran = λ e. absurd cc; calling = λ e. absurd cc };
      can = search (no_case, no_other, g);
    }))

pub settled_follows : (h : LateLink) (l : Link) → Follows h l [] [] → Follows h (settled true_segments l.queue.waits l) [] []
settled_follows h l f = go l.queue.waits refl
  where
    m : Meets (seen_as f.used h) l
    m = meets_now h l [] [] f refl

    level_is : (p : Phase) → l.port.phase ≡ p → level h.port.phase ≡ level p
    level_is p e = ap level (ap (λ (q : Port). q.phase) m.port ∙ e)

    not_over : (s : Said) → is_over s ≡ false → is_over (further OfRun s) ≡ false
    not_over Disconnect e = absurd cc
    not_over p e = refl

    by : (p : Phase) → l.port.phase ≡ p → Follows h (shows_by true_segments p l) [] []
    by Running e =
        subst (λ (x : Link). Follows h x [] []) (sym (shows_is OfRun l)) (said_follows h l OfRun
        (λ s. absurd (not_both _ s (ap is_silent (level_is Running e)))) (λ s. not_over l.queue.said (f.can.over s)) f)
    by Disconnecting e =
        subst (λ (x : Link). Follows h x [] []) (sym (shows_is Disconnect l)) (said_follows h l Disconnect
        (λ s. absurd (not_both _ s (ap is_silent (level_is Disconnecting e)))) (λ s. absurd (not_both _ (ap is_over (level_is Disconnecting e))
        s)) f)
    by p e = f

    ended_phase : (p : Phase) → (is_live p ≡ true → ⊥) → p ≡ Ended
    ended_phase Ended never = refl
    ended_phase p never = absurd (never refl)

    go : (w : Option Phase) → l.queue.waits ≡ w → Follows h (settled true_segments w l) [] []
    go None e = by l.port.phase refl
    go (Some p) e =
        let over : l.port.phase ≡ Ended = ended_phase l.port.phase (λ live. let x : None ≡ Some p = sym (f.fits.waits live) ∙ e in cc) in
        let over_h : h.port.phase ≡ Ended = ap (λ (q : Port). q.phase) m.port ∙ over in
        let late : Link = record l { queue = record l.queue { waits = None } } in
        dead_follows h h l (settled true_segments (Some p) l)
        (ap (λ (q : Phase). record h { port = record h.port { phase = q } }) over_h)
        (ap (λ (g : TrueSegments). record late { segments = g }) (lets_still (keeps_numbers l) (keeps_numbers late) l.segments)
        ∙ ap (λ (q : Phase). record late { port = record l.port { phase = q } }) over) f
