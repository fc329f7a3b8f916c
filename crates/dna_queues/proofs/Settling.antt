-- A link that a DC settles: what came for it was acted on.
use Rattle.dna_queues.proofs.Prelude.{◌≡◌, true, false, Option, Some, None, refl, sym, ap, ◌∙◌, subst, Phase, Calling, Called, Confirming, Running}
use Rattle.dna_queues.proofs.Prelude.{Disconnecting, Ended, Said, Nothing, OfRun, Disconnect, is_in, port_of_waiting, settled, shows_by, further}
use Rattle.dna_queues.proofs.Prelude.{is_silent, is_over, keeps_numbers, TrueSegments, true_segments}
use Rattle.dna_queues.proofs.{Facts.lets_still, Facts.not_both, Goes.Link, Sending.shows_is}
use Rattle.dna_queues.proofs.Turns.{Sane, Began, has_run}

pub record Settles (l x : Link) : Type 0 where
  pub said : Said
  pub is : x ≡ record l { queue = record l.queue { waits = None; said = said } }
  pub loud : has_run l.port.phase ≡ true → is_silent said ≡ false
  pub over : is_in Disconnecting l.port.phase ≡ true → is_over said ≡ true

run_loud : (s : Said) → is_silent (further OfRun s) ≡ false
run_loud Nothing = refl
run_loud p = refl

pub settles : (l : Link) → Sane l → Settles l (settled true_segments l.queue.waits l)
settles l sane = go l.queue.waits refl
  where
    still : (p : Phase) → l.port.phase ≡ p → has_run p ≡ false → is_in Disconnecting p ≡ false → l.queue.waits ≡ None → Settles l l
    still p is before unclosed none = record {
      said = l.queue.said;
      is = ap (λ (w : Option Phase). record l { queue = record l.queue { waits = w } }) none;
      loud = λ e. absurd (not_both _ e (ap has_run is ∙ before));
      over = λ e. absurd (not_both _ e (ap (is_in Disconnecting) is ∙ unclosed));
    }

    by : (p : Phase) → l.port.phase ≡ p → l.queue.waits ≡ None → Settles l (shows_by true_segments p l)
    by Running is none = record {
      said = further OfRun l.queue.said;
      is = shows_is OfRun l
          ∙ ap (λ (w : Option Phase). record l { queue = record l.queue { waits = w; said = further OfRun l.queue.said } }) none;
      loud = λ e. run_loud l.queue.said;
      over = λ e. absurd (not_both _ e (ap (is_in Disconnecting) is));
    }
    by Disconnecting is none = record {
      said = Disconnect;
      is = shows_is Disconnect l ∙ ap (λ (w : Option Phase). record l { queue = record l.queue { waits = w; said = Disconnect } }) none;
      loud = λ e. refl;
      over = λ e. refl;
    }
    by Calling is none = still Calling is refl refl none
    by Called is none = still Called is refl refl none
    by Confirming is none = still Confirming is refl refl none
    by Ended is none = still Ended is refl refl none

    go : (w : Option Phase) → l.queue.waits ≡ w → Settles l (settled true_segments w l)
    go None e = by l.port.phase refl e
    go (Some p) e =
        let late : Link = record l { queue = record l.queue { waits = None } } in
        let over = (sane.waits p e).0 in
        record {
          said = l.queue.said;
          is = ap (λ (f : TrueSegments). record late { segments = f }) (lets_still (keeps_numbers l) (keeps_numbers late) l.segments);
          loud = λ e. absurd (not_both _ e (ap has_run over));
          over = λ e. absurd (not_both _ e (ap (is_in Disconnecting) over));
        }

pub settled_sane : (l x : Link) → Sane l → Settles l x → Sane x
settled_sane l x sane s = subst Sane (sym s.is) (record {
  began = go l.queue.waits refl sane.began;
  opened = sane.opened;
  called = sane.called;
  waits = λ p e. absurd cc;
})
  where
    go : (w : Option Phase) → l.queue.waits ≡ w → Began (port_of_waiting l.queue.waits l.port).phase l.port.opened l.queue.accepted l.queue.ran →
        Began l.port.phase l.port.opened l.queue.accepted l.queue.ran
    go None e b = subst (λ (w : Option Phase). Began (port_of_waiting w l.port).phase l.port.opened l.queue.accepted l.queue.ran) e b
    go (Some p) e b = subst (λ (q : Phase). Began q l.port.opened l.queue.accepted l.queue.ran) (sym (sane.waits p e).0) tt
