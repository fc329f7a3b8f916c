-- A link that its own node ends, and of which its CI may still be sent where it was opened here.
use Rattle.std.proofs.Common.{◌≡◌, Bool, true, false, Option, None, refl, sym, ap, ◌∙◌, subst}
use Rattle.dna_links.specs.declared.port.Phase.{Phase}
use Rattle.dna_links.specs.declared.port.Phase.TheVariants.{Ended}
use Rattle.dna_links.specs.declared.queue.Queues.TheVariants.{With}
use Rattle.dna_links.specs.LookUps.{is_calling, is_in, is_live}
use Rattle.dna_links.specs.Links.{LinkOf}
use Rattle.dna_links.specs.Queues.{call_of, drops, drops_segments, ended, in_use}
use Rattle.dna_links.specs.WireSegments.{WireSegments, wire_segments}
use Rattle.nsp_link.specs.inner.Index.{Stays}
use Rattle.nsp_link.specs.inner.Queue.{keeps}
use Rattle.nsp_link.proofs.Booted.{calling_takes}
use Rattle.nsp_link.proofs.KeptInUse.{messages_keep}
use Rattle.nsp_link.proofs.Requeued.{live_keeps}
use Rattle.nsp_link.proofs.Settled.{calling_lives}

ended_phase : (phase : Phase) → is_in Ended phase ≡ true → phase ≡ Ended
ended_phase Ended e = refl
ended_phase phase e = absurd cc

abbrev over_as : (opened : Bool) → LinkOf WireSegments → LinkOf WireSegments
over_as opened l = record l {
  port = record l.port { phase = Ended };
  segments = drops_segments wire_segments opened l.segments;
  queue = record l.queue { waits = call_of opened };
}

-- of a call that was opened here its segments stay
pub gives_up : (l m : LinkOf WireSegments) → l.port.opened ≡ true →
    m ≡ record l { port = record l.port { phase = Ended }; queue = record l.queue { waits = call_of true } } → m ≡ drops wire_segments With l
gives_up l m opened is = is ∙ ap (λ (b : Bool). over_as b l) (sym opened)

-- a call that came is over
pub ends_call : (l m : LinkOf WireSegments) → l.queue.waits ≡ None → l.port.opened ≡ false → m ≡ ended wire_segments l →
    m ≡ drops wire_segments With l
ends_call l m none came is =
    is ∙ ap (λ (w : Option Phase). record (ended wire_segments l) { queue = record l.queue { waits = w } }) none
    ∙ ap (λ (b : Bool). over_as b l) (sym came)

pub calling_keeps : (l : LinkOf WireSegments) → is_calling (in_use With l).phase ≡ true → keeps l.port.phase l.queue ≡ true
calling_keeps l calling = messages_keep With l (calling_takes (in_use With l).phase calling)

pub ruleset dropping = (gives_up, ends_call, live_keeps)

-- one that has ended is found as before, and a call that was opened here is used as before
pub stays_given_up : (l m : LinkOf WireSegments) → m ≡ drops wire_segments With l → (is_in Ended l.port.phase ≡ true) × (l.port.opened ≡ true) →
    is_calling (in_use With l).phase ≡ true → Stays l m
stays_given_up l m is over calling = subst (Stays l) (sym (is ∙ ap (λ (b : Bool). over_as b l) over.1)) (record {
  found = record {
    own = refl;
    opened = refl;
    far = refl;
    lives = sym (ap is_live phase);
    called = λ e. absurd cc;
    calling = λ e. absurd cc;
  };
  used = sym (calling_lives (in_use With l).phase calling);
})
  where
    phase : l.port.phase ≡ Ended
    phase = ended_phase l.port.phase over.0
