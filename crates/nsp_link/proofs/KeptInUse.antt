-- A link that a look-up for what is sent or for its user finds is one that is kept, with queues or without.
use Rattle.std.proofs.Common.{◌≡◌, ℕ, Bool, true, false, ◌&&◌, ◌||◌, not, Option, Some, None, refl, sym, ap, ◌∙◌}
use Rattle.std.specs.Prelude.{slice_get, position}
use Rattle.dna_links.specs.declared.port.Phase.{Phase}
use Rattle.dna_links.specs.declared.port.Phase.TheVariants.{Calling, Called, Confirming, Running, Disconnecting, Ended}
use Rattle.dna_links.specs.declared.port.Port.{Port}
use Rattle.dna_links.specs.declared.port.LinkTest.{LinkTest}
use Rattle.dna_links.specs.declared.queue.Queues.{Queues}
use Rattle.dna_links.specs.declared.queue.Queues.TheVariants.{Without, With}
use Rattle.dna_links.specs.declared.queue.LinkQueue.{LinkQueue}
use Rattle.dna_links.specs.LookUps.{is_live, is_calling, is_connected, is_in, passes, takes_messages}
use Rattle.dna_links.specs.Links.{LinkOf, number_of}
use Rattle.dna_links.specs.Queues.{has_waiting, in_use, is_over, may_send, port_of_waiting}
use Rattle.dna_links.specs.WireSegments.{WireSegments}
use Rattle.dna_links.specs.WireLinks.{WireLinks}
use Rattle.nsp_link.specs.inner.Indexing.{CallsAt, KeepsAt, UsesAt}
use Rattle.nsp_link.specs.inner.Queue.{keeps}
use Rattle.nsp_link.specs.inner.Rows.{first_of, number_in_use}
use Rattle.nsp_link.proofs.LookUps.{second_true, passes_lives, is_of_live}
use Rattle.nsp_link.proofs.Found.{link_passes}
use Rattle.nsp_link.proofs.Requeued.{live_keeps, waiting_keeps}
use Rattle.nsp_link.proofs.InUse.{place_passes}

-- ---- what is kept of it

connected_waits : (phase : Phase) (b : Bool) → is_connected phase ≡ true → not (b && is_in Disconnecting phase) ≡ true
connected_waits Confirming true e = refl
connected_waits Confirming false e = refl
connected_waits Running true e = refl
connected_waits Running false e = refl
connected_waits Calling b e = absurd (cc)
connected_waits Called b e = absurd (cc)
connected_waits Disconnecting b e = absurd (cc)
connected_waits Ended b e = absurd (cc)

messages_wait : (phase : Phase) (b : Bool) → takes_messages phase ≡ true → not (b && is_in Disconnecting phase) ≡ true
messages_wait Calling true e = refl
messages_wait Calling false e = refl
messages_wait Confirming b e = connected_waits Confirming b e
messages_wait Running b e = connected_waits Running b e
messages_wait Called b e = absurd (cc)
messages_wait Disconnecting b e = absurd (cc)
messages_wait Ended b e = absurd (cc)

connected_lives : (phase : Phase) → is_connected phase ≡ true → is_live phase ≡ true
connected_lives Ended e = absurd (cc)
connected_lives Calling e = refl
connected_lives Called e = refl
connected_lives Confirming e = refl
connected_lives Running e = refl
connected_lives Disconnecting e = refl

messages_live : (phase : Phase) → takes_messages phase ≡ true → is_live phase ≡ true
messages_live Ended e = absurd (cc)
messages_live Calling e = refl
messages_live Called e = refl
messages_live Confirming e = refl
messages_live Running e = refl
messages_live Disconnecting e = refl

by_waits : (waits : Option Phase) (port : Port) (queue : LinkQueue) → queue.waits ≡ waits → (P : Phase → Bool) →
    ((phase : Phase) → P phase ≡ true → is_live phase ≡ true) →
    ((phase : Phase) → P phase ≡ true → not (is_over queue.said && is_in Disconnecting phase) ≡ true) → P (port_of_waiting waits port).phase ≡ true →
    keeps port.phase queue ≡ true
by_waits None port queue is P lives wait e = live_keeps port.phase queue (lives port.phase e)
by_waits (Some phase) port queue is P lives wait e =
    waiting_keeps port.phase queue (ap (λ (w : Option Phase). has_waiting w queue.said) is ∙ wait phase e)

pub connected_keeps : (queues : Queues) (l : LinkOf WireSegments) → is_connected (in_use queues l).phase ≡ true → keeps l.port.phase l.queue ≡ true
connected_keeps Without l e = live_keeps l.port.phase l.queue (connected_lives l.port.phase e)
connected_keeps With l e =
    by_waits l.queue.waits l.port l.queue refl is_connected connected_lives (λ phase c. connected_waits phase (is_over l.queue.said) c) e

pub messages_keep : (queues : Queues) (l : LinkOf WireSegments) → takes_messages (in_use queues l).phase ≡ true → keeps l.port.phase l.queue ≡ true
messages_keep Without l e = live_keeps l.port.phase l.queue (messages_live l.port.phase e)
messages_keep With l e =
    by_waits l.queue.waits l.port l.queue refl takes_messages messages_live (λ phase c. messages_wait phase (is_over l.queue.said) c) e

pub connected_used : (queues : Queues) (l : LinkOf WireSegments) → is_connected (in_use queues l).phase ≡ true →
    is_live (in_use queues l).phase ≡ true
connected_used queues l e = connected_lives (in_use queues l).phase e

-- ---- one that was found

in_use_by : (test : LinkTest) (s : WireLinks) (n : ℕ) (l : LinkOf WireSegments) (r : Option ℕ) → number_of test s ≡ r →
    first_of r (position (λ (k : LinkOf WireSegments). passes test (in_use With k)) s.links) ≡ Some n → slice_get s.links n ≡ Some l →
    (passes test l.port || passes test (in_use With l)) ≡ true
in_use_by test s n l (Some k) is e there =
    let same : k ≡ n = cc in
    left (passes test l.port) (passes test (in_use With l)) (link_passes test s n l (is ∙ ap Some same) there)
  where
    left : (a b : Bool) → a ≡ true → (a || b) ≡ true
    left true b e = refl
    left false b e = absurd (cc)
in_use_by test s n l None is e there =
    right (passes test l.port) (passes test (in_use With l)) (place_passes (λ k. passes test (in_use With k)) s.links n l e there)
  where
    right : (a b : Bool) → b ≡ true → (a || b) ≡ true
    right true b e = refl
    right false b e = e

live_by : (test : LinkTest) (l : LinkOf WireSegments) (a : Bool) → is_of_live test ≡ true → passes test l.port ≡ a →
    (passes test l.port || passes test (in_use With l)) ≡ true → (waits : Option Phase) → l.queue.waits ≡ waits → is_over l.queue.said ≡ false →
    keeps l.port.phase l.queue ≡ true
live_by test l true of is e waits w over = live_keeps l.port.phase l.queue (passes_lives test l.port of is)
live_by test l false of is e None w over =
    live_keeps l.port.phase l.queue
    (ap (λ (o : Option Phase). is_live (port_of_waiting o l.port).phase) (sym w)
    ∙ passes_lives test (in_use With l) of (ap (λ (b : Bool). b || passes test (in_use With l)) (sym is) ∙ e))
live_by test l false of is e (Some phase) w over =
    waiting_keeps l.port.phase l.queue
    (ap (λ (o : Option Phase). has_waiting o l.queue.said) w ∙ ap (λ (b : Bool). not (b && is_in Disconnecting phase)) over)

not_true : (b : Bool) → not b ≡ true → b ≡ false
not_true true e = absurd (cc)
not_true false e = refl

running_lives : (phase : Phase) → is_in Running phase ≡ true → is_live phase ≡ true
running_lives Running e = refl
running_lives Ended e = absurd (cc)
running_lives Calling e = refl
running_lives Called e = refl
running_lives Confirming e = refl
running_lives Disconnecting e = refl

pub running_keeps : (queues : Queues) (test : LinkTest) (s : WireLinks) (n : ℕ) (l : LinkOf WireSegments) → is_of_live test ≡ true →
    number_in_use queues test s ≡ Some n → slice_get s.links n ≡ Some l → may_send queues Running l ≡ true → keeps l.port.phase l.queue ≡ true
running_keeps Without test s n l of e there turn = live_keeps l.port.phase l.queue (running_lives l.port.phase turn)
running_keeps With test s n l of e there turn =
    live_by test l (passes test l.port) of refl (in_use_by test s n l (number_of test s) refl e there) l.queue.waits refl
    (not_true (is_over l.queue.said) (second_true l.queue.ran (not (is_over l.queue.said)) turn))

one_there : (s : WireLinks) (n : ℕ) (k l : LinkOf WireSegments) → slice_get s.links n ≡ Some k → slice_get s.links n ≡ Some l → k ≡ l
one_there s n k l a b = let both : Some k ≡ Some l = sym a ∙ b in cc

module _ (P : LinkOf WireSegments → Bool) (s : WireLinks) (n : ℕ) (k : LinkOf WireSegments) (there : slice_get s.links n ≡ Some k) where
  pub at_place : P k ≡ true → (l : LinkOf WireSegments) → slice_get s.links n ≡ Some l → P l ≡ true
  at_place e l is = ap P (sym (one_there s n k l there is)) ∙ e

pub connected_keeps_at : (queues : Queues) (s : WireLinks) (n : ℕ) (k : LinkOf WireSegments) → slice_get s.links n ≡ Some k →
    is_connected (in_use queues k).phase ≡ true → KeepsAt n s
connected_keeps_at queues s n k there e = at_place (λ l. keeps l.port.phase l.queue) s n k there (connected_keeps queues k e)

pub connected_used_at : (queues : Queues) (s : WireLinks) (n : ℕ) (k : LinkOf WireSegments) → slice_get s.links n ≡ Some k →
    is_connected (in_use queues k).phase ≡ true → UsesAt queues n s
connected_used_at queues s n k there e = at_place (λ l. is_live (in_use queues l).phase) s n k there (connected_used queues k e)

pub messages_keep_at : (queues : Queues) (s : WireLinks) (n : ℕ) (k : LinkOf WireSegments) → slice_get s.links n ≡ Some k →
    takes_messages (in_use queues k).phase ≡ true → KeepsAt n s
messages_keep_at queues s n k there e = at_place (λ l. keeps l.port.phase l.queue) s n k there (messages_keep queues k e)

pub running_keeps_at : (queues : Queues) (test : LinkTest) (s : WireLinks) (n : ℕ) (k : LinkOf WireSegments) → is_of_live test ≡ true →
    number_in_use queues test s ≡ Some n → slice_get s.links n ≡ Some k → may_send queues Running k ≡ true → KeepsAt n s
running_keeps_at queues test s n k of e there turn =
    at_place (λ l. keeps l.port.phase l.queue) s n k there (running_keeps queues test s n k of e there turn)

pub calls_at : (queues : Queues) (s : WireLinks) (n : ℕ) (k : LinkOf WireSegments) → slice_get s.links n ≡ Some k →
    is_calling (in_use queues k).phase ≡ true → CallsAt queues n s
calls_at queues s n k there e = at_place (λ l. is_calling (in_use queues l).phase) s n k there e

pub ruleset found_in_use = (connected_keeps_at, connected_used_at, messages_keep_at, running_keeps_at, calls_at)
