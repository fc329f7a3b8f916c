-- What is kept of a link whose queue changes.
use Rattle.std.proofs.Common.{◌≡◌, Bool, true, false, ◌&&◌, ◌||◌, not, Option, Some, None, refl}
use Rattle.dna_links.specs.declared.port.Phase.{Phase}
use Rattle.dna_links.specs.declared.port.Phase.TheVariants.{Disconnecting}
use Rattle.dna_links.specs.declared.queue.Said.{Said}
use Rattle.dna_links.specs.declared.queue.Said.TheVariants.{Nothing, OfRun, Disconnect}
use Rattle.dna_links.specs.declared.queue.LinkQueue.{LinkQueue}
use Rattle.dna_links.specs.LookUps.{is_live, is_in}
use Rattle.dna_links.specs.Queues.{further, has_waiting, is_over}
use Rattle.nsp_link.specs.inner.Queue.{keeps}
use Rattle.nsp_link.proofs.Indexed.{stays_same, stays_moved, stays_waiting}

or_left : (a b : Bool) → a ≡ true → (a || b) ≡ true
or_left true b e = refl
or_left false b e = absurd (cc)

or_right : (a b : Bool) → b ≡ true → (a || b) ≡ true
or_right true b e = refl
or_right false b e = e

-- a live link keeps what has numbers, and one of which something waits
pub live_keeps : (phase : Phase) (queue : LinkQueue) → is_live phase ≡ true → keeps phase queue ≡ true
live_keeps phase queue e = or_left (is_live phase) (has_waiting queue.waits queue.said) e

pub waiting_keeps : (phase : Phase) (queue : LinkQueue) → has_waiting queue.waits queue.said ≡ true → keeps phase queue ≡ true
waiting_keeps phase queue e = or_right (is_live phase) (has_waiting queue.waits queue.said) e

still_by : (live waits : Bool) (kept : Bool) → (live ≡ true → kept ≡ true) → (waits ≡ true → kept ≡ true) → (live || waits) ≡ true → kept ≡ true
still_by true waits kept one other e = one refl
still_by false waits kept one other e = other e

-- what keeps it now kept it before
pub kept_before : (phase : Phase) (waits : Option Phase) (said : Said) (queue : LinkQueue) →
    (has_waiting waits said ≡ true → keeps phase queue ≡ true) → (is_live phase || has_waiting waits said) ≡ true → keeps phase queue ≡ true
kept_before phase waits said queue kept e =
    still_by (is_live phase) (has_waiting waits said) (keeps phase queue) (live_keeps phase queue) kept e

-- with more said no more waits
over_further : (said before : Said) → is_over before ≡ true → is_over (further said before) ≡ true
over_further Nothing before e = e
over_further OfRun Nothing e = absurd (cc)
over_further OfRun OfRun e = absurd (cc)
over_further OfRun Disconnect e = refl
over_further Disconnect before e = refl

not_less : (a b c : Bool) → (b ≡ true → a ≡ true) → not (a && c) ≡ true → not (b && c) ≡ true
not_less true b true more e = absurd (cc)
not_less false true c more e = let both : false ≡ true = more refl in absurd (cc)
not_less false false c more e = refl
not_less true true false more e = refl
not_less true false false more e = refl

pub less_waits : (waits : Option Phase) (said before : Said) → has_waiting waits (further said before) ≡ true → has_waiting waits before ≡ true
less_waits None said before e = e
less_waits (Some phase) said before e =
    not_less (is_over (further said before)) (is_over before) (is_in Disconnecting phase) (over_further said before) e

pub say_keeps : (phase : Phase) (queue : LinkQueue) (said : Said) → has_waiting queue.waits (further said queue.said) ≡ true →
    keeps phase queue ≡ true
say_keeps phase queue said e = waiting_keeps phase queue (less_waits queue.waits said queue.said e)

pub ruleset requeueing = (live_keeps, waiting_keeps, kept_before, say_keeps, stays_same, stays_moved, stays_waiting)

pub ruleset stays_so = (live_keeps, stays_same, stays_moved)
