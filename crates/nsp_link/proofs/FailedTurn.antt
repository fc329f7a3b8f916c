-- The link in use that a check is asked of.
use Rattle.std.proofs.Common.{◌≡◌, ℕ, Bool, true, false, Option, Some, None, Result, Err, ap, ◌∙◌}
use Rattle.std.specs.Prelude.{slice_get}
use Rattle.dna_links.specs.declared.port.LinkTest.{LinkTest}
use Rattle.dna_links.specs.declared.port.LinkTest.TheVariants.{LiveAt}
use Rattle.dna_links.specs.declared.port.Phase.{Phase}
use Rattle.dna_links.specs.declared.queue.Queues.{Queues}
use Rattle.dna_links.specs.Links.{LinkOf, at_number, on_link}
use Rattle.dna_links.specs.Queues.{may_send}
use Rattle.dna_links.specs.WireSegments.{WireSegments}
use Rattle.dna_links.specs.WireLinks.{WireLinks}
use Rattle.nsp_link.specs.FailedEvent.{on_link_in_use}
use Rattle.nsp_link.specs.FailedSending.{asked_in_turn, out_of_turn, unless}
use Rattle.nsp_link.specs.Missing.{missing}
use Rattle.nsp_link.specs.declared.failed.FailedLinkEvent.{FailedLinkEvent}
use Rattle.nsp_link.specs.declared.failed.FailedLinkSending.{FailedLinkSending}
use Rattle.nsp_link.specs.declared.failed.FailedLinkSending.TheVariants.{NoLink}
use Rattle.nsp_link.specs.declared.permit.LinkSendPermit.{LinkSendPermit}
use Rattle.nsp_link.specs.declared.permit.LinkUserPermit.{LinkUserPermit}
use Rattle.nsp_link.specs.inner.Failed.{asks_in_turn, asks_in_use}
use Rattle.nsp_link.specs.inner.Rows.{found_in_use, number_in_use}
use Rattle.nsp_link.proofs.InUse.{seen_waiting, unseen_waiting}
use Rattle.nsp_link.proofs.KeptInUse.{running_keeps}
use Rattle.nsp_link.proofs.Rows.{in_use_same}

module _ {R : Type 0} (queues : Queues) (test : LinkTest) (s : WireLinks) (otherwise : R) (next : ℕ → LinkOf WireSegments → R) where
  pub use_found : (n : ℕ) (l : LinkOf WireSegments) → number_in_use queues test s ≡ Some n → slice_get s.links n ≡ Some l →
      found_in_use queues test s otherwise next ≡ next n l
  use_found n l e there =
      ap (λ (r : Option ℕ). at_number s.links r otherwise next) e ∙ ap (λ (o : Option (LinkOf WireSegments)). on_link n o otherwise next) there

  pub use_none : number_in_use queues test s ≡ None → found_in_use queues test s otherwise next ≡ otherwise
  use_none e = ap (λ (r : Option ℕ). at_number s.links r otherwise next) e

-- ---- a message

module _ (queues : Queues) (test : LinkTest) (wanted : Phase) (next : ℕ → LinkOf WireSegments → Result LinkSendPermit FailedLinkSending)
    (s : WireLinks) where
  abbrev none : Result LinkSendPermit FailedLinkSending
  none = Err (NoLink (missing test s))

  abbrev asked : ℕ → LinkOf WireSegments → Result LinkSendPermit FailedLinkSending
  asked number link = unless (may_send queues wanted link) (out_of_turn queues wanted number link) (next number link)

  pub turn_none : number_in_use queues test s ≡ None → asks_in_turn queues test wanted next s ≡ Err (NoLink (missing test s))
  turn_none e = use_none queues test s none asked e

  module _ (n : ℕ) (l : LinkOf WireSegments) (e : number_in_use queues test s ≡ Some n) (there : slice_get s.links n ≡ Some l) where
    by_turn : (b : Bool) → may_send queues wanted l ≡ b →
        asks_in_turn queues test wanted next s ≡ unless b (out_of_turn queues wanted n l) (next n l)
    by_turn b is =
        use_found queues test s none asked n l e there ∙ ap (λ (b : Bool). unless b (out_of_turn queues wanted n l) (next n l)) is

    pub turn_passed : may_send queues wanted l ≡ true → asks_in_turn queues test wanted next s ≡ next n l
    turn_passed is = by_turn true is

    pub turn_failed : may_send queues wanted l ≡ false → asks_in_turn queues test wanted next s ≡ Err (out_of_turn queues wanted n l)
    turn_failed is = by_turn false is

  pub turn_same : asks_in_turn queues test wanted next s ≡ asked_in_turn queues test wanted next s
  turn_same = in_use_same test s none asked queues

pub ruleset turns = (turn_none, turn_passed, turn_failed, running_keeps, seen_waiting, unseen_waiting)

-- ---- an event

pub use_same : (queues : Queues) (own : ℕ) (s : WireLinks) (next : ℕ → LinkOf WireSegments → Result LinkUserPermit FailedLinkEvent) →
    asks_in_use queues own s next ≡ on_link_in_use queues own s next
use_same queues own s next = in_use_same (LiveAt own) s _ next queues

pub ruleset event_in_use = (use_same)

pub ruleset uses_found = (use_found, use_none)
