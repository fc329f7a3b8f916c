-- What `FailedSending` and `FailedEvent` ask of a link in use, by its number as the code finds it; for private contracts.
use Rattle.std.specs.Prelude.{ℕ, Result, Err}
use Rattle.dna_links.specs.declared.port.LinkTest.{LinkTest}
use Rattle.dna_links.specs.declared.port.LinkTest.TheVariants.{LiveAt}
use Rattle.dna_links.specs.declared.port.Phase.{Phase}
use Rattle.dna_links.specs.declared.queue.Queues.{Queues}
use Rattle.dna_links.specs.Links.{LinkOf}
use Rattle.dna_links.specs.Queues.{may_send}
use Rattle.dna_links.specs.WireSegments.{WireSegments}
use Rattle.dna_links.specs.WireLinks.{WireLinks}
use Rattle.nsp_link.specs.FailedSending.{out_of_turn, unless}
use Rattle.nsp_link.specs.Missing.{missing}
use Rattle.nsp_link.specs.declared.failed.FailedLinkEvent.{FailedLinkEvent}
use Rattle.nsp_link.specs.declared.failed.FailedLinkEvent.TheVariants as event
use Rattle.nsp_link.specs.declared.failed.FailedLinkSending.{FailedLinkSending}
use Rattle.nsp_link.specs.declared.failed.FailedLinkSending.TheVariants as sending
use Rattle.nsp_link.specs.declared.permit.LinkSendPermit.{LinkSendPermit}
use Rattle.nsp_link.specs.declared.permit.LinkUserPermit.{LinkUserPermit}
use Rattle.nsp_link.specs.inner.Rows.{found_in_use}

module _ (queues : Queues) where
  -- a message: the link that this test finds, in the turn of this phase
  abbrev pub asks_in_turn : LinkTest → Phase → (ℕ → LinkOf WireSegments → Result LinkSendPermit FailedLinkSending) → WireLinks →
      Result LinkSendPermit FailedLinkSending
  asks_in_turn test wanted next s = found_in_use queues test s (Err (sending.NoLink (missing test s))) (λ number link.
      unless (may_send queues wanted link) (out_of_turn queues wanted number link) (next number link))

  -- an event of the user: the link that lives with this address
  abbrev pub asks_in_use : (own : ℕ) → WireLinks → (ℕ → LinkOf WireSegments → Result LinkUserPermit FailedLinkEvent) →
      Result LinkUserPermit FailedLinkEvent
  asks_in_use own s next = found_in_use queues (LiveAt own) s (Err (event.NoLink (missing (LiveAt own) s))) next
