-- What a node's links answer, with queues or without, when they are asked for an event of their user: a permit, or else the first check that it does
-- not pass, by its name, with what is seen there and what is allowed. The checks are those of `Table` of `dna_links`, in their order.
use Rattle.std.specs.Prelude.{ℕ, Bool, if◌then◌else◌, false, Option, Some, None, List, length, Result, Ok, Err}
use Rattle.std.specs.Str.{bytes_eq}
use Rattle.dna_station.specs.declared.link_refusal.LinkRefusal.{LinkRefusal}
use Rattle.dna_station.specs.declared.link_refusal.LinkRefusal.TheVariants.{NoLink, LinkState, WrongDelivery, AddressInUse}
use Rattle.dna_links.specs.declared.port.LinkTest.{LinkTest}
use Rattle.dna_links.specs.declared.port.LinkTest.TheVariants.{HasAddress, LiveAt, CalledBy}
use Rattle.dna_links.specs.declared.port.Phase.{Phase}
use Rattle.dna_links.specs.declared.port.Phase.TheVariants.{Confirming, Disconnecting}
use Rattle.dna_links.specs.declared.queue.Queues.{Queues}
use Rattle.dna_links.specs.Links.{LinkOf, with_link}
use Rattle.dna_links.specs.Queues.{in_use, with_in_use}
use Rattle.dna_links.specs.LookUps.{is_called, is_calling, is_connected, takes_messages}
use Rattle.dna_links.specs.Segmentation.{Piece, Whole, next_message}
use Rattle.dna_links.specs.User.{LinkEventValue, Open, Accept, Reject, In, Up, Close, Abort, Boot}
use Rattle.dna_links.specs.WireSegments.{WireSegments}
use Rattle.dna_links.specs.WireLinks.{WireLinks}
use Rattle.link_segments.specs.Received.{next_length}
use Rattle.nsp_link.specs.FailedSending.{unless}
use Rattle.nsp_link.specs.Missing.{missing, refusal_in}
use Rattle.nsp_link.specs.declared.failed.FailedLinkEvent.{FailedLinkEvent}
use Rattle.nsp_link.specs.declared.failed.FailedLinkEvent.TheVariants as failed
use Rattle.nsp_link.specs.declared.permit.LinkUserPermit.{LinkUserPermit}
use Rattle.nsp_link.specs.declared.permit.LinkUserPermit.TheVariants.{Opens, Answers, HandsIn, Delivers, Closes, GivesUp, Boots}

-- the link that this test finds, else none is as the event asks for
abbrev pub on_link_asked : LinkTest → WireLinks →
    (ℕ → LinkOf WireSegments → Result LinkUserPermit FailedLinkEvent) → Result LinkUserPermit FailedLinkEvent
on_link_asked test s next = with_link test s (Err (failed.NoLink (missing test s))) next

-- an address that is given, and the permit where no live link has it
abbrev pub asked_address : (own : ℕ) → LinkUserPermit → WireLinks → Result LinkUserPermit FailedLinkEvent
asked_address own permit s = with_link (LiveAt own) s (Ok permit) (λ number link. Err (failed.AddressInUse own number))

-- a message that is delivered is the next whole one
abbrev pub is_whole : List ℕ → Option Whole → Bool
is_whole message None = false
is_whole message (Some w) = bytes_eq message w.message

abbrev pub whole_pieces : Option Whole → ℕ
whole_pieces None = 0
whole_pieces (Some w) = w.pieces

abbrev pub asked_delivery : (link : ℕ) → List ℕ → List (Option Piece) → Result LinkUserPermit FailedLinkEvent
asked_delivery link message pieces =
    unless (is_whole message (next_message pieces)) (failed.Delivery link (length message) (next_length pieces))
    (Ok (Delivers link (whole_pieces (next_message pieces))))

-- the call from this far address is answered, and gets this own one
abbrev pub asked_answer : Phase → (far own : ℕ) → WireLinks → Result LinkUserPermit FailedLinkEvent
asked_answer phase far own s = on_link_asked (CalledBy far) s (λ number link. asked_address own (Answers number own phase) s)

abbrev pub asked_delivering : (own : ℕ) → List ℕ → WireLinks → Result LinkUserPermit FailedLinkEvent
asked_delivering own message s =
    on_link_asked (HasAddress own) s (λ number link. asked_delivery number message link.segments.variables.pieces)

-- the link is in another phase; a call that was given up, which is seen in Called, is no link for its user
abbrev pub not_so : (own : ℕ) → WireLinks → (seen : Phase) → FailedLinkEvent → FailedLinkEvent
not_so own s seen other = if is_called seen then failed.NoLink (missing (LiveAt own) s) else other

module _ (queues : Queues) where
  -- with queues the link may have ended, and something of it waits
  abbrev pub on_link_in_use : (own : ℕ) → WireLinks → (ℕ → LinkOf WireSegments → Result LinkUserPermit FailedLinkEvent) →
      Result LinkUserPermit FailedLinkEvent
  on_link_in_use own s next = with_in_use queues (LiveAt own) s (Err (failed.NoLink (missing (LiveAt own) s))) next

  module _ (own : ℕ) (s : WireLinks) where
    abbrev pub may_hand_in : ℕ → LinkOf WireSegments → Result LinkUserPermit FailedLinkEvent
    may_hand_in number link =
        unless (takes_messages (in_use queues link).phase)
        (not_so own s (in_use queues link).phase (failed.TakesMessages number (in_use queues link).phase)) (Ok (HandsIn number))

    abbrev pub may_close : ℕ → LinkOf WireSegments → Result LinkUserPermit FailedLinkEvent
    may_close number link =
        unless (is_connected (in_use queues link).phase)
        (not_so own s (in_use queues link).phase (failed.IsConnected number (in_use queues link).phase)) (Ok (Closes number))

    abbrev pub may_give_up : ℕ → LinkOf WireSegments → Result LinkUserPermit FailedLinkEvent
    may_give_up number link =
        unless (is_calling (in_use queues link).phase)
        (not_so own s (in_use queues link).phase (failed.IsCalling number (in_use queues link).phase)) (Ok (GivesUp number))

  -- a row for each event
  abbrev pub asked_event : WireLinks → LinkEventValue → Result LinkUserPermit FailedLinkEvent
  asked_event s (Open own) = asked_address own (Opens own) s
  asked_event s (Accept far own) = asked_answer Confirming far own s
  asked_event s (Reject far own) = asked_answer Disconnecting far own s
  asked_event s (In own message) = on_link_in_use own s (may_hand_in own s)
  asked_event s (Up own message) = asked_delivering own message s
  asked_event s (Close own) = on_link_in_use own s (may_close own s)
  asked_event s (Abort own) = on_link_in_use own s (may_give_up own s)
  asked_event s Boot = Ok Boots

  -- the check alone, if there is one
  abbrev pub failed_event : WireLinks → LinkEventValue → Option FailedLinkEvent
  failed_event s event = refusal_in (asked_event s event)

-- the refusal of each
abbrev pub refusal_of_event : FailedLinkEvent → LinkRefusal
refusal_of_event (failed.NoLink link) = NoLink
refusal_of_event (failed.AddressInUse own link) = AddressInUse
refusal_of_event (failed.TakesMessages link seen) = LinkState
refusal_of_event (failed.IsConnected link seen) = LinkState
refusal_of_event (failed.IsCalling link seen) = LinkState
refusal_of_event (failed.Delivery link seen allowed) = WrongDelivery
