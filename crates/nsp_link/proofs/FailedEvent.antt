-- A permit is given for an event of the links' user where the tables allow it, and a check is named where they refuse it.
use Rattle.std.proofs.Common.{◌≡◌, ℕ, ◌<◌, Bool, true, false, Option, Some, None, List, Result, Ok, Err, OnOk, IfErr, length, refl, sym}
use Rattle.std.proofs.Common.{subst, ap, ◌∙◌, ◌≤◌, [], option_map}
use Rattle.std.specs.Prelude.{slice_get, ok_or, IsOk}
use Rattle.std.specs.Str.{bytes_eq}
use Rattle.std.proofs.lemmas.Option.{slice_get_within}
use Rattle.dna_station.specs.declared.link_refusal.LinkRefusal.{LinkRefusal}
use Rattle.dna_station.specs.declared.link_refusal.LinkRefusal.TheVariants.{AddressInUse, LinkState, NoLink, WrongDelivery}
use Rattle.dna_links.specs.declared.port.Phase.{Phase}
use Rattle.dna_links.specs.declared.port.Phase.TheVariants.{Called, Confirming, Disconnecting}
use Rattle.dna_links.specs.declared.port.LinkTest.TheVariants.{HasAddress, LiveAt, CalledBy}
use Rattle.dna_links.specs.declared.queue.Queues.{Queues}
use Rattle.dna_links.specs.declared.queue.Queues.TheVariants.{Without, With}
use Rattle.dna_links.specs.LinkBook.{on_ok}
use Rattle.dna_links.specs.Links.{LinkOf, at_number, changed, check, number_of, on_link, with_link, with_segments}
use Rattle.dna_links.specs.LookUps.{is_calling, is_connected, takes_messages, refused_in}
use Rattle.dna_links.specs.Queues.{drops, freed, goes_to, in_use, with_in_use}
use Rattle.dna_links.specs.Segmentation.{Whole, in_order, next_message}
use Rattle.dna_links.specs.User.{LinkEventValue, Open, Accept, Reject, In, Up, Close, Abort, Boot}
use Rattle.dna_links.specs.WireSegments.{WireSegments, delivers_whole, delivered_as, hands_in, wire_segments}
use Rattle.dna_links.specs.WireLinks.{WireLinks, wire_links_user}
use Rattle.link_segments.specs.Received.{next_length}
use Rattle.nsp_link.specs.FailedEvent.{asked_address, asked_answer, asked_event, is_whole, may_close, may_give_up, may_hand_in, not_so}
use Rattle.nsp_link.specs.FailedEvent.{on_link_in_use}
use Rattle.nsp_link.specs.FailedEvent.{failed_event, refusal_of_event, whole_pieces}
use Rattle.nsp_link.specs.FailedSending.{unless}
use Rattle.nsp_link.specs.Missing.{refusal_in}
use Rattle.nsp_link.specs.Phases.{event_takes_memory}
use Rattle.nsp_link.specs.declared.failed.FailedLinkEvent.{FailedLinkEvent}
use Rattle.nsp_link.specs.declared.failed.FailedLinkEvent.TheVariants.{Delivery}
use Rattle.nsp_link.specs.declared.failed.FailedLinkEvent.TheVariants.{AddressInUse as InUse}
use Rattle.nsp_link.specs.declared.permit.LinkUserPermit.{LinkUserPermit}
use Rattle.nsp_link.specs.declared.permit.LinkUserPermit.TheVariants.{Opens, Answers, Delivers}
use Rattle.nsp_link.specs.inner.Acted.{FitsEvent, IsAnswer, acted, message_in, without_pieces}
use Rattle.nsp_link.specs.inner.Rows.{answered}
use Rattle.nsp_link.proofs.Acted.{made_of}
use Rattle.nsp_link.proofs.Agreeing.{Agrees, answer_allows, answer_refuses, at_agrees, permit_by, same_by, unless_agrees, use_agrees}
use Rattle.nsp_link.proofs.Delivery.{pieces_within}
use Rattle.nsp_link.proofs.Found.{called_found, number_within, some_there}
use Rattle.nsp_link.proofs.KeptInUse.{calls_at, connected_keeps_at, connected_used_at, messages_keep_at}

abbrev Answer : Type 0
Answer = Result LinkUserPermit FailedLinkEvent

abbrev Made : Type 0
Made = Result WireLinks LinkRefusal

abbrev allowed_as : WireLinks → Made
allowed_as s = Ok s

module _ (queues : Queues) (message : List ℕ) (memory : Bool) (s : WireLinks) where
  abbrev EventAgrees : Answer → Made → Type 0
  EventAgrees = Agrees (FitsEvent queues memory s) (acted queues message s) refusal_of_event

  -- an address that is given
  address_agrees : (own : ℕ) (permit : LinkUserPermit) (next : WireLinks) →
      (number_of (LiveAt own) s ≡ None → FitsEvent queues memory s permit × (next ≡ acted queues message s permit)) →
      EventAgrees (asked_address own permit s) (with_link (LiveAt own) s (Ok next) (λ number link. Err AddressInUse))
  address_agrees own permit next free = by_number (number_of (LiveAt own) s) refl where
    by_link : (n : ℕ) (k : Option (LinkOf WireSegments)) → slice_get s.links n ≡ k → n < length s.links →
        EventAgrees (on_link n k (Ok permit) (λ number link. Err (InUse own number))) (on_link n k (Ok next) (λ number link. Err AddressInUse))
    by_link n None is low = absurd (some_there s.links n low is)
    by_link n (Some l) is low = refl

    by_number : (r : Option ℕ) → number_of (LiveAt own) s ≡ r →
        EventAgrees (at_number s.links r (Ok permit) (λ number link. Err (InUse own number)))
        (at_number s.links r (Ok next) (λ number link. Err AddressInUse))
    by_number None is = ((free is).0, ap Ok (free is).1)
    by_number (Some n) is = by_link n (slice_get s.links n) refl (number_within (LiveAt own) s n is)

  -- what is made of a link that is there
  module _ (n : ℕ) (l : LinkOf WireSegments) (is : slice_get s.links n ≡ Some l) where
    low : n < length s.links
    low = slice_get_within s.links n l is

    here : (made : LinkOf WireSegments → WireLinks) → made l ≡ on_link n (slice_get s.links n) s (λ m link. made link)
    here made = made_of n s made l is

    made_here : (made : LinkOf WireSegments → WireLinks) → allowed_as (made l) ≡ allowed_as (on_link n (slice_get s.links n) s (λ m link. made link))
    made_here made = ap allowed_as (here made)

    same_link : (link : LinkOf WireSegments) → slice_get s.links n ≡ Some link → l ≡ link
    same_link link there = let both : Some l ≡ Some link = sym is ∙ there in cc

    -- a message that is delivered
    delivery_agrees : (words : List ℕ) (o : Option Whole) → next_message l.segments.variables.pieces ≡ o →
        EventAgrees
        (unless (is_whole words o) (Delivery n (length words) (next_length l.segments.variables.pieces)) (Ok (Delivers n (whole_pieces o))))
        (on_ok (ok_or (delivers_whole o words l.segments) WrongDelivery) (λ d. Ok (changed n (with_segments d l) s)))
    delivery_agrees words None e = refl
    delivery_agrees words (Some w) e = by_same (bytes_eq words w.message) where
      few : (1 ≤ w.pieces) × (w.pieces ≤ in_order l.segments.variables.pieces)
      few = pieces_within l.segments.variables.pieces w e

      by_same : (b : Bool) →
          EventAgrees (unless b (Delivery n (length words) (next_length l.segments.variables.pieces)) (Ok (Delivers n w.pieces)))
          (on_ok (ok_or (delivered_as b w l.segments) WrongDelivery) (λ d. Ok (changed n (with_segments d l) s)))
      by_same true = (
        (
          low,
          few.0,
          λ link there.
              subst (λ (k : LinkOf WireSegments). w.pieces ≤ in_order k.segments.variables.pieces) (same_link link there) few.1,
        ),
        made_here (λ link. changed n (with_segments (without_pieces w.pieces link.segments) link) s),
      )
      by_same false = refl

-- what is refused of a link in another phase
not_so_refused : (own : ℕ) (s : WireLinks) (seen : Phase) (other : FailedLinkEvent) → refusal_of_event other ≡ LinkState →
    refusal_of_event (not_so own s seen other) ≡ refused_in seen LinkState
not_so_refused own s Called other is = refl
not_so_refused own s seen other is = is

-- ---- each event

module _ (queues : Queues) (s : WireLinks) where
  answer_agrees : (phase : Phase) (far own : ℕ) → IsAnswer phase →
      EventAgrees queues [] true s (asked_answer phase far own s) (with_link (CalledBy far) s (Err NoLink) (λ number link.
      with_link (LiveAt own) s (Ok (changed number (answered queues phase own link) (freed wire_segments queues own s)))
      (λ other held. Err AddressInUse)))
  answer_agrees phase far own answers =
      at_agrees (FitsEvent queues true s) (acted queues [] s) refusal_of_event s _ _ (number_of (CalledBy far) s) _ _ refl (λ n e l is.
      address_agrees queues [] true s own (Answers n own phase) _ (λ free. (
        (low queues [] true s n l is, free, λ link there. called_found far s n link e there, answers, refl),
        here queues [] true s n l is (λ link. changed n (answered queues phase own link) (freed wire_segments queues own s)),
      )))

  hand_agrees : (own : ℕ) (message : List ℕ) →
      EventAgrees queues message true s (on_link_in_use queues own s (may_hand_in queues own s))
      (with_in_use queues (LiveAt own) s (Err NoLink) (λ number link.
      check (takes_messages (in_use queues link).phase) (refused_in (in_use queues link).phase LinkState)
      (Ok (changed number (with_segments (hands_in message link.segments) link) s))))
  hand_agrees own message =
      use_agrees (FitsEvent queues true s) (acted queues message s) refusal_of_event s _ _ queues (LiveAt own) _ _ refl (λ n e l is.
      unless_agrees (FitsEvent queues true s) (acted queues message s) refusal_of_event (takes_messages (in_use queues l).phase) _ _ _ _
      (not_so_refused own s (in_use queues l).phase _ refl)
      (λ takes. (
        (low queues message true s n l is, messages_keep_at queues s n l is takes, refl),
        made_here queues message true s n l is (λ link. changed n (with_segments (hands_in message link.segments) link) s),
      )))

  close_agrees : (own : ℕ) →
      EventAgrees queues [] false s (on_link_in_use queues own s (may_close queues own s))
      (with_in_use queues (LiveAt own) s (Err NoLink) (λ number link.
      check (is_connected (in_use queues link).phase) (refused_in (in_use queues link).phase LinkState)
      (Ok (changed number (goes_to wire_segments queues Disconnecting link) s))))
  close_agrees own =
      use_agrees (FitsEvent queues false s) (acted queues [] s) refusal_of_event s _ _ queues (LiveAt own) _ _ refl (λ n e l is.
      unless_agrees (FitsEvent queues false s) (acted queues [] s) refusal_of_event (is_connected (in_use queues l).phase) _ _ _ _
      (not_so_refused own s (in_use queues l).phase _ refl)
      (λ connected. (
        (low queues [] false s n l is, connected_used_at queues s n l is connected, connected_keeps_at queues s n l is connected),
        made_here queues [] false s n l is (λ link. changed n (goes_to wire_segments queues Disconnecting link) s),
      )))

  abort_agrees : (own : ℕ) →
      EventAgrees queues [] false s (on_link_in_use queues own s (may_give_up queues own s))
      (with_in_use queues (LiveAt own) s (Err NoLink) (λ number link.
      check (is_calling (in_use queues link).phase) (refused_in (in_use queues link).phase LinkState)
      (Ok (changed number (drops wire_segments queues link) s))))
  abort_agrees own =
      use_agrees (FitsEvent queues false s) (acted queues [] s) refusal_of_event s _ _ queues (LiveAt own) _ _ refl (λ n e l is.
      unless_agrees (FitsEvent queues false s) (acted queues [] s) refusal_of_event (is_calling (in_use queues l).phase) _ _ _ _
      (not_so_refused own s (in_use queues l).phase _ refl)
      (λ calling. (
        (low queues [] false s n l is, calls_at queues s n l is calling),
        made_here queues [] false s n l is (λ link. changed n (drops wire_segments queues link) s),
      )))

  deliver_agrees : (own : ℕ) (message : List ℕ) → EventAgrees queues [] false s (asked_event queues s (Up own message))
      (with_link (HasAddress own) s (Err NoLink) (λ number link.
      on_ok (ok_or (delivers_whole (next_message link.segments.variables.pieces) message link.segments) WrongDelivery)
      (λ d. Ok (changed number (with_segments d link) s))))
  deliver_agrees own message =
      at_agrees (FitsEvent queues false s) (acted queues [] s) refusal_of_event s _ _ (number_of (HasAddress own) s) _ _ refl (λ n e l is.
      delivery_agrees queues [] false s n l is message (next_message l.segments.variables.pieces) refl)

pub event_agrees : (queues : Queues) (s : WireLinks) (event : LinkEventValue) →
    EventAgrees queues (message_in event) (event_takes_memory event) s (asked_event queues s event) (wire_links_user queues s event)
event_agrees Without s (Open own) = address_agrees Without [] true s own (Opens own) _ (λ free. ((free, refl), refl))
event_agrees With s (Open own) = address_agrees With [] true s own (Opens own) _ (λ free. ((free, refl), refl))
event_agrees Without s (Accept far own) = answer_agrees Without s Confirming far own (refl, refl, refl)
event_agrees With s (Accept far own) = answer_agrees With s Confirming far own (refl, refl, refl)
event_agrees Without s (Reject far own) = answer_agrees Without s Disconnecting far own (refl, refl, refl)
event_agrees With s (Reject far own) = answer_agrees With s Disconnecting far own (refl, refl, refl)
event_agrees Without s (In own message) = hand_agrees Without s own message
event_agrees With s (In own message) = hand_agrees With s own message
event_agrees Without s (Up own message) = deliver_agrees Without s own message
event_agrees With s (Up own message) = deliver_agrees With s own message
event_agrees Without s (Close own) = close_agrees Without s own
event_agrees With s (Close own) = close_agrees With s own
event_agrees Without s (Abort own) = abort_agrees Without s own
event_agrees With s (Abort own) = abort_agrees With s own
event_agrees Without s Boot = (tt, refl)
event_agrees With s Boot = (tt, refl)

-- ---- what follows

module _ (queues : Queues) (s : WireLinks) (event : LinkEventValue) where
  abbrev fits : LinkUserPermit → Type 0
  fits = FitsEvent queues (event_takes_memory event) s

  abbrev makes : LinkUserPermit → WireLinks
  makes = acted queues (message_in event) s

  pub event_same : option_map refusal_of_event (failed_event queues s event) ≡ refusal_in (wire_links_user queues s event)
  event_same = same_by fits makes refusal_of_event (asked_event queues s event) (wire_links_user queues s event) (event_agrees queues s event)

  module _ (answer : Answer) (is : answer ≡ asked_event queues s event) where
    pub event_refused : IfErr answer (λ failed. wire_links_user queues s event ≡ Err (refusal_of_event failed))
    event_refused = answer_refuses fits makes refusal_of_event answer _ _ is (event_agrees queues s event)

    pub event_allowed : OnOk answer (IsOk (wire_links_user queues s event))
    event_allowed = answer_allows fits makes refusal_of_event answer _ _ is (event_agrees queues s event)

  module _ (permit : LinkUserPermit) (is : asked_event queues s event ≡ Ok permit) where
    both : fits permit × (wire_links_user queues s event ≡ Ok (makes permit))
    both = permit_by fits makes refusal_of_event _ _ permit is (event_agrees queues s event)

    pub event_fits : FitsEvent queues (event_takes_memory event) s permit
    event_fits = both.0

    pub event_makes : {E : Type 0} (r : Result (Unit {0}) E) (new : WireLinks) → OnOk r (new ≡ acted queues (message_in event) s permit) →
        OnOk r (wire_links_user queues s event ≡ Ok new)
    event_makes (Ok x) new made = both.1 ∙ ap Ok (sym made)
    event_makes (Err e) new made = tt
