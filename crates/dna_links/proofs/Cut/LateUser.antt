-- Cutting the links of a node with queues to what it keeps of them commutes with what the user does.
use Rattle.std.proofs.Common.{◌≡◌, ℕ, Bool, true, false, not, ◌⊎◌, inl, inr, Option, Some, None, List, [], Result, Ok, Err, refl, sym, ap, ap₂, ◌∙◌}
use Rattle.std.proofs.Common.{option_map}
use Rattle.std.specs.Prelude.{slice_get}
use Rattle.std.proofs.lemmas.Bool.{and_parts}
use Rattle.dna_station.specs.declared.link_refusal.LinkRefusal.{LinkRefusal}
use Rattle.dna_station.specs.declared.link_refusal.LinkRefusal.TheVariants.{NoLink, LinkState, AddressInUse}
use Rattle.dna_links.specs.declared.port.Phase.{Phase}
use Rattle.dna_links.specs.declared.port.Phase.TheVariants.{Confirming, Disconnecting}
use Rattle.dna_links.specs.declared.port.LinkTest.TheVariants.{HasAddress, LiveAt, TheLink, CalledBy}
use Rattle.dna_links.specs.declared.queue.Queues.TheVariants.{With}
use Rattle.dna_links.specs.LookUps.{is_live, is_called, is_calling, is_connected, takes_messages, is_at, has_both}
use Rattle.dna_links.specs.Links.{LinkOf, check, with_link, begun, changed, with_segments}
use Rattle.dna_links.specs.Queues.{is_over, has_waiting, in_use, keeps_numbers, goes_on, drops, forgotten, freed}
use Rattle.dna_links.specs.User.{LinkEventValue, Open, Accept, Reject, In, Up, Close, Abort, Boot}
use Rattle.dna_links.specs.inner.Forms.{opened, delivered}
use Rattle.dna_links.specs.TrueSegments.{TrueSegments, hands_in, delivers, true_segments}
use Rattle.dna_links.specs.WireSegments.{WireSegments, wire_segments}
use Rattle.dna_links.specs.WireSegments as wire
use Rattle.dna_links.specs.TrueLinks.{Links, links_user}
use Rattle.dna_links.specs.WireLinks.{WireLinks, wire_links_user}
use Rattle.dna_links.specs.CutLinks.{cut_as, cut_link, cut_links, cut_result}
use Rattle.dna_links.proofs.Cut.LookUps.{NoneFor, with_link_same, changed_same, begun_same}
use Rattle.dna_links.proofs.Cut.User.{live_if, delivers_at, booted_same}
use Rattle.dna_links.proofs.Cut.LateLinks.{IsInUse, with_in_use_same, own_in_use, has_own, kept_before, kept_silent, kept_segments, segments_kept}
use Rattle.dna_links.proofs.Cut.LateLinks.{or_left, forgotten_late, drops_same, closes_late, goes_same}

-- a link that its own address leads to, in use or not, has one, and keeps what has numbers
module _ (own : ℕ) (l : LinkOf TrueSegments) where
  own_some : is_at l.port.own own ≡ true ⊎ (is_at (in_use With l).own own ≡ true) → l.port.own ≡ None → ⊥
  own_some (inl at) none = has_own l.port.own own at none
  own_some (inr at) none = has_own l.port.own own (ap (λ (o : Option ℕ). is_at o own) (sym (own_in_use l.queue.waits l.port)) ∙ at) none

-- what a test of this kind says: live, and at this address
live_at : (own : ℕ) (l : LinkOf TrueSegments) → IsInUse (LiveAt own) l →
    ((is_live l.port.phase ≡ true) ⊎ (is_live (in_use With l).phase ≡ true)) × (l.port.own ≡ None → ⊥)
live_at own l (inl passed) = let p = and_parts (is_live l.port.phase) (is_at l.port.own own) passed in (inl p.0, own_some own l (inl p.1))
live_at own l (inr passed) =
    let p = and_parts (is_live (in_use With l).phase) (is_at (in_use With l).own own) passed in (inr p.0, own_some own l (inr p.1))

pub the_link : (own far : ℕ) (l : LinkOf TrueSegments) → IsInUse (TheLink own far) l →
    ((is_live l.port.phase ≡ true) ⊎ (is_live (in_use With l).phase ≡ true)) × (l.port.own ≡ None → ⊥)
the_link own far l (inl passed) =
    let p = and_parts (is_live l.port.phase) (has_both l.port own far) passed in
    (inl p.0, own_some own l (inl (and_parts (is_at l.port.own own) (is_at l.port.far far) p.1).0))
the_link own far l (inr passed) =
    let p = and_parts (is_live (in_use With l).phase) (has_both (in_use With l) own far) passed in
    (inr p.0, own_some own l (inr (and_parts (is_at (in_use With l).own own) (is_at (in_use With l).far far) p.1).0))

module _ (l : LinkOf TrueSegments) where
  keeps_before : (is_live l.port.phase ≡ true) ⊎ (is_live (in_use With l).phase ≡ true) → (test : Phase → Bool) → test Disconnecting ≡ false →
      test (in_use With l).phase ≡ true → keeps_numbers l ≡ true
  keeps_before (inl live) test none passed = or_left (is_live l.port.phase) (has_waiting l.queue.waits l.queue.said) live
  keeps_before (inr live) test none passed = kept_before l live test none passed

  pub keeps_silent : (is_live l.port.phase ≡ true) ⊎ (is_live (in_use With l).phase ≡ true) → is_over l.queue.said ≡ false → keeps_numbers l ≡ true
  keeps_silent (inl live) silent = or_left (is_live l.port.phase) (has_waiting l.queue.waits l.queue.said) live
  keeps_silent (inr live) silent = kept_silent l live silent

-- ---- the user

pub result_check : (b : Bool) (reason : LinkRefusal) (r : Result Links LinkRefusal) (r' : Result WireLinks LinkRefusal) →
    (b ≡ true → cut_result With r ≡ r') → cut_result With (check b reason r) ≡ check b reason r'
result_check true reason r r' same = same refl
result_check false reason r r' same = refl

delivered_same : (n : ℕ) (l : LinkOf TrueSegments) (s : Links) (o : Option TrueSegments) →
    cut_result With (delivered true_segments n l s o) ≡ delivered wire_segments n (cut_link With l) (cut_links With s)
    (option_map (cut_as (keeps_numbers l) l.port.own) o)
delivered_same n l s None = refl
delivered_same n l s (Some f) = ap Ok (changed_same With n (with_segments f l) s)

module _ (s : Links) where
  pub one_changed : (n : ℕ) (after : LinkOf TrueSegments) (after' : LinkOf WireSegments) → cut_link With after ≡ after' →
      cut_links With (changed n after s) ≡ changed n after' (cut_links With s)
  one_changed n after after' same = changed_same With n after s ∙ ap (λ (w : LinkOf WireSegments). changed n w (cut_links With s)) same

  freed_same : (own : ℕ) → NoneFor (LiveAt own) s → cut_links With (freed true_segments With own s) ≡ freed wire_segments With own (cut_links With s)
  freed_same own none =
      with_link_same With (cut_links With) (HasAddress own) s s (cut_links With s) (λ n l. changed n (forgotten true_segments With l) s)
      (λ n l. changed n (forgotten wire_segments With l) (cut_links With s))
      (λ nobody. refl)
      (λ n l there here. one_changed n (forgotten true_segments With l) _ (forgotten_late l (dead n l there here)))
    where
      dead : (n : ℕ) (l : LinkOf TrueSegments) → slice_get s.links n ≡ Some l → is_at l.port.own own ≡ true → is_live l.port.phase ≡ false
      dead n l there here = by_phase (is_live l.port.phase) refl
        where
          by_phase : (b : Bool) → is_live l.port.phase ≡ b → is_live l.port.phase ≡ false
          by_phase false e = e
          by_phase true e = let n = none n l there in absurd cc

  gives_same : (own : ℕ) (next : Links) (next' : WireLinks) → (NoneFor (LiveAt own) s → cut_links With next ≡ next') →
      cut_result With (with_link (LiveAt own) s (Ok next) (λ n l. Err AddressInUse)) ≡
      with_link (LiveAt own) (cut_links With s) (Ok next') (λ n l. Err AddressInUse)
  gives_same own next next' same =
      with_link_same With (cut_result With) (LiveAt own) s (Ok next) (Ok next') (λ n l. Err AddressInUse) (λ n l. Err AddressInUse)
      (λ none. ap Ok (same none)) (λ n l there here. refl)

  -- a call is answered
  answers_same : (phase : Phase) (far own : ℕ) → is_live phase ≡ true →
      cut_result With (with_link (CalledBy far) s (Err NoLink) (λ n l. with_link (LiveAt own) s
      (Ok (changed n (goes_on true_segments (is_live l.port.phase) phase (record l { port = record l.port { own = Some own } }))
      (freed true_segments With own s))) (λ n l. Err AddressInUse)))
      ≡ with_link (CalledBy far) (cut_links With s) (Err NoLink) (λ n l. with_link (LiveAt own) (cut_links With s)
      (Ok (changed n (goes_on wire_segments (is_live l.port.phase) phase (record l { port = record l.port { own = Some own } }))
      (freed wire_segments With own (cut_links With s)))) (λ n l. Err AddressInUse))
  answers_same phase far own to =
      with_link_same With (cut_result With) (CalledBy far) s (Err NoLink) (Err NoLink) _ _ (λ none. refl)
      (λ n l there here.
      let live = live_if is_called refl l.port.phase (and_parts (is_called l.port.phase) (is_at l.port.far far) here).0 in
      gives_same own _ _ (λ none.
      changed_same With n (goes_on true_segments (is_live l.port.phase) phase (record l { port = record l.port { own = Some own } }))
      (freed true_segments With own s)
      ∙ ap₂ (λ (w : LinkOf WireSegments) (all : WireLinks). changed n w all)
      (goes_same l live (record l.port { own = Some own }) phase to (is_live l.port.phase) live) (freed_same own none)))

  pub user_late : (event : LinkEventValue) → cut_result With (links_user With s event) ≡ wire_links_user With (cut_links With s) event
  user_late (Open own) =
      gives_same own (begun (opened true_segments own) (freed true_segments With own s))
      (begun (opened wire_segments own) (freed wire_segments With own (cut_links With s)))
      (λ none. begun_same With (opened true_segments own) (freed true_segments With own s)
      ∙ ap (begun (opened wire_segments own)) (freed_same own none))
  user_late (Accept far own) = answers_same Confirming far own refl
  user_late (Reject far own) = answers_same Disconnecting far own refl
  user_late (In own message) =
      with_in_use_same (cut_result With) (LiveAt own) s (Err NoLink) (Err NoLink) _ _ refl
      (λ n l there here.
      let p = live_at own l here in
      result_check (takes_messages (in_use With l).phase) _ (Ok (changed n (with_segments (hands_in message l.segments) l) s))
      (Ok (changed n (with_segments (wire.hands_in message (cut_link With l).segments) (cut_link With l)) (cut_links With s)))
      (λ takes. let kept = keeps_before l p.0 takes_messages refl takes in
      ap Ok (one_changed n _ _ (segments_kept l kept (hands_in message l.segments) (wire.hands_in message (cut_link With l).segments)
      (ap (wire.hands_in message) (sym (kept_segments l kept)))))))
  user_late (Up own message) =
      with_link_same With (cut_result With) (HasAddress own) s (Err NoLink) (Err NoLink)
      (λ n l. delivered true_segments n l s (delivers message l.segments))
      (λ n l. delivered wire_segments n l (cut_links With s) (wire.delivers message l.segments))
      (λ none. refl) (λ n l there here.
      delivered_same n l s (delivers message l.segments)
      ∙ ap (delivered wire_segments n (cut_link With l) (cut_links With s)) (delivers_at (keeps_numbers l) l.port.own own l.segments message here))
  user_late (Close own) =
      with_in_use_same (cut_result With) (LiveAt own) s (Err NoLink) (Err NoLink) _ _ refl
      (λ n l there here.
      let p = live_at own l here in
      result_check (is_connected (in_use With l).phase) _
      (Ok (changed n (goes_on true_segments (is_live l.port.phase) Disconnecting l) s))
      (Ok (changed n (goes_on wire_segments (is_live l.port.phase) Disconnecting (cut_link With l)) (cut_links With s)))
      (λ connected. ap Ok (one_changed n _ _
      (go l (λ none. absurd (p.1 none)) (keeps_before l p.0 is_connected refl connected) (is_live l.port.phase) refl))))
    where
      go : (l : LinkOf TrueSegments) → (l.port.own ≡ None → l.segments.received ≡ []) → keeps_numbers l ≡ true → (b : Bool) →
          is_live l.port.phase ≡ b →
          cut_link With (goes_on true_segments b Disconnecting l) ≡ goes_on wire_segments b Disconnecting (cut_link With l)
      go l own kept true live = goes_same l live l.port Disconnecting refl true refl
      go l own kept false dead = closes_late l own dead kept
  user_late (Abort own) =
      with_in_use_same (cut_result With) (LiveAt own) s (Err NoLink) (Err NoLink) _ _ refl
      (λ n l there here.
      let p = live_at own l here in
      result_check (is_calling (in_use With l).phase) _ (Ok (changed n (drops true_segments With l) s))
      (Ok (changed n (drops wire_segments With (cut_link With l)) (cut_links With s)))
      (λ calling. ap Ok (one_changed n _ _ (drops_same l (λ none. absurd (p.1 none)) (keeps_before l p.0 is_calling refl calling)))))
  user_late Boot = ap (λ (links : List (LinkOf WireSegments)). Ok (record (cut_links With s) { links = links })) (booted_same With s.links)
