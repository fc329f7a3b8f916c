-- As many messages were delivered as the user's events say, at any time.
use Rattle.std.proofs.Common.{◌≡◌, ℕ, zero, suc, ◌+◌, ◌⊎◌, inl, inr, Some, List, [], ◌∷◌, ◌++◌, length, map, refl, sym, ap, ◌∙◌, subst, arith}
use Rattle.std.proofs.Common.{length-append}
use Rattle.std.specs.Prelude.{slice_get, slice_set}
use Rattle.std.proofs.lemmas.Bool.{cases_eq}
use Rattle.std.proofs.lemmas.Option.{same_Some}
use Rattle.dna_packet.specs.Nsp.{NspValue}
use Rattle.dna_links.specs.Queues.{ended, forgotten, freed, booted_link}
use Rattle.dna_links.specs.declared.queue.Queues.TheVariants.{Without}
use Rattle.dna_links.specs.declared.port.Phase.{Phase}
use Rattle.dna_links.specs.declared.port.Phase.TheVariants.{Confirming, Disconnecting, Running}
use Rattle.dna_links.specs.declared.port.LinkTest.TheVariants.{HasAddress}
use Rattle.dna_links.specs.Links.{LinkOf, LinkTruth, changed, in_phase, with_segments}
use Rattle.dna_links.specs.User.{LinkEventValue}
use Rattle.dna_links.specs.inner.Forms.{opened, answered}
use Rattle.dna_links.specs.Sending.{Sent}
use Rattle.dna_links.specs.Arriving.{of_partner}
use Rattle.dna_links.specs.inner.Forms.{called, confirmed}
use Rattle.dna_links.specs.TrueSegments.{TrueSegments, Numbers, true_segments}
use Rattle.dna_links.specs.TrueSegments as segments
use Rattle.dna_links.specs.TrueLinks.{Links}
use Rattle.dna_links.specs.Captures.{deliveries, delivery_count, ups}
use Rattle.dna_links.proofs.Runs.Loose.{UserDid, Opens, Accepts, Rejects, HandsIn, Delivers, Closes, ClosesLate, Aborts, Boots}
use Rattle.dna_links.proofs.Runs.Loose.{SentDid, OfNone, Stays, EndsCalled, Segment, Acks}
use Rattle.dna_links.proofs.Tables.Outcomes.{looked}
use Rattle.dna_links.proofs.Tables.MessageOutcomes.{ArrivedDid, Ignores, Begins, Confirms, Ends, TakesSegment, TakesAcks, TakesOther}
use Rattle.dna_links.proofs.Runs.Pieces.{delivered_is}
use Rattle.dna_links.proofs.Runs.Sends.{AreSoundSegments}
use Rattle.dna_links.proofs.Runs.Sides.{set_same, set_other}
use Rattle.dna_links.proofs.Runs.Owners.{fold_same}

ups-append : (events : List LinkEventValue) (event : LinkEventValue) → ups (events ++ event ∷ []) ≡ ups events + delivery_count event
ups-append [] event = omega arith
ups-append (first ∷ events) event = let e = ups-append events event in omega arith

set_counts : (links : List (LinkOf TrueSegments)) (number : ℕ) (link left : LinkOf TrueSegments) → slice_get links number ≡ Some link →
    deliveries (slice_set links number left) + length link.segments.delivered ≡ deliveries links + length left.segments.delivered
set_counts [] number link left at = absurd cc
set_counts (x ∷ links) zero link left at =
    let e : length x.segments.delivered ≡ length link.segments.delivered =
    ap (λ (l : LinkOf TrueSegments). length l.segments.delivered) (same_Some x link at) in
    omega arith
set_counts (x ∷ links) (suc number) link left at = let e = set_counts links number link left at in omega arith

-- a link changes, and nothing is delivered there
set_same_count : (links : List (LinkOf TrueSegments)) (number : ℕ) (link left : LinkOf TrueSegments) → slice_get links number ≡ Some link →
    left.segments.delivered ≡ link.segments.delivered → deliveries (slice_set links number left) ≡ deliveries links
set_same_count links number link left at same = let e = set_counts links number link left at in let l = ap length same in omega arith

pushed_count : (links : List (LinkOf TrueSegments)) (link : LinkOf TrueSegments) → link.segments.delivered ≡ [] →
    deliveries (links ++ link ∷ []) ≡ deliveries links
pushed_count [] link none = let l = ap length none in omega arith
pushed_count (x ∷ links) link none = let e = pushed_count links link none in omega arith

booted_count : (links : List (LinkOf TrueSegments)) → deliveries (map (booted_link true_segments Without) links) ≡ deliveries links
booted_count [] = refl
booted_count (link ∷ links) = ap (λ (n : ℕ). length link.segments.delivered + n) (booted_count links)

module _ (s : Links) where
  freed_count : (own : ℕ) → deliveries (freed true_segments Without own s).links ≡ deliveries s.links
  freed_count own =
      looked (HasAddress own) s s (λ number link. changed number (forgotten true_segments Without link) s) (freed true_segments Without own s) refl
      (λ none e. ap (λ (x : Links). deliveries x.links) (sym e))
      (λ number link found e. ap (λ (x : Links). deliveries x.links) (sym e)
      ∙ set_same_count s.links number link (forgotten true_segments Without link)
      found.there refl)

  -- a link that was there has delivered as much
  freed_at : (own number : ℕ) (link : LinkOf TrueSegments) → slice_get s.links number ≡ Some link → (there : LinkOf TrueSegments) ×
      (slice_get (freed true_segments Without own s).links number ≡ Some there) × (there.segments.delivered ≡ link.segments.delivered)
  freed_at own number link at =
      looked (HasAddress own) s s (λ n l. changed n (forgotten true_segments Without l) s) (freed true_segments Without own s) refl
      (λ none e. subst (λ (x : Links). (there : LinkOf TrueSegments) × (slice_get x.links number ≡ Some there) ×
      (there.segments.delivered ≡ link.segments.delivered)) e (link, at, refl))
      (λ n l found e. subst
      (λ (x : Links). (there : LinkOf TrueSegments) × (slice_get x.links number ≡ Some there) ×
      (there.segments.delivered ≡ link.segments.delivered)) e
      (go n l found.there (cases_eq number n)))
    where
      go : (n : ℕ) (l : LinkOf TrueSegments) → slice_get s.links n ≡ Some l → (number ≡ n) ⊎ (number ≡ n → ⊥) → (there : LinkOf TrueSegments) ×
          (slice_get (slice_set s.links n (forgotten true_segments Without l)) number ≡ Some there) ×
          (there.segments.delivered ≡ link.segments.delivered)
      go n l there (inl e) = (
        forgotten true_segments Without l,
        ap (slice_get (slice_set s.links n (forgotten true_segments Without l))) e ∙ set_same s.links n l (forgotten true_segments Without l) there,
        ap (λ (x : LinkOf TrueSegments). x.segments.delivered) (same_Some l link (sym there ∙ ap (slice_get s.links) (sym e) ∙ at)),
      )
      go n l there (inr d) = (link, set_other s.links n number (forgotten true_segments Without l) d ∙ at, refl)

  answered_count : (phase : Phase) (own number : ℕ) (link : LinkOf TrueSegments) → slice_get s.links number ≡ Some link →
      deliveries (changed number (answered true_segments phase own link) (freed true_segments Without own s)).links ≡ deliveries s.links
  answered_count phase own number link at =
      let f = freed_at own number link at in
      set_same_count (freed true_segments Without own s).links number f.0 (answered true_segments phase own link) f.1 (sym f.2) ∙ freed_count own

  pub user_count : (event : LinkEventValue) (left : Links) → UserDid s event left →
      deliveries left.links ≡ deliveries s.links + delivery_count event
  user_count event left (Opens own free) = let e = pushed_count (freed true_segments Without own s).links (opened true_segments own) refl in
      let f = freed_count own in omega arith
  user_count event left (Accepts far own number link found free) = let e = answered_count Confirming own number link found.there in omega arith
  user_count event left (Rejects far own number link found free) = let e = answered_count Disconnecting own number link found.there in omega arith
  user_count event left (HandsIn own message number link there owns) =
      let e = set_same_count s.links number link (with_segments (segments.hands_in message link.segments) link) there refl in omega arith
  user_count event left (Delivers own message number link next found delivers) =
      let d = delivered_is message link.segments next delivers in
      let e = set_counts s.links number link (with_segments next link) found.there in
      let l : length next.delivered ≡ length link.segments.delivered + 1 =
      ap (λ (f : TrueSegments). length f.delivered) d.is ∙ length-append link.segments.delivered (d.w.message ∷ []) in
      omega arith
  user_count event left (Closes own number link there live) =
      let e = set_same_count s.links number link (in_phase Disconnecting link) there refl in omega arith
  user_count event left (ClosesLate own) = omega arith
  user_count event left (Aborts own number link there) =
      let e = set_same_count s.links number link (ended true_segments link) there refl in omega arith
  user_count event left Boots = let e = booted_count s.links in omega arith

  pub sent_count : (m : NspValue) (made : Sent TrueSegments Numbers) →
      ((number : ℕ) (link : LinkOf TrueSegments) → slice_get s.links number ≡ Some link → AreSoundSegments link.segments) →
      SentDid s m made →
      deliveries made.links.links ≡ deliveries s.links
  sent_count m made sound (OfNone none) = refl
  sent_count m made sound (Stays number link none there) = refl
  sent_count m made sound (EndsCalled far reason number link none is found) =
      set_same_count s.links number link (ended true_segments link) found.there refl
  sent_count m made sound (Segment segment number link sent is there goes) =
      set_same_count s.links number link (with_segments sent.segments link) there
      (goes (sound number link there)).sends.delivered
  sent_count m made sound (Acks dst src acks number link sent is there goes) =
      set_same_count s.links number link (with_segments sent.segments link) there
      (goes (sound number link there)).sends.delivered

  pub arrived_count : (m : NspValue) (truth : LinkTruth Numbers) (left : Links) → ArrivedDid true_segments of_partner s m truth left →
      deliveries left.links ≡ deliveries s.links
  arrived_count m truth left Ignores = refl
  arrived_count m truth left (Begins far segsize is none) = pushed_count s.links (called true_segments of_partner far segsize truth.tag) refl
  arrived_count m truth left (Confirms own far segsize number link is found for) =
      set_same_count s.links number link (confirmed true_segments of_partner far segsize truth.tag link) found.there refl
  arrived_count m truth left (Ends test number link found) = set_same_count s.links number link (ended true_segments link) found.there refl
  arrived_count m truth left (TakesSegment own far segment number link is found pair) =
      set_same_count s.links number link
      (with_segments (segments.takes_segment segment truth.known link.segments) (in_phase Running link)) found.there
      (fold_same truth.known.acknowledgements link.segments).1
  arrived_count m truth left (TakesAcks own far dst src acks number link is found pair) =
      set_same_count s.links number link (with_segments (segments.takes_acks acks truth.known link.segments) (in_phase Running link)) found.there
      (fold_same truth.known.acknowledgements link.segments).1
  arrived_count m truth left (TakesOther own far number link found pair) = set_same_count s.links number link (in_phase Running link) found.there refl

pub ups_more : (events : List LinkEventValue) (event : LinkEventValue) (before after : ℕ) → before ≡ ups events →
    after ≡ before + delivery_count event → after ≡ ups (events ++ event ∷ [])
ups_more events event before after e f = let a = ups-append events event in omega arith
