-- What a look-up and a check come to, and what is left of the links by the user, over any book: one of a few things.
use Rattle.std.proofs.Common.{◌≡◌, ℕ, zero, suc, ◌+◌, ◌<◌, Bool, true, false, not, nat_lt, cond, Option, Some, None, List, [], ◌∷◌, length}
use Rattle.std.proofs.Common.{Result, Ok, Err, refl, ap, ◌∙◌, subst, arith, ltb-true, ltb-false, position, one-add}
use Rattle.std.specs.Prelude.{slice_get}
use Rattle.std.specs.List.{prefix_len}
use Rattle.std.proofs.lemmas.Option.{cond_some, slice_get_within}
use Rattle.dna_station.specs.declared.link_refusal.LinkRefusal.{LinkRefusal}
use Rattle.dna_station.specs.declared.link_refusal.LinkRefusal.TheVariants.{NoLink, LinkState, AddressInUse}
use Rattle.dna_links.specs.Queues.{ended, freed, booted}
use Rattle.dna_links.specs.declared.queue.Queues.TheVariants.{Without}
use Rattle.dna_links.specs.declared.port.Phase.TheVariants.{Confirming, Disconnecting}
use Rattle.dna_links.specs.declared.port.LinkTest.{LinkTest}
use Rattle.dna_links.specs.declared.port.LinkTest.TheVariants.{HasAddress, LiveAt, CalledBy}
use Rattle.dna_links.specs.LookUps.{passes, takes_messages, is_connected, is_calling, refused_in}
use Rattle.dna_links.specs.SegmentBook.{SegmentBook}
use Rattle.dna_links.specs.Links.{LinkOf, LinksOf, check, number_of, on_link, at_number, with_link, begun, changed, in_phase}
use Rattle.dna_links.specs.Links.{with_segments}
use Rattle.dna_links.specs.User.{LinkEventValue, Open, Accept, Reject, In, Up, Close, Abort, Boot}
use Rattle.dna_links.specs.inner.Forms.{opened, answered, gives, delivered}
use Rattle.dna_links.specs.LinkBook.{user_step}

-- ---- look-ups

prefix_passes : {X : Type 0} (test : X → Bool) (xs : List X) (x : X) → slice_get xs (prefix_len (λ (y : X). not (test y)) xs) ≡ Some x → test x ≡ true
prefix_passes test [] x at = absurd cc
prefix_passes {X} test (y ∷ xs) x at = go (prefix_passes test xs x) (test y) refl at
  where
    go : (slice_get xs (prefix_len (λ (z : X). not (test z)) xs) ≡ Some x → test x ≡ true) → (b : Bool) → test y ≡ b →
        slice_get (y ∷ xs) (cond (not b) (1 + prefix_len (λ (z : X). not (test z)) xs) 0) ≡ Some x → test x ≡ true
    go later true e at = let same : y ≡ x = cc in subst (λ (z : X). test z ≡ true) same e
    go later false e at = later (rw one-add at at)

prefix_fails : {X : Type 0} (test : X → Bool) (xs : List X) (i : ℕ) (x : X) → slice_get xs i ≡ Some x → i < prefix_len (λ (y : X). not (test y)) xs →
    test x ≡ false
prefix_fails test [] i x at less = absurd cc
prefix_fails {X} test (y ∷ xs) i x at less = go (λ i. prefix_fails test xs i x) (test y) refl i at less
  where
    go : ((i : ℕ) → slice_get xs i ≡ Some x → i < prefix_len (λ (z : X). not (test z)) xs → test x ≡ false) →
        (b : Bool) → test y ≡ b → (i : ℕ) → slice_get (y ∷ xs) i ≡ Some x → i < cond (not b) (1 + prefix_len (λ (z : X). not (test z)) xs) 0 →
        test x ≡ false
    go later true e i at less = absurd (omega arith)
    go later false e zero at less = let same : y ≡ x = cc in subst (λ (z : X). test z ≡ false) same e
    go later false e (suc i) at less = later i at (omega arith)

-- the first that passes is the one that is found
pub position_passes : {X : Type 0} (test : X → Bool) (xs : List X) (i : ℕ) (x : X) → position test xs ≡ Some i → slice_get xs i ≡ Some x →
    test x ≡ true
position_passes {X} test xs i x found at =
    let p = (cond_some (nat_lt (prefix_len (λ (y : X). not (test y)) xs) (length xs)) (prefix_len (λ (y : X). not (test y)) xs) i found).1 in
    prefix_passes test xs x (ap (slice_get xs) p ∙ at)

pub position_within : {X : Type 0} (test : X → Bool) (xs : List X) (i : ℕ) → position test xs ≡ Some i → i < length xs
position_within {X} test xs i found =
    let q = cond_some (nat_lt (prefix_len (λ (y : X). not (test y)) xs) (length xs)) (prefix_len (λ (y : X). not (test y)) xs) i found in
    let p = q.1 in let w = ltb-true _ _ q.0 in omega arith

-- where none is found, none passes
pub position_none : {X : Type 0} (test : X → Bool) (xs : List X) (i : ℕ) (x : X) → position test xs ≡ None → slice_get xs i ≡ Some x → test x ≡ false
position_none {X} test xs i x none at = go (nat_lt (prefix_len (λ (y : X). not (test y)) xs) (length xs)) refl none
  where
    go : (b : Bool) → nat_lt (prefix_len (λ (y : X). not (test y)) xs) (length xs) ≡ b →
        cond b (Some (prefix_len (λ (y : X). not (test y)) xs)) None ≡ None → test x ≡ false
    go true e none = absurd cc
    go false e none = let w = slice_get_within xs i x at in let l = ltb-false _ _ e in prefix_fails test xs i x at (omega arith)

module _ {D : Type 0} where
  -- this link is the first that passes
  pub record IsFound (test : LinkTest) (s : LinksOf D) (number : ℕ) (link : LinkOf D) : Type 0 where
    pub found : number_of test s ≡ Some number
    pub there : slice_get s.links number ≡ Some link
    pub passed : passes test link.port ≡ true

  -- what the look-up comes to: none is found, and it comes to the one; or a link is, and it comes to the other
  pub looked : {R P : Type 0} (test : LinkTest) (s : LinksOf D) (otherwise : R) (next : ℕ → LinkOf D → R) (r : R) →
      with_link test s otherwise next ≡ r →
      (number_of test s ≡ None → otherwise ≡ r → P) → ((number : ℕ) (link : LinkOf D) → IsFound test s number link → next number link ≡ r → P) → P
  looked {R} {P} test s otherwise next r e none some = go (number_of test s) refl e
    where
      none_within : (xs : List (LinkOf D)) (i : ℕ) → slice_get xs i ≡ None → i < length xs → ⊥
      none_within [] i at less = omega arith
      none_within (x ∷ xs) zero at less = cc
      none_within (x ∷ xs) (suc i) at less = none_within xs i at (omega arith)

      at_link : (number : ℕ) (o : Option (LinkOf D)) → number_of test s ≡ Some number → slice_get s.links number ≡ o →
          on_link number o otherwise next ≡ r → P
      at_link number None found there e =
          absurd (none_within s.links number there (position_within (λ (l : LinkOf D). passes test l.port) s.links number found))
      at_link number (Some link) found there e =
          some number link (record
          { found = found; there = there; passed = position_passes (λ (l : LinkOf D). passes test l.port) s.links number link found there }) e

      go : (o : Option ℕ) → number_of test s ≡ o → at_number s.links o otherwise next ≡ r → P
      go None found e = none found e
      go (Some number) found e = at_link number (slice_get s.links number) found refl e

-- a check that did not refuse
pub checked : {R : Type 0} (test : Bool) (refusal : LinkRefusal) (next : Result R LinkRefusal) (r : R) → check test refusal next ≡ Ok r →
    (test ≡ true) × (next ≡ Ok r)
checked true refusal next r e = (refl, e)
checked false refusal next r e = absurd cc

pub same_Ok : {R : Type 0} (x y : R) → ◌≡◌ {A = Result R LinkRefusal} (Ok x) (Ok y) → x ≡ y
same_Ok x y e = cc

module _ {D K : Type 0} (book : SegmentBook D K) where
  -- ---- the user

  pub data UserDid (s : LinksOf D) : LinkEventValue → LinksOf D → Type 0 where
    Opens : (own : ℕ) → number_of (LiveAt own) s ≡ None → UserDid s (Open own) (begun (opened book own) (freed book Without own s))
    Accepts : (far own number : ℕ) (link : LinkOf D) → IsFound (CalledBy far) s number link → number_of (LiveAt own) s ≡ None →
        UserDid s (Accept far own) (changed number (answered book Confirming own link) (freed book Without own s))
    Rejects : (far own number : ℕ) (link : LinkOf D) → IsFound (CalledBy far) s number link → number_of (LiveAt own) s ≡ None →
        UserDid s (Reject far own) (changed number (answered book Disconnecting own link) (freed book Without own s))
    HandsIn : (own : ℕ) (message : List ℕ) (number : ℕ) (link : LinkOf D) → IsFound (LiveAt own) s number link →
        takes_messages link.port.phase ≡ true →
        UserDid s (In own message) (changed number (with_segments (book.hands_in message link.segments) link) s)
    Delivers : (own : ℕ) (message : List ℕ) (number : ℕ) (link : LinkOf D) (segments : D) → IsFound (HasAddress own) s number link →
        book.delivers message link.segments ≡ Some segments →
        UserDid s (Up own message) (changed number (with_segments segments link) s)
    Closes : (own number : ℕ) (link : LinkOf D) → IsFound (LiveAt own) s number link → is_connected link.port.phase ≡ true →
        UserDid s (Close own) (changed number (in_phase Disconnecting link) s)
    Aborts : (own number : ℕ) (link : LinkOf D) → IsFound (LiveAt own) s number link → is_calling link.port.phase ≡ true →
        UserDid s (Abort own) (changed number (ended book link) s)
    Boots : UserDid s Boot (booted book Without s)

  module _ (s left : LinksOf D) where
    did : (event : LinkEventValue) (next : LinksOf D) → UserDid s event next → ◌≡◌ {A = Result (LinksOf D) LinkRefusal} (Ok next) (Ok left) →
        UserDid s event left
    did event next d e = subst (λ (x : LinksOf D). UserDid s event x) (same_Ok next left e) d

    given_did : (event : LinkEventValue) (own : ℕ) (next : LinksOf D) → (number_of (LiveAt own) s ≡ None → UserDid s event next) →
        gives book own s next ≡ Ok left → UserDid s event left
    given_did event own next d e =
        looked (LiveAt own) s (Ok next) (λ number link. Err AddressInUse) (Ok left) e (λ free e. did event next (d free) e)
        (λ number link found e. absurd cc)

    delivered_did : (own : ℕ) (message : List ℕ) (number : ℕ) (link : LinkOf D) → IsFound (HasAddress own) s number link → (o : Option D) →
        book.delivers message link.segments ≡ o →
        delivered book number link s o ≡ Ok left → UserDid s (Up own message) left
    delivered_did own message number link found None segments e = absurd cc
    delivered_did own message number link found (Some next) segments e =
        did (Up own message) _ (Delivers own message number link next found segments) e

    pub user_did : (event : LinkEventValue) → user_step Without book s event ≡ Ok left → UserDid s event left
    user_did (Open own) e = given_did (Open own) own (begun (opened book own) (freed book Without own s)) (λ free. Opens own free) e
    user_did (Accept far own) e =
        looked (CalledBy far) s (Err NoLink)
        (λ number link. gives book own s (changed number (answered book Confirming own link) (freed book Without own s))) (Ok left) e
        (λ none e. absurd cc)
        (λ number link found e. given_did (Accept far own) own _ (λ free. Accepts far own number link found free) e)
    user_did (Reject far own) e =
        looked (CalledBy far) s (Err NoLink)
        (λ number link. gives book own s (changed number (answered book Disconnecting own link) (freed book Without own s))) (Ok left) e
        (λ none e. absurd cc)
        (λ number link found e. given_did (Reject far own) own _ (λ free. Rejects far own number link found free) e)
    user_did (In own message) e =
        looked (LiveAt own) s (Err NoLink)
        (λ number link. check (takes_messages link.port.phase) (refused_in link.port.phase LinkState)
        (Ok (changed number (with_segments (book.hands_in message link.segments) link) s))) (Ok left) e
        (λ none e. absurd cc)
        (λ number link found e. let c = checked _ _ _ left e in did (In own message) _ (HandsIn own message number link found c.0) c.1)
    user_did (Up own message) e =
        looked (HasAddress own) s (Err NoLink) (λ number link. delivered book number link s (book.delivers message link.segments)) (Ok left) e
        (λ none e. absurd cc) (λ number link found e. delivered_did own message number link found _ refl e)
    user_did (Close own) e =
        looked (LiveAt own) s (Err NoLink)
        (λ number link. check (is_connected link.port.phase) (refused_in link.port.phase LinkState)
        (Ok (changed number (in_phase Disconnecting link) s))) (Ok left) e
        (λ none e. absurd cc) (λ number link found e. let c = checked _ _ _ left e in did (Close own) _ (Closes own number link found c.0) c.1)
    user_did (Abort own) e =
        looked (LiveAt own) s (Err NoLink)
        (λ number link. check (is_calling link.port.phase) (refused_in link.port.phase LinkState) (Ok (changed number (ended book link) s))) (Ok left)
        e
        (λ none e. absurd cc) (λ number link found e. let c = checked _ _ _ left e in did (Abort own) _ (Aborts own number link found c.0) c.1)
    user_did Boot e = did Boot (booted book Without s) Boots e
