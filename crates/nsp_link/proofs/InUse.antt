-- What a look-up for what is sent and for its user finds, with queues or without.
use Rattle.std.proofs.Common.{◌≡◌, ℕ, ◌<◌, Bool, true, false, ◌&&◌, ◌||◌, not, cond, Option, Some, None, List, [], ◌∷◌, suc, ◌+◌, nat_lt}
use Rattle.std.proofs.Common.{refl, sym, subst, ap, ◌∙◌, arith, length, eqb}
use Rattle.std.specs.Prelude.{slice_get, position, is_some}
use Rattle.std.specs.List.{list_any, position_or_len}
use Rattle.std.specs.Option.{IfSome}
use Rattle.std.proofs.lemmas.Bool.{eq-eqb, ne_eqb}
use Rattle.std.proofs.lemmas.Bool.Decides.{nat_tests}
use Rattle.std.proofs.lemmas.Option.{slice_get_within}
use Rattle.dna_links.specs.declared.port.Phase.{Phase}
use Rattle.dna_links.specs.declared.port.Port.{Port}
use Rattle.dna_links.specs.declared.port.LinkTest.{LinkTest}
use Rattle.dna_links.specs.declared.port.LinkTest.TheVariants.{HasAddress, LiveAt, TheLink, LiveTo, OpenedAt, CallingAt, CalledBy, BegunBy}
use Rattle.dna_links.specs.declared.port.LinkTest.TheVariants.{ActedOn}
use Rattle.dna_links.specs.declared.queue.Queues.{Queues}
use Rattle.dna_links.specs.declared.queue.Queues.TheVariants.{Without, With}
use Rattle.dna_links.specs.LookUps.{is_live, is_at, is_calling, is_connected, passes}
use Rattle.dna_links.specs.Links.{LinkOf, with_seen, at_number, on_link}
use Rattle.dna_links.specs.Queues.{in_use, port_of_waiting}
use Rattle.dna_links.specs.WireSegments.{WireSegments}
use Rattle.dna_links.specs.WireLinks.{WireLinks}
use Rattle.nsp_link.specs.inner.Index.{IsIndexed, AreUsed, candidate, counted, passes_at, passes_in, passing, used_by, uses}
use Rattle.nsp_link.specs.inner.Rows.{is_of_own}
use Rattle.nsp_link.proofs.Counting.{counted_some, counted_none}
use Rattle.nsp_link.proofs.LookUps.{first_true, second_true, found, held, IsFound, At, Nowhere}

-- ---- the link at the place that was found

module _ {X : Type 0} (p : X → Bool) (xs : List X) where
  passes_by : (r : Option ℕ) (n : ℕ) (x : X) → IsFound p xs r → r ≡ Some n → slice_get xs n ≡ Some x → p x ≡ true
  passes_by None n x h e is = absurd (cc)
  passes_by (Some m) n x (At _ _ there) e is =
      let same : m ≡ n = cc in
      sym (ap (passes_in p) (ap (slice_get xs) same ∙ is)) ∙ there

  pub place_passes : (n : ℕ) (x : X) → position p xs ≡ Some n → slice_get xs n ≡ Some x → p x ≡ true
  place_passes n x e is = passes_by (position p xs) n x (found p xs) e is

  within_by : (r : Option ℕ) → IsFound p xs r → IfSome r (λ n. n < length xs)
  within_by None h = tt
  within_by (Some n) (At _ _ there) = at_place (slice_get xs n) refl there where
    at_place : (o : Option X) → slice_get xs n ≡ o → passes_in p o ≡ true → n < length xs
    at_place None is e = absurd (cc)
    at_place (Some x) is e = slice_get_within xs n x is

  pub place_within : (r : Option ℕ) → r ≡ position p xs → IfSome r (λ n. n < length xs)
  place_within r e = subst (λ (o : Option ℕ). IfSome o (λ n. n < length xs)) (sym e)
      (within_by (position p xs) (found p xs))

-- whether an element passes, by a look at each
module _ {X : Type 0} (p : X → Bool) where
  is_some_when : (b : Bool) (n : ℕ) → is_some (cond b (Some n) None) ≡ b
  is_some_when true n = refl
  is_some_when false n = refl

  next_lt : (n m : ℕ) → nat_lt n m ≡ nat_lt (1 + n) (suc m)
  next_lt n m = grind (arith, nat_tests)

  zero_lt : (n : ℕ) → true ≡ nat_lt 0 (suc n)
  zero_lt n = grind (arith, nat_tests)

  any_within : (xs : List X) → list_any p xs ≡ nat_lt (position_or_len p xs) (length xs)
  any_within [] = refl
  any_within (x ∷ xs) =
      let rest = any_within xs in
      elim (p x) as (λ b. ◌||◌ b (list_any p xs) ≡ nat_lt (cond (not b) (1 + position_or_len p xs) 0) (length (x ∷ xs)))
      [ true ↦ zero_lt _ | false ↦ rest ∙ next_lt _ _ ]

  pub any_is_some : (xs : List X) → list_any p xs ≡ is_some (position p xs)
  any_is_some xs = any_within xs ∙ sym (is_some_when (nat_lt (position_or_len p xs) (length xs)) (position_or_len p xs))

-- ---- by an own address

own_at : (test : LinkTest) (port : Port) (holder caller : ℕ → Option ℕ) (n : ℕ) → is_of_own test ≡ true → passes test port ≡ true →
    ((own : ℕ) → is_at port.own own ≡ true → holder own ≡ Some n) → candidate test holder caller ≡ Some n
own_at (HasAddress own) port holder caller n of e held = held own e
own_at (LiveAt own) port holder caller n of e held = held own (second_true (is_live port.phase) _ e)
own_at (TheLink own far) port holder caller n of e held = held own (first_true (is_at port.own own) _ (second_true (is_live port.phase) _ e))
own_at (LiveTo far) port holder caller n of e held = absurd (cc)
own_at (OpenedAt own) port holder caller n of e held = held own (second_true port.opened _ (second_true (is_live port.phase) _ e))
own_at (CallingAt own) port holder caller n of e held = held own (second_true (is_calling port.phase) _ e)
own_at (CalledBy far) port holder caller n of e held = absurd (cc)
own_at (BegunBy far) port holder caller n of e held = absurd (cc)
own_at (ActedOn own far) port holder caller n of e held =
    held own (first_true (is_at port.own own) _ (second_true (is_connected port.phase) _ e))

same_own : (waits : Option Phase) (port : Port) → (port_of_waiting waits port).own ≡ port.own
same_own None port = refl
same_own (Some phase) port = refl

module _ (links : List (LinkOf WireSegments)) (holder caller : ℕ → Option ℕ) (reached : ℕ → ℕ) (waiting : ℕ)
    (index : IsIndexed links holder caller reached waiting) where
  module _ (test : LinkTest) (of : is_of_own test ≡ true) where
    abbrev p : LinkOf WireSegments → Bool
    p l = passes test (in_use With l)

    seen_at : (n : ℕ) (o : Option (LinkOf WireSegments)) → slice_get links n ≡ o → passes_in p o ≡ true → candidate test holder caller ≡ Some n
    seen_at n None is e = absurd (cc)
    seen_at n (Some l) is e = own_at test (in_use With l) holder caller n of e
        (λ own at. held links holder caller reached waiting index n l is own
        (ap (λ (known : Option ℕ). is_at known own) (sym (same_own l.queue.waits l.port)) ∙ at))

    none_passing : (c : Option ℕ) → ((n : ℕ) → passes_at p links n ≡ false) → passing p links c ≡ None
    none_passing None none = refl
    none_passing (Some n) none = ap (λ (b : Bool). cond b (Some n) None) (none n)

    found_passing : (r : Option ℕ) → IsFound p links r → r ≡ passing p links (candidate test holder caller)
    found_passing (Some n) (At _ _ there) =
        sym (ap (passing p links) (seen_at n (slice_get links n) refl there) ∙ ap (λ (b : Bool). cond b (Some n) None) there)
    found_passing None (Nowhere _ none) = sym (none_passing (candidate test holder caller) none)

    pub waiting_found : position (λ (l : LinkOf WireSegments). passes test (in_use With l)) links
        ≡ passing (λ (l : LinkOf WireSegments). passes test (in_use With l)) links (candidate test holder caller)
    waiting_found = found_passing (position p links) (found p links)

-- ---- by the address that a CI came from

begun_by : (u o : Bool) (f : Option ℕ) (far : ℕ) → (u && (not o && is_at f far)) ≡ is_at (cond (u && not o) f None) far
begun_by true true f far = refl
begun_by true false f far = refl
begun_by false o f far = refl

same_begun : (waits : Option Phase) (port : Port) (far : ℕ) → passes (BegunBy far) (port_of_waiting waits port) ≡
    (is_live (port_of_waiting waits port).phase && (not port.opened && is_at port.far far))
same_begun None port far = refl
same_begun (Some phase) port far = refl

pub begins_by : (l : LinkOf WireSegments) (far : ℕ) → passes (BegunBy far) (in_use With l) ≡ used_by far l
begins_by l far = same_begun l.queue.waits l.port far ∙ begun_by (uses l) l.port.opened l.port.far far

module _ (links : List (LinkOf WireSegments)) (used : ℕ → ℕ) (are : AreUsed With links used) (far : ℕ) where
  abbrev b : LinkOf WireSegments → Bool
  b l = passes (BegunBy far) (in_use With l)

  known_by : (r : Option ℕ) → IsFound b links r → is_some r ≡ not (eqb (counted (used_by far) links) 0)
  known_by (Some n) (At _ _ there) = known (slice_get links n) refl there where
    known : (o : Option (LinkOf WireSegments)) → slice_get links n ≡ o → passes_in b o ≡ true → true ≡ not (eqb (counted (used_by far) links) 0)
    known None is e = absurd (cc)
    known (Some l) is e =
        let some = counted_some (used_by far) links n l is (sym (begins_by l far) ∙ e) in
        sym (ap not (ne_eqb (counted (used_by far) links) 0 (λ zero. absurd (omega arith))))
  known_by None (Nowhere _ none) = sym (ap not (eq-eqb (counted (used_by far) links) 0 (counted_none (used_by far) links each))) where
    each_by : (o : Option (LinkOf WireSegments)) → passes_in b o ≡ passes_in (used_by far) o
    each_by None = refl
    each_by (Some l) = begins_by l far

    each : (n : ℕ) → passes_at (used_by far) links n ≡ false
    each n = sym (each_by (slice_get links n)) ∙ none n

  pub used_found : is_some (position (λ (l : LinkOf WireSegments). passes (BegunBy far) (in_use With l)) links) ≡ not (eqb (used far) 0)
  used_found = known_by (position b links) (found b links) ∙ ap (λ (k : ℕ). not (eqb k 0)) (sym (are far))

pub used_found_as : (queues : Queues) → queues ≡ With → (links : List (LinkOf WireSegments)) (used : ℕ → ℕ) → AreUsed queues links used → (far : ℕ) →
    is_some (position (λ (l : LinkOf WireSegments). passes (BegunBy far) (in_use With l)) links) ≡ not (eqb (used far) 0)
used_found_as Without with links used are far = absurd (cc)
used_found_as With with links used are far = used_found links used are far

-- where nothing but that one is found is asked
module _ {R : Type 0} (s : WireLinks) (otherwise same : R) (test : LinkTest) where
  abbrev waits_so : LinkOf WireSegments → Bool
  waits_so l = passes test (in_use With l)

  seen_by : (r : Option ℕ) → IsFound waits_so s.links r → is_some r ≡ true → at_number s.links r otherwise (λ number link. same) ≡ same
  seen_by None h e = absurd (cc)
  seen_by (Some n) (At _ _ there) e = there_by (slice_get s.links n) there where
    there_by : (o : Option (LinkOf WireSegments)) → passes_in waits_so o ≡ true → on_link n o otherwise (λ number link. same) ≡ same
    there_by None at = absurd (cc)
    there_by (Some l) at = refl

  unseen_by : (r : Option ℕ) → is_some r ≡ false → at_number s.links r otherwise (λ number link. same) ≡ otherwise
  unseen_by None e = refl
  unseen_by (Some n) e = absurd (cc)

  pub seen_waiting : (r : Bool) → r ≡ is_some (position (λ (l : LinkOf WireSegments). passes test (in_use With l)) s.links) → r ≡ true →
      with_seen (in_use With) test s otherwise (λ number link. same) ≡ same
  seen_waiting r is e = seen_by (position waits_so s.links) (found waits_so s.links) (sym is ∙ e)

  pub unseen_waiting : (r : Bool) → r ≡ is_some (position (λ (l : LinkOf WireSegments). passes test (in_use With l)) s.links) → r ≡ false →
      with_seen (in_use With) test s otherwise (λ number link. same) ≡ otherwise
  unseen_waiting r is e = unseen_by (position waits_so s.links) (sym is ∙ e)

pub ruleset known_waiting = (seen_waiting, unseen_waiting)
