-- Links that are found by the last holder of each own address, and by the last that a CI from each address of the other side began.
use Rattle.std.proofs.Common.{◌≡◌, ℕ, zero, suc, ◌+◌, Bool, true, false, ◌&&◌, ◌||◌, not, cond, Option, Some, None, List, [], ◌∷◌}
use Rattle.std.proofs.Common.{length, refl, sym, ap, ◌∙◌, arith, ltb, eqb}
use Rattle.std.specs.Prelude.{slice_get, position, is_some}
use Rattle.std.specs.List.{position_or_len}
use Rattle.std.specs.Option.{option_map}
use Rattle.std.proofs.Common.{subst}
use Rattle.std.proofs.lemmas.Bool.{ltb-true, ltb-false, lt-ltb, le-ltb, eqb-true, eq-eqb, ne_eqb}
use Rattle.dna_links.specs.declared.port.Phase.{Phase}
use Rattle.dna_links.specs.declared.port.Phase.TheVariants.{Calling, Called, Confirming, Running, Disconnecting, Ended}
use Rattle.dna_links.specs.declared.port.Port.{Port}
use Rattle.dna_links.specs.declared.port.LinkTest.{LinkTest}
use Rattle.dna_links.specs.declared.port.LinkTest.TheVariants.{HasAddress, LiveAt, TheLink, LiveTo, OpenedAt, CallingAt, CalledBy, BegunBy, ActedOn}
use Rattle.dna_links.specs.LookUps.{is_live, is_at, is_calling, is_called, is_connected, passes}
use Rattle.dna_links.specs.Links.{LinkOf}
use Rattle.nsp_link.specs.inner.Index.{IsIndexed, passes_in, passes_at, passing, counted, look_in, own_of, begun_from, is_begun, lives_to}
use Rattle.nsp_link.specs.inner.Index.{is_of_one, candidate}
use Rattle.nsp_link.proofs.Counting.{counted_some, counted_none}

pub first_true : (a b : Bool) → (a && b) ≡ true → a ≡ true
first_true true b e = refl
first_true false b e = e

pub second_true : (a b : Bool) → (a && b) ≡ true → b ≡ true
second_true true b e = e
second_true false b e = absurd (cc)

or_second : (a b : Bool) → b ≡ true → (a || b) ≡ true
or_second true b e = refl
or_second false b e = e

pub both_true : (a b : Bool) → a ≡ true → b ≡ true → (a && b) ≡ true
both_true true b e f = f
both_true false b e f = e

-- ---- the first that passes, by recursion

module _ {X : Type 0} (p : X → Bool) where
  there_by : (b : Bool) (q n : ℕ) → ltb q n ≡ b → cond (ltb (1 + q) (suc n)) (Some (1 + q)) None ≡ option_map suc (cond b (Some q) None)
  there_by true q n e =
      let low = ltb-true q n e in
      ap (λ (b : Bool). cond b (Some (1 + q)) None) (lt-ltb (1 + q) (suc n) (omega arith)) ∙ ap Some (omega arith)
  there_by false q n e =
      let high = ltb-false q n e in
      ap (λ (b : Bool). cond b (Some (1 + q)) None) (le-ltb (1 + q) (suc n) (omega arith))

  position_there : (x : X) (xs : List X) → p x ≡ false → position p (x ∷ xs) ≡ option_map suc (position p xs)
  position_there x xs e =
      ap (λ (b : Bool). cond (ltb (cond (not b) (1 + position_or_len p xs) 0) (suc (length xs))) (Some (cond (not b) (1 + position_or_len p xs) 0))
      None) e
      ∙ there_by (ltb (position_or_len p xs) (length xs)) (position_or_len p xs) (length xs) refl

  position_here : (x : X) (xs : List X) → p x ≡ true → position p (x ∷ xs) ≡ Some 0
  position_here x xs e =
      ap (λ (b : Bool). cond (ltb (cond (not b) (1 + position_or_len p xs) 0) (suc (length xs))) (Some (cond (not b) (1 + position_or_len p xs) 0))
      None) e
      ∙ ap (λ (b : Bool). cond b (Some 0) None) (lt-ltb 0 (suc (length xs)) (omega arith))

  -- what position found passes, and what it did not find does not
  pub data IsFound : List X → Option ℕ → Type 0 where
    At : (xs : List X) (n : ℕ) → passes_at p xs n ≡ true → IsFound xs (Some n)
    Nowhere : (xs : List X) → ((n : ℕ) → passes_at p xs n ≡ false) → IsFound xs None

  later_found : (x : X) (xs : List X) (o : Option ℕ) → p x ≡ false → IsFound xs o → IsFound (x ∷ xs) (option_map suc o)
  later_found x xs (Some n) e (At _ _ there) = At (x ∷ xs) (suc n) there
  later_found x xs None e (Nowhere _ none) = Nowhere (x ∷ xs) each where
    each : (n : ℕ) → passes_at p (x ∷ xs) n ≡ false
    each zero = e
    each (suc n) = none n

  found_by : (x : X) (xs : List X) (b : Bool) → p x ≡ b → IsFound xs (position p xs) → IsFound (x ∷ xs) (position p (x ∷ xs))
  found_by x xs true e h = subst (λ (o : Option ℕ). IsFound (x ∷ xs) o) (sym (position_here x xs e)) (At (x ∷ xs) 0 e)
  found_by x xs false e h = subst (λ (o : Option ℕ). IsFound (x ∷ xs) o) (sym (position_there x xs e)) (later_found x xs (position p xs) e h)

  pub found : (xs : List X) → IsFound xs (position p xs)
  found [] = Nowhere [] (λ n. refl)
  found (x ∷ xs) = found_by x xs (p x) refl (found xs)

-- ---- the tests

-- a test of phases that no ended link passes
by_phase : (test : Phase → Bool) → test Ended ≡ false → (phase : Phase) → test phase ≡ true → is_live phase ≡ true
by_phase test ended Calling e = refl
by_phase test ended Called e = refl
by_phase test ended Confirming e = refl
by_phase test ended Running e = refl
by_phase test ended Disconnecting e = refl
by_phase test ended Ended e = sym ended ∙ e

pub called_lives : (phase : Phase) → is_called phase ≡ true → is_live phase ≡ true
called_lives = by_phase is_called refl

-- a test that only a live link passes
abbrev pub is_of_live : LinkTest → Bool
is_of_live (HasAddress own) = false
is_of_live test = true

pub passes_lives : (test : LinkTest) (port : Port) → is_of_live test ≡ true → passes test port ≡ true → is_live port.phase ≡ true
passes_lives (HasAddress own) port of e = absurd (cc)
passes_lives (LiveAt own) port of e = first_true (is_live port.phase) _ e
passes_lives (TheLink own far) port of e = first_true (is_live port.phase) _ e
passes_lives (LiveTo far) port of e = first_true (is_live port.phase) _ e
passes_lives (OpenedAt own) port of e = first_true (is_live port.phase) _ e
passes_lives (CallingAt own) port of e = by_phase is_calling refl port.phase (first_true (is_calling port.phase) _ e)
passes_lives (CalledBy far) port of e = called_lives port.phase (first_true (is_called port.phase) _ e)
passes_lives (BegunBy far) port of e = first_true (is_live port.phase) _ e
passes_lives (ActedOn own far) port of e = by_phase is_connected refl port.phase (first_true (is_connected port.phase) _ e)

-- ---- the one that is looked at

pub is_at-eq : (o : Option ℕ) (own : ℕ) → is_at o own ≡ true → o ≡ Some own
is_at-eq None own e = absurd (cc)
is_at-eq (Some known) own e = ap Some (eqb-true known own e)

pub eq-is_at : (o : Option ℕ) (own : ℕ) → o ≡ Some own → is_at o own ≡ true
eq-is_at o own e = ap (λ (known : Option ℕ). is_at known own) e ∙ eq-eqb own own refl

module _ {D : Type 0} (links : List (LinkOf D)) (holder caller : ℕ → Option ℕ) (reached : ℕ → ℕ) (waiting : ℕ)
    (index : IsIndexed links holder caller reached waiting) where
  module _ (n : ℕ) (l : LinkOf D) (there : slice_get links n ≡ Some l) where
    pub held : (own : ℕ) → is_at l.port.own own ≡ true → holder own ≡ Some n
    held own e = index.has n own (ap (look_in own_of) there ∙ is_at-eq l.port.own own e)

    begun : (far : ℕ) → is_begun l.port ≡ true → is_at l.port.far far ≡ true → caller far ≡ Some n
    begun far e known = index.calls n far (ap (look_in begun_from) there ∙ ap (λ (b : Bool). cond b l.port.far None) e
        ∙ is_at-eq l.port.far far known)

    sees : (test : LinkTest) → is_of_one test ≡ true → passes test l.port ≡ true → candidate test holder caller ≡ Some n
    sees (HasAddress own) of e = held own e
    sees (LiveAt own) of e = held own (second_true (is_live l.port.phase) _ e)
    sees (TheLink own far) of e = held own (first_true (is_at l.port.own own) _ (second_true (is_live l.port.phase) _ e))
    sees (LiveTo far) of e = absurd (cc)
    sees (OpenedAt own) of e = held own (second_true l.port.opened _ (second_true (is_live l.port.phase) _ e))
    sees (CallingAt own) of e = held own (second_true (is_calling l.port.phase) _ e)
    sees (CalledBy far) of e =
        begun far (ap (λ (b : Bool). b || (is_live l.port.phase && not l.port.opened)) (first_true (is_called l.port.phase) _ e))
        (second_true (is_called l.port.phase) _ e)
    sees (BegunBy far) of e =
        let lives = first_true (is_live l.port.phase) _ e in
        let rest = second_true (is_live l.port.phase) _ e in
        begun far (or_second (is_called l.port.phase) _ (both_true (is_live l.port.phase) _ lives (first_true (not l.port.opened) _ rest)))
        (second_true (not l.port.opened) _ rest)
    sees (ActedOn own far) of e = held own (first_true (is_at l.port.own own) _ (second_true (is_connected l.port.phase) _ e))

  module _ (test : LinkTest) (of : is_of_one test ≡ true) where
    abbrev p : LinkOf D → Bool
    p l = passes test l.port

    seen_at : (n : ℕ) (o : Option (LinkOf D)) → slice_get links n ≡ o → passes_in p o ≡ true → candidate test holder caller ≡ Some n
    seen_at n None is e = absurd (cc)
    seen_at n (Some l) is e = sees n l is test of e

    none_passing : (c : Option ℕ) → ((n : ℕ) → passes_at p links n ≡ false) → passing p links c ≡ None
    none_passing None none = refl
    none_passing (Some n) none = ap (λ (b : Bool). cond b (Some n) None) (none n)

    found_passing : (r : Option ℕ) → IsFound p links r → r ≡ passing p links (candidate test holder caller)
    found_passing (Some n) (At _ _ there) =
        sym (ap (passing p links) (seen_at n (slice_get links n) refl there) ∙ ap (λ (b : Bool). cond b (Some n) None) there)
    found_passing None (Nowhere _ none) = sym (none_passing (candidate test holder caller) none)

    -- the walk finds what the index finds
    pub one_found : position (λ (l : LinkOf D). passes test l.port) links ≡ passing (λ (l : LinkOf D). passes test l.port) links
        (candidate test holder caller)
    one_found = found_passing (position p links) (found p links)

  -- ---- an own address

  address_by : (own : ℕ) (h : Option ℕ) → holder own ≡ h → passing (λ (l : LinkOf D). is_at l.port.own own) links h ≡ h
  address_by own None is = refl
  address_by own (Some n) is = ap (λ (b : Bool). cond b (Some n) None) (at_eq (slice_get links n) (index.holds own n is)) where
    at_eq : (o : Option (LinkOf D)) → look_in own_of o ≡ Some own → passes_in (λ (l : LinkOf D). is_at l.port.own own) o ≡ true
    at_eq None e = absurd (cc)
    at_eq (Some l) e = eq-is_at l.port.own own e

  pub address_found : (own : ℕ) → position (λ (l : LinkOf D). is_at l.port.own own) links ≡ holder own
  address_found own = one_found (HasAddress own) refl ∙ address_by own (holder own) refl

  -- ---- an address of the other side

  is_known : (far : ℕ) (r : Option ℕ) → IsFound (lives_to far) links r → is_some r ≡ not (eqb (counted (lives_to far) links) 0)
  is_known far (Some n) (At _ _ there) = known (slice_get links n) refl there where
    known : (o : Option (LinkOf D)) → slice_get links n ≡ o → passes_in (lives_to far) o ≡ true → true ≡ not (eqb (counted (lives_to far) links) 0)
    known None is e = absurd (cc)
    known (Some l) is e =
        let some = counted_some (lives_to far) links n l is e in
        sym (ap not (ne_eqb (counted (lives_to far) links) 0 (λ zero. absurd (omega arith))))
  is_known far None (Nowhere _ none) = sym (ap not (eq-eqb (counted (lives_to far) links) 0 (counted_none (lives_to far) links none)))

  pub known_found : (far : ℕ) → is_some (position (lives_to far) links) ≡ not (eqb (reached far) 0)
  known_found far = is_known far (position (lives_to far) links) (found (lives_to far) links)
      ∙ ap (λ (k : ℕ). not (eqb k 0)) (sym (index.reaches far))

pub none_lives : {D : Type 0} (far : ℕ) (links : List (LinkOf D)) → position (lives_to far) links ≡ None → counted (lives_to far) links ≡ 0
none_lives {D} far links e = by_found (position (lives_to far) links) (found (lives_to far) links) e where
  by_found : (r : Option ℕ) → IsFound (lives_to far) links r → r ≡ None → counted (lives_to far) links ≡ 0
  by_found (Some n) h is = absurd (cc)
  by_found None (Nowhere _ none) is = counted_none (lives_to far) links none
