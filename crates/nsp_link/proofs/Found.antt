-- What a look-up finds: a link that passes its test, or none.
use Rattle.std.proofs.Common.{◌≡◌, ℕ, zero, suc, ◌<◌, Bool, true, false, ◌&&◌, Option, Some, None, List, [], ◌∷◌}
use Rattle.std.proofs.Common.{length, refl, sym, ap, ◌∙◌, arith}
use Rattle.std.specs.Prelude.{slice_get, position, is_some}
use Rattle.std.specs.Option.{IfSome}
use Rattle.std.proofs.lemmas.Bool.{eq-eqb}
use Rattle.std.proofs.lemmas.Option.{slice_get_within}
use Rattle.dna_links.specs.declared.port.LinkTest.{LinkTest}
use Rattle.dna_links.specs.declared.port.LinkTest.TheVariants.{LiveAt, CallingAt, CalledBy}
use Rattle.dna_links.specs.LookUps.{is_live, is_at, is_calling, is_called, passes}
use Rattle.dna_links.specs.Links.{LinkOf, LinksOf, number_of, with_link, at_number, on_link}
use Rattle.nsp_link.specs.inner.Index.{IsIndexed, passes_in, look_in, own_of}
use Rattle.nsp_link.proofs.LookUps.{first_true, found, IsFound, At, Nowhere, passes_lives, is_of_live}

found_within : {D : Type 0} (test : LinkTest) (links : List (LinkOf D)) (r : Option ℕ) (n : ℕ) → IsFound (λ (l : LinkOf D). passes test l.port) links
    r → r ≡ Some n → n < length links
found_within {D} test links None n h e = absurd (cc)
found_within {D} test links (Some m) n (At _ _ there) e = let same : m ≡ n = cc in within (slice_get links m) refl there same where
  within : (o : Option (LinkOf D)) → slice_get links m ≡ o → passes_in (λ (l : LinkOf D). passes test l.port) o ≡ true → m ≡ n → n < length links
  within None is pass same = absurd (cc)
  within (Some l) is pass same = let low = slice_get_within links m l is in omega arith

pub number_within : {D : Type 0} (test : LinkTest) (s : LinksOf D) (n : ℕ) → number_of test s ≡ Some n → n < length s.links
number_within test s n e = found_within test s.links (number_of test s) n (found (λ l. passes test l.port) s.links) e

found_passes : {D : Type 0} (test : LinkTest) (links : List (LinkOf D)) (r : Option ℕ) (n : ℕ) (l : LinkOf D) →
    IsFound (λ (l : LinkOf D). passes test l.port) links r → r ≡ Some n → slice_get links n ≡ Some l → passes test l.port ≡ true
found_passes {D} test links None n l h e is = absurd (cc)
found_passes {D} test links (Some m) n l (At _ _ there) e is =
    let same : m ≡ n = cc in
    sym (ap (λ (o : Option (LinkOf D)). passes_in (λ (k : LinkOf D). passes test k.port) o) (ap (slice_get links) same ∙ is)) ∙ there

-- the link that a look-up found passes its test
pub link_passes : {D : Type 0} (test : LinkTest) (s : LinksOf D) (n : ℕ) (l : LinkOf D) → number_of test s ≡ Some n → slice_get s.links n ≡ Some l →
    passes test l.port ≡ true
link_passes test s n l e is = found_passes test s.links (number_of test s) n l (found (λ k. passes test k.port) s.links) e is

-- and lives
pub link_lives : {D : Type 0} (test : LinkTest) (s : LinksOf D) (n : ℕ) (l : LinkOf D) → is_of_live test ≡ true → number_of test s ≡ Some n →
    slice_get s.links n ≡ Some l → is_live l.port.phase ≡ true
link_lives test s n l of e is = passes_lives test l.port of (link_passes test s n l e is)

-- one that is found by its call is in Called
pub called_found : {D : Type 0} (far : ℕ) (s : LinksOf D) (n : ℕ) (l : LinkOf D) → number_of (CalledBy far) s ≡ Some n →
    slice_get s.links n ≡ Some l → is_called l.port.phase ≡ true
called_found far s n l e is = first_true (is_called l.port.phase) (is_at l.port.far far) (link_passes (CalledBy far) s n l e is)

pub calling_found : {D : Type 0} (own : ℕ) (s : LinksOf D) (n : ℕ) (l : LinkOf D) → number_of (CallingAt own) s ≡ Some n →
    slice_get s.links n ≡ Some l → is_calling l.port.phase ≡ true
calling_found own s n l e is = first_true (is_calling l.port.phase) (is_at l.port.own own) (link_passes (CallingAt own) s n l e is)

-- whether there is one, where nothing but that is asked
none_there : {A : Type 0} (o : Option A) → is_some o ≡ false → o ≡ None
none_there None e = refl
none_there (Some x) e = absurd (cc)

pub none_found : {D : Type 0} (test : LinkTest) (s : LinksOf D) (r : Bool) → r ≡ is_some (number_of test s) → r ≡ false → number_of test s ≡ None
none_found test s r is e = none_there (number_of test s) (sym is ∙ e)

pub some_there : {X : Type 0} (xs : List X) (n : ℕ) → n < length xs → slice_get xs n ≡ None → ⊥
some_there [] n h e = absurd (omega arith)
some_there (x ∷ xs) zero h e = absurd (cc)
some_there (x ∷ xs) (suc n) h e = some_there xs n (omega arith) e

ignored_by : {D R : Type 0} (s : LinksOf D) (otherwise same : R) (test : LinkTest) (r : Option ℕ) → number_of test s ≡ r → is_some r ≡ true →
    at_number s.links r otherwise (λ number link. same) ≡ same
ignored_by s otherwise same test None is e = absurd (cc)
ignored_by {D} {R} s otherwise same test (Some n) is e = there (slice_get s.links n) refl where
  there : (o : Option (LinkOf D)) → slice_get s.links n ≡ o → on_link n o otherwise (λ number link. same) ≡ same
  there None out =
      let low = number_within test s n is in
      absurd (some_there s.links n low out)
  there (Some l) at = refl

pub ignored : {D R : Type 0} (s : LinksOf D) (otherwise same : R) (test : LinkTest) (r : Bool) → r ≡ is_some (number_of test s) → r ≡ true →
    with_link test s otherwise (λ number link. same) ≡ same
ignored s otherwise same test r is e = ignored_by s otherwise same test (number_of test s) refl (sym is ∙ e)

pub ruleset found_links = (number_within, link_passes, link_lives, called_found, calling_found, none_found, ignored)

within_by : {D : Type 0} (test : LinkTest) (s : LinksOf D) (r : Option ℕ) → number_of test s ≡ r → IfSome r (λ n. n < length s.links)
within_by test s None e = tt
within_by test s (Some n) e = number_within test s n e

-- a number that a look-up gave is that of a link
pub found_number : {D : Type 0} (test : LinkTest) (s : LinksOf D) (r : Option ℕ) → r ≡ number_of test s → IfSome r (λ n. n < length s.links)
found_number test s r e = within_by test s r (sym e)

-- an address that no live link has: its holder has ended
dead_by : (a b : Bool) → (a && b) ≡ false → b ≡ true → a ≡ false
dead_by true b e is = sym is ∙ e
dead_by false b e is = refl

not_live_at : {D : Type 0} (own : ℕ) (o : Option (LinkOf D)) (l : LinkOf D) → passes_in (λ (k : LinkOf D). passes (LiveAt own) k.port) o ≡ false →
    o ≡ Some l → look_in own_of o ≡ Some own → is_live l.port.phase ≡ false
not_live_at own None l fails is owns = absurd (cc)
not_live_at own (Some k) l fails is owns =
    let same : k ≡ l = cc in
    sym (ap (λ (x : LinkOf _). is_live x.port.phase) same) ∙ dead_by (is_live k.port.phase) (is_at k.port.own own) fails
    (ap (λ (known : Option ℕ). is_at known own) owns ∙ eq-eqb own own refl)

dead_found : {D : Type 0} (own : ℕ) (links : List (LinkOf D)) (holder caller : ℕ → Option ℕ) (reached : ℕ → ℕ) (waiting : ℕ) →
    IsIndexed links holder caller reached waiting →
    (r : Option ℕ) → IsFound (λ (k : LinkOf D). passes (LiveAt own) k.port) links r → r ≡ None → (n : ℕ) (l : LinkOf D) → holder own ≡ Some n →
    slice_get links n ≡ Some l → is_live l.port.phase ≡ false
dead_found own links holder caller reached waiting index (Some m) h e n l held there = absurd (cc)
dead_found own links holder caller reached waiting index None (Nowhere _ none) e n l held there =
    not_live_at own (slice_get links n) l (none n) there (index.holds own n held)

pub dead_holder : {D : Type 0} (own : ℕ) (links : List (LinkOf D)) (holder caller : ℕ → Option ℕ) (reached : ℕ → ℕ) (waiting : ℕ) →
    IsIndexed links holder caller reached waiting →
    position (λ (k : LinkOf D). passes (LiveAt own) k.port) links ≡ None →
    (n : ℕ) (l : LinkOf D) → holder own ≡ Some n → slice_get links n ≡ Some l →
    is_live l.port.phase ≡ false
dead_holder {D} own links holder caller reached waiting index none n l held there =
    dead_found own links holder caller reached waiting index (position (λ (k : LinkOf D). passes (LiveAt own) k.port) links)
    (found (λ (k : LinkOf D). passes (LiveAt own) k.port) links) none n l held there
