-- What holds of each answer of the links that is no refusal, by what holds of each link that a row may be of.
use Rattle.accusing_links.proofs.Prelude.{◌≡◌, ℕ, Bool, true, false, Option, Some, None, Result, Ok, Err, List, refl, subst, slice_get, position}
use Rattle.accusing_links.proofs.Prelude.{position-Some, get_or_from_slice_get, LinkRefusal, Port, LinkTest, passes, LinkOf, LinksOf, check}
use Rattle.accusing_links.proofs.Prelude.{on_link, at_number, with_link, with_seen, on_ok}

-- ---- what holds of an answer that is no refusal

abbrev pub Good : {R : Type 0} → (R → Type 0) → Result R LinkRefusal → Type 0
Good {R} G r = (made : R) → r ≡ Ok made → G made

pub good_ok : {R : Type 0} (G : R → Type 0) (made : R) → G made → Good G (Ok made)
good_ok {R} G made is other e = let same : made ≡ other = cc in subst G same is

pub good_err : {R : Type 0} (G : R → Type 0) (refusal : LinkRefusal) → Good G (Err refusal)
good_err G refusal made e = absurd cc

pub good_check : {R : Type 0} (G : R → Type 0) (b : Bool) (refusal : LinkRefusal) (next : Result R LinkRefusal) → (b ≡ true → Good G next) →
    Good G (check b refusal next)
good_check G true refusal next is = is refl
good_check G false refusal next is = good_err G refusal

pub good_on : {X R : Type 0} (G : R → Type 0) (first : Result X LinkRefusal) (next : X → Result R LinkRefusal) →
    ((x : X) → first ≡ Ok x → Good G (next x)) → Good G (on_ok first next)
good_on G (Ok x) next is = is x refl
good_on G (Err refusal) next is = good_err G refusal

-- the row is of this link
pub record IsFound {D : Type 0} (links : List (LinkOf D)) (test : LinkOf D → Bool) (n : ℕ) (l : LinkOf D) : Type 0 where
  pub there : slice_get links n ≡ Some l
  pub passes : test l ≡ true

passes_at : {D : Type 0} (links : List (LinkOf D)) (test : LinkOf D → Bool) (n : ℕ) (l : LinkOf D) → position test links ≡ Some n →
    slice_get links n ≡ Some l → test l ≡ true
passes_at {D} links test n l e at =
    subst (λ (x : LinkOf D). test x ≡ true) (get_or_from_slice_get links n l l at) (position-Some test links n l e).1

module _ {D R : Type 0} (G : R → Type 0) where
  -- the first that passes, or there is none
  at_good : (links : List (LinkOf D)) (test : LinkOf D → Bool) (otherwise : Result R LinkRefusal) (next : ℕ → LinkOf D → Result R LinkRefusal) →
      Good G otherwise → ((n : ℕ) (l : LinkOf D) → IsFound links test n l → Good G (next n l)) →
      Good G (at_number links (position test links) otherwise next)
  at_good links test otherwise next none found = go (position test links) refl
    where
      one : (n : ℕ) (o : Option (LinkOf D)) → position test links ≡ Some n → slice_get links n ≡ o → Good G (on_link n o otherwise next)
      one n None e at = none
      one n (Some l) e at = found n l (record { there = at; passes = passes_at links test n l e at })

      go : (o : Option ℕ) → position test links ≡ o → Good G (at_number links o otherwise next)
      go None e = none
      go (Some n) e = one n (slice_get links n) e refl

  pub link_good : (test : LinkTest) (s : LinksOf D) (otherwise : Result R LinkRefusal) (next : ℕ → LinkOf D → Result R LinkRefusal) →
      Good G otherwise → ((n : ℕ) (l : LinkOf D) → IsFound s.links (λ l. passes test l.port) n l → Good G (next n l)) →
      Good G (with_link test s otherwise next)
  link_good test s otherwise next none found = at_good s.links (λ l. passes test l.port) otherwise next none found

  pub seen_good : (port : LinkOf D → Port) (test : LinkTest) (s : LinksOf D) (otherwise : Result R LinkRefusal)
      (next : ℕ → LinkOf D → Result R LinkRefusal) → Good G otherwise →
      ((n : ℕ) (l : LinkOf D) → IsFound s.links (λ l. passes test (port l)) n l → Good G (next n l)) → Good G (with_seen port test s otherwise next)
  seen_good port test s otherwise next none found = at_good s.links (λ l. passes test (port l)) otherwise next none found
