-- Lists of which only what is judged is left: look-ups and changes go along.
use Rattle.dna_leaving.proofs.Prelude.{◌≡◌, ℕ, zero, suc, ◌+◌, ◌<◌, ◌≤◌, Bool, true, false, not, ltb, cond, Option, Some, None, List, [], ◌∷◌, ◌++◌}
use Rattle.dna_leaving.proofs.Prelude.{map, refl, sym, ap, ◌∙◌, arith, option_map, lt-ltb, le-ltb, ◌⊎◌, inl, inr, length, slice_get, slice_set}
use Rattle.dna_leaving.proofs.Prelude.{position, prefix_len, cases_lt, Marks, behind, judged_of, rank}

-- ---- the first that passes

module _ {X : Type 0} (p : X → Bool) where
  abbrev first_at : List X → ℕ
  first_at xs = prefix_len (λ x. not (p x)) xs

  abbrev found_at : Bool → ℕ → Option ℕ
  found_at within n = cond within (Some n) None

  same_lt : (k len : ℕ) → ltb (1 + k) (suc len) ≡ ltb k len
  same_lt k len = go (cases_lt k len)
    where
      go : (k < len) ⊎ (len ≤ k) → ltb (1 + k) (suc len) ≡ ltb k len
      go (inl l) = let a = lt-ltb k len l in let b = lt-ltb (1 + k) (suc len) (omega arith) in cc
      go (inr m) = let a = le-ltb k len m in let b = le-ltb (1 + k) (suc len) (omega arith) in cc

  one_on : (within : Bool) (k : ℕ) → found_at within (1 + k) ≡ option_map suc (found_at within k)
  one_on true k = let e : 1 + k ≡ suc k = omega arith in ap Some e
  one_on false k = refl

  position_cons : (b : Bool) (x : X) (xs : List X) → p x ≡ b → position p (x ∷ xs) ≡ cond b (Some zero) (option_map suc (position p xs))
  position_cons true x xs e =
      let first : ltb 0 (suc (length xs)) ≡ true = lt-ltb 0 (suc (length xs)) (omega arith) in rw (e, first) refl
  position_cons false x xs e = rw (e) (rw (same_lt (first_at xs) (length xs)) (one_on (ltb (first_at xs) (length xs)) (first_at xs)))

  -- what is not judged does not pass
  abbrev pub OnlyJudged : Marks → List X → Type 0
  OnlyJudged marks xs = (n : ℕ) (x : X) → slice_get xs n ≡ Some x → marks n ≡ false → p x ≡ false

  ranked : (b : Bool) (marks : Marks) → marks zero ≡ b → (o : Option ℕ) →
      option_map (rank marks) (option_map suc o) ≡ cond b (option_map suc (option_map (rank (behind marks)) o)) (option_map (rank (behind marks)) o)
  ranked true marks e None = refl
  ranked false marks e None = refl
  ranked true marks e (Some k) = rw (e) refl
  ranked false marks e (Some k) = rw (e) refl

  pub position_judged : (marks : Marks) (xs : List X) → OnlyJudged marks xs → position p (judged_of marks xs) ≡ option_map (rank marks)
      (position p xs)
  position_judged marks [] only = refl
  position_judged marks (x ∷ xs) only = at (marks zero) (p x) refl refl (position_judged (behind marks) xs (λ n y there out. only
      (suc n) y there out))
    where
      at : (m b : Bool) → marks zero ≡ m → p x ≡ b → position p (judged_of (behind marks) xs) ≡ option_map (rank (behind marks)) (position p xs) →
          position p (judged_of marks (x ∷ xs)) ≡ option_map (rank marks) (position p (x ∷ xs))
      at true true e passed later =
          ap (λ (c : Bool). position p (cond c (x ∷ judged_of (behind marks) xs) (judged_of (behind marks) xs))) e
          ∙ position_cons true x (judged_of (behind marks) xs) passed ∙ ap (option_map (rank marks)) (sym (position_cons true x xs passed))
      at true false e failed later =
          ap (λ (c : Bool). position p (cond c (x ∷ judged_of (behind marks) xs) (judged_of (behind marks) xs))) e
          ∙ position_cons false x (judged_of (behind marks) xs) failed ∙ ap (option_map suc) later
          ∙ sym (ranked true marks e (position p xs)) ∙ ap (option_map (rank marks)) (sym (position_cons false x xs failed))
      at false b e passes later =
          let failed : p x ≡ false = only zero x refl e in
          ap (λ (c : Bool). position p (cond c (x ∷ judged_of (behind marks) xs) (judged_of (behind marks) xs))) e ∙ later
          ∙ sym (ranked false marks e (position p xs)) ∙ ap (option_map (rank marks)) (sym (position_cons false x xs failed))

-- ---- one of a list

module _ {X : Type 0} where
  pub judged_at : (marks : Marks) (xs : List X) (n : ℕ) → marks n ≡ true → slice_get (judged_of marks xs) (rank marks n) ≡ slice_get xs n
  judged_at marks [] n judged = refl
  judged_at marks (x ∷ xs) zero judged = rw (judged) refl
  judged_at marks (x ∷ xs) (suc n) judged = at (marks zero) refl (judged_at (behind marks) xs n judged)
    where
      at : (m : Bool) → marks zero ≡ m → slice_get (judged_of (behind marks) xs) (rank (behind marks) n) ≡ slice_get xs n →
          slice_get (judged_of marks (x ∷ xs)) (rank marks (suc n)) ≡ slice_get xs n
      at true e later = rw (e) later
      at false e later = rw (e) later

  pub judged_set : (marks : Marks) (xs : List X) (n : ℕ) (y : X) → marks n ≡ true →
      judged_of marks (slice_set xs n y) ≡ slice_set (judged_of marks xs) (rank marks n) y
  judged_set marks [] n y judged = refl
  judged_set marks (x ∷ xs) zero y judged = rw (judged) refl
  judged_set marks (x ∷ xs) (suc n) y judged = at (marks zero) refl (judged_set (behind marks) xs n y judged)
    where
      at : (m : Bool) → marks zero ≡ m →
          judged_of (behind marks) (slice_set xs n y) ≡ slice_set (judged_of (behind marks) xs) (rank (behind marks) n) y →
          judged_of marks (x ∷ slice_set xs n y) ≡ slice_set (judged_of marks (x ∷ xs)) (rank marks (suc n)) y
      at true e later = rw (e) (ap (λ (ys : List X). x ∷ ys) later)
      at false e later = rw (e) later

  -- what is not judged may change
  pub out_set : (marks : Marks) (xs : List X) (n : ℕ) (y : X) → marks n ≡ false → judged_of marks (slice_set xs n y) ≡ judged_of marks xs
  out_set marks [] n y out = refl
  out_set marks (x ∷ xs) zero y out = rw (out) refl
  out_set marks (x ∷ xs) (suc n) y out = at (marks zero) refl (out_set (behind marks) xs n y out)
    where
      at : (m : Bool) → marks zero ≡ m → judged_of (behind marks) (slice_set xs n y) ≡ judged_of (behind marks) xs →
          judged_of marks (x ∷ slice_set xs n y) ≡ judged_of marks (x ∷ xs)
      at true e later = rw (e) (ap (λ (ys : List X). x ∷ ys) later)
      at false e later = rw (e) later

  -- one that begins
  pub judged_more : (marks : Marks) (xs : List X) (y : X) → marks (length xs) ≡ true → judged_of marks (xs ++ y ∷ []) ≡ judged_of marks xs ++ y ∷ []
  judged_more marks [] y judged = rw (judged) refl
  judged_more marks (x ∷ xs) y judged = at (marks zero) refl (judged_more (behind marks) xs y judged)
    where
      at : (m : Bool) → marks zero ≡ m → judged_of (behind marks) (xs ++ y ∷ []) ≡ judged_of (behind marks) xs ++ y ∷ [] →
          judged_of marks (x ∷ (xs ++ y ∷ [])) ≡ judged_of marks (x ∷ xs) ++ y ∷ []
      at true e later = rw (e) (ap (λ (ys : List X). x ∷ ys) later)
      at false e later = rw (e) later

  pub out_more : (marks : Marks) (xs : List X) (y : X) → marks (length xs) ≡ false → judged_of marks (xs ++ y ∷ []) ≡ judged_of marks xs
  out_more marks [] y out = rw (out) refl
  out_more marks (x ∷ xs) y out = at (marks zero) refl (out_more (behind marks) xs y out)
    where
      at : (m : Bool) → marks zero ≡ m → judged_of (behind marks) (xs ++ y ∷ []) ≡ judged_of (behind marks) xs →
          judged_of marks (x ∷ (xs ++ y ∷ [])) ≡ judged_of marks (x ∷ xs)
      at true e later = rw (e) (ap (λ (ys : List X). x ∷ ys) later)
      at false e later = rw (e) later

  -- what is there was judged
  pub was_judged : (marks : Marks) (xs : List X) (k : ℕ) (x : X) → slice_get (judged_of marks xs) k ≡ Some x →
      (n : ℕ) × (marks n ≡ true) × (slice_get xs n ≡ Some x)
  was_judged marks [] k x there = absurd cc
  was_judged marks (y ∷ xs) k x there = at (marks zero) refl k (λ j e. was_judged (behind marks) xs j x e) there
    where
      at : (m : Bool) → marks zero ≡ m → (k : ℕ) →
          ((j : ℕ) → slice_get (judged_of (behind marks) xs) j ≡ Some x → (n : ℕ) × (marks (suc n) ≡ true) × (slice_get xs n ≡ Some x)) →
          slice_get (cond (marks zero) (y ∷ judged_of (behind marks) xs) (judged_of (behind marks) xs)) k ≡ Some x →
          (n : ℕ) × (marks n ≡ true) × (slice_get (y ∷ xs) n ≡ Some x)
      at true e zero later there =
          let here : Some y ≡ Some x = sym (ap (λ (b : Bool). slice_get (cond b (y ∷ judged_of (behind marks) xs) (judged_of
          (behind marks) xs)) zero) e) ∙ there in
          (zero, e, here)
      at true e (suc j) later there =
          let further =
          later j
          (sym (ap (λ (b : Bool). slice_get (cond b (y ∷ judged_of (behind marks) xs) (judged_of (behind marks) xs)) (suc j)) e) ∙ there) in
          (suc further.0, further.1, further.2)
      at false e k later there =
          let further = later k (sym (ap (λ (b : Bool). slice_get (cond b (y ∷ judged_of (behind marks) xs) (judged_of (behind marks) xs)) k) e)
          ∙ there) in
          (suc further.0, further.1, further.2)

  -- other marks that say the same of all there are
  pub judged_alike : (marks other : Marks) (xs : List X) → ((n : ℕ) → n < length xs → marks n ≡ other n) → judged_of marks xs ≡ judged_of other xs
  judged_alike marks other [] same = refl
  judged_alike marks other (x ∷ xs) same =
      at (other zero) refl (same zero (omega arith)) (judged_alike (behind marks) (behind other) xs (λ n less. same (suc n) (omega arith)))
    where
      at : (m : Bool) → other zero ≡ m → marks zero ≡ other zero → judged_of (behind marks) xs ≡ judged_of (behind other) xs →
          judged_of marks (x ∷ xs) ≡ judged_of other (x ∷ xs)
      at true e f later = rw (f, e) (ap (λ (ys : List X). x ∷ ys) later)
      at false e f later = rw (f, e) later

module _ {X Y : Type 0} (f : X → Y) where
  pub judged_map : (marks : Marks) (xs : List X) → judged_of marks (map f xs) ≡ map f (judged_of marks xs)
  judged_map marks [] = refl
  judged_map marks (x ∷ xs) = at (marks zero) refl (judged_map (behind marks) xs)
    where
      at : (m : Bool) → marks zero ≡ m → judged_of (behind marks) (map f xs) ≡ map f (judged_of (behind marks) xs) →
          judged_of marks (f x ∷ map f xs) ≡ map f (judged_of marks (x ∷ xs))
      at true e later = rw (e) (ap (λ (ys : List Y). f x ∷ ys) later)
      at false e later = rw (e) later

-- ---- numbers

pub rank_alike : (marks other : Marks) (n : ℕ) → ((k : ℕ) → k < n → marks k ≡ other k) → rank marks n ≡ rank other n
rank_alike marks other zero same = refl
rank_alike marks other (suc n) same =
    at (other zero) refl (same zero (omega arith)) (rank_alike (behind marks) (behind other) n (λ k less. same (suc k) (omega arith)))
  where
    at : (m : Bool) → other zero ≡ m → marks zero ≡ other zero → rank (behind marks) n ≡ rank (behind other) n →
        rank marks (suc n) ≡ rank other (suc n)
    at true e f later = rw (f, e) (ap suc later)
    at false e f later = rw (f, e) later

-- no two that are judged get one number
pub rank_one : (marks : Marks) (n k : ℕ) → marks n ≡ true → marks k ≡ true → rank marks n ≡ rank marks k → n ≡ k
rank_one marks zero zero of_n of_k same = refl
rank_one marks zero (suc k) of_n of_k same = let none : zero ≡ suc (rank (behind marks) k) = same ∙ rw (of_n) refl in absurd (omega arith)
rank_one marks (suc n) zero of_n of_k same = let none : suc (rank (behind marks) n) ≡ zero = rw (of_k) refl ∙ same in absurd (omega arith)
rank_one marks (suc n) (suc k) of_n of_k same = at (marks zero) refl (rank_one (behind marks) n k of_n of_k)
  where
    at : (m : Bool) → marks zero ≡ m → (rank (behind marks) n ≡ rank (behind marks) k → n ≡ k) → suc n ≡ suc k
    at true e later =
        let left : rank marks (suc n) ≡ suc (rank (behind marks) n) = rw (e) refl in
        let right : rank marks (suc k) ≡ suc (rank (behind marks) k) = rw (e) refl in
        let one : suc (rank (behind marks) n) ≡ suc (rank (behind marks) k) = sym left ∙ same ∙ right in ap suc (later (omega (arith, one)))
    at false e later =
        let left : rank marks (suc n) ≡ rank (behind marks) n = rw (e) refl in
        let right : rank marks (suc k) ≡ rank (behind marks) k = rw (e) refl in ap suc (later (sym left ∙ same ∙ right))
