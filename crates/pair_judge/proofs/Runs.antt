-- Units of a line whose tags are kept by runs.
use Rattle.std.proofs.Common.{◌≡◌, ℕ, zero, suc, ◌+◌, ◌<◌, ◌≤◌, cond, ltb, List, [], ◌∷◌, ◌++◌, length, drop, Some, refl, ap, ap₂, ◌∙◌, arith, lt-ltb}
use Rattle.std.proofs.Common.{le-ltb}
use Rattle.std.specs.List.{slice_get}
use Rattle.std.specs.Option.{option_map}
use Rattle.dna_station.specs.declared.tag.Tag.{Tag}
use Rattle.pair_judge.specs.declared.tags.TagRun.{TagRun}
use Rattle.pair_judge.specs.inner.Held.{HeldValue, sent_as}
use Rattle.pair_judge.specs.inner.Runs.{behind, tag_at, units_from}

-- a run behind all others is asked last
joined : (runs : List TagRun) (run : TagRun) (newest : Tag) (number : ℕ) → tag_at (runs ++ run ∷ []) newest number ≡ tag_at runs
    (cond (ltb number run.end) run.tag newest) number
joined [] run newest number = refl
joined (r ∷ runs) run newest number = ap (cond (ltb number r.end) r.tag) (joined runs run newest number)

pub before_end : (runs : List TagRun) (run : TagRun) (newest : Tag) (number : ℕ) → number < run.end → tag_at (runs ++ run ∷ []) newest number ≡ tag_at
    runs run.tag number
before_end runs run newest number below =
    joined runs run newest number ∙ ap (λ b. tag_at runs (cond b run.tag newest) number) (lt-ltb number run.end below)

-- behind all runs stands the newest tag
pub behind_all : (runs : List TagRun) (newest : Tag) (number : ℕ) → behind runs ≤ number → tag_at runs newest number ≡ newest
behind_all [] newest number past = refl
behind_all (run ∷ runs) newest number past =
    ap (λ b. cond b run.tag (tag_at runs newest number)) (le-ltb number run.end (omega arith)) ∙ behind_all runs newest number (omega arith)

pub behind-append : (runs : List TagRun) (run : TagRun) (number : ℕ) → behind runs ≤ number → run.end ≤ number → behind (runs ++ run ∷ []) ≤ number
behind-append [] run number runs_end run_ends = omega arith
behind-append (r ∷ runs) run number runs_end run_ends = omega (arith, behind-append runs run number (omega arith) run_ends)

-- one more unit
pub units_from-append : (tag : ℕ → Tag) (n : ℕ) (xs : List HeldValue) (x : HeldValue) → units_from tag n (xs ++ x ∷ []) ≡ units_from tag n xs ++
    sent_as x (tag (n + length xs)) ∷ []
units_from-append tag n [] x =
    let e : n ≡ n + 0 = omega arith in ap (λ k. sent_as x (tag k) ∷ []) e
units_from-append tag n (y ∷ xs) x =
    let e : n + 1 + length xs ≡ n + length (y ∷ xs) = omega arith in
    ap (λ units. sent_as y (tag n) ∷ units) (units_from-append tag (n + 1) xs x ∙ ap (λ k. units_from tag (n + 1) xs ++ sent_as x (tag k) ∷ []) e)

-- the tags of the units alone count
pub units_from-same : (t u : ℕ → Tag) (n : ℕ) (xs : List HeldValue) → ((k : ℕ) → n ≤ k → k < n + length xs → t k ≡ u k) →
    units_from t n xs ≡ units_from u n xs
units_from-same t u n [] agree = refl
units_from-same t u n (x ∷ xs) agree =
    ap₂ (λ tag units. sent_as x tag ∷ units) (agree n (omega arith) (omega arith))
    (units_from-same t u (n + 1) xs (λ k at_least below. agree k (omega arith) (omega arith)))

pub slice_get-units_from : (tag : ℕ → Tag) (n : ℕ) (xs : List HeldValue) (i : ℕ) → slice_get (units_from tag n xs) i ≡ option_map
    (λ x. sent_as x (tag (n + i))) (slice_get xs i)
slice_get-units_from tag n [] i = refl
slice_get-units_from tag n (x ∷ xs) zero =
    let e : n ≡ n + 0 = omega arith in ap (λ k. Some (sent_as x (tag k))) e
slice_get-units_from tag n (x ∷ xs) (suc i) =
    let e : n + 1 + i ≡ n + suc i = omega arith in
    slice_get-units_from tag (n + 1) xs i ∙ ap (λ k. option_map (λ y. sent_as y (tag k)) (slice_get xs i)) e

pub length-units_from : (tag : ℕ → Tag) (n : ℕ) (xs : List HeldValue) → length (units_from tag n xs) ≡ length xs
length-units_from tag n [] = refl
length-units_from tag n (x ∷ xs) = ap suc (length-units_from tag (n + 1) xs)

pub drop-units_from : (tag : ℕ → Tag) (n k : ℕ) (xs : List HeldValue) → drop k (units_from tag n xs) ≡ units_from tag (n + k) (drop k xs)
drop-units_from tag n zero xs =
    let e : n ≡ n + 0 = omega arith in ap (λ k. units_from tag k xs) e
drop-units_from tag n (suc k) [] = refl
drop-units_from tag n (suc k) (x ∷ xs) =
    let e : n + 1 + k ≡ n + suc k = omega arith in
    drop-units_from tag (n + 1) k xs ∙ ap (λ m. units_from tag m (drop k xs)) e
