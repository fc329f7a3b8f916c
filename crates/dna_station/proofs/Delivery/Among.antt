-- Where the periods that took packets went with periods that rise, and each took a beginning of what its partner gave, all that was
-- taken stands in order among all that was given.
use Rattle.std.proofs.Common.{◌≡◌, ℕ, zero, suc, ◌+◌, ◌-◌, ◌<◌, ◌≤◌, ◌⊎◌, inl, inr, Option, Some, None, List, [], ◌∷◌, ◌++◌, take, drop, refl, sym}
use Rattle.std.proofs.Common.{ap, ◌∙◌, subst, arith, append_assoc, append-nil, take-append-drop, drop-drop}
use Rattle.std.specs.Prelude.{slice_get, flat_map}
use Rattle.std.proofs.lemmas.Grind.{flat_map-append}
use Rattle.std.proofs.lemmas.Option.{same_Some}
use Rattle.dna_station.specs.Station.{Station, PastPeriod, past, packets_of, all_given}
use Rattle.dna_station.specs.Delivery.{periods, IsDelivered, DeliversFrom, AreAmong, NoMore, Next, Skipped, all_taken}
use Rattle.two_nodes.specs.Beginning.{BeginsWith}
use Rattle.dna_station.proofs.Delivery.InOrder.{AreInOrder}

abbrev taken_of : PastPeriod → List (List ℕ)
taken_of period = period.taken

abbrev given_of : PastPeriod → List (List ℕ)
given_of period = period.given

among_behind : (before xs ys : List (List ℕ)) → AreAmong xs ys → AreAmong xs (before ++ ys)
among_behind [] xs ys a = a
among_behind (b ∷ before) xs ys a = Skipped (among_behind before xs ys a)

among_begun : (begun xs ys : List (List ℕ)) → AreAmong xs ys → AreAmong (begun ++ xs) (begun ++ ys)
among_begun [] xs ys a = a
among_begun (b ∷ begun) xs ys a = Next (among_begun begun xs ys a)

-- from a later period on
among_later : (xs : List (List ℕ)) (ps : List PastPeriod) (k p : ℕ) → k ≤ p → AreAmong xs (flat_map given_of (drop p ps)) →
    AreAmong xs (flat_map given_of (drop k ps))
among_later xs ps k p l a =
    let place : k + (p - k) ≡ p = omega arith in
    let rest : drop (p - k) (drop k ps) ≡ drop p ps = drop-drop (p - k) k ps ∙ ap (λ (n : ℕ). drop n ps) place in
    let whole : flat_map given_of (take (p - k) (drop k ps)) ++ flat_map given_of (drop p ps) ≡ flat_map given_of (drop k ps) =
    ap (λ (x : List PastPeriod). flat_map given_of (take (p - k) (drop k ps)) ++ flat_map given_of x) (sym rest)
    ∙ sym (flat_map-append given_of (take (p - k) (drop k ps)) (drop (p - k) (drop k ps)))
    ∙ ap (flat_map given_of) (take-append-drop (p - k) (drop k ps)) in
    subst (λ (ys : List (List ℕ)). AreAmong xs ys) whole
    (among_behind (flat_map given_of (take (p - k) (drop k ps))) xs (flat_map given_of (drop p ps)) a)

item_first : (ps : List PastPeriod) (p : ℕ) (y : PastPeriod) → slice_get ps p ≡ Some y → drop p ps ≡ y ∷ drop (suc p) ps
item_first [] p y at = absurd cc
item_first (x ∷ ps) zero y at = ap (λ (z : PastPeriod). z ∷ ps) (same_Some x y at)
item_first (x ∷ ps) (suc p) y at = item_first ps p y at

-- what one period took, and then what later ones took
among_next : (taken xs : List (List ℕ)) (ps : List PastPeriod) (p : ℕ) (y : PastPeriod) → slice_get ps p ≡ Some y → BeginsWith y.given taken →
    AreAmong xs (flat_map given_of (drop (suc p) ps)) → AreAmong (taken ++ xs) (flat_map given_of (drop p ps))
among_next taken xs ps p y at b a =
    let whole : flat_map given_of (drop p ps) ≡ taken ++ (b.rest ++ flat_map given_of (drop (suc p) ps)) =
    ap (flat_map given_of) (item_first ps p y at) ∙ ap (λ (l : List (List ℕ)). l ++ flat_map given_of (drop (suc p) ps)) b.whole ∙
    append_assoc taken b.rest (flat_map given_of (drop (suc p) ps)) in
    subst (λ (ys : List (List ℕ)). AreAmong (taken ++ xs) ys) (sym whole)
    (among_begun taken xs _ (among_behind b.rest xs (flat_map given_of (drop (suc p) ps)) a))

-- a partner at or above this period, if packets were taken
abbrev IsAbove : ℕ → PastPeriod → Type 0
IsAbove k x = (x.taken ≡ []) ⊎ ((p : ℕ) × (x.partner ≡ Some p) × (k ≤ p))

module _ (ps : List PastPeriod) where
  among_all : (xs : List PastPeriod) (k : ℕ) → ((q : ℕ) (x : PastPeriod) → slice_get xs q ≡ Some x → IsDelivered x.partner x.taken ps) →
      ((q r : ℕ) (x y : PastPeriod) → q < r → slice_get xs q ≡ Some x → slice_get xs r ≡ Some y → AreInOrder x y) →
      ((q : ℕ) (x : PastPeriod) → slice_get xs q ≡ Some x → IsAbove k x) → AreAmong (flat_map taken_of xs) (flat_map given_of (drop k ps))
  among_all [] k delivered rising above = NoMore
  among_all (x ∷ xs) k delivered rising above =
      go (λ n over. among_all xs n (λ q y at. delivered (suc q) y at) (λ q r y z less at_q at_r. rising (suc q) (suc r) y z (omega arith) at_q at_r)
      over) x.taken refl (above 0 x refl)
    where
      -- behind a period that took packets from period p, the others are above it
      later : (p : ℕ) (t : List ℕ) (ts : List (List ℕ)) → x.taken ≡ t ∷ ts → x.partner ≡ Some p → (y : PastPeriod) → AreInOrder x y →
          IsAbove (suc p) y
      later p t ts took is y (inl none) = absurd cc
      later p t ts took is y (inr (inl none)) = inl none
      later p t ts took is y (inr (inr r)) = let same : r.low ≡ p = same_Some r.low p (sym r.one_is ∙ is) in let b = r.below in
          inr (r.high, r.other_is, omega arith)

      go : ((n : ℕ) → ((q : ℕ) (y : PastPeriod) → slice_get xs q ≡ Some y → IsAbove n y) →
          AreAmong (flat_map taken_of xs) (flat_map given_of (drop n ps))) →
          (l : List (List ℕ)) → x.taken ≡ l → IsAbove k x → AreAmong (x.taken ++ flat_map taken_of xs) (flat_map given_of (drop k ps))
      go rest [] none a = subst (λ (l : List (List ℕ)). AreAmong (l ++ flat_map taken_of xs) (flat_map given_of (drop k ps))) (sym none)
          (rest k (λ q y at. above (suc q) y at))
      go rest (t ∷ ts) took (inl none) = absurd cc
      go rest (t ∷ ts) took (inr (p, is, l)) =
          let d : IsDelivered (Some p) x.taken ps = subst (λ (o : Option ℕ). IsDelivered o x.taken ps) is (delivered 0 x refl) in
          among_later (x.taken ++ flat_map taken_of xs) ps k p l
          (among_next x.taken (flat_map taken_of xs) ps p d.0 d.1 d.2
          (rest (suc p) (λ q y at. later p t ts took is y (rising 0 (suc q) x y (omega arith) refl at))))

-- all packets given, by periods
all_given_is : (s : Station) → flat_map given_of (periods s) ≡ all_given s
all_given_is s = flat_map-append given_of s.earlier (past s ∷ []) ∙ ap (λ (l : List (List ℕ)). packets_of s.earlier ++ l) (append-nil s.packets)

is_above_0 : (own other : Station) → DeliversFrom own other → (q : ℕ) (x : PastPeriod) → slice_get (periods own) q ≡ Some x → IsAbove 0 x
is_above_0 own other delivers q x at = go x.partner refl (delivers q x at)
  where
    go : (partner : Option ℕ) → x.partner ≡ partner → IsDelivered partner x.taken (periods other) → IsAbove 0 x
    go None is d = inl d
    go (Some p) is d = inr (p, is, omega arith)

pub taken_among_given : (own other : Station) → DeliversFrom own other →
    ((q r : ℕ) (x y : PastPeriod) → q < r → slice_get (periods own) q ≡ Some x → slice_get (periods own) r ≡ Some y → AreInOrder x y) →
    AreAmong (all_taken own) (all_given other)
taken_among_given own other delivers rising =
    subst (λ (ys : List (List ℕ)). AreAmong (all_taken own) ys) (all_given_is other)
    (among_all (periods other) (periods own) 0 delivers rising (is_above_0 own other delivers))
