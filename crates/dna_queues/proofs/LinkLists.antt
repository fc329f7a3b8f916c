-- Links of which at most one has an own address: what a row does by such an address it does to that link alone.
use Rattle.dna_queues.proofs.Prelude.{◌≡◌, ℕ, zero, suc, Bool, true, false, cond, ◌⊎◌, inl, inr, Option, Some, None, List, [], ◌∷◌, length, map}
use Rattle.dna_queues.proofs.Prelude.{refl, sym, ap, ap₂, ◌∙◌, arith, position, length-set, subst, ◌++◌, slice_get, slice_set, cases_eq, same_Some}
use Rattle.dna_queues.proofs.Prelude.{slice_get_within, Port, LinkTest, passes, is_at, LinkOf, LinksOf, number_of, on_link, at_number, with_link}
use Rattle.dna_queues.proofs.Prelude.{changed, IsFound, position_passes, position_within, position_none, set_same, set_other, there_is}
use Rattle.dna_queues.proofs.Prelude.{position-map, at_pushed}
use Rattle.dna_queues.proofs.Facts.{by_test, by_option, not_both}

pub there_too : {X Y : Type 0} (xs : List X) (ys : List Y) (i : ℕ) (y : Y) → length xs ≡ length ys → slice_get ys i ≡ Some y →
    (x : X) × (slice_get xs i ≡ Some x)
there_too xs ys i y size at = let w = slice_get_within ys i y at in there_is xs i (omega (arith, w, size))

module _ {D : Type 0} where
  abbrev pub IsUnique : LinksOf D → Type 0
  IsUnique s = (i j : ℕ) (l k : LinkOf D) → slice_get s.links i ≡ Some l → slice_get s.links j ≡ Some k → (n : ℕ) → is_at l.port.own n ≡ true →
      is_at k.port.own n ≡ true → i ≡ j

  -- the link with this address has become another, and all else is as it was
  pub record IsChanged (s left : LinksOf D) (address : ℕ) (change : LinkOf D → LinkOf D) : Type 0 where
    pub node : left.node ≡ s.node
    pub peer : left.peer ≡ s.peer
    pub size : length left.links ≡ length s.links
    pub here : (i : ℕ) (l : LinkOf D) → slice_get s.links i ≡ Some l → is_at l.port.own address ≡ true → slice_get left.links i ≡ Some (change l)
    pub other : (i : ℕ) (l : LinkOf D) → slice_get s.links i ≡ Some l → is_at l.port.own address ≡ false → slice_get left.links i ≡ Some l

  -- what is so of the changed link, and of the others, is so of each
  pub changed_each : (s left : LinksOf D) (address : ℕ) (change : LinkOf D → LinkOf D) → IsChanged s left address change →
      (P : LinkOf D → Type 0) (i : ℕ) →
      ((l : LinkOf D) → slice_get s.links i ≡ Some l → is_at l.port.own address ≡ true → P (change l)) →
      ((l : LinkOf D) → slice_get s.links i ≡ Some l → is_at l.port.own address ≡ false → P l) → (k : LinkOf D) →
      slice_get left.links i ≡ Some k → P k
  changed_each s left address change c P i here other k at =
      let w = slice_get_within left.links i k at in
      let size = c.size in
      let t = there_is s.links i (omega (arith, w, size)) in
      by_test (is_at t.0.port.own address)
      (λ e. subst P (same_Some (change t.0) k (sym (c.here i t.0 t.1 e) ∙ at)) (here t.0 t.1 e))
      (λ e. subst P (same_Some t.0 k (sym (c.other i t.0 t.1 e) ∙ at)) (other t.0 t.1 e))

  pub unique_changed : (s left : LinksOf D) (address : ℕ) (change : LinkOf D → LinkOf D) → IsChanged s left address change →
      ((l : LinkOf D) → (change l).port.own ≡ l.port.own) → IsUnique s → IsUnique left
  unique_changed s left address change c same unique i j l k at_i at_j n own_l own_k =
      let p = before i l at_i own_l in let q = before j k at_j own_k in unique i j p.0 q.0 p.1 q.1 n p.2 q.2
    where
      before : (i : ℕ) (k : LinkOf D) → slice_get left.links i ≡ Some k → is_at k.port.own n ≡ true →
          (l : LinkOf D) × (slice_get s.links i ≡ Some l) × (is_at l.port.own n ≡ true)
      before i = changed_each s left address change c
          (λ k. is_at k.port.own n ≡ true → (l : LinkOf D) × (slice_get s.links i ≡ Some l) × (is_at l.port.own n ≡ true)) i
          (λ l there e own. (l, there, ap (λ (o : Option ℕ). is_at o n) (sym (same l)) ∙ own)) (λ l there e own. (l, there, own))

  pub changed_so : (s left : LinksOf D) (address : ℕ) (change further : LinkOf D → LinkOf D) → IsChanged s left address change →
      ((i : ℕ) (l : LinkOf D) → slice_get s.links i ≡ Some l → is_at l.port.own address ≡ true → change l ≡ further l) →
      IsChanged s left address further
  changed_so s left address change further c same = record {
    node = c.node;
    peer = c.peer;
    size = c.size;
    here = λ i l there own. c.here i l there own ∙ ap Some (same i l there own);
    other = c.other;
  }

  pub changed_as : (s left : LinksOf D) (address : ℕ) (change further : LinkOf D → LinkOf D) → IsChanged s left address change →
      ((l : LinkOf D) → change l ≡ further l) → IsChanged s left address further
  changed_as s left address change further c same = changed_so s left address change further c (λ i l there own. same l)

  -- ---- rows

  module _ (s : LinksOf D) (unique : IsUnique s) (address : ℕ) (test : Port → Bool) (f : LinkOf D → LinkOf D)
      (owns : (p : Port) → test p ≡ true → is_at p.own address ≡ true) where
    abbrev pub if_passes : LinkOf D → LinkOf D
    if_passes l = cond (test l.port) (f l) l

    -- no link passes
    pub changed_none : ((i : ℕ) (l : LinkOf D) → slice_get s.links i ≡ Some l → test l.port ≡ false) → IsChanged s s address if_passes
    changed_none none = record {
      node = refl;
      peer = refl;
      size = refl;
      here = λ i l there own. there ∙ ap Some (ap (λ (b : Bool). cond b (f l) l) (sym (none i l there)));
      other = λ i l there own. there;
    }

    -- this one does
    pub changed_one : (n : ℕ) (l : LinkOf D) → slice_get s.links n ≡ Some l → test l.port ≡ true → IsChanged s (changed n (f l) s) address if_passes
    changed_one n l there passed = record {
      node = refl;
      peer = refl;
      size = length-set s.links n (f l);
      here = λ i k at own. here i k at own (unique i n k l at there address own (owns l.port passed));
      other = λ i k at own. set_other s.links n i (f l) (λ e. differs i k at own e) ∙ at;
    }
      where
        here : (i : ℕ) (k : LinkOf D) → slice_get s.links i ≡ Some k → is_at k.port.own address ≡ true → i ≡ n →
            slice_get (slice_set s.links n (f l)) i ≡ Some (if_passes k)
        here i k at own e =
            let same : l ≡ k = same_Some l k (sym there ∙ ap (slice_get s.links) (sym e) ∙ at) in
            ap (slice_get (slice_set s.links n (f l))) e ∙ set_same s.links n l (f l) there
            ∙ ap Some (sym (ap (λ (b : Bool). cond b (f l) l) passed) ∙ ap if_passes same)

        differs : (i : ℕ) (k : LinkOf D) → slice_get s.links i ≡ Some k → is_at k.port.own address ≡ false → i ≡ n → ⊥
        differs i k at own e =
            let same : l ≡ k = same_Some l k (sym there ∙ ap (slice_get s.links) (sym e) ∙ at) in
            let own_l : is_at l.port.own address ≡ true = owns l.port passed in
            let x : true ≡ false = sym own_l ∙ ap (λ (y : LinkOf D). is_at y.port.own address) same ∙ own in absurd cc

  pub at_found : {R : Type 0} (test : LinkTest) (s : LinksOf D) (n : ℕ) (l : LinkOf D) (otherwise : R) (next : ℕ → LinkOf D → R) →
      IsFound test s n l →
      with_link test s otherwise next ≡ next n l
  at_found test s n l otherwise next found =
      ap (λ (o : Option ℕ). at_number s.links o otherwise next) found.found ∙ ap (λ (o : Option (LinkOf D)). on_link n o otherwise next) found.there

  pub at_none : {R : Type 0} (test : LinkTest) (s : LinksOf D) (otherwise : R) (next : ℕ → LinkOf D → R) → number_of test s ≡ None →
      with_link test s otherwise next ≡ otherwise
  at_none test s otherwise next none = ap (λ (o : Option ℕ). at_number s.links o otherwise next) none

  pub none_passes : (test : LinkTest) (s : LinksOf D) → number_of test s ≡ None → (i : ℕ) (l : LinkOf D) → slice_get s.links i ≡ Some l →
      passes test l.port ≡ false
  none_passes test s none i l there = position_none (λ (x : LinkOf D). passes test x.port) s.links i l none there

  -- ---- one link by its number

  pub record IsSet (s left : LinksOf D) (number : ℕ) (k : LinkOf D) : Type 0 where
    pub node : left.node ≡ s.node
    pub peer : left.peer ≡ s.peer
    pub size : length left.links ≡ length s.links
    pub here : slice_get left.links number ≡ Some k
    pub others : (i : ℕ) → (i ≡ number → ⊥) → slice_get left.links i ≡ slice_get s.links i

  pub set_changed : (s : LinksOf D) (number : ℕ) (l k : LinkOf D) → slice_get s.links number ≡ Some l → IsSet s (changed number k s) number k
  set_changed s number l k there = record {
    node = refl;
    peer = refl;
    size = length-set s.links number k;
    here = set_same s.links number l k there;
    others = λ i differs. set_other s.links number i k differs;
  }

  -- nothing has changed
  pub still_set : (s : LinksOf D) (number : ℕ) (k : LinkOf D) → slice_get s.links number ≡ Some k → IsSet s s number k
  still_set s number k there = record { node = refl; peer = refl; size = refl; here = there; others = λ i differs. refl }

  pub was_set : (s left : LinksOf D) (number : ℕ) (k : LinkOf D) → IsSet s left number k → (i : ℕ) (x : LinkOf D) → slice_get left.links i ≡ Some x →
      ((i ≡ number) × (k ≡ x)) ⊎ ((i ≡ number → ⊥) × (slice_get s.links i ≡ Some x))
  was_set s left number k set i x at =
      elim (cases_eq i number) [
        | inl e ↦ inl (e, same_Some k x (sym set.here ∙ ap (slice_get left.links) (sym e) ∙ at))
        | inr d ↦ inr (d, sym (set.others i d) ∙ at)
      ]

  -- what is so of that link, and of the others, is so of each
  pub set_each : (s left : LinksOf D) (number : ℕ) (k : LinkOf D) → IsSet s left number k → (P : ℕ → LinkOf D → Type 0) → P number k →
      ((i : ℕ) (x : LinkOf D) → (i ≡ number → ⊥) → slice_get s.links i ≡ Some x → P i x) → (i : ℕ) (x : LinkOf D) → slice_get left.links i ≡ Some x →
      P i x
  set_each s left number k set P here other i x at =
      elim (was_set s left number k set i x at) [
        | inl a ↦ subst (λ (j : ℕ). P j x) (sym a.0) (subst (P number) a.1 here)
        | inr a ↦ other i x a.0 a.1
      ]

  -- where none but that link has its address at most one has one still
  pub unique_free : (s left : LinksOf D) (number : ℕ) (k : LinkOf D) → IsSet s left number k → IsUnique s →
      ((i : ℕ) (x : LinkOf D) (n : ℕ) → (i ≡ number → ⊥) → slice_get s.links i ≡ Some x → is_at x.port.own n ≡ true → is_at k.port.own n ≡ true →
      ⊥) → IsUnique left
  unique_free s left number k set unique free i j l m at_i at_j n own_l own_m =
      go (was_set s left number k set i l at_i) (was_set s left number k set j m at_j)
    where
      go : ((i ≡ number) × (k ≡ l)) ⊎ ((i ≡ number → ⊥) × (slice_get s.links i ≡ Some l)) →
          ((j ≡ number) × (k ≡ m)) ⊎ ((j ≡ number → ⊥) × (slice_get s.links j ≡ Some m)) → i ≡ j
      go (inl p) (inl q) = p.0 ∙ sym q.0
      go (inl p) (inr q) = absurd (free j m n q.0 q.1 own_m (ap (λ (z : LinkOf D). is_at z.port.own n) p.1 ∙ own_l))
      go (inr p) (inl q) = absurd (free i l n p.0 p.1 own_l (ap (λ (z : LinkOf D). is_at z.port.own n) q.1 ∙ own_m))
      go (inr p) (inr q) = unique i j l m p.1 q.1 n own_l own_m

  pub unique_set : (s left : LinksOf D) (number : ℕ) (h k : LinkOf D) → IsSet s left number k → slice_get s.links number ≡ Some h →
      k.port.own ≡ h.port.own → IsUnique s → IsUnique left
  unique_set s left number h k set there own unique = unique_free s left number k set unique (λ i x n differs at own_x own_k.
      differs (unique i number x h at there n own_x (ap (λ (o : Option ℕ). is_at o n) (sym own) ∙ own_k)))

  -- where this is the only one that can pass it is found
  pub found_one : (s : LinksOf D) → IsUnique s → (test : LinkTest) (own i : ℕ) (l : LinkOf D) →
      ((p : Port) → passes test p ≡ true → is_at p.own own ≡ true) → slice_get s.links i ≡ Some l → passes test l.port ≡ true →
      number_of test s ≡ Some i
  found_one s unique test own i l owns there passed = by_option (number_of test s)
      (λ none. absurd (not_both _ passed (none_passes test s none i l there)))
      (λ j found. let k = there_is s.links j (position_within (λ (x : LinkOf D). passes test x.port) s.links j found) in
      let at = position_passes (λ (x : LinkOf D). passes test x.port) s.links j k.0 found k.1 in
      found ∙ ap Some (unique j i k.0 l k.1 there own (owns k.0.port at) (owns l.port passed)))

-- what is so of the links that stood, and of the one that was added, is so of each
pub pushed_each : {X : Type 0} (xs : List X) (y : X) (P : ℕ → X → Type 0) → ((i : ℕ) (x : X) → slice_get xs i ≡ Some x → P i x) → P (length xs) y →
    (i : ℕ) (x : X) → slice_get (xs ++ y ∷ []) i ≡ Some x → P i x
pushed_each xs y P old new i x at =
    elim (at_pushed xs y x i at) [
      | inl p ↦ old i x p
      | inr p ↦ subst (λ (j : ℕ). P j x) (sym p.0) (subst (P (length xs)) p.1 new)
    ]

module _ {X Y : Type 0} (f : X → Bool) (g : Y → Bool) where
  tests_alike : (xs : List X) (ys : List Y) → length xs ≡ length ys →
      ((i : ℕ) (x : X) (y : Y) → slice_get xs i ≡ Some x → slice_get ys i ≡ Some y → f x ≡ g y) → map f xs ≡ map g ys
  tests_alike [] [] size same = refl
  tests_alike [] (y ∷ ys) size same = absurd (omega (arith, size))
  tests_alike (x ∷ xs) [] size same = absurd (omega (arith, size))
  tests_alike (x ∷ xs) (y ∷ ys) size same =
      ap₂ (λ (p : Bool) (ps : List Bool). p ∷ ps) (same zero x y refl refl)
      (tests_alike xs ys (omega (arith, size)) (λ i h l at_h at_l. same (suc i) h l at_h at_l))

  -- the first that passes is at the same place in both where the same pass
  pub position_same : (xs : List X) (ys : List Y) → length xs ≡ length ys →
      ((i : ℕ) (x : X) (y : Y) → slice_get xs i ≡ Some x → slice_get ys i ≡ Some y → f x ≡ g y) → position f xs ≡ position g ys
  position_same xs ys size same =
      sym (position-map (λ (b : Bool). b) f xs) ∙ ap (position (λ (b : Bool). b)) (tests_alike xs ys size same)
      ∙ position-map (λ (b : Bool). b) g ys

module _ {D E : Type 0} (s : LinksOf D) (t : LinksOf E) (size : length s.links ≡ length t.links) where
  -- the same is found in both where the same pass
  pub number_same : (test : LinkTest) →
      ((i : ℕ) (h : LinkOf D) (l : LinkOf E) → slice_get s.links i ≡ Some h → slice_get t.links i ≡ Some l →
      passes test h.port ≡ passes test l.port) →
      number_of test s ≡ number_of test t
  number_same test same =
      position_same (λ (x : LinkOf D). passes test x.port) (λ (y : LinkOf E). passes test y.port) s.links t.links size same
