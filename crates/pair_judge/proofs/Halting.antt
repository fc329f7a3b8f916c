-- How far a side gets in any run of beginnings, where one of its records can't be made.
use Rattle.std.proofs.Common.{◌≡◌, ◌<◌, ◌≤◌, ℕ, List, [], ◌∷◌, ◌++◌, Some, length, take, drop, refl, sym, ap, subst, ◌∙◌, inl, inr, arith, take-take}
use Rattle.std.proofs.lemmas.List.{take-append-drop}
use Rattle.std.proofs.lemmas.Bool.{cases_lt}
use Rattle.std.specs.Prelude.{slice_get, zero, suc}
use Rattle.two_nodes.specs.Nodes.{Nodes, IsRun, start_world}
use Rattle.two_nodes.specs.Past.{BothTell, sent_by, NamesBelow, IsClosed, Offends}
use Rattle.two_nodes.specs.Endings.{LacksUnit, IsStuck}
use Rattle.two_nodes.proofs.Closed.{below_head, below_tail, sent_by-cons}
use Rattle.two_nodes.proofs.Reached.{closed}
use Rattle.two_nodes.proofs.Blame.{no_run_of_refused}
use Rattle.two_nodes.proofs.Ends.{stuck_no_run}

-- ---- beginnings of a list

module _ {X : Type 0} where
  -- an element of a longer list
  got_of_taken : (zs : List X) (i n : ℕ) → i < n → slice_get (take n zs) i ≡ slice_get zs i
  got_of_taken zs i zero l = absurd (omega arith)
  got_of_taken [] i (suc n) l = refl
  got_of_taken (z ∷ zs) zero (suc n) l = refl
  got_of_taken (z ∷ zs) (suc i) (suc n) l = got_of_taken zs i n (omega arith)

  -- a longer beginning goes on
  more_taken : (zs : List X) (n i : ℕ) → n ≤ i → (rest : List X) × (take i zs ≡ take n zs ++ rest)
  more_taken zs n i l =
      (drop n (take i zs), sym (take-append-drop n (take i zs)) ∙ ap (λ (front : List X). front ++ drop n (take i zs)) (take-take n i zs l))

  -- by the element that stands there
  more_behind : (zs : List X) (n i : ℕ) (x : X) → n < i → slice_get zs n ≡ Some x → (rest : List X) × (take i zs ≡ take n zs ++ x ∷ rest)
  more_behind [] n i x l here = absurd (cc)
  more_behind (z ∷ zs) n zero x l here = absurd (omega arith)
  more_behind (z ∷ zs) zero (suc i) x l here = (take i zs, cc)
  more_behind (z ∷ zs) (suc n) (suc i) x l here = let m = more_behind zs n i x (omega arith) here in (m.0, ap (λ (r : List X). z ∷ r) m.1)

-- ---- units of beginnings

module _ {S R U Z : Type 0} (nodes : Nodes S R U Z) where
  pub more_sent : (zs : List R) (n i : ℕ) → n ≤ i → sent_by nodes (take n zs) ≤ sent_by nodes (take i zs)
  more_sent zs zero i l = omega arith
  more_sent zs (suc n) zero l = absurd (omega arith)
  more_sent [] (suc n) (suc i) l = omega arith
  more_sent (z ∷ zs) (suc n) (suc i) l =
      let m = more_sent zs n i (omega arith) in
      let c = sent_by-cons nodes z (take n zs) in
      let d = sent_by-cons nodes z (take i zs) in
      omega arith

  pub all_sent : (zs : List R) (n : ℕ) → sent_by nodes (take n zs) ≤ sent_by nodes zs
  all_sent zs zero = omega arith
  all_sent [] (suc n) = omega arith
  all_sent (z ∷ zs) (suc n) =
      let m = all_sent zs n in
      let c = sent_by-cons nodes z (take n zs) in
      let d = sent_by-cons nodes z zs in
      omega arith

  -- what a record of a beginning names is below what bounds the beginning
  pub named_below : (zs : List R) (count n i : ℕ) (r : R) (k : ℕ) → n < i → NamesBelow nodes count (take i zs) → slice_get zs n ≡ Some r →
      nodes.named r ≡ Some k → k < count
  named_below [] count n i r k l names here name = absurd (cc)
  named_below (z ∷ zs) count n zero r k l names here name = absurd (omega arith)
  named_below (z ∷ zs) count zero (suc i) r k l names here name = below_head nodes count z (take i zs) names k (cc)
  named_below (z ∷ zs) count (suc n) (suc i) r k l names here name =
      named_below zs count n i r k (omega arith) (below_tail nodes count z (take i zs) names) here name

-- ---- how far side a gets

module _ {S R U Z : Type 0} (nodes : Nodes S R U Z) (tells : BothTell nodes) (first_a first_b : S) (xs ys : List R) where
  -- so many records of a and of b are a run
  abbrev pub Reaches : ℕ → ℕ → Type 0
  Reaches i j = IsRun nodes (start_world first_a first_b) (take i xs) (take j ys)

  closed_at : (i j : ℕ) → Reaches i j → IsClosed nodes (take i xs) (take j ys)
  closed_at i j run = closed nodes tells first_a first_b run.1

  -- no further than a record that offends
  pub not_past_offender : (n : ℕ) (z : Z) → Offends nodes (start_world first_a first_b) xs ys n z → (i j : ℕ) → i ≤ length xs → j ≤ length ys →
      Reaches i j → i ≤ n
  not_past_offender n z o i j within_a within_b run = elim (cases_lt n i) [
    | inr not_further ↦ omega arith
    | inl further ↦
        let c = closed_at i j run in
        let least = o.past.least i j (record {
          within_a = within_a;
          within_b = within_b;
          closed = c;
          earlier = omega arith;
          named_unit = λ r k here name. named_below nodes xs (sent_by nodes (take j ys)) n i r k further c.of_a here name;
        }) in
        let own = more_behind xs n i o.offender further o.place in
        let other = more_taken ys o.of_other j least.1 in
        absurd (no_run_of_refused nodes (start_world first_a first_b) o.world (take n xs) (take o.of_other ys) own.0 other.0 o.offender z o.run
        o.refused
        (subst (λ (l : List R). IsRun nodes (start_world first_a first_b) (take n xs ++ o.offender ∷ own.0) l) other.1
        (subst (λ (l : List R). IsRun nodes (start_world first_a first_b) l (take j ys)) own.1 run)))
  ]

  -- what a record names that is made is sent
  pub named_is_sent : (n i j k : ℕ) (r : R) → n < i → slice_get xs n ≡ Some r → nodes.named r ≡ Some k → Reaches i j → k < sent_by nodes (take j ys)
  named_is_sent n i j k r further here name run = named_below nodes xs (sent_by nodes (take j ys)) n i r k further (closed_at i j run).of_a here name

  -- no further than a record whose unit is never sent
  pub not_past_missing : (n : ℕ) → LacksUnit nodes (start_world first_a first_b) xs ys n → (i j : ℕ) → Reaches i j → i ≤ n
  not_past_missing n lacks i j run = elim (cases_lt n i) [
    | inr not_further ↦ omega arith
    | inl further ↦
        let m = lacks.missing in
        let sent = named_is_sent n i j m.unit m.waiting further m.is_here m.names run in
        let all = all_sent nodes ys j in
        let beyond = m.beyond in
        absurd (omega arith)
  ]

  -- nor past both places of a pair that is stuck
  not_past_both : (i j : ℕ) → IsStuck nodes (start_world first_a first_b) xs ys i j → (i' j' : ℕ) → i < i' → j < j' → ¬ Reaches i' j'
  not_past_both i j stuck i' j' further_a further_b run =
      let a = take-take i i' xs (omega arith) in
      let b = take-take j j' ys (omega arith) in
      stuck_no_run nodes tells first_a first_b (take i' xs) (take j' ys) i j (record {
        run = rw (a, b) stuck.run;
        missing_a = rw (b, got_of_taken xs i i' further_a) stuck.missing_a;
        missing_b = rw (a, got_of_taken ys j j' further_b) stuck.missing_b;
      }) run

  -- nor past the place of its own
  pub not_past_stuck : (i j : ℕ) → IsStuck nodes (start_world first_a first_b) xs ys i j → (i' j' : ℕ) → Reaches i' j' → i' ≤ i
  not_past_stuck i j stuck i' j' run = elim (cases_lt i i') [
    | inr not_further ↦ omega arith
    | inl further ↦ elim (cases_lt j j') [
      | inl b_further ↦ absurd (not_past_both i j stuck i' j' further b_further run)
      | inr b_not ↦
          let m = stuck.missing_a in
          let sent = named_is_sent i i' j' m.unit m.waiting further m.is_here m.names run in
          let fewer = more_sent nodes ys j' j (omega arith) in
          let beyond = m.beyond in
          absurd (omega arith)
    ]
  ]
