-- What offends is to blame: its past is a run, and with the record it is none
use Rattle.std.proofs.Common.{◌≡◌, List, [], ◌∷◌, ◌++◌, refl, sym, subst, Some, ℕ, take, drop, arith}
use Rattle.std.specs.Prelude.{slice_get, suc}
use Rattle.std.proofs.lemmas.List.{append-nil, take-append-drop}
use Rattle.two_nodes.specs.Nodes.{Nodes, World, Outcome, Run, IsRun, advance, start_world}
use Rattle.two_nodes.specs.Nodes.Outcome.{Made, Waits, Refused}
use Rattle.two_nodes.specs.Nodes.Run.{Done, OfA}
use Rattle.two_nodes.specs.Past.{BothTell, IsPast, Offends}
use Rattle.two_nodes.proofs.Order.{run-append}
use Rattle.two_nodes.proofs.Closed.{sent_by_b}
use Rattle.two_nodes.proofs.Reached.{waits}
use Rattle.two_nodes.proofs.Blame.{no_run_of_refused}
use Rattle.two_nodes.proofs.Listed.{divided}
use Rattle.two_nodes.proofs.Before.{past_is_before}

module _ {S R U Z : Type 0} where
  -- the past of an offender followed by the offender is no run
  pub past_and_offender : (nodes : Nodes S R U Z) (start : World S U) (xs ys : List R) (n : ℕ) (z : Z) → (o : Offends nodes start xs ys n z) →
      IsRun nodes start (take n xs ++ o.offender ∷ []) (take o.of_other ys) → ⊥
  past_and_offender nodes start xs ys n z o run =
      no_run_of_refused nodes start o.world (take n xs) (take o.of_other ys) [] [] o.offender z o.run o.refused
      (subst (λ (y : List R). IsRun nodes start (take n xs ++ o.offender ∷ []) y) (sym (append-nil (take o.of_other ys))) run)

  -- with an offender the two lists are no run
  pub offender_no_run : (nodes : Nodes S R U Z) (start : World S U) (xs ys : List R) (n : ℕ) (z : Z) → Offends nodes start xs ys n z →
      IsRun nodes start xs ys → ⊥
  offender_no_run nodes start xs ys n z o run =
      no_run_of_refused nodes start o.world (take n xs) (take o.of_other ys) (drop (suc n) xs) (drop o.of_other ys) o.offender z o.run o.refused
      (subst (λ (x : List R). IsRun nodes start x (take o.of_other ys ++ drop o.of_other ys)) (sym (divided xs n o.offender o.place))
      (subst (λ (y : List R). IsRun nodes start xs y) (sym (take-append-drop o.of_other ys)) run))

  -- what becomes of the record behind its past
  behind_past : (nodes : Nodes S R U Z) → BothTell nodes → (first_a first_b : S) (w : World S U) (xs ys : List R) (n j : ℕ) (r : R) →
      IsPast nodes xs ys n n j → Run nodes (start_world first_a first_b) (take n xs) (take j ys) w → slice_get xs n ≡ Some r →
      (IsRun nodes (start_world first_a first_b) (take n xs ++ r ∷ []) (take j ys) → ⊥) → (o : Outcome S U Z) → advance nodes.node_a w.a w.b r ≡ o →
      (z : Z) × Offends nodes (start_world first_a first_b) xs ys n z
  behind_past nodes tells first_a first_b w xs ys n j r past run place none (Made h) e =
      absurd (none (
        record { a = h; b = w.b },
        subst (λ (y : List R). Run nodes (start_world first_a first_b) (take n xs ++ r ∷ []) y (record { a = h; b = w.b })) (append-nil (take j ys))
            (run-append nodes run (OfA e Done)),
      ))
  behind_past nodes tells first_a first_b w xs ys n j r past run place none Waits e =
      let t = waits w.a w.b (nodes.node_a w.a.state r) (nodes.named r) (nodes.sends r) (tells.of_a w.a.state r) e in
      let sent = sent_by_b nodes tells first_a first_b w (take n xs) (take j ys) run in
      let below = past.holds.named_unit r t.0 place t.1 in
      let above = t.2 in
      absurd (omega arith)
  behind_past nodes tells first_a first_b w xs ys n j r past run place none (Refused z) e =
      (z, record { of_other = j; world = w; offender = r; past = past; run = run; place = place; refused = e })

  -- a record offends where its past is a run and the past followed by it is none
  pub offends_behind_past : (nodes : Nodes S R U Z) → BothTell nodes → (first_a first_b : S) (xs ys : List R) (n i j : ℕ) (r : R) →
      IsPast nodes xs ys n i j → IsRun nodes (start_world first_a first_b) (take i xs) (take j ys) → slice_get xs n ≡ Some r →
      (IsRun nodes (start_world first_a first_b) (take i xs ++ r ∷ []) (take j ys) → ⊥) →
      (z : Z) × Offends nodes (start_world first_a first_b) xs ys n z
  offends_behind_past nodes tells first_a first_b xs ys n i j r past run place none =
      let start : World S U = start_world first_a first_b in
      let same = past_is_before nodes tells first_a first_b xs ys n i j past run in
      let here = subst (λ (m : ℕ). IsRun nodes start (take m xs) (take j ys)) same run in
      behind_past nodes tells first_a first_b here.0 xs ys n j r (subst (λ (m : ℕ). IsPast nodes xs ys n m j) same past) here.1 place
      (subst (λ (m : ℕ). IsRun nodes start (take m xs ++ r ∷ []) (take j ys) → ⊥) same none) (advance nodes.node_a here.0.a here.0.b r) refl
