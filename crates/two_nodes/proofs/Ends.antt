-- The two endings are no runs
use Rattle.std.proofs.Common.{◌≡◌, ◌≤◌, List, [], ◌∷◌, ◌++◌, refl, sym, subst, Option, Some, ℕ, Bool, length, take, drop, arith}
use Rattle.std.specs.Prelude.{slice_get, suc}
use Rattle.std.proofs.lemmas.List.{append-nil}
use Rattle.std.proofs.lemmas.Option.{slice_get_past}
use Rattle.two_nodes.specs.Nodes.{Answer, Nodes, Half, World, Run, IsRun, advance, answered, exchanged, exchanged_world, start_world}
use Rattle.two_nodes.specs.Nodes.Answer.{Refuses, Goes, Sends, Reads}
use Rattle.two_nodes.specs.Nodes.Outcome.{Waits}
use Rattle.two_nodes.specs.Nodes.Run.{OfA, OfB}
use Rattle.two_nodes.specs.Past.{AgreesWith, BothTell, sent_by}
use Rattle.two_nodes.specs.Endings.{NamesBeyond, LacksUnit, IsStuck}
use Rattle.two_nodes.proofs.Order.{any_order, exchange}
use Rattle.two_nodes.proofs.Closed.{both_tell, sent_by_b}
use Rattle.two_nodes.proofs.Reached.{waits}
use Rattle.two_nodes.proofs.Listed.{next_at, divided, run_taken}
use Rattle.std.proofs.Math.Seq.{take-append_seam}

-- a record that names a unit which is not there waits
pub waits_for : {S U Z : Type 0} (own other : Half S U) (answer : Answer S U Z) (name : Option ℕ) (sends : Bool) (k : ℕ) →
    AgreesWith answer name sends → name ≡ Some k → length other.sent ≤ k → answered own other answer ≡ Waits
waits_for own other (Refuses reason) name sends k a e l = absurd (cc)
waits_for own other (Goes next) name sends k a e l = absurd (cc (a.0, e))
waits_for own other (Sends next unit) name sends k a e l = absurd (cc (a.0, e))
waits_for own other (Reads i then) name sends k a e l = let same : i ≡ k = cc (a.0, e) in rw (slice_get_past other.sent i (omega arith)) refl

module _ {S R U Z : Type 0} where
  -- it does not matter which side the nodes are on
  abbrev from_exchanged : (nodes : Nodes S R U Z) (here : Option R) (count : ℕ) → NamesBeyond (exchanged nodes) here count →
      NamesBeyond nodes here count
  from_exchanged nodes here count n = record { waiting = n.waiting; unit = n.unit; is_here = n.is_here; names = n.names; beyond = n.beyond }

  -- both wait
  both_wait : (nodes : Nodes S R U Z) {w e : World S U} (r s : R) {xs ys : List R} → advance nodes.node_a w.a w.b r ≡ Waits →
      advance nodes.node_b w.b w.a s ≡ Waits → Run nodes w (r ∷ xs) (s ∷ ys) e → ⊥
  both_wait nodes r s p q (OfA m rest) = cc
  both_wait nodes r s p q (OfB m rest) = cc

  -- a waits, and b has ended
  one_waits : (nodes : Nodes S R U Z) {w e : World S U} (r : R) {xs : List R} → advance nodes.node_a w.a w.b r ≡ Waits → Run nodes w (r ∷ xs) [] e → ⊥
  one_waits nodes r p (OfA m rest) = cc

  -- what a record that waits names is beyond the units that were sent from the start
  pub beyond : (nodes : Nodes S R U Z) → BothTell nodes → (first_a first_b : S) (w : World S U) (p q xs : List R) (r : R) →
      Run nodes (start_world first_a first_b) p q w → advance nodes.node_a w.a w.b r ≡ Waits →
      NamesBeyond nodes (slice_get (p ++ r ∷ xs) (length p)) (sent_by nodes q)
  beyond nodes tells first_a first_b w p q xs r run w_r =
      let sent = sent_by_b nodes tells first_a first_b w p q run in
      let t = waits w.a w.b (nodes.node_a w.a.state r) (nodes.named r) (nodes.sends r) (tells.of_a w.a.state r) w_r in
      record { waiting = r; unit = t.0; is_here = next_at p xs r; names = t.1; beyond = let l = t.2 in omega arith }

  -- from a world that beginnings reached, the record that names a unit beyond waits
  waits_beyond : (nodes : Nodes S R U Z) → BothTell nodes → (first_a first_b : S) (w : World S U) (p q : List R) (here : Option R) →
      Run nodes (start_world first_a first_b) p q w → (n : NamesBeyond nodes here (sent_by nodes q)) → advance nodes.node_a w.a w.b n.waiting ≡ Waits
  waits_beyond nodes tells first_a first_b w p q here run n =
      let sent = sent_by_b nodes tells first_a first_b w p q run in
      let l = n.beyond in
      waits_for w.a w.b (nodes.node_a w.a.state n.waiting) (nodes.named n.waiting) (nodes.sends n.waiting) n.unit (tells.of_a w.a.state n.waiting)
      n.names (omega arith)

  pub stuck_no_run : (nodes : Nodes S R U Z) → BothTell nodes → (first_a first_b : S) (xs ys : List R) (i j : ℕ) →
      IsStuck nodes (start_world first_a first_b) xs ys i j → IsRun nodes (start_world first_a first_b) xs ys → ⊥
  stuck_no_run nodes tells first_a first_b xs ys i j stuck run =
      let w = stuck.run.0 in
      let r = stuck.missing_a.waiting in
      let s = stuck.missing_b.waiting in
      let start : World S U = start_world first_a first_b in
      both_wait nodes r s
      (waits_beyond nodes tells first_a first_b w (take i xs) (take j ys) (slice_get xs i) stuck.run.1 stuck.missing_a)
      (waits_beyond (exchanged nodes) (both_tell nodes tells) first_b first_a (exchanged_world w) (take j ys) (take i xs) (slice_get ys j)
      (exchange nodes stuck.run.1) (from_exchanged (exchanged nodes) (slice_get ys j) (sent_by nodes (take i xs)) stuck.missing_b))
      (any_order nodes (r ∷ drop (suc i) xs) (s ∷ drop (suc j) ys) stuck.run.1
      (subst (λ (x : List R). Run nodes start x (take j ys ++ s ∷ drop (suc j) ys) run.0) (sym (divided xs i r stuck.missing_a.is_here))
      (subst (λ (y : List R). Run nodes start xs y run.0) (sym (divided ys j s stuck.missing_b.is_here)) run.1)))

  pub lacks_no_run : (nodes : Nodes S R U Z) → BothTell nodes → (first_a first_b : S) (xs ys : List R) (n : ℕ) →
      LacksUnit nodes (start_world first_a first_b) xs ys n → IsRun nodes (start_world first_a first_b) xs ys → ⊥
  lacks_no_run nodes tells first_a first_b xs ys n lacks run =
      let w = lacks.run.0 in
      let r = lacks.missing.waiting in
      let start : World S U = start_world first_a first_b in
      one_waits nodes r
      (waits_beyond nodes tells first_a first_b w (take n xs) ys (slice_get xs n) lacks.run.1 lacks.missing)
      (any_order nodes (r ∷ drop (suc n) xs) [] lacks.run.1
      (subst (λ (x : List R). Run nodes start x (ys ++ []) run.0) (sym (divided xs n r lacks.missing.is_here))
      (subst (λ (y : List R). Run nodes start xs y run.0) (sym (append-nil ys)) run.1)))

  pub waiting_both : (nodes : Nodes S R U Z) → BothTell nodes → (first_a first_b : S) (w : World S U) (p q xs ys : List R) (r s : R) →
      Run nodes (start_world first_a first_b) p q w → advance nodes.node_a w.a w.b r ≡ Waits → advance nodes.node_b w.b w.a s ≡ Waits →
      IsStuck nodes (start_world first_a first_b) (p ++ r ∷ xs) (q ++ s ∷ ys) (length p) (length q)
  waiting_both nodes tells first_a first_b w p q xs ys r s run w_r w_s = record {
    run = (w, run_taken nodes (start_world first_a first_b) w p q (r ∷ xs) (s ∷ ys) run);
    missing_a = subst (λ (y : List R). NamesBeyond nodes (slice_get (p ++ r ∷ xs) (length p)) (sent_by nodes y)) (sym (take-append_seam q (s ∷ ys)))
        (beyond nodes tells first_a first_b w p q xs r run w_r);
    missing_b = subst (λ (x : List R). NamesBeyond nodes (slice_get (q ++ s ∷ ys) (length q)) (sent_by nodes x)) (sym (take-append_seam p (r ∷ xs)))
        (from_exchanged nodes (slice_get (q ++ s ∷ ys) (length q)) (sent_by nodes p)
        (beyond (exchanged nodes) (both_tell nodes tells) first_b first_a (exchanged_world w) q p ys s (exchange nodes run) w_s));
  }

  pub waiting_one : (nodes : Nodes S R U Z) → BothTell nodes → (first_a first_b : S) (w : World S U) (p q xs : List R) (r : R) →
      Run nodes (start_world first_a first_b) p q w → advance nodes.node_a w.a w.b r ≡ Waits →
      LacksUnit nodes (start_world first_a first_b) (p ++ r ∷ xs) q (length p)
  waiting_one nodes tells first_a first_b w p q xs r run w_r = record {
    run = (w, subst (λ (x : List R). Run nodes (start_world first_a first_b) x q w) (sym (take-append_seam p (r ∷ xs))) run);
    missing = beyond nodes tells first_a first_b w p q xs r run w_r;
  }
