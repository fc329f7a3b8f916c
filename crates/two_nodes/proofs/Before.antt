-- A past that is a run holds, of the record's own side, the records before it and no more
use Rattle.std.proofs.Common.{◌≡◌, ◌<◌, ◌≤◌, List, [], ◌∷◌, refl, sym, subst, Option, Some, None, ℕ, length, take, arith, inl, inr, ◌∙◌}
use Rattle.std.specs.Prelude.{slice_get, zero, suc, ◌⊎◌}
use Rattle.std.proofs.lemmas.Bool.{cases_lt}
use Rattle.std.proofs.lemmas.List.{take-take, length-take}
use Rattle.two_nodes.specs.Nodes.{Nodes, World, Run, IsRun, advance, start_world}
use Rattle.two_nodes.specs.Nodes.Run.{Done, OfA, OfB}
use Rattle.two_nodes.specs.Past.{BothTell, HoldsCauses, IsPast}
use Rattle.two_nodes.proofs.Closed.{sent_by_b}
use Rattle.two_nodes.proofs.Reached.{Moves, there, slice_get_none, closed}

-- the world in which an order makes record n of a, which is r
record Before {S R U Z : Type 0} (nodes : Nodes S R U Z) (w : World S U) (xs ys : List R) (n : ℕ) (r : R) : Type 0 where
  of_b : ℕ
  world : World S U
  within : of_b ≤ length ys
  run : Run nodes w (take n xs) (take of_b ys) world
  moves : Moves (advance nodes.node_a world.a world.b r)

slice_get-take : {X : Type 0} (xs : List X) (i n : ℕ) → n < i → slice_get (take i xs) n ≡ slice_get xs n
slice_get-take xs zero n l = absurd (omega arith)
slice_get-take [] (suc i) n l = refl
slice_get-take (x ∷ xs) (suc i) zero l = refl
slice_get-take (x ∷ xs) (suc i) (suc n) l = slice_get-take xs i n (omega arith)

module _ {S R U Z : Type 0} (nodes : Nodes S R U Z) where
  before : {w e : World S U} {xs ys : List R} → Run nodes w xs ys e → (n : ℕ) (r : R) → slice_get xs n ≡ Some r → Before nodes w xs ys n r
  before Done n r at = absurd (cc)
  before {w} (OfA {r = s} m rest) zero r at = record {
    of_b = 0;
    world = w;
    within = omega arith;
    run = Done;
    moves = let same : s ≡ r = cc in subst (λ (x : R). Moves (advance nodes.node_a w.a w.b x)) same (subst Moves (sym m) tt);
  }
  before (OfA m rest) (suc n) r at = let b = before rest n r at in
      record { of_b = b.of_b; world = b.world; within = b.within; run = OfA m b.run; moves = b.moves }
  before (OfB m rest) n r at = let b = before rest n r at in
      record { of_b = suc b.of_b; world = b.world; within = omega (arith, b.within); run = OfB m b.run; moves = b.moves }

  -- the records before record n, with what leads to its world, hold its causes
  holds_before : BothTell nodes → (first_a first_b : S) (xs ys : List R) (n j : ℕ) (r : R) (w : World S U) → n ≤ length xs → j ≤ length ys →
      slice_get xs n ≡ Some r →
      Run nodes (start_world first_a first_b) (take n xs) (take j ys) w → Moves (advance nodes.node_a w.a w.b r) → HoldsCauses nodes xs ys n n j
  holds_before tells first_a first_b xs ys n j r w within_a within_b place run moves = record {
    within_a = within_a;
    within_b = within_b;
    closed = closed nodes tells first_a first_b run;
    earlier = omega arith;
    named_unit = λ s k at name.
        let same : r ≡ s = cc in
        let sent = sent_by_b nodes tells first_a first_b w (take n xs) (take j ys) run in
        let t = there w.a w.b (nodes.node_a w.a.state r) (nodes.named r) (nodes.sends r) k (tells.of_a w.a.state r) (cc) moves in omega arith;
  }

  past_of_next : BothTell nodes → (first_a first_b : S) (xs ys : List R) (n i j : ℕ) (r : R) → slice_get xs n ≡ Some r → n < i →
      IsPast nodes xs ys n i j → IsRun nodes (start_world first_a first_b) (take i xs) (take j ys) → i ≤ n
  past_of_next tells first_a first_b xs ys n i j r place l past run =
      let b = before run.1 n r (slice_get-take xs i n l ∙ place) in
      let short = length-take j ys in
      let within_b = b.within in
      let within_a = past.holds.within_a in
      let fewer : b.of_b ≤ j = omega arith in
      let led = subst (λ (x : List R). Run nodes (start_world first_a first_b) x (take b.of_b ys) b.world) (take-take n i xs (omega arith))
      (subst (λ (y : List R). Run nodes (start_world first_a first_b) (take n (take i xs)) y b.world) (take-take b.of_b j ys fewer) b.run) in
      (past.least n b.of_b (holds_before tells first_a first_b xs ys n b.of_b r b.world (omega arith) (omega arith) place led b.moves)).0

  pub past_is_before : BothTell nodes → (first_a first_b : S) (xs ys : List R) (n i j : ℕ) → IsPast nodes xs ys n i j →
      IsRun nodes (start_world first_a first_b) (take i xs) (take j ys) → i ≡ n
  past_is_before tells first_a first_b xs ys n i j past run = go (slice_get xs n) refl (cases_lt n i)
    where
      earlier : n ≤ i
      earlier = past.holds.earlier

      within : i ≤ length xs
      within = past.holds.within_a

      go : (o : Option R) → slice_get xs n ≡ o → (n < i) ⊎ (i ≤ n) → i ≡ n
      go None at c = let l = slice_get_none xs n at in let p = earlier in let q = within in omega arith
      go (Some r) at (inl l) = let p = past_of_next tells first_a first_b xs ys n i j r at l past run in omega arith
      go (Some r) at (inr l) = let p = earlier in omega arith
