-- A refused record offends
use Rattle.std.proofs.Common.{◌≡◌, ◌<◌, ◌≤◌, List, [], ◌∷◌, ◌++◌, refl, sym, subst, ◌∙◌, Option, Some, None, ℕ, length, take, drop, arith, inl, inr}
use Rattle.std.specs.Prelude.{slice_get, zero, suc}
use Rattle.std.proofs.lemmas.Bool.{cases_lt}
use Rattle.std.proofs.lemmas.List.{take-append-drop, take-take, append-nil}
use Rattle.std.proofs.Math.Decide.{dec_lt}
use Rattle.std.proofs.Math.Seq.{take-length}
use Rattle.two_nodes.specs.Nodes.{Nodes, Half, World, Run, IsRun, advance, start_world}
use Rattle.two_nodes.specs.Nodes.Outcome.{Refused}
use Rattle.two_nodes.specs.Nodes.Run.{OfA, OfB}
use Rattle.two_nodes.specs.Past.{BothTell, sent_by, NamesBelow, IsClosed, IsPast, Offends}
use Rattle.two_nodes.proofs.Order.{any_order, refused_later, made-sent}
use Rattle.two_nodes.proofs.Closed.{below_head, below_tail, closed_run, sent_by_b, answered_early}
use Rattle.two_nodes.proofs.Least.{IsLeast, least_of}
use Rattle.two_nodes.proofs.Reached.{Moves, there, below-cons, sent_more_b, a_rests, closed}

dec_named : (name : Option ℕ) (n : ℕ) → Dec ((k : ℕ) → name ≡ Some k → k < n)
dec_named None n = yes (λ k e. absurd (cc))
dec_named (Some i) n = elim (dec_lt i n) [ yes l ↦ yes (λ k e. let s : i ≡ k = cc in omega arith) | no f ↦ no (λ h. f (h i refl)) ]

dec_both : {A B : Type 0} → Dec A → Dec B → Dec (A × B)
dec_both (yes a) (yes b) = yes (a, b)
dec_both (yes a) (no f) = no (λ p. f p.1)
dec_both (no f) d = no (λ p. f p.0)

module _ {S R U Z : Type 0} (nodes : Nodes S R U Z) where
  dec_below : (n : ℕ) (xs : List R) → Dec (NamesBelow nodes n xs)
  dec_below n [] = yes (λ k d l. absurd (omega arith))
  dec_below n (r ∷ xs) = elim (dec_both (dec_named (nodes.named r) n) (dec_below n xs)) [
    | yes p ↦ yes (below-cons nodes n r xs p.0 p.1)
    | no f ↦ no (λ names. f (below_head nodes n r xs names, below_tail nodes n r xs names))
  ]

  below_take : (n i i' : ℕ) (xs : List R) → i ≤ i' → NamesBelow nodes n (take i' xs) → NamesBelow nodes n (take i xs)
  below_take n zero i' xs l names = λ k d l. absurd (omega arith)
  below_take n (suc i) zero xs l names = absurd (omega arith)
  below_take n (suc i) (suc i') [] l names = names
  below_take n (suc i) (suc i') (r ∷ xs) l names =
      below-cons nodes n r (take i xs) (below_head nodes n r (take i' xs) names)
      (below_take n i i' xs (omega arith) (below_tail nodes n r (take i' xs) names))

  -- j records of b are enough for these of a and a record that names this
  abbrev Enough : List R → List R → Option ℕ → ℕ → Type 0
  Enough own ys name j =
      NamesBelow nodes (sent_by nodes (take j ys)) own ×
      (NamesBelow nodes (sent_by nodes own) (take j ys) × ((k : ℕ) → name ≡ Some k → k < sent_by nodes (take j ys)))

  dec_enough : (own ys : List R) (name : Option ℕ) (j : ℕ) → Dec (Enough own ys name j)
  dec_enough own ys name j =
      dec_both (dec_below (sent_by nodes (take j ys)) own)
      (dec_both (dec_below (sent_by nodes own) (take j ys)) (dec_named name (sent_by nodes (take j ys))))

  -- the least that is enough is the past
  past_is : (xs ys : List R) (n j j' : ℕ) (r : R) → n ≤ length xs → j' ≤ length ys → j ≤ j' → slice_get xs n ≡ Some r →
      IsLeast (Enough (take n xs) ys (nodes.named r)) j → IsPast nodes xs ys n n j
  past_is xs ys n j j' r within_a within_b l place least = record {
    holds = record {
      within_a = within_a;
      within_b = omega arith;
      closed = record { of_a = least.holds.0; of_b = least.holds.1.0 };
      earlier = omega arith;
      named_unit = λ s k at name. let same : r ≡ s = cc in least.holds.1.1 k (cc);
    };
    least = λ i m holds. (
      holds.earlier,
      elim (cases_lt m j) [
        | inr above ↦ above
        | inl below ↦ least.least m (
          below_take (sent_by nodes (take m ys)) n i xs holds.earlier holds.closed.of_a,
          (
            below_take (sent_by nodes (take n xs)) m j ys (omega arith) least.holds.1.0,
            λ k name. holds.named_unit r k place name,
          ),
        )
      ],
    );
  }

module _ {S R U Z : Type 0} where
  -- what refuses a record refuses it whatever b does first
  refused_never_made : (nodes : Nodes S R U Z) {w e : World S U} (r : R) (z : Z) {xs ys : List R} → advance nodes.node_a w.a w.b r ≡ Refused z →
      Run nodes w (r ∷ xs) ys e → ⊥
  refused_never_made nodes r z refused (OfA m rest) = cc
  refused_never_made nodes {w} r z refused (OfB {h = h} {r = s} m rest) =
      refused_never_made nodes r z (refused_later w.a w.b h (made-sent w.b w.a (nodes.node_b w.b.state s) h m) (nodes.node_a w.a.state r) z refused)
      rest

  -- no order makes a refused record
  pub no_run_of_refused : (nodes : Nodes S R U Z) (start w : World S U) (is js xs ys : List R) (r : R) (z : Z) → Run nodes start is js w →
      advance nodes.node_a w.a w.b r ≡ Refused z → IsRun nodes start (is ++ r ∷ xs) (js ++ ys) → ⊥
  no_run_of_refused nodes start w is js xs ys r z reached refused run =
      refused_never_made nodes r z refused (any_order nodes (r ∷ xs) ys reached run.1)

  -- what is refused in a world was refused before the last records of b
  refused_early : (nodes : Nodes S R U Z) → BothTell nodes → (w e : World S U) (ys : List R) (r : R) (z : Z) → Run nodes w [] ys e →
      ((k : ℕ) → nodes.named r ≡ Some k → k < length w.b.sent) →
      advance nodes.node_a e.a e.b r ≡ Refused z → advance nodes.node_a w.a w.b r ≡ Refused z
  refused_early nodes tells w e ys r z run there refused =
      answered_early w.a w.b e.b (sent_more_b nodes run) (nodes.node_a w.a.state r) (nodes.named r) (nodes.sends r) (tells.of_a w.a.state r) there
      ∙ subst (λ (h : Half S U). advance nodes.node_a h e.b r ≡ Refused z) (sym (a_rests nodes run)) refused

  -- fewer records of b are a run too, if they are closed
  fewer : (nodes : Nodes S R U Z) → BothTell nodes → (first_a first_b : S) (w : World S U) (p ys : List R) (j k : ℕ) →
      Run nodes (start_world first_a first_b) p (take j ys) w → k ≤ j →
      IsClosed nodes p (take k ys) → IsRun nodes (start_world first_a first_b) p (take k ys)
  fewer nodes tells first_a first_b w p ys j k run l closed =
      subst (λ (x : List R). IsRun nodes (start_world first_a first_b) x (take k ys)) (take-length p)
      (subst (λ (y : List R). IsRun nodes (start_world first_a first_b) (take (length p) p) y) (take-take k j ys l)
      (closed_run nodes tells first_a first_b w p (take j ys) run (length p) k
      (subst (λ (x : List R). IsClosed nodes x (take k (take j ys))) (sym (take-length p))
      (subst (λ (y : List R). IsClosed nodes p y) (sym (take-take k j ys l)) closed))))

  -- from there the other records of b lead on
  onward : (nodes : Nodes S R U Z) (start v w : World S U) (p ys : List R) (j k : ℕ) → k ≤ j → Run nodes start p (take k ys) v →
      Run nodes start p (take j ys) w → Run nodes v [] (drop k (take j ys)) w
  onward nodes start v w p ys j k l early late =
      any_order nodes [] (drop k (take j ys)) early
      (subst (λ (x : List R). Run nodes start x (take k ys ++ drop k (take j ys)) w) (sym (append-nil p))
      (subst (λ (y : List R). Run nodes start p (y ++ drop k (take j ys)) w) (take-take k j ys l)
      (subst (λ (y : List R). Run nodes start p y w) (sym (take-append-drop k (take j ys))) late)))

  -- the records of b that the world needs for the record
  enough_reached : (nodes : Nodes S R U Z) → BothTell nodes → (first_a first_b : S) (w : World S U) (p ys : List R) (j : ℕ) (r : R) (z : Z) →
      Run nodes (start_world first_a first_b) p (take j ys) w → advance nodes.node_a w.a w.b r ≡ Refused z → Enough nodes p ys (nodes.named r) j
  enough_reached nodes tells first_a first_b w p ys j r z run refused =
      let all = closed nodes tells first_a first_b run in
      let sent = sent_by_b nodes tells first_a first_b w p (take j ys) run in (
        all.of_a,
        (
          all.of_b,
          λ k name.
              let t = there w.a w.b (nodes.node_a w.a.state r) (nodes.named r) (nodes.sends r) k (tells.of_a w.a.state r) name
              (subst Moves (sym refused) tt) in omega arith,
        ),
      )

  -- at the end of the past the record is refused
  refused_at_past : (nodes : Nodes S R U Z) → BothTell nodes → (first_a first_b : S) (v w : World S U) (p ys : List R) (j k : ℕ) (r : R) (z : Z) →
      k ≤ j → Enough nodes p ys (nodes.named r) k →
      Run nodes (start_world first_a first_b) p (take k ys) v → Run nodes (start_world first_a first_b) p (take j ys) w →
      advance nodes.node_a w.a w.b r ≡ Refused z → advance nodes.node_a v.a v.b r ≡ Refused z
  refused_at_past nodes tells first_a first_b v w p ys j k r z l enough early late refused =
      let sent = sent_by_b nodes tells first_a first_b v p (take k ys) early in
      refused_early nodes tells v w (drop k (take j ys)) r z (onward nodes (start_world first_a first_b) v w p ys j k l early late)
      (λ i name. let m = enough.1.1 i name in omega arith) refused

  -- a refused record offends
  pub offends : (nodes : Nodes S R U Z) → BothTell nodes → (first_a first_b : S) (w : World S U) (xs ys : List R) (n j : ℕ) (r : R) (z : Z) →
      n ≤ length xs → j ≤ length ys →
      Run nodes (start_world first_a first_b) (take n xs) (take j ys) w → slice_get xs n ≡ Some r → advance nodes.node_a w.a w.b r ≡ Refused z →
      Offends nodes (start_world first_a first_b) xs ys n z
  offends nodes tells first_a first_b w xs ys n j r z within_a within_b run place refused =
      let own = take n xs in
      let found = least_of (Enough nodes own ys (nodes.named r)) (dec_enough nodes own ys (nodes.named r)) j
      (enough_reached nodes tells first_a first_b w own ys j r z run refused) in
      let least = found.2 in
      let early = fewer nodes tells first_a first_b w own ys j found.0 run found.1 (record { of_a = least.holds.0; of_b = least.holds.1.0 }) in
      record {
        of_other = found.0;
        world = early.0;
        offender = r;
        past = past_is nodes xs ys n found.0 j r within_a within_b found.1 place least;
        run = early.1;
        place = place;
        refused = refused_at_past nodes tells first_a first_b early.0 w own ys j found.0 r z found.1 least.holds early.1 run refused;
      }
