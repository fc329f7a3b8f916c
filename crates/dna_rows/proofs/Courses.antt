-- How worked rows of two nodes are computed: their records are made one after another, a record of a as long as it can be made, else one of b. What
-- is made or refused in one order is in each, so this order will do.
use Rattle.dna_rows.proofs.Prelude.{◌≡◌, ℕ, zero, suc, ◌+◌, Bool, true, false, Option, Some, None, List, [], ◌∷◌, ◌++◌, length, refl, sym, subst}
use Rattle.dna_rows.proofs.Prelude.{◌∙◌, same_Some, append-nil, append_assoc, Nodes, World, Outcome, Made, Waits, Refused, Run, Done, OfA, OfB}
use Rattle.dna_rows.proofs.Prelude.{IsRun, advance, run-append, Side, A, B, Record, Head, StepRefusal}

-- the heads of the rows: node 1.1 is side a, node 1.2 side b
abbrev pub head_1 : Head
head_1 = record { own = 0x401; peer = 0x402 }

abbrev pub head_2 : Head
head_2 = record { own = 0x402; peer = 0x401 }

pub moved : (made : List Record) (r : Record) (rest all : List Record) → made ++ r ∷ rest ≡ all → (made ++ r ∷ []) ++ rest ≡ all
moved made r rest all e = append_assoc made (r ∷ []) rest ∙ e

module _ {S U : Type 0} (nodes : Nodes S Record U StepRefusal) (start : World S U) where
  abbrev pub Becomes : Type 0
  Becomes = Outcome S U StepRefusal

  abbrev pub at_a : World S U → Record → Becomes
  at_a w r = advance nodes.node_a w.a w.b r

  abbrev pub at_b : World S U → Record → Becomes
  at_b w r = advance nodes.node_b w.b w.a r

  abbrev pub at : Side → World S U → Record → Becomes
  at A w r = at_a w r
  at B w r = at_b w r

  -- How far two captures came: these records are made, and these are left
  pub record Course (of_a of_b : List Record) : Type 0 where
    pub world : World S U
    pub made_a : List Record
    pub made_b : List Record
    pub left_a : List Record
    pub left_b : List Record
    pub run : Run nodes start made_a made_b world
    pub all_a : made_a ++ left_a ≡ of_a
    pub all_b : made_b ++ left_b ≡ of_b

  module _ {of_a of_b : List Record} (c : Course of_a of_b) where
    abbrev b_goes : (y : Record) (ys : List Record) → c.made_b ++ y ∷ ys ≡ of_b → (o : Becomes) → at_b c.world y ≡ o → Course of_a of_b
    b_goes y ys all (Made h) e = record {
      world = record { a = c.world.a; b = h };
      made_a = c.made_a;
      made_b = c.made_b ++ y ∷ [];
      left_a = c.left_a;
      left_b = ys;
      run = subst (λ (xs : List Record). Run nodes start xs (c.made_b ++ y ∷ []) (record { a = c.world.a; b = h })) (append-nil c.made_a)
          (run-append nodes c.run (OfB e Done));
      all_a = c.all_a;
      all_b = moved c.made_b y ys of_b all;
    }
    b_goes y ys all Waits e = c
    b_goes y ys all (Refused reason) e = c

    abbrev next_of_b : (left : List Record) → c.made_b ++ left ≡ of_b → Course of_a of_b
    next_of_b [] all = c
    next_of_b (y ∷ ys) all = b_goes y ys all _ refl

    abbrev a_goes : (x : Record) (xs : List Record) → c.made_a ++ x ∷ xs ≡ of_a → (o : Becomes) → at_a c.world x ≡ o → Course of_a of_b
    a_goes x xs all (Made h) e = record {
      world = record { a = h; b = c.world.b };
      made_a = c.made_a ++ x ∷ [];
      made_b = c.made_b;
      left_a = xs;
      left_b = c.left_b;
      run = subst (λ (ys : List Record). Run nodes start (c.made_a ++ x ∷ []) ys (record { a = h; b = c.world.b })) (append-nil c.made_b)
          (run-append nodes c.run (OfA e Done));
      all_a = moved c.made_a x xs of_a all;
      all_b = c.all_b;
    }
    a_goes x xs all Waits e = next_of_b c.left_b c.all_b
    a_goes x xs all (Refused reason) e = next_of_b c.left_b c.all_b

    abbrev next_of_a : (left : List Record) → c.made_a ++ left ≡ of_a → Course of_a of_b
    next_of_a [] all = next_of_b c.left_b c.all_b
    next_of_a (x ∷ xs) all = a_goes x xs all _ refl

    abbrev next : Course of_a of_b
    next = next_of_a c.left_a c.all_a

  abbrev after : {of_a of_b : List Record} → ℕ → Course of_a of_b → Course of_a of_b
  after zero c = c
  after (suc n) c = after n (next c)

  -- as far as both go, since each step makes one record
  abbrev pub course : (of_a of_b : List Record) → Course of_a of_b
  course of_a of_b = after (length of_a + length of_b)
      (record { world = start; made_a = []; made_b = []; left_a = of_a; left_b = of_b; run = Done; all_a = refl; all_b = refl })

  -- ---- the rows

  -- All records of both are made
  pub record Runs (of_a of_b : List Record) : Type 0 where
    pub is_run : IsRun nodes start of_a of_b

  -- They are made, and this becomes of one more of this side
  pub record EndsAt (side : Side) (of_a of_b : List Record) (next : Record) (outcome : Becomes) : Type 0 where
    pub world : World S U
    pub run : Run nodes start of_a of_b world
    pub becomes : at side world next ≡ outcome

  abbrev if_whole : World S U → (left_a left_b : List Record) → Option (World S U)
  if_whole w [] [] = Some w
  if_whole w (x ∷ xs) ys = None
  if_whole w [] (y ∷ ys) = None

  abbrev end_of : {of_a of_b : List Record} → Course of_a of_b → Option (World S U)
  end_of c = if_whole c.world c.left_a c.left_b

  run_to : {of_a of_b : List Record} (c : Course of_a of_b) (left_a left_b : List Record) (w : World S U) → c.made_a ++ left_a ≡ of_a →
      c.made_b ++ left_b ≡ of_b → if_whole c.world left_a left_b ≡ Some w → Run nodes start of_a of_b w
  run_to {of_a} {of_b} c [] [] w all_a all_b e =
      subst (λ (xs : List Record). Run nodes start xs of_b w) (sym (append-nil c.made_a) ∙ all_a)
      (subst (λ (ys : List Record). Run nodes start c.made_a ys w) (sym (append-nil c.made_b) ∙ all_b)
      (subst (λ (end : World S U). Run nodes start c.made_a c.made_b end) (same_Some c.world w e) c.run))
  run_to c (x ∷ xs) ys w all_a all_b e = absurd cc
  run_to c [] (y ∷ ys) w all_a all_b e = absurd cc

  abbrev is_there : Option (World S U) → Bool
  is_there None = false
  is_there (Some w) = true

  pub runs : {of_a of_b : List Record} → is_there (end_of (course of_a of_b)) ≡ true → Runs of_a of_b
  runs {of_a} {of_b} = go (end_of (course of_a of_b)) refl
    where
      go : (o : Option (World S U)) → end_of (course of_a of_b) ≡ o → is_there o ≡ true → Runs of_a of_b
      go None e there = absurd cc
      go (Some w) e there = let c = course of_a of_b in record { is_run = (w, run_to c c.left_a c.left_b w c.all_a c.all_b e) }

  abbrev becomes_at : Side → Record → Option (World S U) → Option Becomes
  becomes_at side r None = None
  becomes_at side r (Some w) = Some (at side w r)

  pub ends : {of_a of_b : List Record} {side : Side} {r : Record} {outcome : Becomes} →
      becomes_at side r (end_of (course of_a of_b)) ≡ Some outcome → EndsAt side of_a of_b r outcome
  ends {of_a} {of_b} {side} {r} {outcome} = go (end_of (course of_a of_b)) refl
    where
      go : (o : Option (World S U)) → end_of (course of_a of_b) ≡ o → becomes_at side r o ≡ Some outcome → EndsAt side of_a of_b r outcome
      go None e is = absurd cc
      go (Some w) e is = let c = course of_a of_b in
          record { world = w; run = run_to c c.left_a c.left_b w c.all_a c.all_b e; becomes = same_Some (at side w r) outcome is }
