-- What is known of a world that beginnings reach
use Rattle.std.proofs.Common.{◌≡◌, ◌<◌, ◌≤◌, List, [], ◌∷◌, refl, sym, ap, subst, ◌∙◌, Option, Some, None, ℕ, Bool, length, arith}
use Rattle.std.specs.Prelude.{slice_get, Result, Ok, Err, zero, suc}
use Rattle.std.proofs.lemmas.List.{length-append}
use Rattle.std.proofs.lemmas.Option.{slice_get_within}
use Rattle.two_nodes.specs.Nodes.{Answer, Nodes, Half, World, Outcome, Run, answered, read, concluded, exchanged, start_world}
use Rattle.two_nodes.specs.Nodes.Answer.{Refuses, Goes, Sends, Reads}
use Rattle.two_nodes.specs.Nodes.Outcome.{Made, Waits, Refused}
use Rattle.two_nodes.specs.Nodes.Run.{Done, OfA, OfB}
use Rattle.two_nodes.specs.Past.{AgreesWith, BothTell, sent_by, NamesBelow, IsClosed}
use Rattle.two_nodes.proofs.Order.{SentMore, sent_same, sent_more_trans, made-sent, exchange}
use Rattle.two_nodes.proofs.Closed.{both_tell, below_more_units, sent_by_a, sent_by_b}

-- what does not wait finds the unit that it names
abbrev pub Moves : {S U Z : Type 0} → Outcome S U Z → Type 0
Moves (Made h) = Unit {0}
Moves Waits = ⊥
Moves (Refused z) = Unit {0}

pub slice_get_none : {X : Type 0} (xs : List X) (k : ℕ) → slice_get xs k ≡ None → length xs ≤ k
slice_get_none [] k e = omega arith
slice_get_none (x ∷ xs) zero e = absurd (cc)
slice_get_none (x ∷ xs) (suc k) e = let l = slice_get_none xs k e in omega arith

sent_more-length : {S U : Type 0} (early late : Half S U) → SentMore early late → length early.sent ≤ length late.sent
sent_more-length early late more = let e = ap length more.more ∙ length-append early.sent more.further in omega arith

module _ {S U Z : Type 0} (own other : Half S U) where
  there-read : (then : U → Result S Z) (o : Option U) (k : ℕ) → slice_get other.sent k ≡ o → Moves (read own then o) → k < length other.sent
  there-read then None k e m = absurd m
  there-read then (Some u) k e m = slice_get_within other.sent k u e

  pub there : (answer : Answer S U Z) (name : Option ℕ) (sends : Bool) (k : ℕ) → AgreesWith answer name sends → name ≡ Some k →
      Moves (answered own other answer) → k < length other.sent
  there (Refuses reason) name sends k a e m = cc
  there (Goes next) name sends k a e m = absurd (cc (a.0, e))
  there (Sends next unit) name sends k a e m = absurd (cc (a.0, e))
  there (Reads i then) name sends k a e m = let same : i ≡ k = cc (a.0, e) in let l = there-read then (slice_get other.sent i) i refl m in omega arith

  waits-read : (then : U → Result S Z) (o : Option U) (k : ℕ) → slice_get other.sent k ≡ o → read own then o ≡ Waits → length other.sent ≤ k
  waits-read then None k e w = slice_get_none other.sent k e
  waits-read then (Some u) k e w = go (then u) w
    where
      go : (r : Result S Z) → concluded own r ≡ Waits → length other.sent ≤ k
      go (Ok next) w = absurd (cc)
      go (Err reason) w = absurd (cc)

  -- a record waits only for a unit that it names and that is not there
  pub waits : (answer : Answer S U Z) (name : Option ℕ) (sends : Bool) → AgreesWith answer name sends → answered own other answer ≡ Waits →
      (k : ℕ) × (name ≡ Some k) × (length other.sent ≤ k)
  waits (Refuses reason) name sends a w = absurd (cc)
  waits (Goes next) name sends a w = absurd (cc)
  waits (Sends next unit) name sends a w = absurd (cc)
  waits (Reads k then) name sends a w = (k, a.0, waits-read then (slice_get other.sent k) k refl w)

module _ {S R U Z : Type 0} where
  pub below-cons : (nodes : Nodes S R U Z) (n : ℕ) (r : R) (xs : List R) → ((k : ℕ) → nodes.named r ≡ Some k → k < n) → NamesBelow nodes n xs →
      NamesBelow nodes n (r ∷ xs)
  below-cons nodes n r xs here later zero d l = here
  below-cons nodes n r xs here later (suc k) d l = later k d (omega arith)

  pub sent_more_b : (nodes : Nodes S R U Z) {w e : World S U} {xs ys : List R} → Run nodes w xs ys e → SentMore w.b e.b
  sent_more_b nodes {w} Done = sent_same w.b
  sent_more_b nodes (OfA m rest) = sent_more_b nodes rest
  sent_more_b nodes {w} {e} (OfB {h = h} {r = r} m rest) =
      sent_more_trans w.b h e.b (made-sent w.b w.a (nodes.node_b w.b.state r) h m) (sent_more_b nodes rest)

  -- where only b made records, a is where it was
  pub a_rests : (nodes : Nodes S R U Z) {w e : World S U} {ys : List R} → Run nodes w [] ys e → w.a ≡ e.a
  a_rests nodes Done = refl
  a_rests nodes (OfB m rest) = a_rests nodes rest

  -- what the records of a named was there
  pub named_by_a : (nodes : Nodes S R U Z) → BothTell nodes → {w e : World S U} {xs ys : List R} → Run nodes w xs ys e →
      NamesBelow nodes (length e.b.sent) xs
  named_by_a nodes tells Done = λ k d l. absurd (omega arith)
  named_by_a nodes tells {w} {e} (OfA {h = h} {r = r} {xs = xs} m rest) =
      let more = sent_more-length w.b e.b (sent_more_b nodes rest) in
      below-cons nodes (length e.b.sent) r xs
      (λ k named. let l = there w.a w.b (nodes.node_a w.a.state r) (nodes.named r) (nodes.sends r) k (tells.of_a w.a.state r) named
      (subst Moves (sym m) tt) in omega arith)
      (named_by_a nodes tells rest)
  named_by_a nodes tells (OfB m rest) = named_by_a nodes tells rest

  -- beginnings that are a run from the start are closed
  pub closed : (nodes : Nodes S R U Z) → BothTell nodes → (first_a first_b : S) {e : World S U} {xs ys : List R} →
      Run nodes (start_world first_a first_b) xs ys e → IsClosed nodes xs ys
  closed nodes tells first_a first_b {e} {xs} {ys} run =
      let sent_a = sent_by_a nodes tells first_a first_b e xs ys run in
      let sent_b = sent_by_b nodes tells first_a first_b e xs ys run in
      record {
        of_a = below_more_units nodes (length e.b.sent) (sent_by nodes ys) xs (omega arith) (named_by_a nodes tells run);
        of_b = below_more_units nodes (length e.a.sent) (sent_by nodes xs) ys (omega arith)
            (named_by_a (exchanged nodes) (both_tell nodes tells) (exchange nodes run));
      }
