-- A closed pair of beginnings of a run is a run
use Rattle.std.proofs.Common.{◌≡◌, ◌<◌, ◌≤◌, ◌+◌, List, [], ◌∷◌, ◌++◌, refl, sym, ap, subst, ◌∙◌, Option, Some, None, ℕ, Bool, length, take, arith}
use Rattle.std.specs.Prelude.{slice_get, Result, Ok, Err, zero, suc, cond}
use Rattle.std.proofs.Math.Seq.{take-nil}
use Rattle.std.proofs.lemmas.List.{length-append}
use Rattle.std.proofs.lemmas.List.Sums.{sum_by-cons}
use Rattle.two_nodes.specs.Nodes.{Answer, Nodes, Half, World, Run, IsRun, advance, stepped, stepped_sending, answered, read, concluded, exchanged}
use Rattle.two_nodes.specs.Nodes.{exchanged_world, start_world}
use Rattle.two_nodes.specs.Nodes.Answer.{Refuses, Goes, Sends, Reads}
use Rattle.two_nodes.specs.Nodes.Outcome.{Made}
use Rattle.two_nodes.specs.Nodes.Run.{Done, OfA, OfB}
use Rattle.two_nodes.specs.Past.{AgreesWith, BothTell, sent_by, NamesBelow, IsClosed}
use Rattle.two_nodes.proofs.Order.{SentMore, sent_same, sent_more_trans, one_half, made-sent, exchange}

-- what is told of exchanged nodes
pub both_tell : {S R U Z : Type 0} (nodes : Nodes S R U Z) → BothTell nodes → BothTell (exchanged nodes)
both_tell nodes tells = record { of_a = tells.of_b; of_b = tells.of_a }

pub exchange_run : {S R U Z : Type 0} (nodes : Nodes S R U Z) (w : World S U) (xs ys : List R) → IsRun nodes w xs ys →
    IsRun (exchanged nodes) (exchanged_world w) ys xs
exchange_run nodes w xs ys run = (exchanged_world run.0, exchange nodes run.1)

-- how many units a record sends
abbrev pub sending : {S R U Z : Type 0} → Nodes S R U Z → R → ℕ
sending nodes r = cond (nodes.sends r) 1 0

module _ {S U Z : Type 0} (own other : Half S U) where
  made-length-read : (then : U → Result S Z) (o : Option U) (h : Half S U) → read own then o ≡ Made h → length h.sent ≡ length own.sent
  made-length-read then None h m = cc
  made-length-read then (Some u) h m = go (then u) m
    where
      go : (r : Result S Z) → concluded own r ≡ Made h → length h.sent ≡ length own.sent
      go (Ok next) m = ap (λ (x : Half S U). length x.sent) (sym (one_half {Z = Z} (stepped own next) h m))
      go (Err reason) m = cc

  -- a record that is made sends as many units as it tells
  pub made-length : (answer : Answer S U Z) (name : Option ℕ) (sends : Bool) (h : Half S U) → AgreesWith answer name sends →
      answered own other answer ≡ Made h → length h.sent ≡ length own.sent + cond sends 1 0
  made-length (Refuses reason) name sends h a m = cc
  made-length (Goes next) name sends h a m = rw a.1 (let e = one_half {Z = Z} (stepped own next) h m in rw (← e) (omega arith))
  made-length (Sends next unit) name sends h a m =
      rw a.1 (let e = one_half {Z = Z} (stepped_sending own next unit) h m in rw (← e) (length-append own.sent (unit ∷ [])))
  made-length (Reads k then) name sends h a m = rw a.1 (let e = made-length-read then (slice_get other.sent k) h m in omega arith)

-- an element of the front of a list
slice_get-front : {X : Type 0} (xs ys : List X) (k : ℕ) → k < length xs → slice_get (xs ++ ys) k ≡ slice_get xs k
slice_get-front [] ys k l = absurd (omega arith)
slice_get-front (x ∷ xs) ys zero l = refl
slice_get-front (x ∷ xs) ys (suc k) l = slice_get-front xs ys k (omega arith)

-- a record whose named unit was sent early leads to the same later
pub answered_early : {S U Z : Type 0} (own early late : Half S U) → SentMore early late → (answer : Answer S U Z) (name : Option ℕ) (sends : Bool) →
    AgreesWith answer name sends → ((k : ℕ) → name ≡ Some k → k < length early.sent) → answered own early answer ≡ answered own late answer
answered_early own early late more (Refuses reason) name sends a below = refl
answered_early own early late more (Goes next) name sends a below = refl
answered_early own early late more (Sends next unit) name sends a below = refl
answered_early own early late more (Reads k then) name sends a below =
    rw more.more (rw (slice_get-front early.sent more.further k (below k a.0)) refl)

module _ {S R U Z : Type 0} (nodes : Nodes S R U Z) where
  pub below_head : (n : ℕ) (r : R) (xs : List R) → NamesBelow nodes n (r ∷ xs) → (k : ℕ) → nodes.named r ≡ Some k → k < n
  below_head n r xs names = names zero r (omega arith)

  pub below_tail : (n : ℕ) (r : R) (xs : List R) → NamesBelow nodes n (r ∷ xs) → NamesBelow nodes n xs
  below_tail n r xs names k d l = names (suc k) d (omega arith)

  pub below_more_units : (m n : ℕ) (xs : List R) → m ≤ n → NamesBelow nodes m xs → NamesBelow nodes n xs
  below_more_units m n xs l names k d within name e = let p = names k d within name e in omega arith

  pub sent_by-cons : (r : R) (xs : List R) → sent_by nodes (r ∷ xs) ≡ sending nodes r + sent_by nodes xs
  sent_by-cons r xs = sum_by-cons (λ x. cond (nodes.sends x) 1 0) r xs

module _ {S R U Z : Type 0} where
  made_by_a : (nodes : Nodes S R U Z) → BothTell nodes → (w : World S U) (r : R) (h : Half S U) → advance nodes.node_a w.a w.b r ≡ Made h →
      length h.sent ≡ length w.a.sent + sending nodes r
  made_by_a nodes tells w r h m = made-length w.a w.b (nodes.node_a w.a.state r) (nodes.named r) (nodes.sends r) h (tells.of_a w.a.state r) m

  -- all that a side has sent are the units of its records
  pub sent_of_a : (nodes : Nodes S R U Z) → BothTell nodes → {w e : World S U} {xs ys : List R} → Run nodes w xs ys e →
      length e.a.sent ≡ length w.a.sent + sent_by nodes xs
  sent_of_a nodes tells {w} Done = omega arith
  sent_of_a nodes tells {w} (OfA {h = h} {r = r} {xs = xs} m rest) = let p = made_by_a nodes tells w r h m in let q = sent_of_a nodes tells rest in
      let c = sent_by-cons nodes r xs in omega arith
  sent_of_a nodes tells (OfB m rest) = sent_of_a nodes tells rest

  -- the records of b that name only units that a has sent already, without those of a
  pub b_alone : (nodes : Nodes S R U Z) → BothTell nodes → {w e : World S U} {xs ys : List R} → Run nodes w xs ys e → (early : Half S U) →
      SentMore early w.a → (j : ℕ) → NamesBelow nodes (length early.sent) (take j ys) → IsRun nodes (record { a = early; b = w.b }) [] (take j ys)
  b_alone nodes tells {w} Done early more j names =
      subst (λ (l : List R). IsRun nodes (record { a = early; b = w.b }) [] l) (sym (take-nil j)) (record { a = early; b = w.b }, Done)
  b_alone nodes tells {w} (OfA {h = h} {r = r} m rest) early more j names =
      b_alone nodes tells rest early (sent_more_trans early w.a h more (made-sent w.a w.b (nodes.node_a w.a.state r) h m)) j names
  b_alone nodes tells {w} (OfB m rest) early more zero names = (record { a = early; b = w.b }, Done)
  b_alone nodes tells {w} (OfB {h = h} {r = r} {ys = ys} m rest) early more (suc j) names =
      let again = b_alone nodes tells rest early more j (below_tail nodes (length early.sent) r (take j ys) names) in (
        again.0,
        OfB (answered_early w.b early w.a more (nodes.node_b w.b.state r) (nodes.named r) (nodes.sends r) (tells.of_b w.b.state r)
            (below_head nodes (length early.sent) r (take j ys) names) ∙ m) again.1,
      )

  pub a_alone : (nodes : Nodes S R U Z) → BothTell nodes → {w e : World S U} {xs ys : List R} → Run nodes w xs ys e → (early : Half S U) →
      SentMore early w.b → (i : ℕ) → NamesBelow nodes (length early.sent) (take i xs) → IsRun nodes (record { a = w.a; b = early }) (take i xs) []
  a_alone nodes tells {w} {xs = xs} run early more i names =
      exchange_run (exchanged nodes) (record { a = early; b = w.a }) [] (take i xs)
      (b_alone (exchanged nodes) (both_tell nodes tells) (exchange nodes run) early more i names)

  -- beginnings whose named units are all sent, by these beginnings or before
  pub beginnings : (nodes : Nodes S R U Z) → BothTell nodes → {w e : World S U} {xs ys : List R} → Run nodes w xs ys e → (i j : ℕ) →
      NamesBelow nodes (length w.b.sent + sent_by nodes (take j ys)) (take i xs) →
      NamesBelow nodes (length w.a.sent + sent_by nodes (take i xs)) (take j ys) → IsRun nodes w (take i xs) (take j ys)
  beginnings nodes tells {w} Done i j of_a of_b = let none : IsRun nodes w [] [] = (w, Done) in
      subst (λ (l : List R). IsRun nodes w l (take j [])) (sym (take-nil i)) (subst (λ (l : List R). IsRun nodes w [] l) (sym (take-nil j)) none)
  beginnings nodes tells {w} {ys = ys} (OfA m rest) zero j of_a of_b =
      b_alone nodes tells (OfA m rest) w.a (sent_same w.a) j
      (below_more_units nodes (length w.a.sent + 0) (length w.a.sent) (take j ys) (omega arith) of_b)
  beginnings nodes tells {w} {ys = ys} (OfA {h = h} {r = r} {xs = xs} m rest) (suc i) j of_a of_b =
      let n = length w.b.sent + sent_by nodes (take j ys) in
      let p = made_by_a nodes tells w r h m in
      let c = sent_by-cons nodes r (take i xs) in
      let again = beginnings nodes tells rest i j (below_tail nodes n r (take i xs) of_a)
      (below_more_units nodes (length w.a.sent + sent_by nodes (r ∷ take i xs)) (length h.sent + sent_by nodes (take i xs)) (take j ys) (omega arith)
      of_b) in
      (again.0, OfA m again.1)
  beginnings nodes tells {w} {xs = xs} (OfB m rest) i zero of_a of_b =
      a_alone nodes tells (OfB m rest) w.b (sent_same w.b) i
      (below_more_units nodes (length w.b.sent + 0) (length w.b.sent) (take i xs) (omega arith) of_a)
  beginnings nodes tells {w} {xs = xs} (OfB {h = h} {r = r} {ys = ys} m rest) i (suc j) of_a of_b =
      let n = length w.a.sent + sent_by nodes (take i xs) in
      let p = made_by_a (exchanged nodes) (both_tell nodes tells) (exchanged_world w) r h m in
      let c = sent_by-cons nodes r (take j ys) in
      let again = beginnings nodes tells rest i j
      (below_more_units nodes (length w.b.sent + sent_by nodes (r ∷ take j ys)) (length h.sent + sent_by nodes (take j ys)) (take i xs) (omega arith)
      of_a)
      (below_tail nodes n r (take j ys) of_b) in
      (again.0, OfB m again.1)

  -- a closed pair of beginnings of a run is a run
  pub closed_run : (nodes : Nodes S R U Z) → BothTell nodes → (first_a first_b : S) (e : World S U) (xs ys : List R) →
      Run nodes (start_world first_a first_b) xs ys e → (i j : ℕ) →
      IsClosed nodes (take i xs) (take j ys) → IsRun nodes (start_world first_a first_b) (take i xs) (take j ys)
  closed_run nodes tells first_a first_b e xs ys run i j closed =
      beginnings nodes tells run i j
      (below_more_units nodes (sent_by nodes (take j ys)) (0 + sent_by nodes (take j ys)) (take i xs) (omega arith) closed.of_a)
      (below_more_units nodes (sent_by nodes (take i xs)) (0 + sent_by nodes (take i xs)) (take j ys) (omega arith) closed.of_b)

  -- from the start, a side has sent the units of its records and no more
  pub sent_by_a : (nodes : Nodes S R U Z) → BothTell nodes → (first_a first_b : S) (w : World S U) (xs ys : List R) →
      Run nodes (start_world first_a first_b) xs ys w → length w.a.sent ≡ sent_by nodes xs
  sent_by_a nodes tells first_a first_b w xs ys run = let e : length w.a.sent ≡ 0 + sent_by nodes xs = sent_of_a nodes tells run in omega arith

  pub sent_by_b : (nodes : Nodes S R U Z) → BothTell nodes → (first_a first_b : S) (w : World S U) (xs ys : List R) →
      Run nodes (start_world first_a first_b) xs ys w → length w.b.sent ≡ sent_by nodes ys
  sent_by_b nodes tells first_a first_b w xs ys run =
      sent_by_a (exchanged nodes) (both_tell nodes tells) first_b first_a (exchanged_world w) ys xs (exchange nodes run)
