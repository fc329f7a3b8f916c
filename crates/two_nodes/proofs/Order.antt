-- Any order will do: what can be made first may be made first
use Rattle.std.proofs.Common.{◌≡◌, List, [], ◌∷◌, ◌++◌, refl, sym, subst, ◌∙◌, Option, Some, None}
use Rattle.std.specs.Prelude.{slice_get, Result, Ok, Err, ℕ, zero, suc}
use Rattle.std.proofs.lemmas.List.{append_assoc, append-nil}
use Rattle.two_nodes.specs.Nodes.{Answer, Nodes, Half, World, Outcome, Run, advance, stepped, stepped_sending, answered, read, concluded, exchanged}
use Rattle.two_nodes.specs.Nodes.{exchanged_world}
use Rattle.two_nodes.specs.Nodes.Answer.{Refuses, Goes, Sends, Reads}
use Rattle.two_nodes.specs.Nodes.Outcome.{Made, Refused}
use Rattle.two_nodes.specs.Nodes.Run.{Done, OfA, OfB}

-- `late` has sent what `early` has, and perhaps more
pub record SentMore {S U : Type 0} (early late : Half S U) : Type 0 where
  pub further : List U
  pub more : late.sent ≡ early.sent ++ further

-- an element that is there stays when the list grows
pub slice_get-append : {X : Type 0} (xs ys : List X) (k : ℕ) (x : X) → slice_get xs k ≡ Some x → slice_get (xs ++ ys) k ≡ Some x
slice_get-append [] ys k x e = cc
slice_get-append (y ∷ xs) ys zero x e = e
slice_get-append (y ∷ xs) ys (suc k) x e = slice_get-append xs ys k x e

pub sent_same : {S U : Type 0} (h : Half S U) → SentMore h h
sent_same h = record { further = []; more = sym (append-nil h.sent) }

pub sent_more_trans : {S U : Type 0} (f g h : Half S U) → SentMore f g → SentMore g h → SentMore f h
sent_more_trans f g h p q = record { further = p.further ++ q.further; more = rw (q.more, p.more) (append_assoc f.sent p.further q.further) }

-- what a record leaves is one half
pub one_half : {S U Z : Type 0} (g h : Half S U) → ◌≡◌ {A = Outcome S U Z} (Made g) (Made h) → g ≡ h
one_half g h e = cc

module _ {S U Z : Type 0} (own early late : Half S U) (more : SentMore early late) where
  made_later-read : (then : U → Result S Z) (o : Option U) (k : ℕ) (h : Half S U) → slice_get early.sent k ≡ o → read own then o ≡ Made h →
      read own then (slice_get late.sent k) ≡ Made h
  made_later-read then None k h e m = cc
  made_later-read then (Some u) k h e m = rw more.more (rw (slice_get-append early.sent more.further k u e) m)

  -- what is made stays so when the other side has sent more
  pub made_later : (answer : Answer S U Z) (h : Half S U) → answered own early answer ≡ Made h → answered own late answer ≡ Made h
  made_later (Refuses reason) h m = m
  made_later (Goes next) h m = m
  made_later (Sends next unit) h m = m
  made_later (Reads k then) h m = made_later-read then (slice_get early.sent k) k h refl m

  refused_later-read : (then : U → Result S Z) (o : Option U) (k : ℕ) (z : Z) → slice_get early.sent k ≡ o → read own then o ≡ Refused z →
      read own then (slice_get late.sent k) ≡ Refused z
  refused_later-read then None k h e m = cc
  refused_later-read then (Some u) k h e m = rw more.more (rw (slice_get-append early.sent more.further k u e) m)

  -- so does what is refused
  pub refused_later : (answer : Answer S U Z) (z : Z) → answered own early answer ≡ Refused z → answered own late answer ≡ Refused z
  refused_later (Refuses reason) h m = m
  refused_later (Goes next) h m = m
  refused_later (Sends next unit) h m = m
  refused_later (Reads k then) h m = refused_later-read then (slice_get early.sent k) k h refl m

module _ {S U Z : Type 0} (own other : Half S U) where
  left-sent : (g h : Half S U) → SentMore own g → ◌≡◌ {A = Outcome S U Z} (Made g) (Made h) → SentMore own h
  left-sent g h p m = subst (λ x. SentMore own x) (one_half {Z = Z} g h m) p

  concluded-sent : (r : Result S Z) (h : Half S U) → concluded own r ≡ Made h → SentMore own h
  concluded-sent (Ok next) h m = left-sent (stepped own next) h (record { further = []; more = sym (append-nil own.sent) }) m
  concluded-sent (Err reason) h m = cc

  read-sent : (then : U → Result S Z) (o : Option U) (h : Half S U) → read own then o ≡ Made h → SentMore own h
  read-sent then None h m = cc
  read-sent then (Some u) h m = concluded-sent (then u) h m

  -- a record that is made leaves what its side sent, and perhaps one unit more
  pub made-sent : (answer : Answer S U Z) (h : Half S U) → answered own other answer ≡ Made h → SentMore own h
  made-sent (Refuses reason) h m = cc
  made-sent (Goes next) h m = left-sent (stepped own next) h (record { further = []; more = sym (append-nil own.sent) }) m
  made-sent (Sends next unit) h m = left-sent (stepped_sending own next unit) h (record { further = unit ∷ []; more = refl }) m
  made-sent (Reads k then) h m = read-sent then (slice_get other.sent k) h m

module _ {S R U Z : Type 0} where
  -- a run with the sides exchanged is a run of the exchanged nodes
  pub exchange : (nodes : Nodes S R U Z) {w e : World S U} {xs ys : List R} → Run nodes w xs ys e →
      Run (exchanged nodes) (exchanged_world w) ys xs (exchanged_world e)
  exchange nodes Done = Done
  exchange nodes (OfA m rest) = OfB m (exchange nodes rest)
  exchange nodes (OfB m rest) = OfA m (exchange nodes rest)

  -- what a makes beside b's half, it makes beside any half that b leaves
  later_a : (nodes : Nodes S R U Z) (w : World S U) (r s : R) (h g : Half S U) → advance nodes.node_a w.a w.b r ≡ Made h →
      advance nodes.node_b w.b w.a s ≡ Made g → advance nodes.node_a w.a g r ≡ Made h
  later_a nodes w r s h g m n = made_later w.a w.b g (made-sent w.b w.a (nodes.node_b w.b.state s) g n) (nodes.node_a w.a.state r) h m

  -- what a can make first may be made first
  pub first_of_a : (nodes : Nodes S R U Z) {w e : World S U} (r : R) (h : Half S U) {xs ys : List R} → advance nodes.node_a w.a w.b r ≡ Made h →
      Run nodes w (r ∷ xs) ys e → Run nodes (record { a = h; b = w.b }) xs ys e
  first_of_a nodes {w} {e} r h {xs} {ys} m (OfA {h = g} n rest) =
      subst (λ x. Run nodes (record { a = x; b = w.b }) xs ys e) (one_half {Z = Z} g h (sym n ∙ m)) rest
  first_of_a nodes {w} r h m (OfB {h = g} {r = s} n rest) =
      OfB (later_a (exchanged nodes) (exchanged_world w) s r g h n m) (first_of_a nodes r h (later_a nodes w r s h g m n) rest)

  pub first_of_b : (nodes : Nodes S R U Z) {w e : World S U} (r : R) (h : Half S U) {xs ys : List R} → advance nodes.node_b w.b w.a r ≡ Made h →
      Run nodes w xs (r ∷ ys) e → Run nodes (record { a = w.a; b = h }) xs ys e
  first_of_b nodes r h m run = exchange (exchanged nodes) (first_of_a (exchanged nodes) r h m (exchange nodes run))

  -- from every world that some order of beginnings reached, the rest is a run if the whole is
  pub any_order : (nodes : Nodes S R U Z) {w mid e : World S U} {is js : List R} (xs ys : List R) → Run nodes w is js mid →
      Run nodes w (is ++ xs) (js ++ ys) e → Run nodes mid xs ys e
  any_order nodes xs ys Done whole = whole
  any_order nodes xs ys (OfA {h = h} {r = r} m rest) whole = any_order nodes xs ys rest (first_of_a nodes r h m whole)
  any_order nodes xs ys (OfB {h = h} {r = r} m rest) whole = any_order nodes xs ys rest (first_of_b nodes r h m whole)

  -- a run goes on by another
  pub run-append : (nodes : Nodes S R U Z) {w mid e : World S U} {is js xs ys : List R} → Run nodes w is js mid → Run nodes mid xs ys e →
      Run nodes w (is ++ xs) (js ++ ys) e
  run-append nodes Done next = next
  run-append nodes (OfA m rest) next = OfA m (run-append nodes rest next)
  run-append nodes (OfB m rest) next = OfB m (run-append nodes rest next)

  -- nothing left to make leads nowhere
  rests : (nodes : Nodes S R U Z) {w e : World S U} → Run nodes w [] [] e → w ≡ e
  rests nodes Done = refl

  -- all orders end in one world
  pub one_end : (nodes : Nodes S R U Z) {w e f : World S U} {xs ys : List R} → Run nodes w xs ys e → Run nodes w xs ys f → e ≡ f
  one_end nodes {w} {e} {f} {xs} {ys} first second = rests nodes (any_order nodes [] [] first
      (subst (λ (x : List R). Run nodes w x (ys ++ []) f) (sym (append-nil xs))
      (subst (λ (y : List R). Run nodes w xs y f) (sym (append-nil ys)) second)))

  pub one_more_of_a : (nodes : Nodes S R U Z) {start w : World S U} (r : R) (h : Half S U) {xs ys : List R} → Run nodes start xs ys w →
      advance nodes.node_a w.a w.b r ≡ Made h → Run nodes start (xs ++ r ∷ []) ys (record { a = h; b = w.b })
  one_more_of_a nodes {start} {w} r h {xs} {ys} run m =
      subst (λ (y : List R). Run nodes start (xs ++ r ∷ []) y (record { a = h; b = w.b })) (append-nil ys) (run-append nodes run (OfA m Done))

  pub one_more_of_b : (nodes : Nodes S R U Z) {start w : World S U} (r : R) (h : Half S U) {xs ys : List R} → Run nodes start xs ys w →
      advance nodes.node_b w.b w.a r ≡ Made h → Run nodes start xs (ys ++ r ∷ []) (record { a = w.a; b = h })
  one_more_of_b nodes {start} {w} r h {xs} {ys} run m =
      subst (λ (x : List R). Run nodes start x (ys ++ r ∷ []) (record { a = w.a; b = h })) (append-nil xs) (run-append nodes run (OfB m Done))
