-- A property that each record keeps holds after every run
use Rattle.std.proofs.Common.{List, [], ◌∷◌, ◌++◌, sym, subst}
use Rattle.std.proofs.lemmas.List.{append_assoc, append-nil}
use Rattle.two_nodes.specs.Nodes.{Nodes, World, Run}
use Rattle.two_nodes.specs.Nodes.Run.{Done, OfA, OfB}
use Rattle.two_nodes.specs.Kept.{IsKept}

module _ {S R U Z : Type 0} (nodes : Nodes S R U Z) (holds : World S U → List R → List R → Type 0) where
  pub lasts : IsKept nodes holds → {w e : World S U} {xs ys : List R} (p q : List R) → holds w p q → Run nodes w xs ys e → holds e (p ++ xs) (q ++ ys)
  lasts kept {w} p q h Done =
      subst (λ (x : List R). holds w x (q ++ [])) (sym (append-nil p)) (subst (λ (y : List R). holds w p y) (sym (append-nil q)) h)
  lasts kept {w} {e} {ys = ys} p q now (OfA {h = h} {r = r} {xs = xs} m rest) =
      subst (λ (x : List R). holds e x (q ++ ys)) (append_assoc p (r ∷ []) xs) (lasts kept (p ++ r ∷ []) q (kept.by_a w p q r h now m) rest)
  lasts kept {w} {e} {xs = xs} p q now (OfB {h = h} {r = r} {ys = ys} m rest) =
      subst (λ (y : List R). holds e (p ++ xs) y) (append_assoc q (r ∷ []) ys) (lasts kept p (q ++ r ∷ []) (kept.by_b w p q r h now m) rest)
