-- The runs of nodes that see less are the cuts of the runs of those that they see
use Rattle.std.proofs.Common.{◌≡◌, List, [], ◌∷◌, ◌++◌, refl, sym, ap, subst, ◌∙◌}
use Rattle.std.proofs.lemmas.List.{append_assoc, append-nil}
use Rattle.two_nodes.specs.Nodes.{Nodes, Half, World, Outcome, Run, advance}
use Rattle.two_nodes.specs.Nodes.Outcome.{Made, Waits, Refused}
use Rattle.two_nodes.specs.Nodes.Run.{Done, OfA, OfB}
use Rattle.two_nodes.specs.Kept.{IsKept}
use Rattle.two_nodes.specs.Cutting.{Cut, Commutes, ComesOf, cut_half, cut_world, cut_outcome}

module _ {S U S' U' Z : Type 0} (cut : Cut S U S' U') where
  -- the half that the others are left with is the cut of one
  pub record IsCutOf (outcome : Outcome S U Z) (seen : Half S' U') : Type 0 where
    pub half : Half S U
    pub made : outcome ≡ Made half
    pub same : seen ≡ cut_half cut half

  abbrev half_of : Half S' U' → Outcome S' U' Z → Half S' U'
  half_of other (Made half) = half
  half_of other Waits = other
  half_of other (Refused reason) = other

  pub made_of : (outcome : Outcome S U Z) (seen : Half S' U') → Made seen ≡ cut_outcome cut outcome → IsCutOf outcome seen
  made_of (Made half) seen e = record { half = half; made = refl; same = ap (half_of seen) e }
  made_of Waits seen e = absurd (cc)
  made_of (Refused reason) seen e = absurd (cc)

module _ {S U S' U' R Z : Type 0} (nodes : Nodes S R U Z) (others : Nodes S' R U' Z) (cut : Cut S U S' U')
    (holds : World S U → List R → List R → Type 0) where
  pub seen_run : IsKept nodes holds → Commutes nodes others cut holds → {w e : World S U} {xs ys : List R} (p q : List R) → holds w p q →
      Run nodes w xs ys e → Run others (cut_world cut w) xs ys (cut_world cut e)
  seen_run kept commutes p q now Done = Done
  seen_run kept commutes {w} p q now (OfA {h = h} {r = r} m rest) =
      OfA (commutes.of_a w p q r now ∙ ap (cut_outcome cut) m) (seen_run kept commutes (p ++ r ∷ []) q (kept.by_a w p q r h now m) rest)
  seen_run kept commutes {w} p q now (OfB {h = h} {r = r} m rest) =
      OfB (commutes.of_b w p q r now ∙ ap (cut_outcome cut) m) (seen_run kept commutes p (q ++ r ∷ []) (kept.by_b w p q r h now m) rest)

  pub comes_of : IsKept nodes holds → Commutes nodes others cut holds →
      {seen seen_end : World S' U'} {xs ys : List R} (w : World S U) (p q : List R) → holds w p q → seen ≡ cut_world cut w →
      Run others seen xs ys seen_end → ComesOf nodes cut holds w p q xs ys seen_end
  comes_of kept commutes w p q now same Done = record {
    end = w;
    run = Done;
    is_cut = same;
    holds_there = subst (λ (x : List R). holds w x (q ++ [])) (sym (append-nil p)) (subst (λ (y : List R). holds w p y) (sym (append-nil q)) now);
  }
  comes_of kept commutes {seen} {seen_end} {ys = ys} w p q now same (OfA {h = h} {r = r} {xs = xs} m rest) =
      let at_cut : advance others.node_a (cut_half cut w.a) (cut_half cut w.b) r ≡ Made h =
      subst (λ (v : World S' U'). advance others.node_a v.a v.b r ≡ Made h) same m in
      let c = made_of cut (advance nodes.node_a w.a w.b r) h (sym at_cut ∙ commutes.of_a w p q r now) in
      let next : World S U = record { a = c.half; b = w.b } in
      let there : ◌≡◌ {A = World S' U'} (record { a = h; b = seen.b }) (cut_world cut next) = cc (c.same, same) in
      let found = comes_of kept commutes next (p ++ r ∷ []) q (kept.by_a w p q r c.half now c.made) there rest in
      record {
        end = found.end;
        run = OfA c.made found.run;
        is_cut = found.is_cut;
        holds_there = subst (λ (x : List R). holds found.end x (q ++ ys)) (append_assoc p (r ∷ []) xs) found.holds_there;
      }
  comes_of kept commutes {seen} {seen_end} {xs = xs} w p q now same (OfB {h = h} {r = r} {ys = ys} m rest) =
      let at_cut : advance others.node_b (cut_half cut w.b) (cut_half cut w.a) r ≡ Made h =
      subst (λ (v : World S' U'). advance others.node_b v.b v.a r ≡ Made h) same m in
      let c = made_of cut (advance nodes.node_b w.b w.a r) h (sym at_cut ∙ commutes.of_b w p q r now) in
      let next : World S U = record { a = w.a; b = c.half } in
      let there : ◌≡◌ {A = World S' U'} (record { a = seen.a; b = h }) (cut_world cut next) = cc (c.same, same) in
      let found = comes_of kept commutes next p (q ++ r ∷ []) (kept.by_b w p q r c.half now c.made) there rest in
      record {
        end = found.end;
        run = OfB c.made found.run;
        is_cut = found.is_cut;
        holds_there = subst (λ (y : List R). holds found.end (p ++ xs) y) (append_assoc q (r ∷ []) ys) found.holds_there;
      }
