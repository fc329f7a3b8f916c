use Rattle.std.proofs.Common.{◌≡◌, ◌≤◌, List, [], ◌∷◌, ◌++◌, sym, ap, subst, ◌∙◌, arith}
use Rattle.pair_judge.specs.inner.Runs.{behind, tag_at}
use Rattle.pair_judge.specs.declared.tags.TagRun.{TagRun}
use Rattle.pair_judge.proofs.Runs.{before_end, behind_all, behind-append}
use Rattle.pair_judge.proofs.tags.Tags.begin.Goals as goal

pub returns-clause-before : goal.returns-clause-before
returns-clause-before c = λ k below.
    let old = c.args.self.now in
    let run : TagRun = record { end = c.args.number; tag = old.newest } in
    let items : c.push_back_reserved.new.self.items ≡ old.older.items ++ run ∷ [] =
    c.push_back_reserved.ensures.items ∙ ap (λ xs. xs ++ run ∷ []) c.reserve.ensures.items in
    ap (λ xs. tag_at xs c.args.tag.now k) items ∙ before_end old.older.items run c.args.tag.now k below

pub returns-clause-ok : goal.returns-clause-ok
returns-clause-ok c = λ k past.
    let old = c.args.self.now in
    let run : TagRun = record { end = c.args.number; tag = old.newest } in
    let items : c.push_back_reserved.new.self.items ≡ old.older.items ++ run ∷ [] =
    c.push_back_reserved.ensures.items ∙ ap (λ xs. xs ++ run ∷ []) c.reserve.ensures.items in
    ap (λ xs. tag_at xs c.args.tag.now k) items ∙ behind_all (old.older.items ++ run ∷ []) c.args.tag.now k
    (behind-append old.older.items run k (omega (arith, c.requires)) past)

pub returns-clause-end : goal.returns-clause-end
returns-clause-end c =
    let old = c.args.self.now in
    let run : TagRun = record { end = c.args.number; tag = old.newest } in
    let items : c.push_back_reserved.new.self.items ≡ old.older.items ++ run ∷ [] =
    c.push_back_reserved.ensures.items ∙ ap (λ xs. xs ++ run ∷ []) c.reserve.ensures.items in
    subst (λ (xs : List TagRun). behind xs ≤ c.args.number) (sym items) (behind-append old.older.items run c.args.number c.requires (omega arith))
