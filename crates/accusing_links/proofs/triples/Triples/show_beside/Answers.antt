use Rattle.accusing_links.proofs.Prelude.{ℕ, List, ◌||◌, sym, ap, ◌∙◌, remove_key, is_this, has}
use Rattle.std.specs.BTreeMap.{is_at}
use Rattle.accusing_links.proofs.Inserted.{inserted, taken_out, was_absent, three_compared, three_exact, three_same}
use Rattle.accusing_links.proofs.triples.Triples.show_beside.Goals as goal

pub returns-in_default-clause-ok : goal.returns-in_default-clause-ok
returns-in_default-clause-ok c = λ a b d.
    ap (λ (ids : List (ℕ × ℕ × ℕ)). has ids a b d) c.in_ok-is_new.ensures.keys
    ∙ inserted three_compared three_exact (λ (id : ℕ × ℕ × ℕ). is_this id a b d) c.self.inside.shown.keys c.args.these
    ∙ ap (λ (ids : List (ℕ × ℕ × ℕ)). is_this c.args.these a b d || has ids a b d) c.self.view_is

pub returns-then-is_new-clause-err : goal.returns-then-is_new-clause-err
returns-then-is_new-clause-err c = λ a b d.
    ap (λ (ids : List (ℕ × ℕ × ℕ)). has ids a b d)
    (c.remove.ensures.keys
    ∙ ap (λ (ids : List (ℕ × ℕ × ℕ)). remove_key (is_at (three_compared c.args.these)) ids) c.in_ok-is_new.ensures.keys
    ∙ taken_out three_compared c.args.these (three_same c.args.these) c.self.inside.shown.keys
    (was_absent _ (sym c.in_ok-is_new.ensures.added ∙ c.if-is_new.true)))
    ∙ ap (λ (ids : List (ℕ × ℕ × ℕ)). has ids a b d) c.self.view_is
