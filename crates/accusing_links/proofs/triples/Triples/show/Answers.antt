use Rattle.accusing_links.proofs.Prelude.{ℕ, List, ◌||◌, ap, ◌∙◌, is_this, has}
use Rattle.accusing_links.proofs.Inserted.{inserted, three_compared, three_exact}
use Rattle.accusing_links.proofs.triples.Triples.show.Goals as goal

pub returns-clause-ok : goal.returns-clause-ok
returns-clause-ok c = λ a b d.
    ap (λ (ids : List (ℕ × ℕ × ℕ)). has ids a b d) c.in_ok-insert.ensures.keys
    ∙ inserted three_compared three_exact (λ (id : ℕ × ℕ × ℕ). is_this id a b d) c.self.inside.shown.keys (c.args.first, c.args.second, c.args.third)
    ∙ ap (λ (ids : List (ℕ × ℕ × ℕ)). is_this (c.args.first, c.args.second, c.args.third) a b d || has ids a b d) c.self.view_is
