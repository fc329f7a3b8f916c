use Rattle.std.proofs.Common.{ℕ, List, ◌||◌, ap, ◌∙◌}
use Rattle.assuming.specs.inner.Places.{is_this, has}
use Rattle.assuming.proofs.Inserted.{inserted, three_compared, three_exact}
use Rattle.assuming.proofs.places.Places.add.Goals as goal

pub returns-clause-ok : goal.returns-clause-ok
returns-clause-ok c = λ a b d.
    ap (λ (ids : List (ℕ × ℕ × ℕ)). has ids a b d) c.in_ok-insert.ensures.keys
    ∙ inserted three_compared three_exact (λ (id : ℕ × ℕ × ℕ). is_this id a b d) c.self.inside.set.keys (c.args.first, c.args.second, c.args.third)
    ∙ ap (λ (ids : List (ℕ × ℕ × ℕ)). is_this (c.args.first, c.args.second, c.args.third) a b d || has ids a b d) c.self.view_is
