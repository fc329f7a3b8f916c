use Rattle.std.proofs.Common.{◌≡◌, ◌<◌, ℕ, List, length, get_or, refl, sym, ap, ◌∙◌, subst, inl, inr, arith}
use Rattle.std.proofs.lemmas.Grind.{get_or_default_zero}
use Rattle.link_groups.proofs.Grouping.{groups_of_same, groups_of_joined, same_label}
use Rattle.link_groups.proofs.groups.Groups.bind.Goals as goal

-- what an index reads, at a place that is known otherwise
read_at : (inside labels : List ℕ) (place known value : ℕ) → inside ≡ labels → length labels ≡ 131072 → place < 131072 → place ≡ known
    → value ≡ get_or inside place value → get_or labels known 0 ≡ value
read_at inside labels place known value is count low at read =
    let within : place < length inside = omega (arith, ap length is) in
    sym (read ∙ get_or_default_zero inside place value within ∙ ap (λ xs. get_or xs place 0) is ∙ ap (λ n. get_or labels n 0) at)

pub returns-then-of_first-of_second : goal.returns-then-of_first-of_second
returns-then-of_first-of_second c = λ bindings is.
    let labels = c.args.self.now in
    let count : length labels ≡ 131072 = subst (λ (ls : List ℕ). length ls ≡ 131072) c.self.view_is c.self.invariant.0.labelled in
    groups_of_same bindings labels c.args.one c.args.other is
    (same_label labels c.args.one c.args.other count (omega arith) (omega arith)
    (read_at _ labels _ _ _ c.self.view_is count c.place-first.ensures.within c.place-first.ensures.place c.index-of_first.ensures
    ∙ c.if-of_first-of_second.true
    ∙ sym (read_at _ labels _ _ _ c.self.view_is count c.place-second.ensures.within c.place-second.ensures.place c.index-of_second.ensures)))

pub returns-then-index : goal.returns-then-index
returns-then-index c = λ bindings is.
    groups_of_joined bindings (c.args.one, c.args.other) _ _ c.args.one c.args.other
    (subst (λ (ls : List ℕ). length ls ≡ 131072) c.self.view_is c.self.invariant.0.labelled)
    (rw (← c.place-first.ensures.place, ← c.place-second.ensures.place) c.join.ensures) (omega arith) (omega arith) (inl refl) is

pub returns-else-index : goal.returns-else-index
returns-else-index c = λ bindings is.
    groups_of_joined bindings (c.args.one, c.args.other) _ _ c.args.other c.args.one
    (subst (λ (ls : List ℕ). length ls ≡ 131072) c.self.view_is c.self.invariant.0.labelled)
    (rw (← c.place-second.ensures.place, ← c.place-first.ensures.place) c.join-else-index.ensures) (omega arith) (omega arith) (inr refl) is
