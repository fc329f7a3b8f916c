use Rattle.std.proofs.Common.{◌≡◌, ◌+◌, ◌-◌, drop, sym, ap, ◌∙◌, arith}
use Rattle.pair_judge.specs.inner.Runs.{tag_of, units_from}
use Rattle.pair_judge.proofs.Runs.{drop-units_from, units_from-same}
use Rattle.pair_judge.proofs.line.Line.release.Goals as goal

pub returns-clause-units : goal.returns-clause-units
returns-clause-units c =
    let old = c.args.self.now in
    let now = c.loop-self.self in
    let count = c.args.number + 1 - old.gone in
    let front : now.gone ≡ old.gone + count = omega (arith, c.loop-self.invariant.not_past, c.loop-self-test.false, c.requires.within) in
    let gone : now.gone - old.gone ≡ count = omega (arith, front) in
    units_from-same (tag_of c.release.new.self) (tag_of old.tags) now.gone now.units.items
    (λ k at_least _. c.release.ensures.tags k at_least ∙ ap (λ t. tag_of t k) c.loop-self.invariant.tags)
    ∙ ap (units_from (tag_of old.tags) now.gone) (c.loop-self.invariant.rest ∙ ap (λ n. drop n old.units.items) gone)
    ∙ ap (λ n. units_from (tag_of old.tags) n (drop count old.units.items)) front
    ∙ sym (drop-units_from (tag_of old.tags) old.gone count old.units.items)
