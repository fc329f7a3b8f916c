use Rattle.std.proofs.Common.{◌≡◌, ◌∙◌, arith, rules}
use Rattle.pair_judge.proofs.Runs.{behind_all}
use Rattle.pair_judge.proofs.tags.Tags.push.Goals as goal

pub returns-then-is_same-clause-ok : goal.returns-then-is_same-clause-ok
returns-then-is_same-clause-ok c = λ k past.
    let same : c.args.self.now.newest ≡ c.args.tag.now = search rules in
    behind_all c.args.self.now.older.items c.args.self.now.newest k (omega (arith, c.requires)) ∙ same
