use Rattle.player_end.proofs.Pairs.{none_there, none_before}
use Rattle.player_end.proofs.addresses.Addresses.first_from.Goals as goal

pub returns-in_default-clause-none : goal.returns-in_default-clause-none
returns-in_default-clause-none c =
    none_there c.args.self.now.pairs c.args.address c.args.from c.range.result (c.range.ensures.in_range tt) c.in_default.ensures.steps.0

pub returns-then-known-address-clause-none : goal.returns-then-known-address-clause-none
returns-then-known-address-clause-none c = λ other h.
    none_before c.args.self.now.pairs c.args.address c.args.from c.range.result (c.range.ensures.in_range tt) c.in-Some.pair.now _
    c.in-Some.ensures.steps other h (λ e. absurd (c.if-known-address.true e))

pub returns-clause-first : goal.returns-clause-first
returns-clause-first c = λ other h less.
    none_before c.args.self.now.pairs c.args.address c.args.from c.range.result (c.range.ensures.in_range tt) c.in-Some.pair.now _
    c.in-Some.ensures.steps other h (λ e. less)
