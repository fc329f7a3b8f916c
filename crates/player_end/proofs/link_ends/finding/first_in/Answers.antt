use Rattle.std.proofs.Common.{length, sym, refl, ◌∙◌, arith}
use Rattle.player_end.specs.inner.Links.{passes_there}
use Rattle.player_end.proofs.Finding.{found_first, found_none, none_between, none_through, passed_within}
use Rattle.player_end.proofs.link_ends.finding.first_in.Goals as goal

pub returns-in_default-clause-number : goal.returns-in_default-clause-number
returns-in_default-clause-number g c =
    sym (found_none (passes_there c.args.test) refl c.args.links.now.items (length c.args.links.now.items)
    (none_between (passes_there c.args.test) refl _ c.requires c.loop-from.invariant (λ k le less. c.in_default.ensures.none k le)) (omega arith))

pub returns-then-passes_at-clause-number : goal.returns-then-passes_at-clause-number
returns-then-passes_at-clause-number g c =
    sym (found_first (passes_there c.args.test) refl c.args.links.now.items c.in-Some.number (sym c.passes_at.ensures ∙ c.if-passes_at.true)
    (none_between (passes_there c.args.test) refl _ c.requires c.loop-from.invariant c.in-Some.ensures.first))

pub returns-then-passes_at-clause-within : goal.returns-then-passes_at-clause-within
returns-then-passes_at-clause-within g c =
    passed_within (passes_there c.args.test) refl c.args.links.now.items c.in-Some.number (sym c.passes_at.ensures ∙ c.if-passes_at.true)

pub returns-then-number-len-clause-number : goal.returns-then-number-len-clause-number
returns-then-number-len-clause-number g c =
    sym (found_none (passes_there c.args.test) refl c.args.links.now.items c.in-Some.number
    (none_between (passes_there c.args.test) refl _ c.requires c.loop-from.invariant c.in-Some.ensures.first) (omega arith))

pub loop-from-preserved : goal.loop-from-preserved
loop-from-preserved g c = none_through (passes_there c.args.test) refl _ c.requires c.loop-from.invariant c.in-Some.ensures.first
    (sym c.passes_at.ensures ∙ c.if-passes_at.false)

pub returns-clause-number : goal.returns-clause-number
returns-clause-number g c =
    sym (found_none (passes_there c.args.test) refl c.args.links.now.items c.loop-from.from c.loop-from.invariant (omega arith))
