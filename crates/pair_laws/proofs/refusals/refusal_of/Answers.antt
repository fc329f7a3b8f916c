-- The clause of `judge` speaks of what its readers give, which is the two texts.
use Rattle.std.proofs.Common.{sym, ◌∙◌}
use Rattle.pair_laws.proofs.refusals.refusal_of.Goals as goal

pub returns-in-Refused-clause-told : goal.returns-in-Refused-clause-told
returns-in-Refused-clause-told c = λ a b text_a text_b.
    let known = rw (c.of_period.ensures, c.new-a.ensures.lent, c.new-b.ensures.lent, sym c.verdict.ensures ∙ c.in-Refused.is)
    at c.in-Ok.ensures.answer in
    c.refused_captures.ensures.nodes a b _ _ _ _ _ text_a text_b known.refused

pub returns-in-Refused-clause-any_format : goal.returns-in-Refused-clause-any_format
returns-in-Refused-clause-any_format c = λ a b other_a other_b other here there is.
    c.judged_in_any_format.ensures.alike a b _ _ other_a other_b _ other here there
    (rw (c.of_period.ensures, c.new-a.ensures.lent, c.new-b.ensures.lent, sym c.verdict.ensures ∙ c.in-Refused.is) at c.in-Ok.ensures.answer) is
