use Rattle.why_answer.proofs.telling.accusation_knowing.Goals as goal

pub returns : goal.returns
returns c = record { has_begun = c.args.has_begun; excuse = c.args.excuse; other = c.args.other; is = c.knowing.ensures }
