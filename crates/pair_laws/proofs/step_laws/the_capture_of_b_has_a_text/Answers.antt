use Rattle.pair_laws.proofs.step_laws.the_capture_of_b_has_a_text.Goals as goal

pub returns : goal.returns
returns c = λ script so_far fits e. (c.played_captures_are_few.ensures.played_fits script so_far fits e).1
