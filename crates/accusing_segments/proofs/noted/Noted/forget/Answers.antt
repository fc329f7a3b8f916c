use Rattle.accusing_segments.proofs.Prelude.{ap, ◌∙◌, Noted, first_noted}
use Rattle.accusing_segments.proofs.Notes.{forgotten}
use Rattle.accusing_segments.proofs.noted.Noted.forget.Goals as goal

pub returns-clause-firsts : goal.returns-clause-firsts
returns-clause-firsts c = λ o f n other.
    forgotten c.args.own c.args.far c.args.number c.self.inside.firsts c.remove.new.self c.remove.ensures.updates o f n other
    ∙ ap (λ (s : Noted). first_noted s.firsts o f n) c.self.view_is
