use Rattle.std.proofs.Common.{[], ◌∷◌, ◌++◌, sym, subst}
use Rattle.accusing.specs.Answers.{IsAfter}
use Rattle.accusing.specs.Placing.{Other}
use Rattle.accusing.specs.Sight.{Sight}
use Rattle.accusing.proofs.Histories.{after_other}
use Rattle.accusing.proofs.accuser.Accuser.other_passed.Goals as goal

pub returns-clause-after : goal.returns-clause-after
returns-clause-after c = λ passed is.
    subst (λ (x : Sight). IsAfter x (passed ++ Other c.args.unit.now ∷ [])) (sym c.takes_note.ensures)
    (after_other passed c.args.unit.now c.args.self.now is)
