use Rattle.accusing_links.proofs.Passing.{noted, kept_as_was}
use Rattle.accusing_links.proofs.link_accuser.LinkAccuser.other_passed.Goals as goal

pub returns-clause-after : goal.returns-clause-after
returns-clause-after c = λ passed is.
    noted passed c.args.unit.now c.args.self.now c.takes_note.new.self c.takes_note.result is c.takes_note.ensures.segments
    c.takes_note.ensures.connects

pub returns-clause-err : goal.returns-clause-err
returns-clause-err c = λ passed is.
    kept_as_was passed c.args.self.now c.takes_note.new.self c.takes_note.result is c.takes_note.ensures.err_segments
    c.takes_note.ensures.err_connects
