use Rattle.accusing_links.proofs.Prelude.{ap, ◌∙◌, AckSight}
use Rattle.accusing_links.proofs.Telling.{first_call}
use Rattle.accusing_links.proofs.ack_accuser.AckAccuser.is_called.Goals as goal

pub returns-clause-called : goal.returns-clause-called
returns-clause-called c = λ f.
    first_call c.show.result c.args.far f c.self.inside.called c.args.self.now.called c.show.new.self
    (ap (λ (s : AckSight). s.called) c.self.view_is ∙ c.is_called_again.ensures.called) (c.show.ensures.ok 0 0 f)
