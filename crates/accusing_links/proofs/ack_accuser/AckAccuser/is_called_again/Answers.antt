use Rattle.accusing_links.proofs.Prelude.{sym, ap, ◌∙◌, AckSight}
use Rattle.accusing_links.proofs.Telling.{second_call}
use Rattle.accusing_links.proofs.ack_accuser.AckAccuser.is_called_again.Goals as goal

pub returns-then-has-clause-again : goal.returns-then-has-clause-again
returns-then-has-clause-again c = λ f.
    second_call c.show.result c.args.far f c.self.inside.called c.args.self.now.called c.self.inside.again c.args.self.now.again c.show.new.self
    (ap (λ (s : AckSight). s.called) c.self.view_is) (ap (λ (s : AckSight). s.again) c.self.view_is) (sym c.has.ensures ∙ c.if-has.true)
    (c.show.ensures.ok 0 0 f)
