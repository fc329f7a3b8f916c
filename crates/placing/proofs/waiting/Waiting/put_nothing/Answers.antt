use Rattle.placing.proofs.Puts.{puts_nothing}
use Rattle.placing.proofs.waiting.Waiting.put_nothing.Goals as goal

pub returns-clause-puts : goal.returns-clause-puts
returns-clause-puts c = puts_nothing c.args.self.now
