use Rattle.std.proofs.lemmas.Result.{on_ok_weaker}
use Rattle.placing.proofs.Puts.{puts_aside}
use Rattle.placing.proofs.waiting.Waiting.put_aside.Goals as goal

pub returns-clause-puts : goal.returns-clause-puts
returns-clause-puts c =
    on_ok_weaker c.line.result
    (puts_aside c.args.self.now c.line.new.self c.args.entry c.args.bytes.now c.requires.aside c.line.ensures.units) c.line.ensures.text
