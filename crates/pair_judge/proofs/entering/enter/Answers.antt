use Rattle.pair_judge.proofs.entering.enter.Goals as goal

pub returns-in-Interrupt-clause-ok : goal.returns-in-Interrupt-clause-ok
returns-in-Interrupt-clause-ok g c = c.carried.ensures c.args.layers.now
