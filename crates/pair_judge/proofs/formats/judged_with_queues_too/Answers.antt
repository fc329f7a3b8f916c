use Rattle.pair_judge.proofs.QueuedToo.{accepts_as}
use Rattle.pair_judge.proofs.formats.judged_with_queues_too.Goals as goal

pub returns : goal.returns
returns c = accepts_as c.layers_with_queues_do_as_much.ensures.run c.one_head_and_list.ensures.list
