use Rattle.std.proofs.Common.{not, eqb}
use Rattle.nsp_link.specs.Kinds.{queues_of}
use Rattle.pair_judge.proofs.EndsAlone.{layers_end_alike}
use Rattle.pair_judge.proofs.layers.linked.LinksOnTopTop.shows_alone.Goals as goal

pub returns-clause-ends : goal.returns-clause-ends
returns-clause-ends g c = layers_end_alike (not (eqb g.row.OF_PERIOD 0)) (queues_of g.row.QUEUES)
