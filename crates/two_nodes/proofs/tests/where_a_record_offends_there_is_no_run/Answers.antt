use Rattle.two_nodes.specs.inner.Example.Fault.{NothingToTell}
use Rattle.two_nodes.specs.Nodes.{start_world}
use Rattle.two_nodes.proofs.tests.where_a_record_offends_there_is_no_run.Goals as goal

pub returns : goal.returns
returns c = λ xs ys n offends. c.offender.ensures.no_run (start_world 0 0) xs ys n NothingToTell offends
