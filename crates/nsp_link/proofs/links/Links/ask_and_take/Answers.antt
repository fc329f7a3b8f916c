use Rattle.std.proofs.Common.{Err, sym, ap, ◌∙◌}
use Rattle.nsp_link.specs.Kinds.{queues_of}
use Rattle.nsp_link.proofs.links.Links.ask_and_take.Goals as goal

pub returns-in-Err-clause-refused : goal.returns-in-Err-clause-refused
returns-in-Err-clause-refused g c = c.in-Err.ensures.refused (queues_of g.row.QUEUES) ∙ ap Err (sym c.refusal.ensures)
