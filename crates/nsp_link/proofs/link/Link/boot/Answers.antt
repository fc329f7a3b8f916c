use Rattle.std.proofs.Common.{sym, ap, ◌∙◌}
use Rattle.dna_links.specs.Links.{LinkOf, in_phase}
use Rattle.dna_links.specs.WireSegments.{WireSegments}
use Rattle.dna_links.specs.declared.port.Phase.TheVariants.{Ended}
use Rattle.nsp_link.specs.Kinds.{queues_of}
use Rattle.nsp_link.specs.inner.Queue.{forgotten_link}
use Rattle.nsp_link.proofs.Booted.{booted_is}
use Rattle.nsp_link.proofs.link.Link.boot.Goals as goal

pub returns-clause-boots : goal.returns-clause-boots
returns-clause-boots g c =
    c.forget.ensures
    ∙ ap (λ (l : LinkOf WireSegments). forgotten_link (queues_of g.row.QUEUES) (in_phase Ended l)) c.self.view_is
    ∙ sym (booted_is (queues_of g.row.QUEUES) c.args.self.now)
