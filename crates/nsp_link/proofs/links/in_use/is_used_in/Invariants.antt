use Rattle.std.proofs.Common.{◌≡◌, drop}
use Rattle.std.specs.List.{list_any}
use Rattle.dna_links.specs.LookUps.{passes}
use Rattle.dna_links.specs.Links.{LinkOf}
use Rattle.dna_links.specs.Queues.{in_use}
use Rattle.dna_links.specs.WireSegments.{WireSegments}
use Rattle.dna_links.specs.declared.port.LinkTest.TheVariants.{BegunBy}
use Rattle.dna_links.specs.declared.queue.Queues.TheVariants.{With}
use Rattle.nsp_link.proofs.links.in_use.is_used_in.Given as goal

abbrev pub invariant-loop-link : goal.invariant-loop-link
invariant-loop-link g l =
    list_any (λ (k : LinkOf WireSegments). passes (BegunBy l.far) (in_use With k)) (drop l.link-index l.link-items)
    ≡ list_any (λ (k : LinkOf WireSegments). passes (BegunBy l.far) (in_use With k)) l.links.items
