use Rattle.std.proofs.Common.{ℕ, Option, sym, ap, ◌∙◌}
use Rattle.dna_links.specs.declared.queue.Queues.TheVariants.{With}
use Rattle.dna_links.specs.LookUps.{passes}
use Rattle.dna_links.specs.Links.{LinkOf}
use Rattle.dna_links.specs.Queues.{in_use}
use Rattle.dna_links.specs.WireSegments.{WireSegments}
use Rattle.nsp_link.specs.inner.Index.{passing}
use Rattle.nsp_link.proofs.InUse.{waiting_found, place_within}
use Rattle.nsp_link.proofs.links.Links.find_waiting.Goals as goal

pub returns-clause-number : goal.returns-clause-number
returns-clause-number g c =
    let l = c.self.inside in
    rw (← c.self.view_is) (c.waiting.ensures
    ∙ ap (λ (o : Option ℕ). passing (λ (k : LinkOf WireSegments). passes c.args.test (in_use With k)) l.links.items o) c.candidate.ensures
    ∙ sym (waiting_found l.links.items _ _ _ _ c.self.invariant.indexed.found c.args.test c.requires.own))

pub returns-clause-within : goal.returns-clause-within
returns-clause-within g c =
    place_within (λ (k : LinkOf WireSegments). passes c.args.test (in_use With k)) c.args.self.now.links c.waiting.result (returns-clause-number g c)
