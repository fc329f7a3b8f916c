use Rattle.std.proofs.Common.{ℕ, Option, sym, ap, ◌∙◌}
use Rattle.dna_links.specs.LookUps.{passes}
use Rattle.dna_links.specs.Links.{LinkOf}
use Rattle.dna_links.specs.WireSegments.{WireSegments}
use Rattle.nsp_link.specs.inner.Index.{passing}
use Rattle.nsp_link.proofs.LookUps.{one_found}
use Rattle.nsp_link.proofs.Found.{found_number}
use Rattle.nsp_link.proofs.links.Links.find.Goals as goal

pub returns-clause-number : goal.returns-clause-number
returns-clause-number g c =
    let l = c.self.inside in
    rw (← c.self.view_is) (c.passing.ensures
    ∙ ap (λ (o : Option ℕ). passing (λ (k : LinkOf WireSegments). passes c.args.test k.port) l.links.items o) c.candidate.ensures
    ∙ sym (one_found l.links.items _ _ _ _ c.self.invariant.indexed.found c.args.test c.requires))

pub returns-clause-within : goal.returns-clause-within
returns-clause-within g c = found_number c.args.test c.args.self.now c.passing.result (returns-clause-number g c)
