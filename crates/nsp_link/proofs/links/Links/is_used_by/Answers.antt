use Rattle.std.proofs.Common.{ℕ, not, eqb, refl, sym, ap, ◌∙◌}
use Rattle.dna_links.specs.declared.queue.Queues.TheVariants.{With}
use Rattle.nsp_link.proofs.InUse.{any_is_some, used_found_as}
use Rattle.nsp_link.proofs.Used.{used_with}
use Rattle.nsp_link.proofs.links.Links.is_used_by.Goals as goal

pub returns-then-not-counts : goal.returns-then-not-counts
returns-then-not-counts g c = rw (← c.self.view_is) (c.is_used_in.ensures ∙ any_is_some _ c.self.inside.links.items)

pub returns : goal.returns
returns g c =
    rw (← c.self.view_is) (ap (λ (k : ℕ). not (eqb k 0)) c.uses.ensures ∙
    sym (used_found_as With refl c.self.inside.links.items _
    (used_with _ _ _ (sym c.counts.ensures ∙ c.if-not-counts.false) c.self.invariant.indexed.used) c.args.far))
