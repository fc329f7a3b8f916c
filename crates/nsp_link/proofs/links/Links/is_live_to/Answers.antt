use Rattle.std.proofs.Common.{ℕ, not, eqb, sym, ap, ◌∙◌}
use Rattle.nsp_link.proofs.LookUps.{known_found}
use Rattle.nsp_link.proofs.links.Links.is_live_to.Goals as goal

pub returns : goal.returns
returns g c =
    rw (← c.self.view_is) (ap (λ (k : ℕ). not (eqb k 0)) c.times.ensures ∙
    sym (known_found c.self.inside.links.items _ _ _ _ c.self.invariant.indexed.found c.args.far))
