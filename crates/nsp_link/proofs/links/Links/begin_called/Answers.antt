use Rattle.std.proofs.Common.{ap, ◌∙◌}
use Rattle.dna_links.specs.declared.port.LinkTest.TheVariants.{LiveTo}
use Rattle.dna_links.specs.Links.{number_of}
use Rattle.nsp_link.proofs.LookUps.{none_lives}
use Rattle.nsp_link.proofs.Dead.{dead_begun}
use Rattle.nsp_link.proofs.links.Links.begin_called.Goals as goal

pub called_at-requires : goal.called_at-requires
called_at-requires g c = record {
  index = c.self.invariant.indexed;
  free = none_lives c.args.far c.self.inside.links.items (ap (number_of (LiveTo c.args.far)) c.self.view_is ∙ c.requires);
}

pub invariant_of-self : goal.invariant_of-self
invariant_of-self g c = record {
  indexed = c.called_at.ensures.index;
  dead = dead_begun _ c.called_at.result c.called_at.ensures.ok c.called_at.ensures.err c.self.invariant.dead;
}
