use Rattle.std.proofs.Common.{rules}
use Rattle.dna_links.specs.Links.{with_segments}
use Rattle.dna_links.specs.WireSegments.{hands_in}
use Rattle.nsp_link.proofs.Change.{in_place, changes, made_if_ok}
use Rattle.nsp_link.proofs.Dead.{dead_kept}
use Rattle.nsp_link.proofs.links.Links.hand_in_at.Goals as goal

pub invariant_of-self : goal.invariant_of-self
invariant_of-self g c = record {
  indexed = search (rules, changes);
  dead = dead_kept (in_place c.self.view_is c.requires.within c.index_mut.ensures.value) _ c.requires.kept c.self.invariant.dead;
}

pub returns-clause-ok : goal.returns-clause-ok
returns-clause-ok g c =
    made_if_ok (in_place c.self.view_is c.requires.within c.index_mut.ensures.value) c.hand_in.result
    (λ k. with_segments (hands_in c.args.message.now k.segments) k) c.hand_in.new.self c.hand_in.ensures.ok
