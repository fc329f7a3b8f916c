use Rattle.std.proofs.Common.{rules}
use Rattle.dna_links.specs.Queues.{shows}
use Rattle.dna_links.specs.WireSegments.{wire_segments}
use Rattle.nsp_link.proofs.Change.{in_place, changes, change_made}
use Rattle.nsp_link.proofs.Dead.{dead_same, shown_dead}
use Rattle.nsp_link.proofs.links.Links.say_at.Goals as goal

pub invariant_of-self : goal.invariant_of-self
invariant_of-self g c = record {
  indexed = search (rules, changes);
  dead = dead_same (in_place c.self.view_is c.requires.within c.index_mut.ensures.value) _
      (shown_dead c.args.said _ _ c.say.ensures.shows) c.self.invariant.dead;
}

pub returns : goal.returns
returns g c =
    change_made (in_place c.self.view_is c.requires.within c.index_mut.ensures.value) (shows wire_segments c.args.said) c.say.ensures.shows
