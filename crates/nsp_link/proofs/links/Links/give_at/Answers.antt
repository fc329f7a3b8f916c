use Rattle.std.proofs.Common.{rules}
use Rattle.dna_packet.specs.Nsp.{segment_view}
use Rattle.dna_links.specs.Segmentation.{piece_of}
use Rattle.nsp_link.specs.Kinds.{queues_of}
use Rattle.nsp_link.specs.inner.Permitted.{gave}
use Rattle.nsp_link.proofs.Change.{in_place, changes, link_found, made_if_ok}
use Rattle.nsp_link.proofs.Dead.{dead_kept}
use Rattle.nsp_link.proofs.links.Links.give_at.Goals as goal

pub give-requires : goal.give-requires
give-requires g c =
    let there = link_found (in_place c.self.view_is c.requires.within c.index_mut.ensures.value) in
    record {
      kept = c.requires.kept _ there;
      room = (c.requires.next _ there).0;
      next = (c.requires.next _ there).1;
    }

pub invariant_of-self : goal.invariant_of-self
invariant_of-self g c = record {
  indexed = search (rules, changes);
  dead = dead_kept (in_place c.self.view_is c.requires.within c.index_mut.ensures.value) _ c.requires.kept c.self.invariant.dead;
}

pub returns-clause-ok : goal.returns-clause-ok
returns-clause-ok g c =
    made_if_ok (in_place c.self.view_is c.requires.within c.index_mut.ensures.value) c.give.result
    (gave (queues_of g.row.QUEUES) (piece_of (segment_view c.args.segment.now)) c.args.late) c.give.new.self c.give.ensures.ok
