use Rattle.std.proofs.Common.{◌≡◌, true, IfErr, rules, sym, ap, ◌∙◌}
use Rattle.dna_packet.specs.Nsp.{segment_view}
use Rattle.dna_links.specs.declared.port.Phase.TheVariants.{Running}
use Rattle.dna_links.specs.WireSegments.{takes_segment}
use Rattle.nsp_link.specs.Kinds.{queues_of}
use Rattle.nsp_link.specs.Segments.{is_held}
use Rattle.nsp_link.specs.inner.Rows.{runs, takes_in}
use Rattle.nsp_link.proofs.Change.{in_place, changes, link_found, made_if_ok, map_ok, holds_there}
use Rattle.nsp_link.proofs.Settled.{moves}
use Rattle.nsp_link.proofs.Dead.{dead_lives}
use Rattle.nsp_link.proofs.links.Links.take_segment_at.Goals as goal

pub take_segment-requires : goal.take_segment-requires
take_segment-requires g c = record {
  live = c.requires.live _ (link_found (in_place c.self.view_is c.requires.within c.index_mut.ensures.value));
  acks = c.requires.acks;
  number = c.requires.segnum;
}

pub invariant_of-self : goal.invariant_of-self
invariant_of-self g c = record {
  indexed = search (rules, changes);
  dead = dead_lives (in_place c.self.view_is c.requires.within c.index_mut.ensures.value) _ c.requires.live c.self.invariant.dead;
}

pub returns-clause-ok : goal.returns-clause-ok
returns-clause-ok g c =
    let at = in_place c.self.view_is c.requires.within c.index_mut.ensures.value in
    made_if_ok at c.take_segment.result (runs (queues_of g.row.QUEUES) (takes_segment (segment_view c.args.segment.now) tt)) c.take_segment.new.self
    (map_ok c.take_segment.result
    (λ made. made ∙ ap (takes_in (takes_segment (segment_view c.args.segment.now) tt))
    (sym (moves (queues_of g.row.QUEUES) Running c.index_mut.result.now (c.requires.live _ (link_found at)))))
    c.take_segment.ensures.ok)

pub returns-clause-held : goal.returns-clause-held
returns-clause-held g c =
    holds_there (in_place c.self.view_is c.requires.within c.index_mut.ensures.value)
    (λ k. IfErr c.take_segment.result (λ e. is_held (segment_view c.args.segment.now) k.segments.variables ≡ true)) c.take_segment.ensures.held
