use Rattle.std.proofs.Common.{sym, ap, subst, ◌∙◌, List}
use Rattle.dna_links.specs.Links.{LinkOf}
use Rattle.dna_links.specs.WireSegments.{WireSegments, wire_segments}
use Rattle.dna_links.specs.Queues.{booted}
use Rattle.nsp_link.specs.Kinds.{queues_of}
use Rattle.nsp_link.specs.inner.Indexing.{AreIndexed}
use Rattle.nsp_link.proofs.Booted.{booted_index}
use Rattle.nsp_link.proofs.links.Links.boot.Goals as goal

pub end_from-self-inside-requires : goal.end_from-self-inside-requires
end_from-self-inside-requires g c = c.self.invariant.dead

pub invariant_of-self : goal.invariant_of-self
invariant_of-self g c =
    let none = c.index_of_none.ensures in
    record {
      indexed = subst (λ (xs : List (LinkOf WireSegments)). AreIndexed xs c.index_of_none.result)
          (sym {A = List (LinkOf WireSegments)} c.end_from-self-inside.ensures.items)
          (booted_index (queues_of g.row.QUEUES) c.self.inside.links.items c.index_of_none.result none.holder none.caller none.reached none.waiting
          none.in_use none.kind);
      dead = c.end_from-self-inside.ensures.dead;
    }

pub returns : goal.returns
returns g c =
    ap (λ (xs : List (LinkOf WireSegments)). record { node = c.self.inside.node; peer = c.self.inside.peer; links = xs })
    c.end_from-self-inside.ensures.items
    ∙ ap (booted wire_segments (queues_of g.row.QUEUES)) c.self.view_is
