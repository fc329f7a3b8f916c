use Rattle.std.proofs.Common.{◌≡◌, sym, ◌∙◌, arith, rules}
use Rattle.dna_packet.specs.Nsp.{segment_view}
use Rattle.dna_links.specs.SegmentBook.{distance}
use Rattle.nsp_link.proofs.Holding.{held_there}
use Rattle.nsp_link.proofs.segments.Segments.hold.Goals as goal

pub returns-then-not-is_missing-clause-ok : goal.returns-then-not-is_missing-clause-ok
returns-then-not-is_missing-clause-ok g c =
    let above : c.distance-above.result ≡ distance c.self.inside.received c.args.segment.now.number = search rules in
    rw (← c.self.view_is)
    (sym (held_there c.from-above.result (segment_view c.args.segment.now) _ (c.from-above.ensures ∙ above) (omega arith)
    (sym c.is_missing.ensures ∙ c.if-not-is_missing.true)))
