use Rattle.std.proofs.Common.{◌≡◌, sym, ◌∙◌, arith, rules}
use Rattle.dna_packet.specs.Nsp.{segment_view}
use Rattle.dna_links.specs.SegmentBook.{distance}
use Rattle.player_end.proofs.Holding.{unheld}
use Rattle.player_end.proofs.link_end.LinkEnd.hold.Goals as goal

pub returns-then-not-is_missing-clause-ok : goal.returns-then-not-is_missing-clause-ok
returns-then-not-is_missing-clause-ok g c =
    let above : c.distance-above.result ≡ distance c.self.inside.received c.args.segment.now.number = search rules in
    rw (← c.self.view_is)
    (sym (unheld c.from-above.result (segment_view c.args.segment.now) _ (c.from-above.ensures ∙ above) (omega arith)
    (sym c.is_missing.ensures ∙ c.if-not-is_missing.true)))
