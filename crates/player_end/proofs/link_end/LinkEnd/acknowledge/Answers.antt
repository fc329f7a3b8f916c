use Rattle.std.proofs.Common.{[], ap₂, ◌∙◌}
use Rattle.dna_links.specs.SegmentBook.{distance}
use Rattle.dna_links.specs.WireSegments.{LinkVariables}
use Rattle.player_end.proofs.Acknowledged.{acks_taken}
use Rattle.player_end.proofs.link_end.LinkEnd.acknowledge.Goals as goal

pub returns : goal.returns
returns g c =
    let l = c.self.inside in
    let rest : LinkVariables = record { unsent = l.unsent; acknowledged = 0; outstanding = []; received = l.received; pieces = l.pieces } in
    let counted = c.from.ensures ∙ c.distance-count.ensures.value ∙ ap₂ distance c.acknowledged-before.ensures c.acknowledged-after.ensures in
    rw (← c.self.view_is)
    (acks_taken l.port rest l.owed c.args.words.now l.outstanding c.acknowledge_all.new.self c.acknowledge_all.ensures c.from.result
    c.lower.new.self counted c.lower.ensures)
