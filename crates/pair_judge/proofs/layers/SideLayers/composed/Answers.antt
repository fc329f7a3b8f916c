use Rattle.std.proofs.Common.{Ok, sym, ap, refl, ◌∙◌}
use Rattle.dna_links.specs.declared.tag.LinkTag.{LinkTag}
use Rattle.dna_node.specs.TagRules.{judged_by}
use Rattle.dna_node.specs.WireLayers.{wire_composes}
use Rattle.dna_station.specs.WireStation.{WireStation}
use Rattle.nsp_link.specs.Kinds.{queues_of}
use Rattle.pair_judge.specs.inner.Packets.{lent_content}
use Rattle.pair_judge.proofs.Arrives.{if_refused}
use Rattle.pair_judge.proofs.Composes.{beside, composes_made, composes_refused}
use Rattle.pair_judge.proofs.layers.SideLayers.composed.Goals as goal

pub returns-in-Ok-clause-ok : goal.returns-in-Ok-clause-ok
returns-in-Ok-clause-ok g c =
    let rules = judged_by (queues_of g.row.QUEUES) in
    let s = c.args.self.now in
    ap (wire_composes rules s) (rw c.in-Ok-Some.field-0-is at c.in-Ok-Some.ensures.carried)
    ∙ composes_made rules s (lent_content c.in-Ok-Some.carried) c.send.new.self.links c.in-Ok.field-0 (c.in-Ok.ensures.ok s (beside s) refl)
    ∙ ap (λ (w : WireStation LinkTag). Ok (record c.send.new.self { station = w })) (sym c.in-Ok.ensures.station)

pub returns-in-Err-send-clause-refused : goal.returns-in-Err-send-clause-refused
returns-in-Err-send-clause-refused g c =
    let rules = judged_by (queues_of g.row.QUEUES) in
    let s = c.args.self.now in
    if_refused c.in-Err-send.fault
    (λ refusal refuses. ap (wire_composes rules s) (rw c.in-Ok-Some.field-0-is at c.in-Ok-Some.ensures.carried)
    ∙ composes_refused rules s (lent_content c.in-Ok-Some.carried) refusal (refuses s (beside s) refl)) c.in-Err-send.ensures.refused
