use Rattle.std.proofs.Common.{◌<◌, ap, ◌∙◌, length, set, arith}
use Rattle.std.proofs.lemmas.List.Edits.{map_over_more}
use Rattle.dna_links.specs.Links.{LinkOf}
use Rattle.dna_links.specs.Queues.{booted_link}
use Rattle.dna_links.specs.WireSegments.{WireSegments, wire_segments}
use Rattle.nsp_link.specs.Kinds.{queues_of}
use Rattle.nsp_link.proofs.Booted.{booted_dead, booted_from, more_dead, still_dead, within_booted}
use Rattle.nsp_link.proofs.links.boot.end_from.Goals as goal
use Rattle.nsp_link.proofs.links.boot.end_from.Goals.{then-settled+then-dead-number, else-settled}

pub loop-number-init : goal.loop-number-init
loop-number-init g c = record {
  items = booted_from (queues_of g.row.QUEUES) c.args.booted c.args.links.now.items c.requires;
  dead = c.requires;
  upto = omega arith;
}

pub loop-number-preserved : goal.loop-number-preserved
loop-number-preserved g c =
    let i = c.loop-number.invariant in
    let old = c.args.links.now.items in
    let items = c.loop-number.links.items in
    let n = c.loop-number.number in
    let low : n < length old = omega arith in
    record {
      items = ap (λ (m : LinkOf WireSegments). set items n m) c.boot-settled.ensures.boots
          ∙ map_over_more (booted_link wire_segments (queues_of g.row.QUEUES)) old items n c.index_mut.result.now low i.items
          c.index_mut.ensures.value;
      dead = elim c.if-settled.branch [
        | then-settled+then-dead-number w ↦ more_dead _ c.loop-number.dead n items c.boot-settled.new.self i.dead w.dead-is w.if-dead-number.true
            (within_booted (queues_of g.row.QUEUES) n old items i.items low)
            (booted_dead (queues_of g.row.QUEUES) c.index_mut.result.now c.boot-settled.new.self c.boot-settled.ensures.boots
            (c.boot-settled.ensures.settled w.if-settled.true))
        | else-settled w ↦ still_dead _ c.loop-number.dead n items c.boot-settled.new.self i.dead w.dead-is i.upto
      ];
      upto = elim c.if-settled.branch [
        | then-settled+then-dead-number w ↦ let is = w.dead-is in omega arith
        | else-settled w ↦ let is = w.dead-is in let before = i.upto in omega arith
      ];
    }
