use Rattle.std.proofs.Common.{◌+◌, Bool, ap, ◌∙◌, arith}
use Rattle.dna_links.specs.User.{view}
use Rattle.dna_links.specs.declared.tag.LinkTag.{LinkTag}
use Rattle.dna_station.specs.WireStation.{WireStation, load}
use Rattle.pair_judge.specs.Counting.{more_if}
use Rattle.pair_judge.proofs.Events.{links_counted}
use Rattle.pair_judge.proofs.entering.at_links.Goals as goal

pub returns-in-Ok-clause-ok : goal.returns-in-Ok-clause-ok
returns-in-Ok-clause-ok g c =
    let old = c.args.counts.now in
    let loaded = ap (λ (w : WireStation LinkTag). load w) c.at_links.ensures.station in
    record {
      made = c.in-Ok.ensures.ok;
      counts = c.with_link_event.ensures ∙ ap (λ (d : Bool). record old { records = old.records + 1; up = more_if d old.up })
          c.is_delivery-delivers.ensures ∙ links_counted old (view c.args.event);
      load = omega (arith, loaded);
    }
