-- What both layers make of an arrival whose packet the links meet before the station does.
use Rattle.std.proofs.Common.{◌≡◌, true, Option, Some, None, List, ℕ, Result, Ok, Err, refl, sym, ap, subst, ◌∙◌}
use Rattle.std.specs.Result.{IsOk}
use Rattle.capture_record.specs.declared.fate.Fate.{Fate}
use Rattle.capture_record.specs.Fates.{is_kept, is_met}
use Rattle.dna_station.specs.declared.tag.Tag.{Tag}
use Rattle.dna_links.specs.declared.tag.LinkTag.{LinkTag}
use Rattle.dna_links.specs.Links.{Carried}
use Rattle.dna_links.specs.WireLinks.{WireLinks, wire_links_arrived}
use Rattle.dna_station.specs.declared.link_refusal.LinkRefusal.{LinkRefusal}
use Rattle.dna_station.specs.declared.refusal.StepRefusal.{StepRefusal}
use Rattle.dna_station.specs.Book.{ArrivalValue}
use Rattle.dna_station.specs.WireStation.{WireStation}
use Rattle.dna_station.specs.WireBook.{wire_arrival_refusal, wire_after_arrival, wire_taken}
use Rattle.dna_node.specs.Content.{content}
use Rattle.dna_node.specs.TagRules.{Rules}
use Rattle.dna_node.specs.WireLayers.{WireLayers, tag_or_none, wire_keeps_packet, wire_layers_machine, with_wire_links}
use Rattle.pair_judge.specs.inner.Steps.{with_link}
use Rattle.pair_judge.proofs.Arrives.{arrives_kept}

-- the station of what is answered
abbrev under : WireStation LinkTag → Result WireLayers StepRefusal → Result WireLayers StepRefusal
under after (Ok s) = Ok (record s { station = after })
under after (Err refusal) = Err refusal

under_ok : (after : WireStation LinkTag) (r : Result WireLayers StepRefusal) → IsOk r → IsOk (under after r)
under_ok after (Ok s) ok = refl
under_ok after (Err refusal) ok = absurd (cc)

module _ (rules : Rules) (s : WireLayers) (after : WireStation LinkTag) where
  links_under : (r : Result WireLinks LinkRefusal) → with_wire_links (record s { station = after }) r ≡ under after (with_wire_links s r)
  links_under (Ok links) = refl
  links_under (Err refusal) = refl

  -- what the links make of a packet has nothing of the station
  keeps_under : (tag : LinkTag) (r : Result (Option Carried) StepRefusal) →
      wire_keeps_packet rules (record s { station = after }) tag r ≡ under after (wire_keeps_packet rules s tag r)
  keeps_under tag (Ok (Some packet)) = links_under (wire_links_arrived rules.queues rules.partners s.links packet tag)
  keeps_under tag (Ok None) = refl
  keeps_under tag (Err refusal) = refl

module _ (rules : Rules) (s : WireLayers) (link : Option LinkTag) (fate : Fate) (arrival : ArrivalValue Tag) (packet : List ℕ) (tag : LinkTag)
    (met_is : is_met fate ≡ true) (free : wire_arrival_refusal rules.periods s.station arrival (is_kept fate) ≡ None)
    (taken : wire_taken s.station arrival (is_kept fate) ≡ Some packet)
    (tag_is : tag ≡ tag_or_none link) where
  -- the links took it
  pub meets_kept : (met : WireLayers) → wire_keeps_packet rules s tag (content packet) ≡ Ok met → met.station ≡ s.station →
      (wire_layers_machine rules).arrives s (with_link link arrival) fate
      ≡ Ok (record met { station = wire_after_arrival met.station arrival (is_kept fate) })
  meets_kept met keeps same =
      let after = wire_after_arrival s.station arrival (is_kept fate) in
      arrives_kept rules s link fate arrival packet after tag (Ok (record met { station = after })) met_is free taken refl tag_is
      (keeps_under rules s after tag (content packet) ∙ ap (under after) keeps)
      ∙ ap (λ (w : WireStation LinkTag). Ok (record met { station = wire_after_arrival w arrival (is_kept fate) })) (sym same)

  -- or would take it
  pub meets_ok : IsOk (wire_keeps_packet rules s tag (content packet)) → IsOk ((wire_layers_machine rules).arrives s (with_link link arrival) fate)
  meets_ok ok =
      let after = wire_after_arrival s.station arrival (is_kept fate) in
      let keeps = wire_keeps_packet rules s tag (content packet) in
      subst IsOk
      (sym (arrives_kept rules s link fate arrival packet after tag (under after keeps) met_is free taken refl tag_is
      (keeps_under rules s after tag (content packet))))
      (under_ok after keeps ok)

  -- the links refused it
  pub meets_refused : (refusal : StepRefusal) → wire_keeps_packet rules s tag (content packet) ≡ Err refusal →
      (wire_layers_machine rules).arrives s (with_link link arrival) fate ≡ Err refusal
  meets_refused refusal refuses =
      let after = wire_after_arrival s.station arrival (is_kept fate) in
      arrives_kept rules s link fate arrival packet after tag (Err refusal) met_is free taken refl tag_is
      (keeps_under rules s after tag (content packet) ∙ ap (under after) refuses)
