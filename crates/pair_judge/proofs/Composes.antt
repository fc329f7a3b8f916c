-- What is composed and never sent is to the links as a packet that is first sent.
use Rattle.std.proofs.Common.{◌≡◌, Option, Some, None, Result, Ok, Err, ap}
use Rattle.dna_station.specs.declared.link_refusal.LinkRefusal.{LinkRefusal}
use Rattle.dna_station.specs.declared.refusal.StepRefusal.{StepRefusal}
use Rattle.dna_station.specs.declared.tag.Tag.{Tag}
use Rattle.dna_station.specs.WireStation.{WireStation}
use Rattle.dna_links.specs.declared.tag.LinkTag.{LinkTag}
use Rattle.dna_links.specs.Links.{Carried}
use Rattle.dna_links.specs.Sending.{Sent}
use Rattle.dna_links.specs.WireLinks.{WireLinks, wire_links_sent}
use Rattle.dna_links.specs.WireSegments.{WireSegments}
use Rattle.dna_node.specs.Alone.{unknown_period}
use Rattle.dna_node.specs.TagRules.{Rules}
use Rattle.dna_node.specs.WireLayers.{WireLayers, LayersTag, first_tagged, with_tag, with_wire_composed, wire_composes, wire_sends_first}

-- of whatever the station would make of it
abbrev pub beside : WireLayers → WireStation LinkTag × Tag
beside s = (s.station, unknown_period)

abbrev links_in : WireLinks → Result (WireLayers × LayersTag) StepRefusal → WireLinks
links_in links (Ok made) = made.0.links
links_in links (Err refusal) = links

module _ (rules : Rules) (s : WireLayers) where
  made_by : (o : Result (Sent WireSegments (Unit {0})) LinkRefusal) (links : WireLinks) (tag : LinkTag) →
      with_tag (beside s) o ≡ Ok (first_tagged (beside s) links tag) → with_wire_composed s o ≡ Ok (record s { links = links })
  made_by (Ok made) links tag is =
      ap (λ (x : Result (WireLayers × LayersTag) StepRefusal). Ok (record s { links = links_in links x })) is
  made_by (Err refusal) links tag is = absurd (cc)

  pub composes_made : (r : Result (Option Carried) StepRefusal) (links : WireLinks) (tag : LinkTag) →
      wire_sends_first rules s (beside s) r ≡ Ok (first_tagged (beside s) links tag) → wire_composes rules s r ≡ Ok (record s { links = links })
  composes_made (Ok (Some packet)) links tag is = made_by (wire_links_sent rules.queues s.links packet) links tag is
  composes_made (Ok None) links tag is =
      ap (λ (x : Result (WireLayers × LayersTag) StepRefusal). Ok (record s { links = links_in links x })) is
  composes_made (Err refusal) links tag is = absurd (cc)

  refused_by : (o : Result (Sent WireSegments (Unit {0})) LinkRefusal) (refusal : StepRefusal) →
      with_tag (beside s) o ≡ Err refusal → with_wire_composed s o ≡ Err refusal
  refused_by (Ok made) refusal is = absurd (cc)
  refused_by (Err other) refusal is = cc

  pub composes_refused : (r : Result (Option Carried) StepRefusal) (refusal : StepRefusal) →
      wire_sends_first rules s (beside s) r ≡ Err refusal → wire_composes rules s r ≡ Err refusal
  composes_refused (Ok (Some packet)) refusal is = refused_by (wire_links_sent rules.queues s.links packet) refusal is
  composes_refused (Ok None) refusal is = absurd (cc)
  composes_refused (Err other) refusal is = cc
