-- Cutting a station commutes with a label that is put beside its newest packet, and with what its user does.
use Rattle.std.proofs.Common.{◌≡◌, ℕ, ◌+◌, ◌-◌, ◌<◌, Option, Some, None, List, [], map, length, drop, set, refl, sym, ap, ◌∙◌, arith, length-drop}
use Rattle.std.specs.Prelude.{slice_get}
use Rattle.std.proofs.lemmas.List.{map-set, drop-set-add, set-get_or}
use Rattle.std.proofs.lemmas.Option.{slice_get-map, get_or_from_slice_get}
use Rattle.dna_station.specs.declared.state.StationEvent.{StationEvent}
use Rattle.dna_station.specs.declared.state.StationEvent.TheVariants.{Start, Halt}
use Rattle.dna_station.specs.Station.{Station, given, after_event}
use Rattle.dna_station.specs.WireStation.{HeldPacket, labelled, with_label, wire_after_label, wire_after_event}
use Rattle.dna_station.specs.Cut.{AreLabelled, cut, all_after_event}
use Rattle.dna_station.proofs.Cut.Sending.{body_at, all_length}
use Rattle.two_nodes.proofs.NumberedSteps.{slice_get-drop}

module _ {L : Type 0} (all : List (HeldPacket L)) (s : Station) where
  pub event_same : (event : StationEvent) → cut (all_after_event all event) (after_event s event) ≡ wire_after_event (cut all s) event
  event_same Start = refl
  event_same Halt = refl

  pub event_labelled : (event : StationEvent) → AreLabelled all s → AreLabelled (all_after_event all event) (after_event s event)
  event_labelled Start fits = refl
  event_labelled Halt fits = fits

  -- one item with another label
  relabelled : (o : Option (HeldPacket L)) (label : L) → slice_get all (length all - 1) ≡ o → map body_at (labelled all o label) ≡ map body_at all
  relabelled None label e = refl
  relabelled (Some newest) label e =
      map-set body_at all (length all - 1) (record newest { label = Some label })
      ∙ ap (set (map body_at all) (length all - 1))
      (sym (get_or_from_slice_get (map body_at all) (length all - 1) newest.body []
      (slice_get-map body_at all (length all - 1) ∙ ap (λ (o : Option (HeldPacket L)). there o) e)))
      ∙ set-get_or (map body_at all) (length all - 1) []
    where
      there : Option (HeldPacket L) → Option (List ℕ)
      there None = None
      there (Some packet) = Some packet.body

  pub label_labelled : (label : L) → AreLabelled all s → AreLabelled (with_label all label) s
  label_labelled label fits = relabelled (slice_get all (length all - 1)) label refl ∙ fits

  -- a number is outstanding
  module _ (fits : AreLabelled all s) (some : s.acknowledged < given s) where
    newest_place : s.acknowledged + (length (drop s.acknowledged all) - 1) ≡ length all - 1
    newest_place = let h = length-drop s.acknowledged all in let n = all_length all s fits in omega arith

    newest_held : slice_get (drop s.acknowledged all) (length (drop s.acknowledged all) - 1) ≡ slice_get all (length all - 1)
    newest_held = slice_get-drop s.acknowledged (length (drop s.acknowledged all) - 1) all ∙ ap (slice_get all) newest_place

    held_labelled : (o : Option (HeldPacket L)) (label : L) → drop s.acknowledged (labelled all o label) ≡ labelled (drop s.acknowledged all) o label
    held_labelled None label = refl
    held_labelled (Some newest) label =
        ap (λ (n : ℕ). drop s.acknowledged (set all n (record newest { label = Some label }))) (sym newest_place)
        ∙ drop-set-add s.acknowledged all (length (drop s.acknowledged all) - 1) (record newest { label = Some label })

    pub label_same : (label : L) → cut (with_label all label) s ≡ wire_after_label (cut all s) label
    label_same label =
        ap (λ (ps : List (HeldPacket L)). record (cut all s) { variables = record (cut all s).variables { held = ps } })
        (held_labelled (slice_get all (length all - 1)) label ∙ ap (λ (o : Option (HeldPacket L)). labelled (drop s.acknowledged all) o label)
        (sym newest_held))
