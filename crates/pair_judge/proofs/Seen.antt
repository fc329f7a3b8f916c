-- What becomes of a record on true numbers, from what is seen of it; and how many links are seen.
use Rattle.std.proofs.Common.{◌≡◌, false, List, length, refl, sym, ap, ◌∙◌}
use Rattle.std.proofs.lemmas.List.{length-map}
use Rattle.two_nodes.specs.Nodes.{Outcome, Run, advance}
use Rattle.two_nodes.specs.Nodes.Outcome.{Made, Waits, Refused}
use Rattle.two_nodes.specs.Cutting.{Cut, cut_outcome, cut_world}
use Rattle.capture_record.specs.declared.record.Record.{Record}
use Rattle.dna_station.specs.declared.head.Head.{Head}
use Rattle.dna_station.specs.declared.refusal.StepRefusal.{StepRefusal}
use Rattle.dna_links.specs.declared.queue.Queues.{Queues}
use Rattle.dna_node.specs.CutLayers.{cut_layers_unit, layers_seen_by}
use Rattle.dna_links.specs.CutLinks.{cut_link}
use Rattle.dna_node.specs.LayersPair.{layers_pair_by}
use Rattle.dna_node.specs.Seen.{IsSeenLayersBy}
use Rattle.dna_node.specs.WireLayers.{wire_layers_pair_by, wire_layers_start}
use Rattle.pair_judge.specs.inner.Reached.{IsShown, ShowsRuns}
use Rattle.pair_judge.specs.inner.Tops.{links_on_top_by, links_top}
use Rattle.pair_judge.specs.inner.Wire.{JudgeWorld}

module _ {S U T V : Type 0} (cut : Cut S U T V) where
  pub refused_there : (outcome : Outcome S U StepRefusal) (refusal : StepRefusal) →
      ◌≡◌ {A = Outcome T V StepRefusal} (cut_outcome cut outcome) (Refused refusal) → outcome ≡ Refused refusal
  refused_there (Made half) refusal e = absurd (cc)
  refused_there Waits refusal e = absurd (cc)
  refused_there (Refused reason) refusal e = ap Refused (cc)

  pub waits_there : (outcome : Outcome S U StepRefusal) → ◌≡◌ {A = Outcome T V StepRefusal} (cut_outcome cut outcome) Waits → outcome ≡ Waits
  waits_there (Made half) e = absurd (cc)
  waits_there Waits e = refl
  waits_there (Refused reason) e = absurd (cc)

-- what the wire nodes over both layers show
pub shown : (queues : Queues) (head_a head_b : Head) (w : JudgeWorld) (of_a of_b : List Record) → IsSeenLayersBy queues head_a head_b w of_a of_b →
    IsShown (links_on_top_by queues) head_a head_b w of_a of_b
shown queues head_a head_b w of_a of_b s = record {
  world = s.world;
  run = s.run;
  refused_a = λ r refusal is. refused_there (layers_seen_by queues) (advance (layers_pair_by queues).node_a s.world.a s.world.b r) refusal
      (sym (s.same_a r) ∙ is);
  refused_b = λ r refusal is. refused_there (layers_seen_by queues) (advance (layers_pair_by queues).node_b s.world.b s.world.a r) refusal
      (sym (s.same_b r) ∙ is);
  waits_a = λ r is. waits_there (layers_seen_by queues) (advance (layers_pair_by queues).node_a s.world.a s.world.b r) (sym (s.same_a r) ∙ is);
  waits_b = λ r is. waits_there (layers_seen_by queues) (advance (layers_pair_by queues).node_b s.world.b s.world.a r) (sym (s.same_b r) ∙ is);
  links_a = ap (λ (x : JudgeWorld). length x.a.state.station.links.links) s.is_cut ∙ length-map s.world.a.state.station.links.links (cut_link queues);
  links_b = ap (λ (x : JudgeWorld). length x.b.state.station.links.links) s.is_cut ∙ length-map s.world.b.state.station.links.links (cut_link queues);
  shows_a = record {
    station = ap (λ (x : JudgeWorld). x.a.state.station) s.is_cut;
    front = ap (λ (x : JudgeWorld). x.a.state.front) s.is_cut;
    sent = ap (λ (x : JudgeWorld). length x.a.sent) s.is_cut ∙ length-map s.world.a.sent cut_layers_unit;
  };
  shows_b = record {
    station = ap (λ (x : JudgeWorld). x.b.state.station) s.is_cut;
    front = ap (λ (x : JudgeWorld). x.b.state.front) s.is_cut;
    sent = ap (λ (x : JudgeWorld). length x.b.sent) s.is_cut ∙ length-map s.world.b.sent cut_layers_unit;
  };
}

-- what the wire nodes of a kind see
abbrev pub SeesRight : Queues → Type 0
SeesRight queues = (head_a head_b : Head) (w : JudgeWorld) (of_a of_b : List Record) →
    Run (wire_layers_pair_by queues) (wire_layers_start head_a head_b) of_a of_b w → IsSeenLayersBy queues head_a head_b w of_a of_b

pub shown_by : (queues : Queues) → SeesRight queues → ShowsRuns (links_on_top_by queues)
shown_by queues sees head_a head_b w of_a of_b run = shown queues head_a head_b w of_a of_b (sees head_a head_b w of_a of_b run)

-- of that world the wire nodes' one is the cut
pub shown_is_cut : (queues : Queues) (head_a head_b : Head) (w : JudgeWorld) (of_a of_b : List Record)
    (s : IsSeenLayersBy queues head_a head_b w of_a of_b) →
    w ≡ cut_world (layers_seen_by queues) (shown queues head_a head_b w of_a of_b s).world
unfolding shown
shown_is_cut queues head_a head_b w of_a of_b s = s.is_cut

-- where no period is asked, the run is shown by itself
pub shown_as_run : (queues : Queues) → ShowsRuns (links_top false queues)
shown_as_run queues head_a head_b w of_a of_b run = record {
  world = w;
  run = run;
  refused_a = λ r refusal is. is;
  refused_b = λ r refusal is. is;
  waits_a = λ r is. is;
  waits_b = λ r is. is;
  links_a = refl;
  links_b = refl;
  shows_a = record { station = refl; front = refl; sent = refl };
  shows_b = record { station = refl; front = refl; sent = refl };
}
