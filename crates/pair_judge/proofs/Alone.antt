-- What the wire nodes with nothing on top show of stations on true numbers: without the links, which nothing meets, they are the wire stations.
use Rattle.std.proofs.Common.{◌≡◌, true, false, List, [], length, Result, Ok, Err, refl, sym, ap, ◌∙◌}
use Rattle.std.proofs.lemmas.List.{length-map}
use Rattle.two_nodes.specs.Nodes.{Outcome, Run, World, advance}
use Rattle.two_nodes.specs.Nodes.Outcome.{Waits, Refused}
use Rattle.two_nodes.specs.Cutting.{Cut, Commutes, cut_half, cut_outcome, cut_world}
use Rattle.two_nodes.specs.Kept.{IsKept}
use Rattle.two_nodes.proofs.Simulated.{seen_run}
use Rattle.ddcmp_msg.specs.Message.{MessageValue}
use Rattle.capture_record.specs.declared.record.Record.{Record}
use Rattle.dna_station.specs.declared.head.Head.{Head}
use Rattle.dna_station.specs.declared.refusal.StepRefusal.{StepRefusal}
use Rattle.dna_station.specs.declared.tag.Tag.{Tag}
use Rattle.dna_links.specs.declared.tag.LinkTag.{LinkTag}
use Rattle.dna_station.specs.PeriodRule.{PeriodRule, of_period, of_any_period}
use Rattle.dna_station.specs.Machine.{pair_of, step}
use Rattle.dna_station.specs.Pair.{pair}
use Rattle.dna_station.specs.Seen.{IsSeen}
use Rattle.dna_station.specs.WireStation.{WireStation}
use Rattle.dna_station.specs.WireNode.{WireNode, WireUnit, cut_unit, seen, wire_machine, wire_start}
use Rattle.dna_station.proofs.Cut.Machines.{DoTheSame, cut_result, cut_sent, machine_cut, record_same}
use Rattle.dna_node.specs.WireLayers.{LayersTag, WireLayers, WireLayersNode, WireLayersUnit, with_wire_station, wire_layers_start}
use Rattle.pair_judge.specs.inner.Reached.{IsShown, ShowsRuns}
use Rattle.pair_judge.specs.inner.Tops.{line_by, nothing_top, sent_alone}
use Rattle.pair_judge.specs.inner.Wire.{JudgeHalf, JudgeWorld}
use Rattle.pair_judge.proofs.Seen.{refused_there, waits_there}

-- ---- one record

abbrev station_of : WireLayers → WireStation LinkTag
station_of s = s.station

abbrev of_station : MessageValue → LayersTag → Tag
of_station m known = known.station

module _ (rule : PeriodRule) where
  abbrev wire : Cut WireLayersNode WireLayersUnit (WireNode LinkTag) WireUnit
  wire = machine_cut station_of of_station (line_by rule) (wire_machine rule)

  goes_on : (s : WireLayers) (o : Result (WireStation LinkTag) StepRefusal) →
      o ≡ cut_result station_of of_station (line_by rule) (wire_machine rule) (with_wire_station s o)
  goes_on s (Ok after) = refl
  goes_on s (Err refusal) = refl

  sends_on : (s : WireLayers) (m : MessageValue) (o : Result (WireStation LinkTag × Tag) StepRefusal) →
      o ≡ cut_sent station_of of_station (line_by rule) (wire_machine rule) m (sent_alone s o)
  sends_on s m (Ok after) = refl
  sends_on s m (Err refusal) = refl

  do_the_same : (own other : JudgeHalf) → DoTheSame station_of of_station (line_by rule) (wire_machine rule) own other
  do_the_same own other = record {
    user = λ event. goes_on own.state.station _;
    sending = λ m. sends_on own.state.station m _;
    sound = λ k unit kept there ahead. goes_on own.state.station _;
    header_bad = λ kept. goes_on own.state.station _;
    data_bad = λ kept. goes_on own.state.station _;
  }

  same : (own other : JudgeHalf) (r : Record) →
      advance (step (wire_machine rule)) (cut_half wire own) (cut_half wire other) r ≡ cut_outcome wire
      (advance (step (line_by rule)) own other r)
  same own other r = record_same station_of of_station (line_by rule) (wire_machine rule) own other (do_the_same own other) r

  -- ---- a run

  abbrev always : JudgeWorld → List Record → List Record → Type 0
  always w of_a of_b = Unit {0}

  kept : IsKept (pair_of (line_by rule)) always
  kept = record { by_a = λ w made_a made_b r half now is. tt; by_b = λ w made_a made_b r half now is. tt }

  commutes : Commutes (pair_of (line_by rule)) (pair_of (wire_machine {L = LinkTag} rule)) wire always
  commutes = record { of_a = λ w made_a made_b r now. same w.a w.b r; of_b = λ w made_a made_b r now. same w.b w.a r }

  pub run_of_stations : (head_a head_b : Head) (w : JudgeWorld) (of_a of_b : List Record) →
      Run (pair_of (line_by rule)) (wire_layers_start head_a head_b) of_a of_b w →
      Run (pair_of (wire_machine {L = LinkTag} rule)) (wire_start head_a head_b) of_a of_b (cut_world wire w)
  run_of_stations head_a head_b w of_a of_b run =
      seen_run (pair_of (line_by rule)) (pair_of (wire_machine {L = LinkTag} rule)) wire always kept commutes [] [] tt run

  refused_wire : (o : Outcome WireLayersNode WireLayersUnit StepRefusal) (refusal : StepRefusal) → o ≡ Refused refusal →
      ◌≡◌ {A = Outcome (WireNode LinkTag) WireUnit StepRefusal} (cut_outcome wire o) (Refused refusal)
  refused_wire o refusal is = ap (cut_outcome wire) is

  waits_wire : (o : Outcome WireLayersNode WireLayersUnit StepRefusal) → o ≡ Waits →
      ◌≡◌ {A = Outcome (WireNode LinkTag) WireUnit StepRefusal} (cut_outcome wire o) Waits
  waits_wire o is = ap (cut_outcome wire) is

-- by what the wire stations show
pub shown_alone : (head_a head_b : Head) (w : JudgeWorld) (of_a of_b : List Record) → IsSeen head_a head_b (cut_world (wire of_period) w) of_a of_b →
    IsShown (nothing_top true) head_a head_b w of_a of_b
shown_alone head_a head_b w of_a of_b s = record {
  world = s.world;
  run = s.run;
  refused_a = λ r refusal is. refused_there seen (advance pair.node_a s.world.a s.world.b r) refusal
      (sym (s.same_a r) ∙ same of_period w.a w.b r ∙ refused_wire of_period _ refusal is);
  refused_b = λ r refusal is. refused_there seen (advance pair.node_b s.world.b s.world.a r) refusal
      (sym (s.same_b r) ∙ same of_period w.b w.a r ∙ refused_wire of_period _ refusal is);
  waits_a = λ r is. waits_there seen (advance pair.node_a s.world.a s.world.b r)
      (sym (s.same_a r) ∙ same of_period w.a w.b r ∙ waits_wire of_period _ is);
  waits_b = λ r is. waits_there seen (advance pair.node_b s.world.b s.world.a r)
      (sym (s.same_b r) ∙ same of_period w.b w.a r ∙ waits_wire of_period _ is);
  links_a = refl;
  links_b = refl;
  shows_a = record {
    station = ap (λ (x : World (WireNode LinkTag) WireUnit). x.a.state.station) s.is_cut;
    front = ap (λ (x : World (WireNode LinkTag) WireUnit). x.a.state.front) s.is_cut;
    sent = sym (length-map w.a.sent (wire of_period).of_unit) ∙ ap (λ (x : World (WireNode LinkTag) WireUnit). length x.a.sent) s.is_cut
        ∙ length-map s.world.a.sent cut_unit;
  };
  shows_b = record {
    station = ap (λ (x : World (WireNode LinkTag) WireUnit). x.b.state.station) s.is_cut;
    front = ap (λ (x : World (WireNode LinkTag) WireUnit). x.b.state.front) s.is_cut;
    sent = sym (length-map w.b.sent (wire of_period).of_unit) ∙ ap (λ (x : World (WireNode LinkTag) WireUnit). length x.b.sent) s.is_cut
        ∙ length-map s.world.b.sent cut_unit;
  };
}

-- where no period is asked, by themselves
pub shown_of_any_period : ShowsRuns (nothing_top false)
shown_of_any_period head_a head_b w of_a of_b run = record {
  world = cut_world (wire of_any_period) w;
  run = run_of_stations of_any_period head_a head_b w of_a of_b run;
  refused_a = λ r refusal is. same of_any_period w.a w.b r ∙ refused_wire of_any_period _ refusal is;
  refused_b = λ r refusal is. same of_any_period w.b w.a r ∙ refused_wire of_any_period _ refusal is;
  waits_a = λ r is. same of_any_period w.a w.b r ∙ waits_wire of_any_period _ is;
  waits_b = λ r is. same of_any_period w.b w.a r ∙ waits_wire of_any_period _ is;
  links_a = refl;
  links_b = refl;
  shows_a = record { station = refl; front = refl; sent = sym (length-map w.a.sent (wire of_any_period).of_unit) };
  shows_b = record { station = refl; front = refl; sent = sym (length-map w.b.sent (wire of_any_period).of_unit) };
}
