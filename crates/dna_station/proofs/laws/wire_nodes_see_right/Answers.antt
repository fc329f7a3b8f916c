use Rattle.std.proofs.Common.{[], refl, ap, ◌∙◌}
use Rattle.two_nodes.specs.Nodes.{World, advance}
use Rattle.two_nodes.specs.Cutting.{Commutes}
use Rattle.two_nodes.proofs.Simulated.{seen_run, comes_of}
use Rattle.dna_station.specs.PeriodRule.{of_period}
use Rattle.dna_station.specs.Pair.{pair, start}
use Rattle.dna_station.specs.WireNode.{WireNode, WireUnit, wire_step, wire_pair, seen}
use Rattle.dna_station.proofs.Bounds.Runs.{BothSound, both_sound_kept, start_sound, sound_bounded}
use Rattle.dna_station.proofs.Cut.Node.{record_same}
use Rattle.dna_station.proofs.laws.wire_nodes_see_right.Goals as goal

module _ (L : Type 0) where
  commutes : Commutes pair (wire_pair {L = L}) seen BothSound
  commutes = record {
    of_a = λ w made_a made_b r sound. record_same w.a w.b (sound_bounded w.a w.b sound.of_a sound.of_b) r;
    of_b = λ w made_a made_b r sound. record_same w.b w.a (sound_bounded w.b w.a sound.of_b sound.of_a) r;
  }

pub returns : goal.returns
returns g c = record {
  of_true = λ head_a head_b w of_a of_b run. seen_run pair wire_pair seen BothSound both_sound_kept (commutes _) [] [] (start_sound head_a head_b)
      run;
  of_wire = λ head_a head_b end of_a of_b run.
      let from = comes_of pair wire_pair seen BothSound both_sound_kept (commutes _) (start head_a head_b) [] [] (start_sound head_a head_b) refl
      run in
      record {
        world = from.end;
        run = from.run;
        is_cut = from.is_cut;
        same_a = λ r. ap (λ (w : World (WireNode g.row.L.Denot) WireUnit). advance (wire_step of_period) w.a w.b r) from.is_cut ∙
            record_same from.end.a from.end.b (sound_bounded from.end.a from.end.b from.holds_there.of_a from.holds_there.of_b) r;
        same_b = λ r. ap (λ (w : World (WireNode g.row.L.Denot) WireUnit). advance (wire_step of_period) w.b w.a r) from.is_cut ∙
            record_same from.end.b from.end.a (sound_bounded from.end.b from.end.a from.holds_there.of_b from.holds_there.of_a) r;
      };
}
