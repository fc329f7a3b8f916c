-- In a run the counts are those of the records that each side made.
use Rattle.std.proofs.Common.{ℕ, Option, List, [], sym, append-nil}
use Rattle.two_nodes.specs.Nodes.{World, Run}
use Rattle.two_nodes.specs.Cutting.{cut_world}
use Rattle.wire_base.specs.declared.side.Side.TheVariants.{A, B}
use Rattle.capture_record.specs.declared.record.Record.{Record}
use Rattle.dna_station.specs.declared.head.Head.{Head}
use Rattle.dna_station.specs.Pair.{pair, start}
use Rattle.dna_node.specs.Alone.{StationPasses}
use Rattle.dna_node.specs.Kind.{IsRunOf, both_layers, stations_alone}
use Rattle.dna_node.specs.Layers.{LayersNode, LayersUnit, stations}
use Rattle.dna_node.specs.LayersPair.{layers_pair, layers_start}
use Rattle.pair_judge.specs.Ends.{ShownEnds}
use Rattle.pair_judge.specs.Heads.{head_of}
use Rattle.pair_judge.specs.Order.{records_of}
use Rattle.pair_judge.specs.Watched.{WasTold}
use Rattle.coverage.specs.declared.cover.Cover.{Cover}
use Rattle.coverage.specs.Covered.{WasCovered}
use Rattle.coverage.specs.inner.Told.{Told}

-- the laws that a caller cites
pub record AloneLaws : Type 0 where
  pub stations_run : (head_a head_b : Head) (w : World LayersNode LayersUnit) (of_a of_b : List Record) →
      Run layers_pair (layers_start head_a head_b) of_a of_b w → Run pair (start head_a head_b) of_a of_b (cut_world stations w)
  pub a_passes : (head_a head_b : Head) (of_a of_b : List Record) → IsRunOf stations_alone head_a head_b of_a of_b → StationPasses head_a of_a
  pub b_passes : (head_a head_b : Head) (of_a of_b : List Record) → IsRunOf stations_alone head_a head_b of_a of_b → StationPasses head_b of_b

module _ (laws : AloneLaws) (text_a text_b : Option (List ℕ)) (ends : ShownEnds) (cover : Cover)
    (w : WasTold both_layers text_a text_b ends (Told cover)) where
  abbrev of_a : List Record
  of_a = records_of A w.order

  abbrev of_b : List Record
  of_b = records_of B w.order

  alone : IsRunOf stations_alone (head_of w.read_a) (head_of w.read_b) of_a of_b
  alone =
      let run = w.is_run w.order [] (sym (append-nil w.order)) in
      (cut_world stations run.0, laws.stations_run (head_of w.read_a) (head_of w.read_b) run.0 of_a of_b run.1)

  pub covered : WasCovered text_a text_b ends cover
  covered =
      let a = laws.a_passes (head_of w.read_a) (head_of w.read_b) of_a of_b alone in
      let b = laws.b_passes (head_of w.read_a) (head_of w.read_b) of_a of_b alone in
      record {
        made = record {
          order = w.order;
          is_told = tt;
          read_a = w.read_a;
          read_b = w.read_b;
          from_a = w.from_a;
          from_b = w.from_b;
          all_a = w.all_a;
          all_b = w.all_b;
          records_a = w.records_a;
          records_b = w.records_b;
          is_run = w.is_run;
        };
        of_a = (w.is_told.a (head_of w.read_a) a.0 a.1).counts;
        of_b = (w.is_told.b (head_of w.read_b) b.0 b.1).counts;
      }
