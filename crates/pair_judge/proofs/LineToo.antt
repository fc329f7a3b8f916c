-- The line alone beside the nodes over both layers: a run of these is a run of those.
use Rattle.std.proofs.Common.{ℕ, List, Some, Ok, Err}
use Rattle.two_nodes.specs.Nodes.{World, Run}
use Rattle.two_nodes.specs.Cutting.{cut_world}
use Rattle.wire_base.specs.declared.side.Side.{Side}
use Rattle.capture_record.specs.declared.record.Record.{Record}
use Rattle.dna_station.specs.declared.head.Head.{Head}
use Rattle.dna_station.specs.Pair.{pair, start}
use Rattle.dna_node.specs.Layers.{LayersNode, LayersUnit, stations}
use Rattle.dna_node.specs.LayersPair.{layers_pair, layers_start}
use Rattle.dna_node.specs.Kind.{both_layers, stations_alone}
use Rattle.pair_judge.specs.declared.reason.Reason.{Reason}
use Rattle.pair_judge.specs.declared.summary.Summary.{Summary}
use Rattle.pair_judge.specs.declared.verdict.Verdict.TheVariants.{Accepted, Refused}
use Rattle.pair_judge.specs.declared.fault.JudgeFault.TheVariants.{Capture}
use Rattle.pair_judge.specs.declared.fault.TextFault.TheVariants.{Departs}
use Rattle.pair_judge.specs.Judged.{AcceptsOrFails, Answer, IsAnswer, RefusesOrFails}
use Rattle.pair_judge.specs.Refusal.{AreTexts, WholeCapture}
use Rattle.pair_judge.proofs.Clauses.{WholeLaws}
use Rattle.pair_judge.proofs.Alike.{judges}

abbrev pub RunAsStations : Type 0
RunAsStations = (head_a head_b : Head) (w : World LayersNode LayersUnit) (of_a of_b : List Record)
    → Run layers_pair (layers_start head_a head_b) of_a of_b w → Run pair (start head_a head_b) of_a of_b (cut_world stations w)

pub accepts_too : RunAsStations → (bytes_a bytes_b : List ℕ) (summary : Summary) (line : Answer) →
    IsAnswer both_layers (Some bytes_a) (Some bytes_b) (Ok (Accepted summary)) → IsAnswer stations_alone (Some bytes_a) (Some bytes_b) line →
    AcceptsOrFails line
accepts_too law bytes_a bytes_b summary line nodes is =
    let r = nodes.accepted in
    let head_a : Head = record { own = r.own_a; peer = r.peer_a } in
    let head_b : Head = record { own = r.own_b; peer = r.peer_b } in
    is.exact head_a head_b r.of_a r.of_b r.is_text_a r.is_text_b
    (cut_world stations r.run.0, law head_a head_b r.run.0 r.of_a r.of_b r.run.1)

pub refuses_too : RunAsStations → WholeLaws → (a b : WholeCapture) (bytes_a bytes_b : List ℕ) (side : Side) (place : ℕ) (reason : Reason)
    (nodes : Answer) → AreTexts a b bytes_a bytes_b → IsAnswer stations_alone (Some bytes_a) (Some bytes_b) (Ok (Refused side place reason)) →
    IsAnswer both_layers (Some bytes_a) (Some bytes_b) nodes → RefusesOrFails nodes
refuses_too law laws a b bytes_a bytes_b side place reason (Ok (Accepted summary)) here line is =
    accepts_too law bytes_a bytes_b summary (Ok (Refused side place reason)) is line
refuses_too law laws a b bytes_a bytes_b side place reason (Err (Capture of (Departs kind text_line))) here line is =
    judges both_layers laws a b bytes_a bytes_b (Err (Capture of (Departs kind text_line))) here is
refuses_too law laws a b bytes_a bytes_b side place reason nodes here line is = tt
