-- Nodes with queues beside nodes without, of the same two texts: each run of these is one of those, with the same counts.
use Rattle.std.proofs.Common.{ℕ, List, Some, Ok, Err, sym, ap, ◌∙◌}
use Rattle.two_nodes.specs.Nodes.{World, Run}
use Rattle.capture_record.specs.declared.record.Record.{Record}
use Rattle.dna_station.specs.declared.head.Head.{Head}
use Rattle.dna_links.specs.declared.queue.Queues.TheVariants.{With}
use Rattle.dna_node.specs.AsMuch.{IsRunWithQueues}
use Rattle.dna_node.specs.Kind.{NodeKind, both_layers, layers_kind}
use Rattle.dna_node.specs.Layers.{LayersNode, LayersUnit}
use Rattle.dna_node.specs.LayersPair.{layers_pair, layers_start}
use Rattle.pair_judge.specs.declared.summary.Summary.{Summary}
use Rattle.pair_judge.specs.declared.verdict.Verdict.TheVariants.{Accepted, Refused}
use Rattle.pair_judge.specs.declared.fault.JudgeFault.TheVariants.{Capture}
use Rattle.pair_judge.specs.declared.fault.TextFault.TheVariants.{Departs}
use Rattle.pair_judge.specs.Finding.{IsCounted}
use Rattle.pair_judge.specs.Judged.{AcceptsAsOrFails, AcceptsOrFails, Answer, IsAnswer}
use Rattle.pair_judge.specs.Refusal.{AreTexts, WholeCapture}
use Rattle.pair_judge.specs.Summary.{summary_with}
use Rattle.pair_judge.proofs.Alike.{OneList, counted_of, same_summary}

abbrev pub DoAsMuch : Type 0
DoAsMuch = (head_a head_b : Head) (end : World LayersNode LayersUnit) (of_a of_b : List Record)
    → Run layers_pair (layers_start head_a head_b) of_a of_b end → IsRunWithQueues head_a head_b end of_a of_b

-- all records that are a run of the one kind are one of the other, with the same counts
abbrev pub CountsToo : (plain more : NodeKind) → Type 0
CountsToo plain more = (head_a head_b : Head) (of_a of_b : List Record) (summary : Summary) → IsCounted plain head_a head_b of_a of_b summary →
    IsCounted more head_a head_b of_a of_b summary

module _ (more : NodeKind) (one : OneList) (a b : WholeCapture) (bytes_a bytes_b : List ℕ) (summary : Summary) (here : AreTexts a b bytes_a bytes_b)
    (counted : IsCounted more a.head b.head a.records b.records summary) where
  by_answer : (queued : Answer) → IsAnswer more (Some bytes_a) (Some bytes_b) queued → AcceptsOrFails queued →
      AcceptsAsOrFails summary queued
  by_answer (Ok (Accepted other)) is fits =
      same_summary more a.head b.head a.records b.records other summary
      (counted_of more one a b bytes_a bytes_b other here is.accepted) counted
  by_answer (Ok (Refused side place reason)) is fits = fits
  by_answer (Err (Capture side (Departs kind line))) is fits = fits
  by_answer answer is fits = tt

pub counted_too : (plain more : NodeKind) → CountsToo plain more → OneList → (bytes_a bytes_b : List ℕ) (summary : Summary) (answer : Answer) →
    IsAnswer plain (Some bytes_a) (Some bytes_b) (Ok (Accepted summary)) → IsAnswer more (Some bytes_a) (Some bytes_b) answer →
    AcceptsAsOrFails summary answer
counted_too plain more law one bytes_a bytes_b summary answer nodes is =
    let r = nodes.accepted in
    let a : WholeCapture = record { head = record { own = r.own_a; peer = r.peer_a }; records = r.of_a } in
    let b : WholeCapture = record { head = record { own = r.own_b; peer = r.peer_b }; records = r.of_b } in
    let counted = law a.head b.head r.of_a r.of_b summary (record { run = r.run; counts_a = r.counts_a; counts_b = r.counts_b }) in
    by_answer more one a b bytes_a bytes_b summary (record { of_a = r.is_text_a; of_b = r.is_text_b }) counted answer is
    (is.exact a.head b.head r.of_a r.of_b r.is_text_a r.is_text_b counted.run)

queued_too : DoAsMuch → CountsToo both_layers (layers_kind With)
queued_too law head_a head_b of_a of_b summary counted =
    let q = law head_a head_b counted.run.0 of_a of_b counted.run.1 in
    record {
      run = (q.left, q.run);
      counts_a = counted.counts_a ∙ ap (λ (n : ℕ). summary_with n of_a) (sym q.counted_a.links);
      counts_b = counted.counts_b ∙ ap (λ (n : ℕ). summary_with n of_b) (sym q.counted_b.links);
    }

pub accepts_as : DoAsMuch → OneList → (bytes_a bytes_b : List ℕ) (summary : Summary) (queued : Answer) →
    IsAnswer both_layers (Some bytes_a) (Some bytes_b) (Ok (Accepted summary)) → IsAnswer (layers_kind With) (Some bytes_a) (Some bytes_b) queued →
    AcceptsAsOrFails summary queued
accepts_as law = counted_too both_layers (layers_kind With) (queued_too law)
