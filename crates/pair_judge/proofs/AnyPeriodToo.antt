-- What nodes that ask for periods make, nodes that ask for none make as well, and they leave the same.
use Rattle.std.proofs.Common.{◌≡◌, ℕ, Bool, true, false, cond, Option, Some, Result, Ok, Err, List, length, refl, sym, ap, subst, ◌∙◌}
use Rattle.std.proofs.lemmas.List.{length-map}
use Rattle.two_nodes.specs.Nodes.{Run, World}
use Rattle.two_nodes.specs.Cutting.{cut_world}
use Rattle.capture_record.specs.declared.fate.Fate.{Fate}
use Rattle.capture_record.specs.Fates.{is_kept}
use Rattle.capture_record.specs.declared.record.Record.{Record}
use Rattle.dna_station.specs.declared.head.Head.{Head}
use Rattle.dna_station.specs.declared.refusal.StationRefusal.{StationRefusal}
use Rattle.dna_station.specs.declared.refusal.StationRefusal.TheVariants.{CrossedPeriod}
use Rattle.dna_station.specs.declared.refusal.StepRefusal.{StepRefusal}
use Rattle.dna_station.specs.declared.tag.Tag.{Tag}
use Rattle.dna_station.specs.Book.{ArrivalValue, Book, Sound, HeaderBad, DataBad, after_arrival_by, keep_refusal, takes_by}
use Rattle.dna_station.specs.Machine.{Machine, unless_refused}
use Rattle.dna_station.specs.Node.{Node}
use Rattle.dna_station.specs.Line.{SentUnit}
use Rattle.dna_station.specs.Pair.{pair, start}
use Rattle.dna_station.specs.PeriodRule.{meets, of_period, of_any_period}
use Rattle.dna_station.specs.Table.{row}
use Rattle.dna_station.specs.WireBook.{wire_book}
use Rattle.dna_station.specs.WireNode.{seen, wire_machine, wire_pair, wire_start}
use Rattle.dna_station.specs.WireStation.{WireStation, new_wire_station}
use Rattle.dna_links.specs.declared.queue.Queues.{Queues}
use Rattle.dna_links.specs.declared.tag.LinkTag.{LinkTag}
use Rattle.dna_links.specs.CutLinks.{cut_link}
use Rattle.dna_node.specs.CutLayers.{layers_seen_by}
use Rattle.dna_node.specs.Kind.{layers_kind, stations_alone}
use Rattle.dna_node.specs.Layers.{LayersNode, LayersUnit}
use Rattle.dna_node.specs.LayersPair.{layers_pair_by, layers_start}
use Rattle.dna_node.specs.TagRules.{judged_by}
use Rattle.dna_node.specs.WireLayers.{WireLayers, LayersTag, new_wire_layers_node, to_wire_station, wire_layers_machine, wire_layers_pair_by}
use Rattle.dna_node.specs.WireLayers.{wire_layers_start, wire_meets_on}
use Rattle.dna_node.proofs.AsMuch.Nodes.{DoesAsMuch, IsDone, IsSent, runs_with}
use Rattle.pair_judge.specs.AnyPeriod.{any_period_by, layers_of_any_period, stations_of_any_period}
use Rattle.pair_judge.specs.Summary.{summary_with}
use Rattle.pair_judge.proofs.QueuedToo.{CountsToo}

abbrev Same : {S : Type 0} → S → S → Type 0
Same s t = s ≡ t

module _ {S : Type 0} where
  done_so : (o : Result S StepRefusal) → IsDone Same o o
  done_so (Ok s) = record { left = s; is = refl; beside = refl }
  done_so (Err refusal) = tt

  sent_so : {K : Type 0} (o : Result (S × K) StepRefusal) → IsSent Same o o
  sent_so (Ok after) = record { left = after.0; is = refl; beside = refl }
  sent_so (Err refusal) = tt

  -- what meets the rule on periods, and what does not
  by_period : (b : Bool) (refusal : Option StationRefusal) (s : S) →
      IsDone Same (unless_refused (cond b refusal (Some CrossedPeriod)) s) (unless_refused refusal s)
  by_period true refusal s = done_so (unless_refused refusal s)
  by_period false refusal s = tt

-- ---- stations alone

abbrev book : Book (WireStation LinkTag) Tag
book = wire_book

arrives_so : (w : WireStation LinkTag) (arrival : ArrivalValue Tag) (fate : Fate) →
    IsDone Same ((wire_machine of_period).arrives w arrival fate) ((wire_machine of_any_period).arrives w arrival fate)
arrives_so w (Sound m tag) fate =
    by_period (meets (row (book.state w) m).needs (book.tag w) (book.tag_of tag)) (keep_refusal (takes_by book w m tag) (is_kept fate))
    (after_arrival_by book w (Sound m tag) (is_kept fate))
arrives_so w HeaderBad fate = done_so ((wire_machine of_period).arrives w HeaderBad fate)
arrives_so w DataBad fate = done_so ((wire_machine of_period).arrives w DataBad fate)

stations_do_as_much : DoesAsMuch (wire_machine {L = LinkTag} of_period) (wire_machine of_any_period) Same
stations_do_as_much = record {
  user = λ s t same event. rw (← same) (done_so ((wire_machine of_period).user s event));
  sends = λ s t same m. rw (← same) (sent_so ((wire_machine of_period).sends s m));
  arrives = λ s t same arrival fate. rw (← same) (arrives_so s arrival fate);
}

-- ---- both layers

module _ (queues : Queues) where
  abbrev asked : Machine WireLayers LayersTag
  asked = wire_layers_machine (judged_by queues)

  abbrev unasked : Machine WireLayers LayersTag
  unasked = wire_layers_machine (any_period_by queues)

  meets_so : (s : WireLayers) (arrival : ArrivalValue LayersTag) (fate : Fate) (o p : Result (WireStation LinkTag) StepRefusal) → IsDone Same o p →
      IsDone Same (wire_meets_on (judged_by queues) s arrival fate o) (wire_meets_on (any_period_by queues) s arrival fate p)
  meets_so s arrival fate (Ok station) p done =
      subst (λ (x : Result (WireStation LinkTag) StepRefusal). IsDone Same (wire_meets_on (judged_by queues) s arrival fate (Ok station))
      (wire_meets_on (any_period_by queues) s arrival fate x)) (sym (done.is ∙ ap Ok (sym done.beside)))
      (done_so (wire_meets_on (judged_by queues) s arrival fate (Ok station)))
  meets_so s arrival fate (Err refusal) p done = tt

  layers_do_as_much : DoesAsMuch asked unasked Same
  layers_do_as_much = record {
    user = λ s t same event. rw (← same) (done_so (asked.user s event));
    sends = λ s t same m. rw (← same) (sent_so (asked.sends s m));
    arrives = λ s t same arrival fate. rw (← same)
        (meets_so s arrival fate ((wire_machine of_period).arrives s.station (to_wire_station arrival) fate)
        ((wire_machine of_any_period).arrives s.station (to_wire_station arrival) fate) (arrives_so s.station (to_wire_station arrival) fate));
  }

-- ---- two captures

-- what the wire nodes of a kind make of a run
abbrev pub MakesLayers : Queues → Type 0
MakesLayers queues = (head_a head_b : Head) (w : World LayersNode LayersUnit) (of_a of_b : List Record)
    → Run (layers_pair_by queues) (layers_start head_a head_b) of_a of_b w
    → Run (wire_layers_pair_by queues) (wire_layers_start head_a head_b) of_a of_b (cut_world (layers_seen_by queues) w)

pub layers_too : (queues : Queues) → MakesLayers queues → CountsToo (layers_kind queues) (layers_of_any_period queues)
layers_too queues makes head_a head_b of_a of_b summary counted =
    let w = counted.run.0 in
    let r = runs_with (layers_do_as_much queues) (new_wire_layers_node head_a).station (new_wire_layers_node head_b).station refl refl
    (makes head_a head_b w of_a of_b counted.run.1) in
    record {
      run = (_, r.run);
      counts_a = counted.counts_a ∙ ap (λ (n : ℕ). summary_with n of_a) (sym (length-map w.a.state.station.links.links (cut_link queues))
          ∙ ap (λ (s : WireLayers). length s.links.links) r.beside_a);
      counts_b = counted.counts_b ∙ ap (λ (n : ℕ). summary_with n of_b) (sym (length-map w.b.state.station.links.links (cut_link queues))
          ∙ ap (λ (s : WireLayers). length s.links.links) r.beside_b);
    }

abbrev pub MakesStations : Type 0
MakesStations = (head_a head_b : Head) (w : World Node SentUnit) (of_a of_b : List Record) → Run pair (start head_a head_b) of_a of_b w
    → Run wire_pair (wire_start {L = LinkTag} head_a head_b) of_a of_b (cut_world seen w)

pub stations_too : MakesStations → CountsToo stations_alone stations_of_any_period
stations_too makes head_a head_b of_a of_b summary counted =
    let r = runs_with stations_do_as_much new_wire_station new_wire_station refl refl (makes head_a head_b counted.run.0 of_a of_b counted.run.1) in
    record { run = (_, r.run); counts_a = counted.counts_a; counts_b = counted.counts_b }
