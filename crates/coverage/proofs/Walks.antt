-- A station alone makes one record more.
use Rattle.std.proofs.Common.{◌≡◌, ℕ, ◌+◌, List, [], ◌∷◌, ◌++◌, refl, sym, ap, ◌∙◌}
use Rattle.std.proofs.lemmas.List.{append-nil, append_assoc}
use Rattle.capture_record.specs.declared.record.Record.{Record}
use Rattle.dna_links.specs.declared.tag.LinkTag.{LinkTag}
use Rattle.dna_station.specs.WireNode.{WireNode}
use Rattle.dna_station.specs.WireStation.{WireStation}
use Rattle.dna_node.specs.Alone.{EndingAlone, Passed, Refused, StepAlone, Makes, Refuses, ends_from, goes_on, station_end, step_alone}
use Rattle.coverage.specs.declared.row.Row.{Row}
use Rattle.coverage.specs.Counts.{rows_from, then_rows}
use Rattle.coverage.specs.Rows.{record_rows}

abbrev pub StationNode : Type 0
StationNode = WireNode LinkTag

-- all before it are made, and then it is
pub record Walked (n : StationNode) (place : ℕ) (records : List Record) (r : Record) (end : StationNode) : Type 0 where
  pub before : StationNode
  pub passed : ends_from station_end n place records ≡ Passed before
  pub made : step_alone station_end before r ≡ Makes end
  pub rows : rows_from n (records ++ r ∷ []) ≡ rows_from n records ++ record_rows before.station.variables r

pub passed_is : (n end : StationNode) → (let x : EndingAlone (WireStation LinkTag) = Passed n in x ≡ Passed end) → n ≡ end
passed_is n end e = ap (λ (x : EndingAlone (WireStation LinkTag)). node_or n x) e
  where
    node_or : StationNode → EndingAlone (WireStation LinkTag) → StationNode
    node_or n (Passed m) = m
    node_or n (Refused at a z) = n

-- the first record
last_walked : (n : StationNode) (place : ℕ) (r : Record) (end : StationNode) (s : StepAlone (WireStation LinkTag)) →
    step_alone station_end n r ≡ s → goes_on s place (λ next. Passed next) ≡ Passed end → Walked n place [] r end
last_walked n place r end (Makes next) is passed = record {
  before = n;
  passed = refl;
  made = is ∙ ap (λ (m : StationNode). Makes m) (passed_is next end passed);
  rows = ap (λ (s : StepAlone (WireStation LinkTag)). then_rows (record_rows n.station.variables r) s (λ next. [])) is
      ∙ append-nil (record_rows n.station.variables r);
}
last_walked n place r end (Refuses accused reason) is passed = absurd cc

module _ (n : StationNode) (place : ℕ) (first : Record) (records : List Record) (r : Record) (end : StationNode) where
  abbrev rows_here : List Row
  rows_here = record_rows n.station.variables first

  behind_walked : (s : StepAlone (WireStation LinkTag)) → step_alone station_end n first ≡ s →
      ((next : StationNode) → ends_from station_end next (place + 1) (records ++ r ∷ []) ≡ Passed end → Walked next (place + 1) records r end) →
      goes_on s place (λ next. ends_from station_end next (place + 1) (records ++ r ∷ [])) ≡ Passed end → Walked n place (first ∷ records) r end
  behind_walked (Makes next) is later passed =
      let w = later next passed in
      record {
        before = w.before;
        passed = ap (λ (s : StepAlone (WireStation LinkTag)). goes_on s place (λ next. ends_from station_end next (place + 1) records)) is ∙ w.passed;
        made = w.made;
        rows = ap (λ (s : StepAlone (WireStation LinkTag)). then_rows rows_here s (λ next. rows_from next (records ++ r ∷ []))) is
            ∙ ap (λ (rows : List Row). rows_here ++ rows) w.rows
            ∙ sym (append_assoc rows_here (rows_from next records) (record_rows w.before.station.variables r))
            ∙ ap (λ (rows : List Row). rows ++ record_rows w.before.station.variables r)
            (sym (ap (λ (s : StepAlone (WireStation LinkTag)). then_rows rows_here s (λ next. rows_from next records)) is));
      }
  behind_walked (Refuses accused reason) is later passed = absurd cc

pub walked : (n : StationNode) (place : ℕ) (records : List Record) (r : Record) (end : StationNode) →
    ends_from station_end n place (records ++ r ∷ []) ≡ Passed end → Walked n place records r end
walked n place [] r end passed = last_walked n place r end (step_alone station_end n r) refl passed
walked n place (first ∷ records) r end passed =
    behind_walked n place first records r end (step_alone station_end n first) refl
    (λ next later. walked next (place + 1) records r end later) passed
