-- Records that a part's judge refuses are no piece of a run.
use Rattle.std.proofs.Common.{◌≡◌, ◌≢◌, Bool, true, false, if◌then◌else◌, ℕ, ◌+◌, List, [], ◌∷◌, Result, Ok, Err, refl, sym, ap, ◌∙◌}
use Rattle.capture_record.specs.declared.record.Record.{Record}
use Rattle.dna_node.specs.Alone.{Accused, ThisEnd}
use Rattle.dna_station.specs.declared.refusal.StepRefusal.{StepRefusal}
use Rattle.dna_station.specs.declared.refusal.StepRefusal.TheVariants.{HintOrder}
use Rattle.part_station.specs.Cases.{Cases, cases_after, cases_step, then_all}
use Rattle.part_station.specs.Piece.{IsPiece}
use Rattle.part_station.proofs.Final as station
use Rattle.part_judge.specs.Steps.{EndingInPart, Passed, Refused, PartNode, Refuses, ends_from, first_node, front_after, goes_on, is_early}
use Rattle.part_judge.specs.Steps.{judged_in_part, made}

-- no case is left
record NoneLeft (c : Cases) (records : List Record) : Type 0 where
  refusal : StepRefusal
  is : cases_after c records ≡ Err refusal

abbrev reason_in : StepRefusal → EndingInPart → StepRefusal
reason_in other (Passed node) = other
reason_in other (Refused place accused reason) = reason

module _ (p : ℕ) (a : Accused) (reason : StepRefusal) (other : reason ≢ HintOrder) where
  module _ (n : PartNode) (place : ℕ) (r : Record) (records : List Record)
      (later : (next : PartNode) → ends_from next (place + 1) records ≡ Refused p a reason → NoneLeft next.cases records) where
    at_first : (early : Bool) (step : Result Cases StepRefusal) → cases_step n.cases r ≡ step →
        goes_on (if early then Refuses ThisEnd HintOrder else made n r step) place (λ next. ends_from next (place + 1) records) ≡ Refused p a reason →
        NoneLeft n.cases (r ∷ records)
    at_first true step e is = absurd (other (sym (ap (reason_in HintOrder) is)))
    at_first false (Err refusal) e is =
        record { refusal = refusal; is = ap (λ (s : Result Cases StepRefusal). then_all s (λ next. cases_after next records)) e }
    at_first false (Ok cases) e is =
        let left = later (record { cases = cases; front = front_after r n.front }) is in
        record {
          refusal = left.refusal;
          is = ap (λ (s : Result Cases StepRefusal). then_all s (λ next. cases_after next records)) e ∙ left.is;
        }

  none_left : (n : PartNode) (place : ℕ) (records : List Record) → ends_from n place records ≡ Refused p a reason → NoneLeft n.cases records
  none_left n place [] is = absurd (cc)
  none_left n place (r ∷ records) is =
      at_first n place r records (λ next. none_left next (place + 1) records) (is_early r n.front) (cases_step n.cases r) refl is

pub refused_is_no_piece : (records : List Record) (place : ℕ) (accused : Accused) (reason : StepRefusal) →
    judged_in_part records ≡ Refused place accused reason → reason ≢ HintOrder → IsPiece records → ⊥
refused_is_no_piece records place accused reason is other piece =
    let left = none_left place accused reason other first_node 0 records is in
    station.refused_is_no_piece records left.refusal left.is piece
