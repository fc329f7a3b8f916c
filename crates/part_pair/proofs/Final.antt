-- Records that are refused by what one side shows are no piece of a run.
use Rattle.std.proofs.Common.{◌≡◌, Bool, true, false, if◌then◌else◌, ℕ, ◌-◌, ◌+◌, ◌==◌, ◌||◌, ◌&&◌, List, [], ◌∷◌, Option, Some, None}
use Rattle.std.proofs.Common.{Result, Ok, Err}
use Rattle.std.proofs.Common.{refl, sym, ap, subst, ◌∙◌}
use Rattle.std.specs.Prelude.{nat_lt, slice_get, drop}
use Rattle.std.specs.Str.{bytes_eq}
use Rattle.ddcmp_msg.specs.Reading.{reading}
use Rattle.wire_base.specs.declared.side.Side as which
use Rattle.wire_base.specs.declared.side.Side.TheVariants.{A, B}
use Rattle.capture_record.specs.declared.record.Record.{Record}
use Rattle.capture_record.specs.declared.record.Record.TheVariants.{Sent, Received, Noise, User}
use Rattle.capture_record.specs.declared.event.Event.TheVariants.{Halt}
use Rattle.dna_node.specs.declared.finding.Cause.{Cause}
use Rattle.dna_node.specs.declared.finding.Cause.TheVariants.{Step}
use Rattle.dna_node.specs.Alone.{Accused, ThisEnd}
use Rattle.dna_station.specs.declared.refusal.StepRefusal.{StepRefusal}
use Rattle.dna_station.specs.declared.refusal.StepRefusal.TheVariants.{HintOrder, Undetected}
use Rattle.pair_judge.specs.Counting.{shows_damage}
use Rattle.pair_judge.specs.Finding.{of_side}
use Rattle.part_station.specs.Cases.{Cases, cases_after, cases_step, then_all}
use Rattle.part_station.specs.Piece.{IsPiece}
use Rattle.part_station.proofs.Final as station
use Rattle.part_judge.specs.Steps.{PartNode, StepInPart, Makes, Refuses, is_early, made, step_in_part}
use Rattle.part_judge.proofs.PartWalk.{cases_are}
use Rattle.part_pair.specs.declared.facing.Facing.{Facing}
use Rattle.part_pair.specs.Courses.{EndingInPair, AllMade, EndsWith, MakesA, MakesB, StopsA, StopsB, WaitBoth, WaitsA, WaitsB, NoneLeft, Refused}
use Rattle.part_pair.specs.Courses.{JudgedInPair, facing}
use Rattle.part_pair.specs.Pieces.{IsOfOneSide, records_of}
use Rattle.part_pair.specs.Sides.{Side, StepInPair, Goes, Stops, FoundUnit, Comes, ComesFromBehind, IsToCome, CannotCome, after_step}
use Rattle.part_pair.specs.Sides.{first_number, first_side, found, number_of, or_first, receipt_step, step_in_pair, unit_found, with_record}
use Rattle.part_pair.proofs.Walk.{went}

-- no case is left
record NoCases (c : Cases) (records : List Record) : Type 0 where
  refusal : StepRefusal
  is : cases_after c records ≡ Err refusal

-- nor after this record
record NoStep (c : Cases) (r : Record) : Type 0 where
  refusal : StepRefusal
  is : cases_step c r ≡ Err refusal

here : (c : Cases) (r : Record) (records : List Record) → NoStep c r → NoCases c (r ∷ records)
here c r records none =
    record { refusal = none.refusal; is = ap (λ (s : Result Cases StepRefusal). then_all s (λ next. cases_after next records)) none.is }

later : (c next : Cases) (r : Record) (records : List Record) → cases_step c r ≡ Ok next → NoCases next records → NoCases c (r ∷ records)
later c next r records e none = record {
  refusal = none.refusal;
  is = ap (λ (s : Result Cases StepRefusal). then_all s (λ after. cases_after after records)) e ∙ none.is;
}

abbrev refused_in : StepInPart → StepRefusal
refused_in (Makes node) = HintOrder
refused_in (Refuses by why) = why

abbrev reason_in : StepRefusal → StepInPair → StepRefusal
reason_in other (Stops reason) = reason
reason_in other step = other

abbrev reason_found : StepRefusal → FoundUnit → StepRefusal
reason_found other (CannotCome reason) = reason
reason_found other unit = other

-- ---- a record that can't be made for a reason of its own

module _ (s : Side) (reason : StepRefusal) (one : IsOfOneSide reason) where
  by_early : (n : PartNode) (r : Record) (accused : Accused) (early : Bool) (step : Result Cases StepRefusal) → cases_step n.cases r ≡ step →
      (if early then Refuses ThisEnd HintOrder else made n r step) ≡ Refuses accused reason → NoStep n.cases r
  by_early n r accused true step e is = absurd (one.not_hints (sym (ap refused_in is)))
    where
      refused_in : StepInPart → StepRefusal
      refused_in (Makes node) = HintOrder
      refused_in (Refuses by why) = why
  by_early n r accused false (Ok cases) e is = absurd (cc)
  by_early n r accused false (Err refusal) e is = record { refusal = refusal; is = e }

  by_end : (coming : List (List ℕ)) (alone_from : Option ℕ) (r : Record) (step : StepInPart) → step_in_part s.node r ≡ step →
      after_step s coming alone_from step ≡ Stops reason → NoStep s.node.cases r
  by_end coming alone_from r (Makes node) e is = absurd (cc)
  by_end coming alone_from r (Refuses accused why) e is =
      by_early s.node r accused (is_early r s.node.front) (cases_step s.node.cases r) refl
      (e ∙ ap (λ (x : StepInPair). Refuses accused (reason_in why x)) is)

  -- the line alone has two reasons
  by_unit : (f : Facing) (number : ℕ) (bytes : List ℕ) (unit : Option (List ℕ)) → unit_found s f number bytes unit ≡ CannotCome reason → ⊥
  by_unit f number bytes None is = by_over (f.is_part && f.has_ended) is
    where
      by_over : (over : Bool) → (if over then ComesFromBehind else IsToCome) ≡ CannotCome reason → ⊥
      by_over true e = absurd (cc)
      by_over false e = absurd (cc)
  by_unit f number bytes (Some unit) is = by_bytes (bytes_eq bytes unit || shows_damage (reading bytes)) is
    where
      by_bytes : (same : Bool) → (if same then Comes (drop (number + 1 - first_number s) s.coming) else CannotCome Undetected) ≡ CannotCome reason → ⊥
      by_bytes true e = absurd (cc)
      by_bytes false e = one.not_unit (sym (ap (reason_found Undetected) e))

  by_tests : (f : Facing) (number : ℕ) (bytes : List ℕ) (early zero part : Bool) →
      (if early then CannotCome HintOrder else (if zero then (if part then Comes s.coming else CannotCome HintOrder)
      else unit_found s f number bytes (slice_get s.coming (number - first_number s)))) ≡ CannotCome reason → ⊥
  by_tests f number bytes true zero part is = one.not_hints (sym (ap (reason_found HintOrder) is))
  by_tests f number bytes false true true is = absurd (cc)
  by_tests f number bytes false true false is = one.not_hints (sym (ap (reason_found HintOrder) is))
  by_tests f number bytes false false part is = by_unit f number bytes (slice_get s.coming (number - first_number s)) is

  by_found : (f : Facing) (number : ℕ) (bytes : List ℕ) (r : Record) (unit : FoundUnit) → found s f number bytes ≡ unit →
      receipt_step s r unit ≡ Stops reason → NoStep s.node.cases r
  by_found f number bytes r (Comes rest) e is = by_end rest s.alone_from r (step_in_part s.node r) refl is
  by_found f number bytes r ComesFromBehind e is = by_end [] (or_first s.alone_from s.made) r (step_in_part s.node r) refl is
  by_found f number bytes r IsToCome e is = absurd (cc)
  by_found f number bytes r (CannotCome why) e is =
      absurd (by_tests f number bytes (nat_lt number s.node.front) (number == 0) f.is_part
      (e ∙ ap (λ (x : StepInPair). CannotCome (reason_in why x)) is))

  stopped : (f : Facing) (r : Record) → step_in_pair s f r ≡ Stops reason → NoStep s.node.cases r
  stopped f (Sent bytes) is = by_end s.coming s.alone_from (Sent bytes) (step_in_part s.node (Sent bytes)) refl is
  stopped f (Noise bytes) is = by_end s.coming s.alone_from (Noise bytes) (step_in_part s.node (Noise bytes)) refl is
  stopped f (User event) is = by_end s.coming s.alone_from (User event) (step_in_part s.node (User event)) refl is
  stopped f (Received hint fate bytes) is =
      let none = by_found f (number_of s hint) bytes (Received (number_of s hint) fate bytes) (found s f (number_of s hint) bytes) refl is in
      record { refusal = none.refusal; is = none.is }

-- ---- all records

same_node : (s : Side) (r : Record) → (with_record s r).node ≡ s.node
same_node s (Sent bytes) = refl
same_node s (Received hint fate bytes) = refl
same_node s (Noise bytes) = refl
same_node s (User event) = refl

abbrev cause_in : Cause → EndingInPair → Cause
cause_in other (Refused side place cause) = cause
cause_in other (AllMade a b) = other

abbrev step_in : StepRefusal → Cause → StepRefusal
step_in other (Step refusal) = refusal
step_in other cause = other

module _ (s next : Side) (f : Facing) (r : Record) (records : List Record) where
  -- the side that made it
  goes : step_in_pair s f r ≡ Goes next → NoCases next.node.cases records → NoCases s.node.cases (r ∷ records)
  goes is none =
      let w = went s next f r is in
      later s.node.cases next.node.cases r records (w.alike s.node.cases ∙ cases_are s.node next.node w.by w.step) none

-- the other side stays
stays : (s : Side) (r : Record) (records : List Record) → NoCases (with_record s r).node.cases records → NoCases s.node.cases records
stays s r records none = subst (λ (n : PartNode). NoCases n.cases records) (same_node s r) none

module _ (place : ℕ) (reason : StepRefusal) (one : IsOfOneSide reason) where
  none_of : (side : which.Side) {a b : Side} {of_a of_b : List Record} {ending : EndingInPair} → EndsWith a b of_a of_b ending →
      ending ≡ Refused side place (Step reason) → NoCases (of_side side a b).node.cases (of_side side of_a of_b)
  none_of A (MakesA a b next r of_a of_b ending step ends) is = goes a next (facing b of_b) r of_a step (none_of A ends is)
  none_of B (MakesA a b next r of_a of_b ending step ends) is = stays b r of_b (none_of B ends is)
  none_of A (MakesB a b next r of_a of_b ending still step ends) is = stays a r of_a (none_of A ends is)
  none_of B (MakesB a b next r of_a of_b ending still step ends) is = goes b next (facing a of_a) r of_b step (none_of B ends is)
  none_of A (StopsA a b r of_a of_b why step) is =
      here a.node.cases r of_a (stopped a reason one (facing b of_b) r
      (step ∙ ap (λ (e : EndingInPair). Stops (step_in why (cause_in (Step why) e))) is))
  none_of B (StopsA a b r of_a of_b why step) is = absurd (cc)
  none_of A (StopsB a b r of_a of_b why still step) is = absurd (cc)
  none_of B (StopsB a b r of_a of_b why still step) is =
      here b.node.cases r of_b (stopped b reason one (facing a of_a) r
      (step ∙ ap (λ (e : EndingInPair). Stops (step_in why (cause_in (Step why) e))) is))
  none_of side (WaitBoth a b r s of_a of_b e f) is = absurd (cc)
  none_of side (WaitsA a b r of_a e) is = absurd (cc)
  none_of side (WaitsB a b r of_b e) is = absurd (cc)
  none_of side (NoneLeft a b) is = absurd (cc)

no_piece : (is_part : Bool) (records : List Record) → NoCases (first_side is_part).node.cases records → IsPiece (records_of is_part records) → ⊥
no_piece true records none piece = station.refused_is_no_piece records none.refusal none.is piece
no_piece false records none piece = station.refused_is_no_piece (User Halt ∷ records) none.refusal none.is piece

pub refused_are_no_pieces : (a_is_part b_is_part : Bool) (of_a of_b : List Record) (side : which.Side) (place : ℕ) (refusal : StepRefusal) →
    JudgedInPair a_is_part b_is_part of_a of_b (Refused side place (Step refusal)) → IsOfOneSide refusal →
    IsPiece (of_side side (records_of a_is_part of_a) (records_of b_is_part of_b)) → ⊥
refused_are_no_pieces a_is_part b_is_part of_a of_b A place refusal is one piece =
    no_piece a_is_part of_a (none_of place refusal one A is refl) piece
refused_are_no_pieces a_is_part b_is_part of_a of_b B place refusal is one piece =
    no_piece b_is_part of_b (none_of place refusal one B is refl) piece
