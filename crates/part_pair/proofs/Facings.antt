-- What a side meets on the other one: what its record does there, it does where more is known of the end of the other capture.
use Rattle.std.proofs.Common.{◌≡◌, ◌≢◌, Bool, true, false, if◌then◌else◌, ℕ, ◌-◌, ◌==◌, List, Option, Some, None, refl, sym, ap, subst, ◌∙◌}
use Rattle.std.specs.Prelude.{nat_lt, slice_get}
use Rattle.capture_record.specs.declared.record.Record.{Record}
use Rattle.capture_record.specs.declared.record.Record.TheVariants.{Sent, Received, Noise, User}
use Rattle.dna_station.specs.declared.refusal.StepRefusal.{StepRefusal}
use Rattle.dna_station.specs.declared.refusal.StepRefusal.TheVariants.{HintOrder}
use Rattle.part_pair.specs.declared.course.Ahead.{Ahead}
use Rattle.part_pair.specs.declared.course.Ahead.TheVariants.{Unread, Waits as IsAhead, Ended}
use Rattle.part_pair.specs.declared.course.Course.{Course}
use Rattle.part_pair.specs.declared.facing.Facing.{Facing}
use Rattle.part_pair.specs.Courses.{facing, is_none}
use Rattle.part_pair.specs.Sides.{Side, StepInPair, Goes, Waits, Stops, Comes, CannotCome, IsToCome, found, number_of, receipt_step}
use Rattle.part_pair.specs.Sides.{first_number, step_in_pair, unit_found}
use Rattle.part_pair.specs.inner.Ends.{side_of}
use Rattle.part_pair.specs.inner.Tracks.{IsLeft, IsReady, IsReadyAhead, MayBeLeft, ended, facing_of}

pub goes_on : (next : Side) → Goes next ≢ Waits
goes_on next is = absurd (cc)

pub stops : (reason : StepRefusal) → Stops reason ≢ Waits
stops reason is = absurd (cc)

abbrev at : Bool → Bool → Facing
at is_part has_ended = record { is_part = is_part; has_ended = has_ended }

module _ (s : Side) (e : Bool) where
  module _ (number : ℕ) (bytes : List ℕ) where
    unit_too : (p : Bool) (unit : Option (List ℕ)) → unit_found s (at p false) number bytes unit ≢ IsToCome →
        unit_found s (at p e) number bytes unit ≡ unit_found s (at p false) number bytes unit
    unit_too p (Some unit) other = refl
    unit_too true None other = absurd (other refl)
    unit_too false None other = absurd (other refl)

    by_tests : (p early zero : Bool) (unit : Option (List ℕ)) →
        (if early then CannotCome HintOrder else (if zero then (if p then Comes s.coming else CannotCome HintOrder)
        else unit_found s (at p false) number bytes unit)) ≢ IsToCome →
        (if early then CannotCome HintOrder else (if zero then (if p then Comes s.coming else CannotCome HintOrder)
        else unit_found s (at p e) number bytes unit)) ≡
        (if early then CannotCome HintOrder else (if zero then (if p then Comes s.coming else CannotCome HintOrder)
        else unit_found s (at p false) number bytes unit))
    by_tests p true zero unit other = refl
    by_tests p false true unit other = refl
    by_tests p false false unit other = unit_too p unit other

    found_too : (p : Bool) → found s (at p false) number bytes ≢ IsToCome → found s (at p e) number bytes ≡ found s (at p false) number bytes
    found_too p other = by_tests p (nat_lt number s.node.front) (number == 0) (slice_get s.coming (number - first_number s)) other

  pub step_too : (p : Bool) (r : Record) (step : StepInPair) → step_in_pair s (at p false) r ≡ step → step ≢ Waits →
      step_in_pair s (at p e) r ≡ step
  step_too p (Sent bytes) step is other = is
  step_too p (Noise bytes) step is other = is
  step_too p (User event) step is other = is
  step_too p (Received hint fate bytes) step is other =
      ap (receipt_step s (Received (number_of s hint) fate bytes)) (found_too (number_of s hint) bytes p
      (λ waits. other (sym is ∙ ap (receipt_step s (Received (number_of s hint) fate bytes)) waits)))
      ∙ is

fits : (s : Side) (p : Bool) (bytes : List ℕ) (ahead : Ahead) (left : List Record) → MayBeLeft bytes ahead left → (r : Record) (step : StepInPair) →
    step_in_pair s (at p (ended ahead)) r ≡ step → step ≢ Waits → step_in_pair s (at p (is_none left)) r ≡ step
fits s p bytes Unread left may r step is other = step_too s (is_none left) p r step is other
fits s p bytes (IsAhead entry) left may r step is other =
    subst (λ (e : Bool). step_in_pair s (at p e) r ≡ step) (sym (ap is_none may.1)) is
fits s p bytes Ended left may r step is other = subst (λ (e : Bool). step_in_pair s (at p e) r ≡ step) (sym (ap is_none may)) is

-- what a record does, whatever is left of the other side
pub facing_fits : (s : Side) (other : Course) (left : List Record) → IsLeft other left → (r : Record) (step : StepInPair) →
    step_in_pair s (facing_of other) r ≡ step → step ≢ Waits → step_in_pair s (facing (side_of other.side) left) r ≡ step
facing_fits s other left may r step is goes = fits s other.side.is_part other.capture.bytes other.ahead left may r step is goes

ended_is : (course : Course) (ahead : Ahead) (left : List Record) → IsReadyAhead ahead course.capture → MayBeLeft course.capture.bytes ahead left →
    is_none left ≡ ended ahead
ended_is course Unread left ready may = absurd ready
ended_is course (IsAhead entry) left ready may = ap is_none may.1
ended_is course Ended left ready may = ap is_none may

-- and where the next one of the other side was read, it is known what it meets
pub ready_facing : (other : Course) (left : List Record) → IsReady other → IsLeft other left → facing (side_of other.side) left ≡ facing_of other
ready_facing other left ready may = ap (λ (e : Bool). at other.side.is_part e) (ended_is other other.ahead left ready may)
