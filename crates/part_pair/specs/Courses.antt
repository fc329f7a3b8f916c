-- What becomes of two captures of which at least one is a part of a run. Side a's records are made as long as it neither waits nor has ended, else
-- one of b.
use Rattle.std.specs.Prelude.{◌≡◌, ℕ, Bool, true, false, List, [], ◌∷◌}
use Rattle.wire_base.specs.declared.side.Side.TheVariants.{A, B}
use Rattle.wire_base.specs.declared.side.Side as which
use Rattle.capture_record.specs.declared.record.Record.{Record}
use Rattle.dna_station.specs.declared.refusal.StepRefusal.{StepRefusal}
use Rattle.dna_node.specs.declared.finding.Cause.{Cause}
use Rattle.dna_node.specs.declared.finding.Cause.TheVariants.{Step, NoSuchUnit, NoOrder}
use Rattle.part_pair.specs.declared.facing.Facing.{Facing}
use Rattle.part_pair.specs.Sides.{Side, Goes, Waits, Stops, first_side, step_in_pair, with_record}

-- All records are made, and lead to these; or this one can't be, counted from 0 on its side, for this cause
pub data EndingInPair : Type 0 where
  AllMade : (a b : Side) → EndingInPair
  Refused : (side : which.Side) (place : ℕ) (cause : Cause) → EndingInPair

abbrev pub is_none : List Record → Bool
is_none [] = true
is_none (r ∷ records) = false

-- what faces a side, where these records of the other are left
abbrev pub facing : Side → List Record → Facing
facing other left = record { is_part = other.is_part; has_ended = is_none left }

-- side a waits with its next record, or has none
abbrev pub StandsStill : (a b : Side) → (of_a of_b : List Record) → Type 0
StandsStill a b [] of_b = Unit {0}
StandsStill a b (r ∷ of_a) of_b = step_in_pair a (facing b of_b) r ≡ Waits

-- from these two sides on, with these records of a and of b left
pub data EndsWith : (a b : Side) → (of_a of_b : List Record) → EndingInPair → Type 0 where
  MakesA : (a b next : Side) (r : Record) (of_a of_b : List Record) (ending : EndingInPair) → step_in_pair a (facing b of_b) r ≡ Goes next →
      EndsWith next (with_record b r) of_a of_b ending → EndsWith a b (r ∷ of_a) of_b ending
  StopsA : (a b : Side) (r : Record) (of_a of_b : List Record) (reason : StepRefusal) → step_in_pair a (facing b of_b) r ≡ Stops reason →
      EndsWith a b (r ∷ of_a) of_b (Refused A a.made (Step reason))
  MakesB : (a b next : Side) (r : Record) (of_a of_b : List Record) (ending : EndingInPair) → StandsStill a b of_a (r ∷ of_b) →
      step_in_pair b (facing a of_a) r ≡ Goes next → EndsWith (with_record a r) next of_a of_b ending → EndsWith a b of_a (r ∷ of_b) ending
  StopsB : (a b : Side) (r : Record) (of_a of_b : List Record) (reason : StepRefusal) → StandsStill a b of_a (r ∷ of_b) →
      step_in_pair b (facing a of_a) r ≡ Stops reason → EndsWith a b of_a (r ∷ of_b) (Refused B b.made (Step reason))
  -- both wait
  WaitBoth : (a b : Side) (r s : Record) (of_a of_b : List Record) → step_in_pair a (facing b (s ∷ of_b)) r ≡ Waits →
      step_in_pair b (facing a (r ∷ of_a)) s ≡ Waits → EndsWith a b (r ∷ of_a) (s ∷ of_b) (Refused A a.made NoOrder)
  -- one waits for a unit of a whole capture which that has not
  WaitsA : (a b : Side) (r : Record) (of_a : List Record) → step_in_pair a (facing b []) r ≡ Waits →
      EndsWith a b (r ∷ of_a) [] (Refused A a.made NoSuchUnit)
  WaitsB : (a b : Side) (r : Record) (of_b : List Record) → step_in_pair b (facing a []) r ≡ Waits →
      EndsWith a b [] (r ∷ of_b) (Refused B b.made NoSuchUnit)
  NoneLeft : (a b : Side) → EndsWith a b [] [] (AllMade a b)

-- all records of two captures, of which these are parts
abbrev pub JudgedInPair : (a_is_part b_is_part : Bool) → (of_a of_b : List Record) → EndingInPair → Type 0
JudgedInPair a_is_part b_is_part of_a of_b ending = EndsWith (first_side a_is_part) (first_side b_is_part) of_a of_b ending
