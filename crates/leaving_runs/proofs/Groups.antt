-- Whole groups are alike.
use Rattle.leaving_runs.proofs.Prelude.{◌≡◌, ◌<◌, ◌^◌, Bool, true, false, Option, Some, None, List, [], ◌∷◌, refl, ap, arith, AllByRecursion}
use Rattle.leaving_runs.proofs.Prelude.{Contains, Contains-append_left, Contains-append_right, Side, IsRecord, Record, Sent, Received, Noise, User}
use Rattle.leaving_runs.proofs.Prelude.{OwnAddress, AreTogether, Binding, Bound, Back, AreWhole, place_of, Leaving, is_left, is_marked, binding_of}
use Rattle.leaving_runs.proofs.Prelude.{bindings_of, if_bound, IsAlike, RecordAlike, AreAlike, AreAmong}
use Rattle.std.specs.List.{slice_get}
use Rattle.std.specs.Option.{IfSome}
use Rattle.capture_record.specs.declared.event.Event.TheVariants as events

same_if : (a b : Bool) → (a ≡ true → b ≡ true) → (b ≡ true → a ≡ true) → a ≡ b
same_if true true one other = refl
same_if false false one other = refl
same_if true false one other = let e = one refl in absurd cc
same_if false true one other = let e = other refl in absurd cc

pub first_bound : (o : Option Binding) (later : List Binding) → IfSome o (Contains (if_bound o later))
first_bound None later = tt
first_bound (Some binding) later = Contains-append_left (binding ∷ []) later binding (0, omega arith, refl)

pub later_bound : (o : Option Binding) (later : List Binding) (binding : Binding) → Contains later binding → Contains (if_bound o later) binding
later_bound None later binding is = is
later_bound (Some first) later binding is = Contains-append_right (first ∷ []) later binding is

marked : (mark : Option Bool) → is_marked mark ≡ true → mark ≡ Some true
marked (Some true) is = refl
marked (Some false) is = absurd cc
marked None is = absurd cc

module _ (leaving : Leaving) (bindings : List Binding) (whole : AreWhole bindings leaving.left_out.now) where
  left_too : (one other : OwnAddress) → one.address < 2 ^ 16 → other.address < 2 ^ 16 → AreTogether bindings one other → is_left leaving one ≡ true
      → is_left leaving other ≡ true
  left_too one other small small_too together is =
      ap is_marked (whole one other small small_too together (marked (slice_get leaving.left_out.now (place_of one)) is))

  pub alike : (one other : OwnAddress) → one.address < 2 ^ 16 → other.address < 2 ^ 16 → Contains bindings (one, other) →
      IsAlike leaving (one, other)
  alike one other small small_too is =
      same_if (is_left leaving one) (is_left leaving other)
      (left_too one other small small_too (Bound is))
      (left_too other one small_too small (Back (Bound is)))

  module _ (side : Side) where
    one_alike : (r : Record) (later : List Binding) → IsRecord r →
        ((binding : Binding) → Contains (if_bound (binding_of side false r) later) binding → Contains bindings binding) → RecordAlike leaving side r
    one_alike (User (events.Accept partner link)) later is among =
        let near = is.spelling.numbers.1.most in
        let far = is.spelling.numbers.0.most in
        alike _ _ (omega (arith, near)) (omega (arith, far))
        (among _ (first_bound (binding_of side false (User (events.Accept partner link))) later))
    one_alike (User (events.Reject partner link)) later is among =
        let near = is.spelling.numbers.1.most in
        let far = is.spelling.numbers.0.most in
        alike _ _ (omega (arith, near)) (omega (arith, far))
        (among _ (first_bound (binding_of side false (User (events.Reject partner link))) later))
    one_alike (Sent unit) later is among = tt
    one_alike (Received hint fate unit) later is among = tt
    one_alike (Noise bytes) later is among = tt
    one_alike (User events.Start) later is among = tt
    one_alike (User events.Halt) later is among = tt
    one_alike (User (events.Open link)) later is among = tt
    one_alike (User (events.In link bytes)) later is among = tt
    one_alike (User (events.Up link bytes)) later is among = tt
    one_alike (User (events.Close link)) later is among = tt
    one_alike (User events.Boot) later is among = tt
    one_alike (User (events.Abort link)) later is among = tt
    one_alike (User (events.Composed packet)) later is among = tt
    one_alike (User (events.Interrupt link bytes)) later is among = tt
    one_alike (User (events.Interrupted link bytes)) later is among = tt

    pub all_alike : (records : List Record) → AllByRecursion IsRecord records → AreAmong bindings side records → AreAlike leaving side records
    all_alike [] is among = tt
    all_alike (r ∷ records) is among = (
      one_alike r (bindings_of side false records) is.0 among,
      all_alike records is.1
          (λ binding there. among binding (later_bound (binding_of side false r) (bindings_of side false records) binding there)),
    )
