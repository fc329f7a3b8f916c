-- A message that may be sent has passed the checks of its row, on whatever a station keeps.
use Rattle.std.proofs.Common.{◌≡◌, Bool, true, false, cond, Option, Some, None, List, [], ◌∷◌, refl}
use Rattle.ddcmp_msg.specs.Message.{MessageValue, Strt, Stack}
use Rattle.dna_station.specs.declared.state.State.{State}
use Rattle.dna_station.specs.declared.state.State.TheVariants.{Halted, Istrt, Astrt, Running}
use Rattle.dna_station.specs.Table.{Check, refusal_of, checks}
use Rattle.dna_station.specs.Book.{first_failed, failed}
use Rattle.dna_station.specs.Station.{Station}
use Rattle.dna_station.specs.StationBook.{passes, sending_refusal}

abbrev pub ArePassed : (Check → Bool) → List Check → Type 0
ArePassed passes [] = Unit {0}
ArePassed passes (check ∷ next) = (passes check ≡ true) × ArePassed passes next

pub passed : (passes : Check → Bool) (list : List Check) → first_failed passes list ≡ None → ArePassed passes list
passed passes [] e = tt
passed passes (check ∷ next) e = go (passed passes next) (passes check) refl e
  where
    go : (first_failed passes next ≡ None → ArePassed passes next) → (b : Bool) → passes check ≡ b →
        cond b (first_failed passes next) (Some (refusal_of check)) ≡ None → ArePassed passes (check ∷ next)
    go behind true is e = (is, behind e)
    go behind false is e = absurd cc

-- whether a message's RESP or NUM is looked at
abbrev pub is_numbered : MessageValue → Bool
is_numbered (Strt flags) = false
is_numbered (Stack flags) = false
is_numbered m = true

abbrev pub listed : Option (List Check) → List Check
listed None = []
listed (Some list) = list

module _ (passes : Check → Bool) where
  all_passed : (list : Option (List Check)) → failed passes list ≡ None → ArePassed passes (listed list)
  all_passed None e = tt
  all_passed (Some list) e = passed passes list e

  -- a message with a number is sent in RUNNING alone
  in_running : (state : State) (m : MessageValue) → is_numbered m ≡ true → failed passes (checks state m) ≡ None →
      failed passes (checks Running m) ≡ None
  in_running Running m numbered e = e
  in_running Halted m numbered e = absurd cc
  in_running Istrt (Strt flags) numbered e = absurd cc
  in_running Istrt m numbered e = absurd cc
  in_running Astrt (Stack flags) numbered e = absurd cc
  in_running Astrt m numbered e = absurd cc

  pub checks_passed : (state : State) (m : MessageValue) → is_numbered m ≡ true → failed passes (checks state m) ≡ None →
      ArePassed passes (listed (checks Running m))
  checks_passed state m numbered e = all_passed (checks Running m) (in_running state m numbered e)

-- of the station on true numbers
pub sending_passed : (s : Station) (m : MessageValue) → is_numbered m ≡ true → sending_refusal s m ≡ None →
    ArePassed (passes s m) (listed (checks Running m))
sending_passed s m numbered e = checks_passed (passes s m) s.state m numbered e
