-- What a charge means, and which there is after which answers.
use Rattle.std.proofs.Common.{◌≡◌, ℕ, Bool, true, false, Option, Some, None, Result, Ok, Err, List, [], ◌∷◌, ◌++◌, refl, ap, subst, ◌∙◌}
use Rattle.ddcmp_msg.specs.Reading.{reading}
use Rattle.dna_station.specs.declared.head.Head.{Head}
use Rattle.accusing.specs.declared.answer.Answer.{Answer}
use Rattle.accusing.specs.declared.answer.Answer.TheVariants.{CanHave, CannotHave}
use Rattle.accusing.specs.declared.wrong.Wrong.{Wrong as StationWrong}
use Rattle.accusing.specs.Placing.{Passed as Seen, Own, Other}
use Rattle.accusing.specs.Sight.{Sight, all_passed, first_sight, passes, sends, then_all}
use Rattle.accusing.specs.Answers.{Answers, IsAfter, IsAfterIf}
use Rattle.accusing.proofs.Final as stations
use Rattle.accusing_links.specs.declared.wrong.Wrong.{Wrong as PacketWrong}
use Rattle.accusing_links.specs.Back.{is_back_unit, told}
use Rattle.accusing_links.specs.Heard.{heard}
use Rattle.accusing_links.specs.Wrong.{wrong_unit}
use Rattle.accusing_links.proofs.Backward.{never_back}
use Rattle.accusing_links.proofs.Final as packets
use Rattle.accusing_segments.specs.Answers as sends_all
use Rattle.accusing_segments.specs.History.{history}
use Rattle.accusing_segments.specs.Repeats.{is_changed_unit, repeats}
use Rattle.accusing_segments.specs.Wrong.{is_long_unit}
use Rattle.accusing_segments.proofs.Final as segments
use Rattle.accusing_segments.proofs.OneCallFinal.{never_changed}
use Rattle.wire_tap.specs.Accusing.{SendsNone, charge_by, charge_of, first_charge, is_doubted, packet_charge_if}
use Rattle.wire_tap.specs.declared.exception.Charge.{Charge}
use Rattle.wire_tap.specs.declared.exception.Charge.TheVariants.{Station, Packet, Back, TooLong, Changed}

-- ---- what a charge means

same_charge : (a b : Charge) → Some a ≡ Some b → a ≡ b
same_charge a b e = cc

module _ (head : Head) (before : List Seen) (unit : List ℕ) where
  abbrev all : List Seen
  all = before ++ Own unit ∷ []

  packet_means : (by : Charge) (wrong : Option PacketWrong) (back long changed : Bool) → wrong_unit head (heard before) unit ≡ wrong →
      is_back_unit (told before) unit ≡ back → is_long_unit (history before) unit ≡ long →
      is_changed_unit (history before) (repeats before) unit ≡ changed →
      first_charge wrong back long changed ≡ Some by → SendsNone by head all
  packet_means by (Some wrong) back long changed w b l c e =
      subst (λ (x : Charge). SendsNone x head all) (same_charge Packet by e)
      (λ queues records placing. packets.never_placed queues head before [] unit records wrong w placing)
  packet_means by None true long changed w b l c e =
      subst (λ (x : Charge). SendsNone x head all) (same_charge Back by e)
      (λ queues records placing. never_back queues head before [] unit records b placing)
  packet_means by None false true changed w b l c e =
      subst (λ (x : Charge). SendsNone x head all) (same_charge TooLong by e)
      (λ queues records placing. segments.never_long queues head before [] unit records l placing)
  packet_means by None false false true w b l c e =
      subst (λ (x : Charge). SendsNone x head all) (same_charge Changed by e)
      (λ queues records placing. never_changed queues head before [] unit records c placing)
  packet_means by None false false false w b l c e = absurd cc

  if_means : (line_alone : Bool) (by : Charge) → packet_charge_if line_alone head before unit ≡ Some by → SendsNone by head all
  if_means true by e = absurd cc
  if_means false by e = packet_means by _ _ _ _ refl refl refl refl e

  by_station : (line_alone : Bool) (by : Charge) (made : Result Sight StationWrong) → all_passed first_sight all ≡ made →
      charge_by made (packet_charge_if line_alone head before unit) ≡ Some by → SendsNone by head all
  by_station line_alone by (Err wrong) made e =
      subst (λ (x : Charge). SendsNone x head all) (same_charge Station by e)
      (λ records placing. stations.never_placed {L = Unit {0}} all records wrong made placing)
  by_station line_alone by (Ok sight) made e = if_means line_alone by e

  pub charge_means : (line_alone : Bool) (by : Charge) → charge_of line_alone head before unit ≡ Some by → SendsNone by head all
  charge_means line_alone by e = by_station line_alone by _ refl e

  pub doubt_means : (line_alone : Bool) → is_doubted line_alone before unit ≡ true → sends_all.IsWrong all
  doubt_means true e = absurd cc
  doubt_means false e = segments.wrong_own before unit e

-- ---- the station's answer comes first

all_passed-append : (s : Sight) (first later : List Seen) →
    all_passed s (first ++ later) ≡ then_all (all_passed s first) (λ next. all_passed next later)
all_passed-append s [] later = refl
all_passed-append s (Other unit ∷ first) later = all_passed-append (passes s (reading unit)) first later
all_passed-append s (Own unit ∷ first) later = go (sends s (reading unit)) (λ next. all_passed-append next first later)
  where
    go : (made : Result Sight StationWrong) →
        ((next : Sight) → all_passed next (first ++ later) ≡ then_all (all_passed next first) (λ n. all_passed n later)) →
        then_all made (λ next. all_passed next (first ++ later))
        ≡ then_all (then_all made (λ next. all_passed next first)) (λ next. all_passed next later)
    go (Ok next) rest = rest next
    go (Err wrong) rest = refl

last : (made : Result Sight StationWrong) → then_all made (λ next. all_passed next []) ≡ made
last (Ok next) = refl
last (Err wrong) = refl

one_more : (passed : List Seen) (unit : List ℕ) (old : Sight) → IsAfter old passed →
    all_passed first_sight (passed ++ Own unit ∷ []) ≡ sends old (reading unit)
one_more passed unit old is =
    all_passed-append first_sight passed (Own unit ∷ [])
    ∙ ap (λ (x : Result Sight StationWrong). then_all x (λ next. all_passed next (Own unit ∷ []))) is ∙ last (sends old (reading unit))

module _ (line_alone : Bool) (head : Head) (passed : List Seen) (unit : List ℕ) (old new : Sight) (answer : Answer) (is : IsAfter old passed)
    (answers : Answers answer (sends old (reading unit)) old new) where
  pub station_refuses : (wrong : StationWrong) → answer ≡ CannotHave wrong → charge_of line_alone head passed unit ≡ Some Station
  station_refuses wrong e =
      ap (λ (made : Result Sight StationWrong). charge_by made (packet_charge_if line_alone head passed unit))
      (one_more passed unit old is ∙ (subst (λ (a : Answer). Answers a (sends old (reading unit)) old new) e answers).0)

  pub station_agrees : answer ≡ CanHave → charge_of line_alone head passed unit ≡ packet_charge_if line_alone head passed unit
  station_agrees e =
      ap (λ (made : Result Sight StationWrong). charge_by made (packet_charge_if line_alone head passed unit))
      (one_more passed unit old is ∙ subst (λ (a : Answer). Answers a (sends old (reading unit)) old new) e answers)

  pub station_after : IsAfterIf answer new (passed ++ Own unit ∷ []) → answer ≡ CanHave → IsAfter new (passed ++ Own unit ∷ [])
  station_after after e = subst (λ (a : Answer). IsAfterIf a new (passed ++ Own unit ∷ [])) e after
