-- One unit more.
use Rattle.std.proofs.Common.{◌≡◌, ℕ, Result, Ok, Err, List, [], ◌∷◌, ◌++◌, refl, ap, ◌∙◌}
use Rattle.ddcmp_msg.specs.Reading.{reading}
use Rattle.accusing.specs.declared.answer.Answer.{Answer}
use Rattle.accusing.specs.declared.answer.Answer.TheVariants.{CanHave, CannotHave}
use Rattle.accusing.specs.declared.wrong.Wrong.{Wrong}
use Rattle.accusing.specs.Placing.{Passed, Own, Other}
use Rattle.accusing.specs.Sight.{Sight, first_sight, passes, sends, then_all, all_passed}
use Rattle.accusing.specs.Answers.{Answers, IsAfter, IsAfterIf, IsWrongIf}
use Rattle.accusing.proofs.Final.{never_placed}

all_passed-append : (s : Sight) (first later : List Passed) →
    all_passed s (first ++ later) ≡ then_all (all_passed s first) (λ next. all_passed next later)
all_passed-append s [] later = refl
all_passed-append s (Other unit ∷ first) later = all_passed-append (passes s (reading unit)) first later
all_passed-append s (Own unit ∷ first) later = go (sends s (reading unit)) (λ next. all_passed-append next first later)
  where
    go : (made : Result Sight Wrong) →
        ((next : Sight) → all_passed next (first ++ later) ≡ then_all (all_passed next first) (λ n. all_passed n later)) →
        then_all made (λ next. all_passed next (first ++ later))
        ≡ then_all (then_all made (λ next. all_passed next first)) (λ next. all_passed next later)
    go (Ok next) rest = rest next
    go (Err wrong) rest = refl

more : (passed later : List Passed) (old : Sight) → IsAfter old passed → all_passed first_sight (passed ++ later) ≡ all_passed old later
more passed later old is = all_passed-append first_sight passed later ∙ ap (λ (x : Result Sight Wrong). then_all x (λ next. all_passed next
    later)) is

pub after_other : (passed : List Passed) (unit : List ℕ) (old : Sight) → IsAfter old passed →
    IsAfter (passes old (reading unit)) (passed ++ Other unit ∷ [])
after_other passed unit old is = more passed (Other unit ∷ []) old is

last : (made : Result Sight Wrong) → then_all made (λ next. all_passed next []) ≡ made
last (Ok next) = refl
last (Err wrong) = refl

own : (passed : List Passed) (unit : List ℕ) (old : Sight) → IsAfter old passed →
    all_passed first_sight (passed ++ Own unit ∷ []) ≡ sends old (reading unit)
own passed unit old is = more passed (Own unit ∷ []) old is ∙ last (sends old (reading unit))

pub after_own : (passed : List Passed) (unit : List ℕ) (old new : Sight) (answer : Answer) → IsAfter old passed →
    Answers answer (sends old (reading unit)) old new → IsAfterIf answer new (passed ++ Own unit ∷ [])
after_own passed unit old new CanHave is answered = own passed unit old is ∙ answered
after_own passed unit old new (CannotHave wrong) is answered = tt

pub wrong_own : (passed : List Passed) (unit : List ℕ) (old new : Sight) (answer : Answer) → IsAfter old passed →
    Answers answer (sends old (reading unit)) old new → IsWrongIf answer (passed ++ Own unit ∷ [])
wrong_own passed unit old new CanHave is answered = tt
wrong_own passed unit old new (CannotHave wrong) is answered =
    λ records placing. never_placed {L = Unit {0}} (passed ++ Own unit ∷ []) records wrong (own passed unit old is ∙ answered.0) placing
