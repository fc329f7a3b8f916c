-- What is said of a unit of the side, and what it means.
use Rattle.std.specs.Prelude.{◌≡◌, Result, Ok, Err, List}
use Rattle.capture_record.specs.declared.record.Record.{Record}
use Rattle.accusing.specs.declared.answer.Answer.{Answer}
use Rattle.accusing.specs.declared.answer.Answer.TheVariants.{CanHave, CannotHave}
use Rattle.accusing.specs.declared.wrong.Wrong.{Wrong}
use Rattle.accusing.specs.Placing.{Passed, IsPlacing}
use Rattle.accusing.specs.Sight.{Sight, first_sight, all_passed}

-- the answer to what a unit makes of what is known: what is known then, or why it is wrong, and nothing changes
abbrev pub Answers : Answer → Result Sight Wrong → (old new : Sight) → Type 0
Answers CanHave made old new = made ≡ Ok new
Answers (CannotHave wrong) made old new = (made ≡ Err wrong) × (new ≡ old)

-- this is known after these units, none of which was wrong
abbrev pub IsAfter : Sight → List Passed → Type 0
IsAfter sight passed = all_passed first_sight passed ≡ Ok sight

-- No right station can have sent its units among these, whatever it heard of the others, whatever was lost or damaged, whatever noise there was and
-- whatever its user did. (`Unit` for what a node puts beside packets: `never_placed` says it whatever that is)
abbrev pub IsWrong : List Passed → Type 0
IsWrong passed = (records : List Record) → IsPlacing (Unit {0}) passed records → ⊥

-- so where this is the answer to the unit that passed last
abbrev pub IsWrongIf : Answer → List Passed → Type 0
IsWrongIf CanHave passed = Unit {0}
IsWrongIf (CannotHave wrong) passed = IsWrong passed

-- what is known after the unit that passed last, where this is the answer to it
abbrev pub IsAfterIf : Answer → Sight → List Passed → Type 0
IsAfterIf CanHave sight passed = IsAfter sight passed
IsAfterIf (CannotHave wrong) sight passed = Unit {0}
