-- What a contract says of a step of an end, beside the line to it and the line from it, and of a step of both ends; and which may ask for memory.
use Rattle.std.specs.Prelude.{ℕ, ◌++◌, List, Result, Ok, Err, IsOk}
use Rattle.capture.specs.declared.hint.HintForm.TheVariants.{Number}
use Rattle.capture.specs.Text.{record_lines}
use Rattle.dna_play.specs.Stop.{Stop}
use Rattle.dna_play.specs.StoredEnd.{StoredEnd}
use Rattle.dna_play.specs.StoredPlay.{StoredStepped, if_so, stored_plays, loses, silent, with_next}
use Rattle.dna_play.specs.StoredPlayed.{StoredPair, left_by, own_side, pair_after}
use Rattle.dna_play.specs.Receipt.{is_damage}
use Rattle.dna_play.specs.Script.{StepValue, ScriptStep, Timer, Send, Deliver, Refuse, Lose, Damage, Retry}
use Rattle.player_end.specs.Stepping.{HasUnit}

-- the end after a step, the units on the line from it, and a text with the lines of the step's records after it
abbrev pub sends : (going : List (List ℕ)) → List ℕ → Result StoredStepped Stop → Result (StoredEnd × List (List ℕ) × List ℕ) Stop
sends going text (Ok made) = Ok (made.end, going ++ made.sent, text ++ record_lines Number made.records)
sends going text (Err stop) = Err stop

-- the end after this step, the units on the line to it and on the line from it, and the text
abbrev pub sides : StepValue → (coming going : List (List ℕ)) → List ℕ → Result StoredStepped Stop →
    Result (StoredEnd × List (List ℕ) × List (List ℕ) × List ℕ) Stop
sides step coming going text (Ok made) = Ok (made.end, left_by step coming, going ++ made.sent, text ++ record_lines Number made.records)
sides step coming going text (Err stop) = Err stop

-- the same of both ends
abbrev pub with_text : List ℕ → StoredPair → ScriptStep → Result StoredStepped Stop → Result (StoredPair × List ℕ) Stop
with_text text pair step (Ok made) = Ok (pair_after step.side step.step made pair, text ++ record_lines Number made.records)
with_text text pair step (Err stop) = Err stop

-- ---- which steps may ask for memory

-- what could be lost: a unit is on the line, and its number has a line
abbrev pub CanCome : StoredEnd → (coming : List (List ℕ)) → Type 0
CanCome e coming = IsOk (with_next coming (λ bytes. loses e))

-- a unit is on the line, and the byte lies inside it
abbrev pub CanBeHurt : StoredEnd → (coming : List (List ℕ)) → (place value : ℕ) → Type 0
CanBeHurt e coming place value = IsOk (with_next coming (λ bytes. if_so (is_damage place value bytes) (silent e)))

-- A timer and a loss never do. What comes does where it can come: whether a message that becomes whole has a line shows only afterwards. `send`
-- does where the end has something to send, and every other step where it can be made
abbrev pub AsksMemory : StoredEnd → (coming : List (List ℕ)) → StepValue → Type 0
AsksMemory e coming Timer = ⊥
AsksMemory e coming Lose = ⊥
AsksMemory e coming (Retry link) = ⊥
AsksMemory e coming Deliver = CanCome e coming
AsksMemory e coming Refuse = CanCome e coming
AsksMemory e coming (Damage place value) = CanBeHurt e coming place value
AsksMemory e coming Send = HasUnit e
AsksMemory e coming step = IsOk (stored_plays e coming step)

abbrev pub Asks : StoredPair → ScriptStep → Type 0
Asks pair step = let own = own_side step.side pair in AsksMemory own.end own.coming step.step
