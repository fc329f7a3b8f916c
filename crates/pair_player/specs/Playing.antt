-- What a player reads and writes.
use Rattle.std.specs.Prelude.{◌≡◌, ℕ, ◌+◌, ◌<◌, ◌⊎◌, List, length, Option, Result, Ok, Err, IfSome}
use Rattle.std.specs.Io.KnownBytes.{Appends, Consumes, IsAtEnd, Keeps}
use Rattle.wire_base.specs.Tally.{AppendsBeginning, CountedFault}
use Rattle.wire_base.specs.declared.side.Side.{Side}
use Rattle.wire_base.specs.declared.side.Side.TheVariants.{A, B}
use Rattle.capture.specs.Passing.{AppendsSome}
use Rattle.capture.specs.declared.fault.Departure.{Departure}
use Rattle.capture.specs.Lines.{IsCutBehind}
use Rattle.capture.specs.Text.{capture_text}
use Rattle.dna_play.specs.Script.{ScriptStep, Script, format_of}
use Rattle.dna_play.specs.ScriptText.{IsStep, ScriptHeadDeparts, StepDeparts, script_line, MAX_STEPS}
use Rattle.dna_play.specs.Stop.{Stop, BadStep, Full}
use Rattle.dna_play.specs.StoredPlayed.{StoredPlayed, stored_plays_step, stored_play}
use Rattle.pair_player.specs.declared.fault.PlayFault.{PlayFault}
use Rattle.pair_player.specs.declared.fault.PlayFault.TheVariants as faults
use Rattle.pair_player.specs.declared.played.Played.{Played}
use Rattle.pair_player.specs.SoFar.{IsReadSoFar}

-- what the writers of both captures hold, where they tell it
pub record Held : Type 0 where
  pub a : Option (List ℕ)
  pub b : Option (List ℕ)

abbrev pub held : Option (List ℕ) → Option (List ℕ) → Held
held a b = record { a = a; b = b }

-- neither writer took anything
pub record TakesNothing (old new : Held) : Type 0 where
  pub a : Keeps old.a new.a
  pub b : Keeps old.b new.b

-- What was read of a script, what its steps made, and what is to come
pub record Reached : Type 0 where
  pub script : Script
  pub played : StoredPlayed
  pub come : Option (List ℕ)

abbrev pub reached : Script → StoredPlayed → Option (List ℕ) → Reached
reached script played come = record { script = script; played = played; come = come }

-- the text begins with this script, and its steps are made
pub record HasPlayed (text : Option (List ℕ)) (r : Reached) : Type 0 where
  pub read : IsReadSoFar text r.script r.come
  pub made : stored_play r.script ≡ Ok r.played

-- ---- what is written

-- the texts of both captures, in format 1 where it has a line for each record of the steps, else in format 3
abbrev pub text_a : Reached → List ℕ
text_a r = capture_text (format_of r.script.steps) r.script.node_a r.script.node_b r.played.of_a

abbrev pub text_b : Reached → List ℕ
text_b r = capture_text (format_of r.script.steps) r.script.node_b r.script.node_a r.played.of_b

-- each writer took the text of its capture
pub record HasWritten (old new : Held) (r : Reached) : Type 0 where
  pub a : Appends old.a new.a (text_a r)
  pub b : Appends old.b new.b (text_b r)

-- the writer of one side took a beginning of its text that is not all of it, and the other a beginning
abbrev pub HasCut : Side → Held → Held → Reached → Type 0
HasCut A old new r = AppendsBeginning old.a new.a (text_a r) × AppendsSome old.b new.b (text_b r)
HasCut B old new r = AppendsSome old.a new.a (text_a r) × AppendsBeginning old.b new.b (text_b r)

-- ---- how it ends

-- the head's line departs in this way
pub record HeadDepartsAt (text : Option (List ℕ)) (kind : Departure) (line : ℕ) : Type 0 where
  pub departs : IfSome text (ScriptHeadDeparts kind)
  pub line_is : line ≡ 1

-- nothing is to come, and the steps are counted
pub record EndsBehind (steps : ℕ) (r : Reached) : Type 0 where
  pub end : IsAtEnd r.come
  pub steps_are : steps ≡ length r.script.steps

-- the next line departs in this way
pub record DepartsBehind (kind : Departure) (line : ℕ) (r : Reached) : Type 0 where
  pub departs : IfSome r.come (StepDeparts (length r.script.steps) kind)
  pub line_is : line ≡ length r.script.steps + 2

-- the next line is a step's, which can't be made
pub record StopsBehind (stop : Stop) (line : ℕ) (r : Reached) : Type 0 where
  pub step : ScriptStep
  pub fits : IsStep step
  pub few : length r.script.steps < MAX_STEPS
  pub later : Option (List ℕ)
  pub spelled : Consumes r.come later (script_line step)
  pub stops : stored_plays_step r.played.pair step ≡ Err stop
  pub line_is : line ≡ length r.script.steps + 2

-- the next line is a step's, for which memory was refused
pub record RefusedBehind (r : Reached) : Type 0 where
  pub step : ScriptStep
  pub fits : IsStep step
  pub few : length r.script.steps < MAX_STEPS
  pub later : Option (List ℕ)
  pub spelled : Consumes r.come later (script_line step)

-- steps were made and written, and this holds after them
abbrev pub PlaysTo : Option (List ℕ) → Held → Held → (Reached → Type 0) → Type 0
PlaysTo text old new Behind = (r : Reached) × HasPlayed text r × HasWritten old new r × Behind r

-- the same of some steps, or nothing was written; where a read failed `PlaysWholeLines` says of which
abbrev pub PlaysSome : Option (List ℕ) → Held → Held → Type 0
PlaysSome text old new = TakesNothing old new ⊎ PlaysTo text old new (λ r. Unit {0})

-- One call, where this text was to come, by its answer: all was played and written, and the steps are counted; or all steps before a fault were,
-- or nothing was written where no step was read; or, where a write failed, beginnings of what was played.
abbrev pub Plays : Option (List ℕ) → Held → Held → Result Played PlayFault → Type 0
Plays text old new (Ok answer) = PlaysTo text old new (EndsBehind answer.steps)
Plays text old new (Err (faults.Departs kind line)) = (HeadDepartsAt text kind line × TakesNothing old new) ⊎
    PlaysTo text old new (DepartsBehind kind line)
Plays text old new (Err (faults.BadStep line)) = PlaysTo text old new (StopsBehind BadStep line)
Plays text old new (Err (faults.Full line)) = PlaysTo text old new (StopsBehind Full line)
Plays text old new (Err faults.Read) = PlaysSome text old new
Plays text old new (Err (faults.Write side)) = (r : Reached) × HasPlayed text r × HasCut side old new r
Plays text old new (Err faults.OutOfMemory) = TakesNothing old new ⊎ PlaysTo text old new RefusedBehind

-- Where a read failed: each whole line that the reader had given until then was read, its step made, and its records written. `left` is what it
-- has left. After the steps, or where no head was read, it had given a piece of a line.
abbrev pub PlaysWholeLines : (text left : Option (List ℕ)) → Held → Held → Result Played PlayFault → Type 0
PlaysWholeLines text left old new (Err faults.Read) =
    (TakesNothing old new × IsCutBehind text left) ⊎ PlaysTo text old new (λ r. IsCutBehind r.come left)
PlaysWholeLines text left old new answer = Unit {0}

-- ---- of a script that is played whole

-- a device's fault, or want of memory
abbrev pub IsOfDevice : PlayFault → Type 0
IsOfDevice faults.Read = Unit {0}
IsOfDevice (faults.Write side) = Unit {0}
IsOfDevice faults.OutOfMemory = Unit {0}
IsOfDevice fault = ⊥

-- the answer counts its steps and both captures are written, or a device or the memory failed
abbrev pub AnswersWhole : Reached → Held → Held → Result Played PlayFault → Type 0
AnswersWhole r old new (Ok answer) = (answer.steps ≡ length r.script.steps) × HasWritten old new r
AnswersWhole r old new (Err fault) = IsOfDevice fault

-- ---- counts of failed calls

-- the script's reader: where a write failed, a read may have failed just before
abbrev pub CountsReadsOf : Result Played PlayFault → ℕ → ℕ → Type 0
CountsReadsOf (Err faults.Read) old new = CountedFault old new
CountsReadsOf (Err (faults.Write side)) old new = (new ≡ old) ⊎ CountedFault old new
CountsReadsOf answer old new = new ≡ old

-- the writer of a side
abbrev pub CountsOfSide : Side → Side → ℕ → ℕ → Type 0
CountsOfSide A A old new = CountedFault old new
CountsOfSide B B old new = CountedFault old new
CountsOfSide of failed old new = new ≡ old

abbrev pub CountsWritesOf : Side → Result Played PlayFault → ℕ → ℕ → Type 0
CountsWritesOf side (Err (faults.Write failed)) old new = CountsOfSide side failed old new
CountsWritesOf side answer old new = new ≡ old
