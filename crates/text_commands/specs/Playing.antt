-- What `play` prints of a script whose captures it writes, and with which status it ends.
use Rattle.std.specs.Prelude.{◌≡◌, ℕ, List, ◌++◌, Result, Ok, Err, codes}
use Rattle.std.specs.Fmt.{decimal}
use Rattle.wire_base.specs.declared.side.Side.TheVariants.{A, B}
use Rattle.capture.specs.Faulty.{kind_words}
use Rattle.pair_judge.specs.declared.fault.JudgeFault.TheVariants as judge
use Rattle.pair_player.specs.declared.fault.PlayFault.{PlayFault}
use Rattle.pair_player.specs.declared.fault.PlayFault.TheVariants.{Departs, BadStep, Full, Read, Write, OutOfMemory}
use Rattle.pair_player.specs.declared.played.Played.{Played}
use Rattle.pair_player.specs.Playing.{CountsReadsOf, CountsWritesOf, Plays, PlaysWholeLines, held}
use Rattle.printing.specs.Printed.{Moved, Writes, failed_write_text, fault_text}

-- `played 24 steps`
abbrev pub steps_text : ℕ → List ℕ
steps_text steps = codes "played " ++ (decimal steps ++ codes " steps\n")

-- `script: line 13: bad step` and its kin
abbrev pub script_line_text : (line : ℕ) (words : List ℕ) → List ℕ
script_line_text line words = codes "script: line " ++ (decimal line ++ (codes ": " ++ (words ++ codes "\n")))

abbrev pub play_fault_text : PlayFault → List ℕ
play_fault_text (Departs kind line) = script_line_text line (kind_words kind)
play_fault_text (BadStep line) = script_line_text line (codes "bad step")
play_fault_text (Full line) = script_line_text line (codes "full")
play_fault_text Read = codes "script: read failed\n"
play_fault_text (Write side) = failed_write_text side
play_fault_text OutOfMemory = fault_text judge.OutOfMemory

-- 2: a line departs, or its step can't be made; 3: the script's reader, a capture's file or the memory failed
abbrev pub play_fault_status : PlayFault → ℕ
play_fault_status (Departs kind line) = 2
play_fault_status (BadStep line) = 2
play_fault_status (Full line) = 2
play_fault_status Read = 3
play_fault_status (Write side) = 3
play_fault_status OutOfMemory = 3

-- the count is written to standard output, with status 0, and a fault to standard error; the other stream stays as it is
abbrev pub TellsPlayed : (out err : Moved) → Result Played PlayFault → ℕ → Type 0
TellsPlayed out err (Ok played) status = Writes out.old out.new (steps_text played.steps) 0 status × (err.new ≡ err.old)
TellsPlayed out err (Err fault) status = Writes err.old err.new (play_fault_text fault) (play_fault_status fault) status × (out.new ≡ out.old)

-- One call of `play`: what is printed, with its status, is an answer of which all is true that the player's contract says of its own: of what
-- the script's reader had left, of what was written to both captures, and of their counts.
pub record IsPlaying (script : Moved) (captures : Moved × Moved) (out err : Moved) (status : ℕ) : Type 0 where
  pub answer : Result Played PlayFault
  pub plays : Plays script.old.bytes (held captures.0.old.bytes captures.1.old.bytes) (held captures.0.new.bytes captures.1.new.bytes) answer
  pub lines : PlaysWholeLines script.old.bytes script.new.bytes (held captures.0.old.bytes captures.1.old.bytes)
      (held captures.0.new.bytes captures.1.new.bytes) answer
  pub reads : CountsReadsOf answer script.old.faults script.new.faults
  pub writes_a : CountsWritesOf A answer captures.0.old.faults captures.0.new.faults
  pub writes_b : CountsWritesOf B answer captures.1.old.faults captures.1.new.faults
  pub tells : TellsPlayed out err answer status
