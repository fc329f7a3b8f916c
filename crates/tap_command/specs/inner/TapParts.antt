-- The parts of what `tap` prints.
use Rattle.std.specs.Prelude.{◌≡◌, ℕ, ◌⊎◌, List, ◌++◌}
use Rattle.pair_judge.specs.declared.fault.JudgeFault.TheVariants as judge
use Rattle.tap_answer.specs.declared.told.Told.{Told}
use Rattle.tap_command.specs.declared.tap.Captured.{Captured}
use Rattle.printing.specs.Printed.{Moved, Writes, fault_text}
use Rattle.tap_command.specs.PrintedTap.{Streams, TellsAs, behind_words}

-- what both streams show, before and after a call
abbrev pub both_streams : (out err : Moved) → Streams
both_streams out err = record { a = out; b = out; out = out; err = err }

-- that memory was wanting is told
abbrev pub TellsNoMemory : (out err : Moved) → ℕ → Type 0
TellsNoMemory out err status = Writes err.old err.new (fault_text judge.OutOfMemory) 3 status × (out.new ≡ out.old)

-- this text is written with what it assumes and rests on after it, or there was no memory for it
abbrev pub WritesBehind : List ℕ → Captured → (out err : Moved) → (meant status : ℕ) → Type 0
WritesBehind text captured out err meant status =
    (Writes out.old out.new (text ++ behind_words captured) meant status × (err.new ≡ err.old)) ⊎ TellsNoMemory out err status

-- what is said is told, or there was no memory for it
abbrev pub TellsTold : List ℕ → Captured → Streams → Told → ℕ → Type 0
TellsTold verdict captured s said status = TellsAs verdict captured s said status ⊎ TellsNoMemory s.out s.err status
