-- The faults of a text: how each kind of departure is told, and which answer of a reader says that a read failed.
use Rattle.std.specs.Prelude.{◌≡◌, ℕ, Bool, true, false, List, ◌++◌, codes, Result, Ok, Err}
use Rattle.std.specs.Fmt.{decimal}
use Rattle.wire_base.specs.Tally.{CountedFault}
use Rattle.capture.specs.declared.fault.Departure.{Departure}
use Rattle.capture.specs.declared.fault.Departure.TheVariants.{Syntax, TooLong, TooMany, Part}
use Rattle.capture.specs.declared.fault.LineFault.{LineFault}
use Rattle.capture.specs.declared.fault.LineFault.TheVariants as lines
use Rattle.capture.specs.declared.fault.CaptureFault.{CaptureFault}
use Rattle.capture.specs.declared.fault.CaptureFault.TheVariants.{Departs, Read, OutOfMemory, Failed}

-- the words of each kind
abbrev pub kind_words : Departure → List ℕ
kind_words Syntax = codes "syntax"
kind_words TooLong = codes "too long"
kind_words TooMany = codes "too many"
kind_words Part = codes "part"

-- `line 3: syntax` and its kin
abbrev pub line_fault_words : Departure → ℕ → List ℕ
line_fault_words kind line = codes "line " ++ (decimal line ++ (codes ": " ++ kind_words kind))

-- ---- failed reads

abbrev pub is_failed_line_read : {A : Type 0} → Result A LineFault → Bool
is_failed_line_read (Ok x) = false
is_failed_line_read (Err (lines.Departs kind)) = false
is_failed_line_read (Err lines.Read) = true

abbrev pub is_read_fault : CaptureFault → Bool
is_read_fault (Departs kind line) = false
is_read_fault Read = true
is_read_fault OutOfMemory = false
is_read_fault Failed = false

abbrev pub is_failed_read : {A : Type 0} → Result A CaptureFault → Bool
is_failed_read (Ok x) = false
is_failed_read (Err fault) = is_read_fault fault

-- The count of a reader's failed calls, before and after a call: where a failed read is answered, one failed in that call,
-- and at every other answer the count is as it was.
abbrev pub CountsReads : (failed_read : Bool) → ℕ → ℕ → Type 0
CountsReads true old new = CountedFault old new
CountsReads false old new = new ≡ old
