-- What `convert` reads and writes.
use Rattle.std.specs.Prelude.{◌≡◌, ℕ, ◌+◌, ◌⊎◌, List, length, Option, Result, Ok, Err}
use Rattle.std.specs.List.{AllByRecursion}
use Rattle.std.specs.Io.KnownBytes.{Appends, Keeps}
use Rattle.wire_base.specs.Tally.{AppendsBeginning, CountedFault}
use Rattle.capture.specs.declared.fault.CaptureFault.{CaptureFault}
use Rattle.capture.specs.declared.fault.CaptureFault.TheVariants as faults
use Rattle.capture.specs.declared.fault.ConvertFault.{ConvertFault}
use Rattle.capture.specs.declared.fault.ConvertFault.TheVariants.{Capture, NotInFormat, Write, OutOfMemory}
use Rattle.capture.specs.declared.format.Format.{Format}
use Rattle.capture_record.specs.declared.record.Record.{Record}
use Rattle.capture.specs.Text.{capture_text}
use Rattle.capture.specs.Range.{IsInFormat}
use Rattle.capture.specs.Faulty.{CountsReads, is_read_fault}
use Rattle.capture.specs.Lines.{IsCutBehind}
use Rattle.capture.specs.SoFar.{ReadSoFar, TheEnd, IsReadSoFar, DepartsBehind, HeadDepartsAt, coming, read_on}

-- the text, in this format, of what was read
abbrev pub text_of : Format → ReadSoFar → List ℕ
text_of to read = capture_text to read.own read.peer read.records

-- a head and records were read of the text, each of which has a line in this format
pub record IsConvertible (to : Format) (text : Option (List ℕ)) (read : ReadSoFar) : Type 0 where
  pub from : IsReadSoFar text read
  pub lines : AllByRecursion (IsInFormat to) read.records

-- and the writer took their text in this format
pub record HasConverted (to : Format) (text old new : Option (List ℕ)) (read : ReadSoFar) : Type 0 where
  pub of : IsConvertible to text read
  pub taken : Appends old new (text_of to read)

-- The record after what was read has no line in this format; its line in the text is this one, counted from the head's, which is 1.
pub record NotInFormatBehind (to : Format) (text : Option (List ℕ)) (read : ReadSoFar) (line : ℕ) : Type 0 where
  pub next : Record
  pub rest : Option (List ℕ)
  pub from : IsReadSoFar text (read_on read next rest)
  pub lacks : ¬ (IsInFormat to next)
  pub line_is : line ≡ length read.records + 2

-- the same for some head and records, or nothing was written
abbrev pub HasBegun : Format → Option (List ℕ) → Option (List ℕ) → Option (List ℕ) → Type 0
HasBegun to text old new = Keeps old new ⊎ ((read : ReadSoFar) × HasConverted to text old new read)

-- What becomes of the rest of a text, by what its reader answers: its head departs, or the line after what was converted;
-- or it can't be read further.
abbrev pub StopsAt : Format → Option (List ℕ) → Option (List ℕ) → Option (List ℕ) → CaptureFault → Type 0
StopsAt to text old new (faults.Departs kind line) =
    (HeadDepartsAt text kind line × Keeps old new) ⊎ ((read : ReadSoFar) × HasConverted to text old new read × DepartsBehind read kind line)
StopsAt to text old new faults.Read = HasBegun to text old new
StopsAt to text old new faults.OutOfMemory = ⊥
StopsAt to text old new faults.Failed = ⊥

-- One call, where the reader had this text left, and the writer had these bytes before and after: what was read to the end was written,
-- and its records are counted; or all before a fault, or before a record that the format has not, was written; or, where a write failed, a
-- beginning of what was read, and not all.
abbrev pub Converts : Format → Option (List ℕ) → Option (List ℕ) → Option (List ℕ) → Result ℕ ConvertFault → Type 0
Converts to text old new (Ok count) = (read : ReadSoFar) × HasConverted to text old new read × (read.behind ≡ TheEnd) × (count ≡ length read.records)
Converts to text old new (Err (Capture fault)) = StopsAt to text old new fault
Converts to text old new (Err (NotInFormat line)) = (read : ReadSoFar) × HasConverted to text old new read × NotInFormatBehind to text read line
Converts to text old new (Err Write) = (read : ReadSoFar) × IsConvertible to text read × AppendsBeginning old new (text_of to read)
Converts to text old new (Err OutOfMemory) = Keeps old new

-- what the reader had left, and has left now; and what the writer held, and holds now
pub record Devices : Type 0 where
  pub text : Option (List ℕ)
  pub left : Option (List ℕ)
  pub old : Option (List ℕ)
  pub new : Option (List ℕ)

abbrev pub devices : Option (List ℕ) → Option (List ℕ) → Option (List ℕ) → Option (List ℕ) → Devices
devices text left old new = record { text = text; left = left; old = old; new = new }

-- Where a read failed: each whole line that the reader had given until then was read, and written in this format. After these lines, or where
-- no head was read, it had given a piece of a line.
abbrev pub ConvertsWholeLines : Format → Devices → Result ℕ ConvertFault → Type 0
ConvertsWholeLines to d (Err (Capture faults.Read)) =
    (Keeps d.old d.new × IsCutBehind d.text d.left)
    ⊎ ((read : ReadSoFar) × HasConverted to d.text d.old d.new read × IsCutBehind (coming read.behind) d.left)
ConvertsWholeLines to d answer = Unit {0}

-- a fault of the text's reader
abbrev pub convert_fault : CaptureFault → ConvertFault
convert_fault (faults.Departs kind line) = Capture (faults.Departs kind line)
convert_fault faults.Read = Capture faults.Read
convert_fault faults.OutOfMemory = OutOfMemory
convert_fault faults.Failed = Capture faults.Failed

-- the reader's count of failed calls: where a write failed, a read may have failed just before
abbrev pub CountsReadsOf : Result ℕ ConvertFault → ℕ → ℕ → Type 0
CountsReadsOf (Ok count) old new = new ≡ old
CountsReadsOf (Err (Capture fault)) old new = CountsReads (is_read_fault fault) old new
CountsReadsOf (Err (NotInFormat line)) old new = new ≡ old
CountsReadsOf (Err Write) old new = (new ≡ old) ⊎ CountedFault old new
CountsReadsOf (Err OutOfMemory) old new = new ≡ old

-- the writer's count
abbrev pub CountsWritesOf : Result ℕ ConvertFault → ℕ → ℕ → Type 0
CountsWritesOf (Ok count) old new = new ≡ old
CountsWritesOf (Err (Capture fault)) old new = new ≡ old
CountsWritesOf (Err (NotInFormat line)) old new = new ≡ old
CountsWritesOf (Err Write) old new = CountedFault old new
CountsWritesOf (Err OutOfMemory) old new = new ≡ old
