-- What `check` prints of an answer of the judge, byte by byte, and with which status it ends; and what is printed where nothing
-- can be checked or shown.
use Rattle.std.specs.Prelude.{◌≡◌, ℕ, ◌+◌, ◌⊎◌, List, ◌++◌, Option, Ok, Err, codes}
use Rattle.std.specs.Fmt.{decimal}
use Rattle.std.specs.Io.KnownBytes.{Appends}
use Rattle.std.specs.declared.io.ErrorKind.{ErrorKind}
use Rattle.std.specs.declared.io.ErrorKind.TheVariants as kind
use Rattle.wire_base.specs.Side.{side_letter}
use Rattle.wire_base.specs.Tally.{AppendsBeginning, CountedFault, tally_faults, tally_lent}
use Rattle.capture.specs.Faulty.{CountsReads, line_fault_words}
use Rattle.wire_base.specs.declared.side.Side.{Side}
use Rattle.wire_base.specs.declared.side.Side.TheVariants.{A, B}
use Rattle.wire_base.specs.declared.tally.Tally.{Tally}
use Rattle.dna_node.specs.Kind.{NodeKind}
use Rattle.pair_judge.specs.Faulty.{is_failed_read_of}
use Rattle.pair_judge.specs.Judged.{Answer, IsAnswer}
use Rattle.pair_judge.specs.Reason.{reason_name, reason_number}
use Rattle.pair_judge.specs.declared.reason.Reason.{Reason}
use Rattle.pair_judge.specs.declared.summary.SideSummary.{SideSummary}
use Rattle.pair_judge.specs.declared.verdict.Verdict.{Verdict}
use Rattle.pair_judge.specs.declared.verdict.Verdict.TheVariants.{Accepted, Refused}
use Rattle.pair_judge.specs.declared.fault.JudgeFault.{JudgeFault}
use Rattle.pair_judge.specs.declared.fault.JudgeFault.TheVariants.{Capture, OutOfMemory}
use Rattle.pair_judge.specs.declared.fault.TextFault.{TextFault}
use Rattle.pair_judge.specs.declared.fault.TextFault.TheVariants.{Departs, Read}
use Rattle.printing.specs.declared.files.Named.{Named}
use Rattle.printing.specs.declared.files.Named.TheVariants as named

-- `a records 5 sent 3 received 1 damaged 0 kept 0 periods 1 links 0 up 0`
abbrev pub side_line : Side → SideSummary → List ℕ
side_line side counts =
    side_letter side ++ (codes " records " ++ (decimal counts.records ++ (codes " sent " ++ (decimal counts.sent
    ++ (codes " received " ++ (decimal counts.received ++ (codes " damaged " ++ (decimal counts.damaged
    ++ (codes " kept " ++ (decimal counts.kept ++ (codes " periods " ++ (decimal counts.periods
    ++ (codes " links " ++ (decimal counts.links ++ (codes " up " ++ decimal counts.up)))))))))))))))

-- of stations alone it ends with the periods: `a records 5 sent 3 received 1 damaged 0 kept 0 periods 1`
abbrev pub station_line : Side → SideSummary → List ℕ
station_line side counts =
    side_letter side ++ (codes " records " ++ (decimal counts.records ++ (codes " sent " ++ (decimal counts.sent
    ++ (codes " received " ++ (decimal counts.received ++ (codes " damaged " ++ (decimal counts.damaged
    ++ (codes " kept " ++ (decimal counts.kept ++ (codes " periods " ++ decimal counts.periods)))))))))))

-- `refused SIDE RECORD line LINE: NUMBER NAME`, where record i is on line i + 2
abbrev pub refused_text : Side → (place : ℕ) → Reason → List ℕ
refused_text side place reason =
    codes "refused " ++ (side_letter side ++ (codes " " ++ (decimal place ++ (codes " line " ++ (decimal (place + 2)
    ++ (codes ": " ++ (decimal (reason_number reason) ++ (codes " " ++ (reason_name reason ++ codes "\n")))))))))

-- `accepted`, and a line a side, as it is told here; or what is refused
abbrev pub verdict_text_by : (line : Side → SideSummary → List ℕ) → Verdict → List ℕ
verdict_text_by line (Accepted summary) = codes "accepted\n" ++ (line A summary.a ++ (codes "\n" ++ (line B summary.b ++ codes "\n")))
verdict_text_by line (Refused side place reason) = refused_text side place reason

abbrev pub verdict_text : Verdict → List ℕ
verdict_text = verdict_text_by side_line

-- the first line of what `check` prints
abbrev pub verdict_line : Verdict → List ℕ
verdict_line (Accepted summary) = codes "accepted\n"
verdict_line (Refused side place reason) = refused_text side place reason

-- what was wrong with a text, after its side
abbrev pub text_fault : TextFault → List ℕ
text_fault (Departs kind line) = line_fault_words kind line
text_fault Read = codes "read failed"

-- `a: line 3: syntax` and its kin, or `out of memory`
abbrev pub fault_text : JudgeFault → List ℕ
fault_text (Capture side fault) = side_letter side ++ (codes ": " ++ (text_fault fault ++ codes "\n"))
fault_text OutOfMemory = codes "out of memory\n"

-- where a write to the capture of this side failed
abbrev pub failed_write_text : Side → List ℕ
failed_write_text A = codes "a: write failed\n"
failed_write_text B = codes "b: write failed\n"

-- 0: accepted; 1: refused
abbrev pub verdict_status : Verdict → ℕ
verdict_status (Accepted summary) = 0
verdict_status (Refused side place reason) = 1

-- 2: a faulty text; 3: its reader failed
abbrev pub text_fault_status : TextFault → ℕ
text_fault_status (Departs kind line) = 2
text_fault_status Read = 3

abbrev pub fault_status : JudgeFault → ℕ
fault_status (Capture side fault) = text_fault_status fault
fault_status OutOfMemory = 3

-- where a file can't be opened
abbrev pub not_opened_text : Named → List ℕ
not_opened_text named.Script = codes "script: cannot open\n"
not_opened_text named.Wire = codes "wire: cannot open\n"
not_opened_text named.A = codes "a: cannot open\n"
not_opened_text named.B = codes "b: cannot open\n"
not_opened_text named.Svg = codes "svg: cannot open\n"
not_opened_text named.OutA = codes "out a: cannot open\n"
not_opened_text named.OutB = codes "out b: cannot open\n"

-- where opening it failed with an error of this kind
abbrev pub not_opened_says : Named → ErrorKind → List ℕ
not_opened_says file kind.OutOfMemory = fault_text OutOfMemory
not_opened_says file _ = not_opened_text file

-- What a reader or a writer shows: the bytes that it has left or has taken, where they are known, and how many of its calls failed
pub record Stream : Type 0 where
  pub bytes : Option (List ℕ)
  pub faults : ℕ

abbrev pub stream_of : {T : Type 0} → (T → Option (List ℕ)) → Tally T → Stream
stream_of bytes tally = record { bytes = bytes (tally_lent tally); faults = tally_faults tally }

-- the same before and after a call
pub record Moved : Type 0 where
  pub old : Stream
  pub new : Stream

abbrev pub moved : {T : Type 0} → (T → Option (List ℕ)) → Tally T → Tally T → Moved
moved bytes old new = record { old = stream_of bytes old; new = stream_of bytes new }

-- a text is on the stream, no call failed, and the status is the one that was meant;
-- or a call failed, a beginning of the text that is not all of it is on the stream, and the status is 3
abbrev pub Writes : (old new : Stream) → List ℕ → (meant status : ℕ) → Type 0
Writes old new text meant status =
    (Appends old.bytes new.bytes text × (new.faults ≡ old.faults) × (status ≡ meant))
    ⊎ (AppendsBeginning old.bytes new.bytes text × CountedFault old.faults new.faults × (status ≡ 3))

-- why there is no verdict is written to standard error; where there is no memory for the text of a faulty line, that is told
abbrev pub TellsFault : (err : Moved) → JudgeFault → ℕ → Type 0
TellsFault err (Capture side (Departs kind line)) status =
    Writes err.old err.new (fault_text (Capture side (Departs kind line))) 2 status ⊎ Writes err.old err.new (fault_text OutOfMemory) 3 status
TellsFault err (Capture side Read) status = Writes err.old err.new (fault_text (Capture side Read)) 3 status
TellsFault err OutOfMemory status = Writes err.old err.new (fault_text OutOfMemory) 3 status

-- The kind of node that both ends are taken for, and the text of a verdict
module _ (nodes : NodeKind) (text : Verdict → List ℕ) where
  -- a verdict is written to standard output and a fault to standard error; the other stream stays as it is
  abbrev pub Prints : (out err : Moved) → Answer → ℕ → Type 0
  Prints out err (Ok verdict) status = Writes out.old out.new (text verdict) (verdict_status verdict) status × (err.new ≡ err.old)
  Prints out err (Err fault) status = Writes err.old err.new (fault_text fault) (fault_status fault) status × (out.new ≡ out.old)

  -- One call of `check`: what is printed, with its status, is an answer of which all is true that the judge's contract says of its own:
  -- of what the two readers had left, and of their counts.
  pub record Checks (a b out err : Moved) (status : ℕ) : Type 0 where
    pub answer : Answer
    pub judged : IsAnswer nodes a.old.bytes b.old.bytes answer
    pub reads_a : CountsReads (is_failed_read_of A answer) a.old.faults a.new.faults
    pub reads_b : CountsReads (is_failed_read_of B answer) b.old.faults b.new.faults
    pub printed : Prints out err answer status
