-- What `alone` prints of an answer of the judge of one end, byte by byte, and with which status it ends.
use Rattle.std.specs.Prelude.{◌≡◌, ℕ, ◌+◌, ◌⊎◌, List, [], ◌++◌, Ok, Err, codes}
use Rattle.std.specs.Fmt.{decimal}
use Rattle.wire_base.specs.declared.side.Side.{Side}
use Rattle.wire_base.specs.declared.side.Side.TheVariants.{A}
use Rattle.capture.specs.declared.fault.CaptureFault.{CaptureFault}
use Rattle.capture.specs.declared.fault.CaptureFault.TheVariants.{Departs, Read, OutOfMemory, Failed}
use Rattle.capture.specs.Faulty.{CountsReads, is_failed_read}
use Rattle.pair_judge.specs.declared.judged_as.Layers.{Layers}
use Rattle.pair_judge.specs.declared.judged_as.Layers.TheVariants.{Both, Queued, Station}
use Rattle.pair_judge.specs.declared.end_verdict.Accused.{Accused}
use Rattle.pair_judge.specs.declared.end_verdict.Accused.TheVariants.{ThisEnd, OtherEnd}
use Rattle.pair_judge.specs.declared.end_verdict.EndVerdict.{EndVerdict}
use Rattle.pair_judge.specs.declared.end_verdict.EndVerdict.TheVariants.{Passed, Refused}
use Rattle.pair_judge.specs.declared.fault.JudgeFault.TheVariants as judge
use Rattle.pair_judge.specs.declared.fault.TextFault.TheVariants as of_text
use Rattle.pair_judge.specs.declared.reason.Reason.{Reason}
use Rattle.pair_judge.specs.declared.summary.SideSummary.{SideSummary}
use Rattle.pair_judge.specs.EndJudged.{EndAnswer, IsJudgedAlone}
use Rattle.pair_judge.specs.EndKind.{EndKind}
use Rattle.pair_judge.specs.Reason.{reason_name, reason_number}
use Rattle.printing.specs.Printed.{Moved, Writes, fault_text, side_line, station_line}

-- after the reason: nothing more, or that it is the other end that broke the rule
abbrev pub by_whom : Accused → List ℕ
by_whom ThisEnd = codes "\n"
by_whom OtherEnd = codes " by the other end\n"

-- `refused a RECORD line LINE: NUMBER NAME`, and by whom
abbrev pub refused_alone_text : (place : ℕ) → Accused → Reason → List ℕ
refused_alone_text place accused reason =
    codes "refused a " ++ (decimal place ++ (codes " line " ++ (decimal (place + 2) ++ (codes ": " ++ (decimal (reason_number reason)
    ++ (codes " " ++ (reason_name reason ++ by_whom accused)))))))

-- `passed`, and a line of counts, as it is told here; or what is refused
abbrev pub end_text_by : (line : Side → SideSummary → List ℕ) → EndVerdict → List ℕ
end_text_by line (Passed counts) = codes "passed\n" ++ (line A counts ++ codes "\n")
end_text_by line (Refused place accused reason) = refused_alone_text place accused reason

-- ---- whether the links on top are judged too

-- the line of counts of a side
abbrev pub counts_line : Layers → Side → SideSummary → List ℕ
counts_line Both = side_line
counts_line Queued = side_line
counts_line Station = station_line

-- the text of a verdict
abbrev pub end_text_over : Layers → EndVerdict → List ℕ
end_text_over layers = end_text_by (counts_line layers)

-- ---- what is printed

-- `a: line 3: syntax` and its kin, or `out of memory`, as `check` tells the same fault of a's text
abbrev pub shown_fault : CaptureFault → List ℕ
shown_fault (Departs kind line) = fault_text (judge.Capture A (of_text.Departs kind line))
shown_fault Read = fault_text (judge.Capture A of_text.Read)
shown_fault OutOfMemory = fault_text judge.OutOfMemory
shown_fault Failed = []

-- 2: a faulty text; 3: its reader or the memory failed
abbrev pub shown_fault_status : CaptureFault → ℕ
shown_fault_status (Departs kind line) = 2
shown_fault_status Read = 3
shown_fault_status OutOfMemory = 3
shown_fault_status Failed = 3

-- 0: passed; 1: refused
abbrev pub end_status : EndVerdict → ℕ
end_status (Passed counts) = 0
end_status (Refused place accused reason) = 1

-- why there is no verdict is written to standard error; where there is no memory for the text of a faulty line, that is told
abbrev pub TellsEndFault : (err : Moved) → CaptureFault → ℕ → Type 0
TellsEndFault err (Departs kind line) status =
    Writes err.old err.new (shown_fault (Departs kind line)) 2 status ⊎ Writes err.old err.new (shown_fault OutOfMemory) 3 status
TellsEndFault err Read status = Writes err.old err.new (shown_fault Read) 3 status
TellsEndFault err OutOfMemory status = Writes err.old err.new (shown_fault OutOfMemory) 3 status
TellsEndFault err Failed status = ⊥

-- What the end is judged as, and the text of a verdict
module _ (end : EndKind) (text : EndVerdict → List ℕ) where
  -- a verdict is written to standard output and a fault to standard error; the other stream stays as it is
  abbrev pub PrintsEnd : (out err : Moved) → EndAnswer → ℕ → Type 0
  PrintsEnd out err (Ok verdict) status = Writes out.old out.new (text verdict) (end_status verdict) status × (err.new ≡ err.old)
  PrintsEnd out err (Err fault) status = Writes err.old err.new (shown_fault fault) (shown_fault_status fault) status × (out.new ≡ out.old)

  -- One call of `alone`: what is printed, with its status, is an answer of which all is true that the judge's contract says of its own: of what the
  -- reader had left, and of its count.
  pub record ChecksEnd (a out err : Moved) (status : ℕ) : Type 0 where
    pub answer : EndAnswer
    pub judged : IsJudgedAlone end a.old.bytes answer
    pub reads : CountsReads (is_failed_read answer) a.old.faults a.new.faults
    pub printed : PrintsEnd out err answer status
