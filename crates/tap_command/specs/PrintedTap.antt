-- What `tap` prints of the captures that it wrote, and with which status it ends.
use Rattle.std.specs.Prelude.{◌≡◌, ℕ, ◌⊎◌, List, ◌++◌, Option, Result, Ok, Err, codes}
use Rattle.wire_base.specs.declared.side.Side.TheVariants.{A, B}
use Rattle.capture.specs.declared.fault.Departure.{Departure}
use Rattle.capture.specs.Faulty.{CountsReads, line_fault_words}
use Rattle.dna_node.specs.Kind.{NodeKind}
use Rattle.pair_judge.specs.declared.end_verdict.EndVerdict.TheVariants.{Passed}
use Rattle.pair_judge.specs.declared.summary.SideSummary.{SideSummary}
use Rattle.pair_judge.specs.EndJudged.{IsJudgedAlone}
use Rattle.pair_judge.specs.EndKind.{EndKind}
use Rattle.pair_judge.specs.Faulty.{is_failed_read_of}
use Rattle.pair_judge.specs.Judged.{Answer, IsAnswer}
use Rattle.pair_judge.specs.declared.fault.JudgeFault.TheVariants as judge
use Rattle.pair_judge.specs.declared.verdict.Verdict.{Verdict}
use Rattle.pair_judge.specs.declared.verdict.Verdict.TheVariants.{Accepted, Refused}
use Rattle.wire_tap.specs.declared.fault.TapFault.{TapFault}
use Rattle.wire_tap.specs.declared.fault.TapFault.TheVariants as faults
use Rattle.tap_answer.specs.declared.told.Told.{Told}
use Rattle.tap_answer.specs.declared.told.Told.TheVariants as says
use Rattle.tap_answer.specs.Telling.{telling}
use Rattle.tap_answer.specs.Words.{apart_words, assumed_words, premise_words, too_wide_words, unexplained_end_words, unexplained_words}
use Rattle.tap_command.specs.declared.tap.Captured.{Captured}
use Rattle.tap_command.specs.declared.tap.RefusedAt.{RefusedAt}
use Rattle.printing.specs.Printed.{Moved, Writes, failed_write_text, fault_status, fault_text}

-- ---- faults of the text of what passed, of files and of the memory

-- `wire: line 3: syntax`
abbrev pub wire_line_text : Departure → ℕ → List ℕ
wire_line_text kind line = codes "wire: " ++ (line_fault_words kind line ++ codes "\n")

-- no unit passed
abbrev pub no_unit_text : List ℕ
no_unit_text = codes "wire: no unit\n"

abbrev pub tap_fault_text : TapFault → List ℕ
tap_fault_text (faults.Departs kind line) = wire_line_text kind line
tap_fault_text faults.Read = codes "wire: read failed\n"
tap_fault_text (faults.Write side) = failed_write_text side
tap_fault_text faults.OutOfMemory = fault_text judge.OutOfMemory

-- it is written to standard error; where there is no memory for the text of a faulty line, that is told
abbrev pub TellsTapFault : (err : Moved) → TapFault → ℕ → Type 0
TellsTapFault err (faults.Departs kind line) status =
    Writes err.old err.new (tap_fault_text (faults.Departs kind line)) 2 status ⊎ Writes err.old err.new (fault_text judge.OutOfMemory) 3 status
TellsTapFault err faults.Read status = Writes err.old err.new (tap_fault_text faults.Read) 3 status
TellsTapFault err (faults.Write side) status = Writes err.old err.new (tap_fault_text (faults.Write side)) 3 status
TellsTapFault err faults.OutOfMemory status = Writes err.old err.new (tap_fault_text faults.OutOfMemory) 3 status

-- ---- whether each side is explained by itself

-- each capture is judged alone, and passes
pub record BothPass (end : EndKind) (text_a text_b : Option (List ℕ)) : Type 0 where
  pub counts_a : SideSummary
  pub counts_b : SideSummary
  pub a : IsJudgedAlone end text_a (Ok (Passed counts_a))
  pub b : IsJudgedAlone end text_b (Ok (Passed counts_b))

-- ---- the answer

-- the readers of both captures, and both streams
pub record Streams : Type 0 where
  pub a : Moved
  pub b : Moved
  pub out : Moved
  pub err : Moved

abbrev pub streams : (a b out err : Moved) → Streams
streams a b out err = record { a = a; b = b; out = out; err = err }

-- the boots and aborts that are assumed, what an answer rests on, and what was skipped
abbrev pub behind_words : Captured → List ℕ
behind_words captured = assumed_words captured.turns.now ++ premise_words captured.tapped

-- What is said goes to standard output, with what it assumes and rests on after it, and the other stream stays as it is; too wide a choice goes to
-- standard error. `verdict` is the text of the verdict.
abbrev pub TellsAs : (verdict : List ℕ) → Captured → Streams → Told → ℕ → Type 0
TellsAs verdict captured s says.Accepted status = Writes s.out.old s.out.new (verdict ++ behind_words captured) 0 status × (s.err.new ≡ s.err.old)
TellsAs verdict captured s (says.Unexplained passed reason) status =
    Writes s.out.old s.out.new (unexplained_words passed reason captured.charged ++ behind_words captured) 1 status × (s.err.new ≡ s.err.old)
TellsAs verdict captured s (says.Apart passed reason) status =
    Writes s.out.old s.out.new (apart_words passed reason ++ behind_words captured) 1 status × (s.err.new ≡ s.err.old)
TellsAs verdict captured s (says.UnexplainedEnd reason) status =
    Writes s.out.old s.out.new (unexplained_end_words reason captured.charged ++ behind_words captured) 1 status × (s.err.new ≡ s.err.old)
TellsAs verdict captured s (says.TooWide passed) status = Writes s.err.old s.err.new (too_wide_words passed) 2 status × (s.out.new ≡ s.out.old)

-- the verdict refuses this record
abbrev pub IsRefusedAt : Verdict → RefusedAt → Type 0
IsRefusedAt (Accepted summary) refused = ⊥
IsRefusedAt (Refused side place reason) refused = (refused.side ≡ side) × (refused.place ≡ place)

-- What is said of the verdict is printed, or nothing is, where the captures are to be cut at the refused record; or a fault is told, as by `check`.
abbrev pub AnswersTap : (text : Verdict → List ℕ) → Captured → Streams → Answer → Result ℕ RefusedAt → Type 0
AnswersTap text captured s (Ok verdict) (Ok status) =
    TellsAs (text verdict) captured s (telling captured.is_apart captured.tapped.ending verdict) status
AnswersTap text captured s (Ok verdict) (Err refused) = IsRefusedAt verdict refused × (s.out.new ≡ s.out.old) × (s.err.new ≡ s.err.old)
AnswersTap text captured s (Err fault) (Ok status) =
    Writes s.err.old s.err.new (fault_text fault) (fault_status fault) status × (s.out.new ≡ s.out.old)
AnswersTap text captured s (Err fault) (Err refused) = ⊥

-- One call of `tap` over the captures: what is printed is said of an answer of which all is true that the judge's contract says of its own, for this
-- kind of node and this text of a verdict.
pub record ChecksTap (nodes : NodeKind) (text : Verdict → List ℕ) (captured : Captured) (s : Streams) (result : Result ℕ RefusedAt) : Type 0 where
  pub answer : Answer
  pub judged : IsAnswer nodes s.a.old.bytes s.b.old.bytes answer
  pub reads_a : CountsReads (is_failed_read_of A answer) s.a.old.faults s.a.new.faults
  pub reads_b : CountsReads (is_failed_read_of B answer) s.b.old.faults s.b.new.faults
  pub printed : AnswersTap text captured s answer result
