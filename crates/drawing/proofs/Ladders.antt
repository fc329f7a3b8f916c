-- A ladder that was told of what is kept, and what is answered of it.
use Rattle.std.proofs.Common.{◌≡◌, ℕ, Bool, true, false, List, [], Option, Some, None, Result, Ok, Err, inl, inr, refl, sym, ◌∙◌, ap, subst}
use Rattle.wire_base.specs.declared.side.Side.{Side}
use Rattle.capture_record.specs.Entries.{record_with}
use Rattle.capture_record.specs.declared.entry.Entry.{Entry}
use Rattle.dna_node.specs.Kind.{NodeKind}
use Rattle.ladder.specs.Drawn.{DrawnView, IsDrawn}
use Rattle.ladder.specs.Ladder.{LadderView, refused}
use Rattle.ladder.specs.declared.rows.Keep.{Keep}
use Rattle.ladder.specs.declared.rows.Keep.TheVariants as keep
use Rattle.pair_judge.specs.Ends.{ShownEnds}
use Rattle.pair_judge.specs.Finding.{of_side}
use Rattle.pair_judge.specs.Judged.{Answer, IfTold, IsAcceptance, IsAnswer, IsExact, IsFaultyWhere, JudgesOrFails}
use Rattle.pair_judge.specs.Order.{MadeRecord}
use Rattle.pair_judge.specs.Reason.{is_of_changed_bytes}
use Rattle.pair_judge.specs.Watched.{WasTold}
use Rattle.pair_judge.specs.declared.fault.JudgeFault.{JudgeFault}
use Rattle.pair_judge.specs.declared.fault.JudgeFault.TheVariants.{Capture, OutOfMemory}
use Rattle.pair_judge.specs.declared.fault.TextFault.TheVariants.{Departs, Read}
use Rattle.pair_judge.specs.JudgedAs.{nodes_of}
use Rattle.pair_judge.specs.declared.reason.Reason.{Reason}
use Rattle.pair_judge.specs.declared.verdict.Verdict.{Verdict}
use Rattle.pair_judge.specs.declared.verdict.Verdict.TheVariants.{Accepted, Refused}
use Rattle.pair_judge.proofs.Orders.{told_so}
use Rattle.drawing.specs.declared.begun.Begun.{Begun}
use Rattle.drawing.specs.declared.drawing.DrawnPair.{DrawnPair}
use Rattle.drawing.specs.declared.range.Range.{Range}
use Rattle.drawing.specs.declared.range.Start.{Start}
use Rattle.drawing.specs.declared.telling.BothEnds.{BothEnds}
use Rattle.drawing.specs.declared.telling.Onward.{Onward}
use Rattle.drawing.specs.Drawing.{IsDrawing, IsLadder, IsLadderBy, IsPicture, TellsAhead}
use Rattle.drawing.specs.Telling.{WereTold, keep_by, keep_for, keep_of}
use Rattle.drawing.specs.inner.Ending.{EndsDrawing, IsBegun}
use Rattle.drawing.specs.inner.Kept.{IsEnds, IsOnward, Rest}

-- ---- what stands behind the records

left_by : (rest : List MadeRecord) (ends : ShownEnds) (before after : LadderView) → Rest false rest → after ≡ before
    → IsLadderBy rest ends.verdict ends before after
left_by rest ends before after (next, more, is) same =
    subst (λ (r : List MadeRecord). IsLadderBy r ends.verdict ends before after) (sym is) same

pub left_so : (ends : ShownEnds) (is_all : Bool) (before after : LadderView) → is_all ≡ false → after ≡ before
    → (rest : List MadeRecord) → Rest is_all rest → IsLadderBy rest ends.verdict ends before after
left_so ends is_all before after none same rest told = left_by rest ends before after (subst (λ (b : Bool). Rest b rest) none told) same

all_by : (rest : List MadeRecord) (ends : ShownEnds) (before after : LadderView) → rest ≡ [] → IsLadder ends.verdict ends before after
    → IsLadderBy rest ends.verdict ends before after
all_by rest ends before after none so = subst (λ (r : List MadeRecord). IsLadderBy r ends.verdict ends before after) (sym none) so

pub all_so : (ends : ShownEnds) (is_all : Bool) (before after : LadderView) → is_all ≡ true → IsLadder ends.verdict ends before after
    → (rest : List MadeRecord) → Rest is_all rest → IsLadderBy rest ends.verdict ends before after
all_so ends is_all before after all so rest told = all_by rest ends before after (subst (λ (b : Bool). Rest b rest) all told) so

-- ---- the answer

exact_by : (nodes : NodeKind) (text_a text_b : Option (List ℕ)) (fault : JudgeFault) → JudgesOrFails (Err fault)
    → IfTold text_a text_b (λ bytes_a bytes_b. IsExact nodes bytes_a bytes_b (Err fault))
exact_by nodes None text_b fault fails = tt
exact_by nodes (Some bytes_a) None fault fails = tt
exact_by nodes (Some bytes_a) (Some bytes_b) (Capture side (Departs kind line)) fails = absurd fails
exact_by nodes (Some bytes_a) (Some bytes_b) (Capture side Read) fails = λ head_a head_b of_a of_b is_a is_b run. tt
exact_by nodes (Some bytes_a) (Some bytes_b) OutOfMemory fails = λ head_a head_b of_a of_b is_a is_b run. tt

accepted_by : (nodes : NodeKind) (text_a text_b : Option (List ℕ)) (fault : JudgeFault)
    → IfTold text_a text_b (λ bytes_a bytes_b. IsAcceptance nodes bytes_a bytes_b (Err fault))
accepted_by nodes None text_b fault = tt
accepted_by nodes (Some bytes_a) None fault = tt
accepted_by nodes (Some bytes_a) (Some bytes_b) fault = tt

faulty_by : (nodes : NodeKind) (text_a text_b : Option (List ℕ)) (fault : JudgeFault) → JudgesOrFails (Err fault)
    → IsFaultyWhere nodes text_a text_b (Err fault)
faulty_by nodes text_a text_b (Capture side (Departs kind line)) fails = absurd fails
faulty_by nodes text_a text_b (Capture side Read) fails = tt
faulty_by nodes text_a text_b OutOfMemory fails = tt

-- a fault of memory or of a device may always be answered
pub failed_answer : (nodes : NodeKind) (text_a text_b : Option (List ℕ)) (fault : JudgeFault) → JudgesOrFails (Err fault)
    → IsAnswer nodes text_a text_b (Err fault)
failed_answer nodes text_a text_b fault fails = record {
  exact = exact_by nodes text_a text_b fault fails;
  accepted = accepted_by nodes text_a text_b fault;
  refused = tt;
  faulty = faulty_by nodes text_a text_b fault fails;
}

-- the rows of a ladder that was told of what is kept
picture_so : (range : Range) (text_a text_b : Option (List ℕ)) (ends : ShownEnds) (drawn : DrawnView) (begun : Begun) (after : LadderView)
    → (order : WasTold (nodes_of range.layers) text_a text_b ends (IsBegun (keep_of range ends.verdict) range.rows begun))
    → IsAnswer (nodes_of range.layers) text_a text_b (Ok ends.verdict)
    → ((rest : List MadeRecord) → Rest begun.is_all rest → IsLadderBy rest ends.verdict ends begun.ladder after)
    → IsDrawn after.kept after.ended drawn → IsPicture range text_a text_b ends.verdict drawn
picture_so range text_a text_b ends drawn begun after told judged ending drawn_so =
    let all = told.is_told in
    record {
      judged = judged;
      ends = ends;
      gives = refl;
      made = begun.ladder;
      rest = all.0;
      told = told_so (nodes_of range.layers) text_a text_b ends _ (WereTold (keep_of range ends.verdict) range.rows begun.ladder all.0) told all.1;
      after = after;
      ladder = ending all.0 all.2;
      drawn_so = drawn_so;
    }

drawing_so : (range : Range) (text_a text_b : Option (List ℕ)) (ends : ShownEnds) (begun : Begun) (result : Result DrawnPair JudgeFault)
    → IsAnswer (nodes_of range.layers) text_a text_b (Ok ends.verdict)
    → WasTold (nodes_of range.layers) text_a text_b ends (IsBegun (keep_of range ends.verdict) range.rows begun)
    → EndsDrawing ends begun result → IsDrawing range text_a text_b result
drawing_so range text_a text_b ends begun (Ok pair) judged told ending =
    subst (λ (shown : ShownEnds). IsPicture range text_a text_b shown.verdict pair.drawn) (sym ending.1)
    (picture_so range text_a text_b ends pair.drawn begun ending.0 told judged ending.2 ending.3)
drawing_so range text_a text_b ends begun (Err fault) judged told fails = failed_answer (nodes_of range.layers) text_a text_b fault fails

pub ends_so : (range : Range) (text_a text_b : Option (List ℕ)) (ends : ShownEnds) (telling : BothEnds) (begun : Begun)
    (result : Result DrawnPair JudgeFault) → range.start ≡ None → IsAnswer (nodes_of range.layers) text_a text_b (Ok ends.verdict)
    → WasTold (nodes_of range.layers) text_a text_b ends (IsEnds telling)
    → ((order : List MadeRecord) → IsEnds telling order → IsBegun (keep_for keep.First keep.Last ends.verdict) range.rows begun order)
    → EndsDrawing ends begun result → IsDrawing range text_a text_b result
ends_so range text_a text_b ends telling begun result none judged told begins ending =
    let keeps : keep_of range ends.verdict ≡ keep_for keep.First keep.Last ends.verdict =
    ap (λ (start : Option Start). keep_for (keep_by keep.First start) (keep_by keep.Last start) ends.verdict) none in
    drawing_so range text_a text_b ends begun result judged
    (told_so (nodes_of range.layers) text_a text_b ends (IsEnds telling) (IsBegun (keep_of range ends.verdict) range.rows begun) told
    (subst (λ (k : Keep). IsBegun k range.rows begun told.order) (sym keeps) (begins told.order told.is_told)))
    ending

same_keep : (side : Side) (line : ℕ) (verdict : Verdict) → keep_for (keep.From side line) (keep.From side line) verdict ≡ keep.From side line
same_keep side line (Accepted summary) = refl
same_keep side line (Refused at place reason) = refl

pub onward_so : (range : Range) (text_a text_b : Option (List ℕ)) (ends : ShownEnds) (telling : Onward) (start : Start) (begun : Begun)
    (result : Result DrawnPair JudgeFault) → range.start ≡ Some start → IsAnswer (nodes_of range.layers) text_a text_b (Ok ends.verdict)
    → WasTold (nodes_of range.layers) text_a text_b ends (IsOnward telling)
    → ((order : List MadeRecord) → IsOnward telling order → IsBegun (keep.From start.side start.line) range.rows begun order)
    → EndsDrawing ends begun result → IsDrawing range text_a text_b result
onward_so range text_a text_b ends telling start begun result some judged told begins ending =
    let keeps : keep_of range ends.verdict ≡ keep.From start.side start.line =
    ap (λ (s : Option Start). keep_for (keep_by keep.First s) (keep_by keep.Last s) ends.verdict) some
    ∙ same_keep start.side start.line ends.verdict in
    drawing_so range text_a text_b ends begun result judged
    (told_so (nodes_of range.layers) text_a text_b ends (IsOnward telling) (IsBegun (keep_of range ends.verdict) range.rows begun) told
    (subst (λ (k : Keep). IsBegun k range.rows begun told.order) (sym keeps) (begins told.order told.is_told)))
    ending

-- ---- the refused record

pub told_ahead : (side : Side) (reason : Reason) (ends : ShownEnds) (before after : LadderView) (entry : Entry) (bytes : List ℕ)
    → (of_side side ends.a ends.b).ahead ≡ Some (record_with entry bytes) → after ≡ refused before side entry bytes (is_of_changed_bytes reason)
    → TellsAhead side reason ends before after
told_ahead side reason ends before after entry bytes ahead is = inl (entry, bytes, ahead, is)

pub none_ahead : (side : Side) (reason : Reason) (ends : ShownEnds) (before after : LadderView) → (of_side side ends.a ends.b).ahead ≡ None
    → after ≡ before → TellsAhead side reason ends before after
none_ahead side reason ends before after none is = inr (none, is)
