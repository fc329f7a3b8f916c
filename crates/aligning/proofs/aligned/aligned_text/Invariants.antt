use Rattle.std.proofs.Common.{◌≡◌, ◌+◌, ◌≤◌, ◌++◌, length, drop}
use Rattle.capture.specs.declared.hint.HintForm.TheVariants.{Number}
use Rattle.capture.specs.Range.{format_for}
use Rattle.capture.specs.Text.{head_line, record_lines}
use Rattle.aligning.specs.Aligned.{aligned}
use Rattle.aligning.proofs.aligned.aligned_text.Given as goal

abbrev pub invariant-loop-record : goal.invariant-loop-record
invariant-loop-record l =
    (l.text.items ++ record_lines Number (aligned l.ahead.next l.ahead.rest.now (drop l.record-index l.record-items))
    ≡ head_line (format_for l.capture.records.items) l.capture.own l.capture.peer ++ record_lines Number (aligned 0 l.other l.capture.records.items))
    × (l.ahead.next + length l.ahead.rest.now ≤ length l.other + l.record-index)
