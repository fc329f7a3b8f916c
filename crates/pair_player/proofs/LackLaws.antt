-- No LF stands in the words of a line, and they are no longer than a line may be.
use Rattle.std.proofs.Common.{ℕ, ◌≤◌, length, refl, arith, lit<}
use Rattle.std.specs.Prelude.{codes}
use Rattle.std.specs.Fmt.{decimal}
use Rattle.std.proofs.lemmas.Fmt.{length-decimal-le}
use Rattle.ddcmp_msg.specs.Message.{IsBytes}
use Rattle.wire_base.specs.Side.{side_letter}
use Rattle.capture_record.specs.declared.limit.TheConstants.{MAX_HINT, MAX_UNIT, MAX_MESSAGE}
use Rattle.capture.specs.declared.limit.TheConstants.{MAX_LINE}
use Rattle.capture.specs.Text.{spaced, bytes_text}
use Rattle.capture.proofs.PartLaws.{HasNo, HasNo-append}
use Rattle.capture.proofs.NumberLaws.{decimal_lacks}
use Rattle.capture.proofs.BytesLaws.{bytes_lack}
use Rattle.capture.proofs.LackLaws.{lacks, spaced_lacks, link_lacks, link_short, bytes_short, spaced_short}
use Rattle.capture.proofs.SidedLaws.{letter_lacks, letter_short}
use Rattle.dna_play.specs.Script.{StepValue, ScriptStep, Start, Halt, Boot, Timer, Send, Deliver, Refuse, Drop, Lose, Damage, Noise, Open, Accept}
use Rattle.dna_play.specs.Script.{Reject, In, Close, Abort, Retry}
use Rattle.dna_play.specs.ScriptText.{step_text, line_text, NumbersFit, step_bytes, most_bytes, HasSpelling, IsStep}

-- ---- no LF

number_lacks : (n : ℕ) → n ≤ MAX_HINT → HasNo 10 (decimal n)
number_lacks n small = decimal_lacks 10 n (lit< tt) (omega arith)

step_lacks : (step : StepValue) → NumbersFit step → IsBytes (step_bytes step) → HasNo 10 (step_text step)
step_lacks Start h fits = lacks 10 (codes "start") refl
step_lacks Halt h fits = lacks 10 (codes "halt") refl
step_lacks Boot h fits = lacks 10 (codes "boot") refl
step_lacks Timer h fits = lacks 10 (codes "timer") refl
step_lacks Send h fits = lacks 10 (codes "send") refl
step_lacks Deliver h fits = lacks 10 (codes "deliver") refl
step_lacks Refuse h fits = lacks 10 (codes "refuse") refl
step_lacks Drop h fits = lacks 10 (codes "drop") refl
step_lacks Lose h fits = lacks 10 (codes "lose") refl
step_lacks (Damage place value) h fits = HasNo-append 10 (codes "damage ") (spaced (decimal place) (decimal value)) (lacks 10 (codes "damage ") refl)
    (spaced_lacks (decimal place) (decimal value) (number_lacks place h.0) (number_lacks value h.1))
step_lacks (Noise bytes) h fits =
    HasNo-append 10 (codes "noise ") (bytes_text bytes) (lacks 10 (codes "noise ") refl) (bytes_lack 10 bytes (lit< tt) fits)
step_lacks Open h fits = lacks 10 (codes "open") refl
step_lacks (Accept partner) h fits = HasNo-append 10 (codes "accept ") (decimal partner) (lacks 10 (codes "accept ") refl) (link_lacks partner h)
step_lacks (Reject partner) h fits = HasNo-append 10 (codes "reject ") (decimal partner) (lacks 10 (codes "reject ") refl) (link_lacks partner h)
step_lacks (In link message) h fits = HasNo-append 10 (codes "in ") (spaced (decimal link) (bytes_text message)) (lacks 10 (codes "in ") refl)
    (spaced_lacks (decimal link) (bytes_text message) (link_lacks link h) (bytes_lack 10 message (lit< tt) fits))
step_lacks (Close link) h fits = HasNo-append 10 (codes "close ") (decimal link) (lacks 10 (codes "close ") refl) (link_lacks link h)
step_lacks (Abort link) h fits = HasNo-append 10 (codes "abort ") (decimal link) (lacks 10 (codes "abort ") refl) (link_lacks link h)
step_lacks (Retry link) h fits = HasNo-append 10 (codes "retry ") (decimal link) (lacks 10 (codes "retry ") refl) (link_lacks link h)

pub line_lacks : (line : ScriptStep) → HasSpelling line → HasNo 10 (line_text line)
line_lacks line h = spaced_lacks (side_letter line.side) (step_text line.step) (letter_lacks line.side) (step_lacks line.step h.numbers h.bytes)

-- ---- lengths

number_short : (n : ℕ) → n ≤ MAX_HINT → length (decimal n) ≤ 18
number_short n small = length-decimal-le 18 n (lit< tt) (omega arith) (omega arith)

step_short : (step : StepValue) → NumbersFit step → length (step_bytes step) ≤ most_bytes step → length (step_text step) ≤ 131079
step_short (Damage place value) h short =
    let n = spaced_short (decimal place) (decimal value) 18 18 (number_short place h.0) (number_short value h.1) in omega arith
step_short (Noise bytes) h short = let n = bytes_short MAX_UNIT bytes (omega arith) short in omega arith
step_short (Accept partner) h short = let n = link_short partner h in omega arith
step_short (Reject partner) h short = let n = link_short partner h in omega arith
step_short (In link message) h short =
    let n = spaced_short (decimal link) (bytes_text message) 5 131070 (link_short link h) (bytes_short MAX_MESSAGE message (omega arith) short) in
    omega arith
step_short (Close link) h short = let n = link_short link h in omega arith
step_short (Abort link) h short = let n = link_short link h in omega arith
step_short (Retry link) h short = let n = link_short link h in omega arith
step_short step h short = omega arith

pub line_short : (line : ScriptStep) → IsStep line → length (line_text line) ≤ MAX_LINE
line_short line h = spaced_short (side_letter line.side) (step_text line.step) 1 131079 (letter_short line.side)
    (step_short line.step h.spelling.numbers h.short)
