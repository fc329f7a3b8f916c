use Rattle.std.proofs.Common.{Some, None, ◌∙◌}
use Rattle.capture.proofs.NumberedLaws.{receipt_numbered, receipt_wide}
use Rattle.capture.proofs.record_words.receipt_by_number.Goals as goal

pub returns-in-Some-clause-number : goal.returns-in-Some-clause-number
returns-in-Some-clause-number c = λ fate. receipt_numbered fate c.args.text.now (Some (c.in-Some.hint, c.in-Some.bytes.now)) c.in-Some.ensures.value

pub returns-in-Some-clause-wide : goal.returns-in-Some-clause-wide
returns-in-Some-clause-wide c = λ fate. receipt_wide fate c.args.text.now
    ∙ receipt_numbered fate c.args.text.now (Some (c.in-Some.hint, c.in-Some.bytes.now)) c.in-Some.ensures.value

pub returns-in-None-clause-number : goal.returns-in-None-clause-number
returns-in-None-clause-number c = λ fate. receipt_numbered fate c.args.text.now None c.in-None.ensures.value

pub returns-in-None-clause-wide : goal.returns-in-None-clause-wide
returns-in-None-clause-wide c = λ fate. receipt_wide fate c.args.text.now ∙ receipt_numbered fate c.args.text.now None c.in-None.ensures.value
