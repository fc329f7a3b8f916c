use Rattle.std.proofs.Common.{sym, ap, ◌∙◌}
use Rattle.capture.specs.Worded.{linked, messaged_within}
use Rattle.capture.proofs.NumberedLaws.{message_numbered}
use Rattle.capture.proofs.event_words.text_of_link.Goals as goal

pub returns-in-Some : goal.returns-in-Some
returns-in-Some c = λ most. message_numbered most c.args.text.now
    ∙ ap (λ read. messaged_within most (linked read)) (sym c.in-Some.ensures.value) ∙ ap (messaged_within most) (sym c.of_link.ensures)

pub returns-in-None : goal.returns-in-None
returns-in-None c = λ most. message_numbered most c.args.text.now ∙ ap (λ read. messaged_within most (linked read)) (sym c.in-None.ensures.value)
