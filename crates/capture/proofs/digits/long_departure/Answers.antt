use Rattle.capture.proofs.DigitsLaws.{bytes_long, bytes_bad}
use Rattle.std.proofs.Common.{sym, ◌∙◌}
use Rattle.capture.proofs.digits.long_departure.Goals as goal

pub returns-then-are_digits : goal.returns-then-are_digits
returns-then-are_digits c = bytes_long c.args.most c.args.text.now c.requires.even c.requires.long (sym c.are_digits.ensures ∙ c.if-are_digits.true)

pub returns : goal.returns
returns c = bytes_bad c.args.most c.args.text.now c.requires.even c.requires.long (sym c.are_digits.ensures ∙ c.if-are_digits.false)
