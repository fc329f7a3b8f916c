use Rattle.std.proofs.Common.{arith, sym, ◌∙◌}
use Rattle.std.proofs.lemmas.Bool.{eqb-true}
use Rattle.capture.proofs.DigitsLaws.{bytes_empty, bytes_odd}
use Rattle.capture.proofs.digits.bytes_into.Goals as goal

pub returns-then-is_empty-clause-bytes : goal.returns-then-is_empty-clause-bytes
returns-then-is_empty-clause-bytes c = bytes_empty c.args.most c.args.text.now (eqb-true _ _ (sym c.is_empty.ensures ∙ c.if-is_empty.true))

pub returns-then-text-ne0-clause-bytes : goal.returns-then-text-ne0-clause-bytes
returns-then-text-ne0-clause-bytes c = bytes_odd c.args.most c.args.text.now (rw c.as_slice.ensures at (sym c.eq.ensures ∙ c.if-eq.false))
    (omega (arith, c.if-text-ne0.true))
