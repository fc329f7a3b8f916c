use Rattle.std.proofs.Common.{sym, arith}
use Rattle.std.proofs.lemmas.Bool.{eqb-true, eq-eqb}
use Rattle.std.proofs.lemmas.List.{take_rest}
use Rattle.capture.proofs.PartLaws.{cut_found, cut_none}
use Rattle.capture.proofs.part.cut_at.Goals as goal

pub returns-in_err-at : goal.returns-in_err-at
returns-in_err-at c =
    rw c.from_residual.ensures (sym (cut_none c.args.mark c.args.text.now (λ j lt e. c.in_err-at.ensures j (omega arith) lt (eq-eqb _ _ e))))

pub returns : goal.returns
returns c =
    let found = c.in_ok-at.ensures in
    rw take_rest (sym (cut_found c.args.mark c.args.text.now c.in_ok-at.at found.0.high (eqb-true _ _ found.1)
    (λ j lt e. found.0.before j (omega arith) lt (eq-eqb _ _ e))))
