use Rattle.std.proofs.Common.{arith}
use Rattle.std.proofs.lemmas.List.{take_rest}
use Rattle.std.proofs.lemmas.Bool.{eqb-true, eq-eqb}
use Rattle.capture.proofs.BlockLaws.{lf_none, lf_found}
use Rattle.capture.proofs.line_reader.LineReader.find_lf.Goals as goal

pub returns-in_err-at : goal.returns-in_err-at
returns-in_err-at c =
    let none = rw (take_rest, c.unread.ensures) at c.in_err-at.ensures in
    rw c.from_residual.ensures (lf_none c.args.searched c.args.self.now.unread c.requires (λ k lt e. none k (omega arith) lt (eq-eqb _ _ e)))

pub returns : goal.returns
returns c =
    let found = rw (take_rest, c.unread.ensures) at c.in_ok-at.ensures in
    lf_found c.args.searched c.in_ok-at.at c.args.self.now.unread c.requires found.0.high (eqb-true _ _ found.1)
    (λ k lt e. found.0.before k (omega arith) lt (eq-eqb _ _ e))
