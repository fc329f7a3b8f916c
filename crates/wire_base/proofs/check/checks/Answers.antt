use Rattle.std.proofs.Common.{ap, sym, ◌∙◌, eqb, arith}
use Rattle.wire_base.proofs.BlockCheckTests.{good_from_test, test_from_good, is_good_long, not_good_short}
use Rattle.wire_base.proofs.check.checks.Goals as goal

pub returns-then-bytes-lt2-clause-value : goal.returns-then-bytes-lt2-clause-value
returns-then-bytes-lt2-clause-value c = not_good_short c.args.bytes.now (omega arith)

pub returns-clause-value : goal.returns-clause-value
returns-clause-value c = ap (λ check. eqb check 0) c.block_check.ensures.value ∙
    is_good_long c.args.bytes.now (λ i. omega (arith, c.type_inv.bytes i)) (omega arith)

pub returns-clause-good : goal.returns-clause-good
returns-clause-good c =
    let value = returns-clause-value c in (
      λ e. good_from_test c.args.bytes.now (λ i. omega (arith, c.type_inv.bytes i)) (sym value ∙ e),
      λ good. value ∙
          test_from_good c.args.bytes.now (λ i. omega (arith, c.type_inv.bytes i)) good,
    )
