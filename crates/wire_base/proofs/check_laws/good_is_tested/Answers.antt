use Rattle.std.proofs.Common.{arith}
use Rattle.wire_base.proofs.BlockCheck.{check_of_lt}
use Rattle.wire_base.proofs.BlockCheckTests.{good_from_test, test_from_good, is_good-check}
use Rattle.wire_base.proofs.check_laws.good_is_tested.Goals as goal

pub returns-clause-tested : goal.returns-clause-tested
returns-clause-tested c = (
  good_from_test c.args.bytes.now (λ i. omega (arith, c.type_inv.bytes i)),
  test_from_good c.args.bytes.now
      (λ i. omega (arith, c.type_inv.bytes i)),
)

pub returns-clause-sent : goal.returns-clause-sent
returns-clause-sent c = is_good-check c.args.bytes.now (λ i. omega (arith, c.type_inv.bytes i))

pub returns-clause-word : goal.returns-clause-word
returns-clause-word c = check_of_lt c.args.bytes.now (λ i. omega (arith, c.type_inv.bytes i))
