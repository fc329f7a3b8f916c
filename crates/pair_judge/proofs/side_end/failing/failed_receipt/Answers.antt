use Rattle.std.proofs.Common.{refl}
use Rattle.pair_judge.proofs.FirstFailed.{of_three}
use Rattle.pair_judge.proofs.side_end.failing.failed_receipt.Goals as goal

pub returns : goal.returns
returns c =
    of_three c.args.reason _ _ _ _ _ c.failed_bytes.result c.of_reason.result c.of_reason-of_letter.result c.of_reason-of_bytes.result
    refl refl c.failed_bytes.ensures c.of_reason-of_bytes.ensures c.of_reason-of_letter.ensures c.of_reason.ensures
