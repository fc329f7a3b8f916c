use Rattle.std.proofs.Common.{ap, ap₂, ◌∙◌, Option, option_map}
use Rattle.pair_judge.specs.declared.failed_check.Awaited.{Awaited}
use Rattle.pair_judge.specs.declared.failed_check.FailedCheck.TheVariants as failed
use Rattle.pair_judge.specs.FailedIn.{both_await}
use Rattle.pair_judge.proofs.FirstFailed.{of_three}
use Rattle.pair_judge.proofs.judged_ends.failing.first_of.Goals as goal

pub returns : goal.returns
returns g c =
    of_three c.args.reason _ _ _ c.failed_ahead.result c.one_awaits.result c.both_await.result
    c.of_reason.result c.of_reason-no_unit.result c.of_reason-no_order.result
    c.failed_ahead.ensures
    (c.one_awaits.ensures ∙ ap (λ (own : Option Awaited). option_map failed.NoSuchUnit own) c.awaited-here.ensures)
    (c.both_await.ensures ∙ ap₂ (λ (own other : Option Awaited). both_await own other) c.awaited-here.ensures c.awaited-there.ensures)
    c.of_reason-no_order.ensures c.of_reason-no_unit.ensures c.of_reason.ensures
