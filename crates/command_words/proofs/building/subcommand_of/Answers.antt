use Rattle.std.proofs.Common.{rules}
use Rattle.command_words.proofs.Growing.{with_part}
use Rattle.command_words.proofs.building.subcommand_of.Goals as goal

pub loop-part-preserved : goal.loop-part-preserved
loop-part-preserved c =
    with_part _ _ _ _ _ _ _ (search rules) c.loop-part.invariant c.arg_of.ensures.rule (c.in_ok-command.ensures.shape c.arg_of.ensures.local)
