use Rattle.std.proofs.Common.{◌∙◌, ap, rules, true}
use Rattle.std.proofs.lemmas.List.{take_all}
use Rattle.clap.specs.Words.{App}
use Rattle.clap.specs.Simple.{app_of_fields}
use Rattle.command_words.specs.Taken.{app_of_words}
use Rattle.command_words.proofs.Growing.{third_of, with_word}
use Rattle.command_words.proofs.building.command_of.Goals as goal

pub loop-word-init : goal.loop-word-init
loop-word-init c =
    ap app_of_fields c.subcommand_required-command.ensures
    ∙ (ap (λ fields. app_of_fields (record fields { subcommand_required = true })) c.disable_help_subcommand.ensures
    ∙ ap (λ (app : App). record app { top = record app.top { disable_help_subcommand = true; subcommand_required = true } }) c.new.ensures.app)

pub loop-word-preserved : goal.loop-word-preserved
loop-word-preserved c =
    with_word _ _ _ _ _ _ _ (search rules) c.loop-word.invariant c.in_ok-subcommand_of.ensures
    (c.in_ok-command.ensures.shape (third_of _ _ _ _ (ap (λ (app : App). app.top.is_plain) c.in_ok-subcommand_of.ensures)))

pub returns : goal.returns
returns c = c.loop-word.invariant ∙ ap (app_of_words c.args.program.now) (take_all c.loop-word.word-index c.args.words.now c.loop-word-test.false)
