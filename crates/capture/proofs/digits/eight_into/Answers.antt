use Rattle.std.proofs.Common.{◌*◌, sym, ◌∙◌}
use Rattle.capture.proofs.SpelledLaws.{others_within}
use Rattle.capture.proofs.LanesLaws.{block_spelled, bytes_put}
use Rattle.capture.proofs.digits.eight_into.Goals as goal

pub returns-clause-spelled : goal.returns-clause-spelled
returns-clause-spelled c all before =
    block_spelled c.args.bytes.now c.args.text.now c.values_of-values.result c.eight_of.result c.args.at 8 c.values_of-values.ensures
    c.eight_of.ensures
    (sym c.are_values.ensures ∙ all) c.requires.long c.requires.within before

pub returns-clause-others : goal.returns-clause-others
returns-clause-others c none =
    others_within c.args.text.now (2 * c.args.at) 16 (sym c.values_of-values.ensures.tested ∙ sym c.are_values.ensures ∙ none)

pub returns-clause-bytes : goal.returns-clause-bytes
returns-clause-bytes c = bytes_put c.args.at c.args.bytes.now c.eight_of.result c.requires.fit c.eight_of.ensures.fits
