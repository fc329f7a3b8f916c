use Rattle.std.proofs.Common.{Some, Ok}
use Rattle.pair_judge.specs.declared.verdict.Verdict.TheVariants.{Refused}
use Rattle.text_commands.proofs.laws.what_was_played_whole_is_not_refused.Goals as goal

pub returns : goal.returns
returns c = λ bytes script written played side place reason is_text once plays judged.
    c.played_is_accepted.ensures.answered (Some bytes) written (Ok played) (Ok (Refused side place reason)) plays tt
    (c.starts_once_throughout.ensures bytes script is_text once) judged
