use Rattle.text_commands.proofs.AcceptLaws.{answered, printed, reached}
use Rattle.text_commands.proofs.laws.played_is_accepted.Goals as goal

pub returns-clause-reached : goal.returns-clause-reached
returns-clause-reached c = reached

pub returns-clause-answered : goal.returns-clause-answered
returns-clause-answered c = λ text written played answer plays has once judged. answered text written answer once judged played plays has

pub returns-clause-printed : goal.returns-clause-printed
returns-clause-printed c = printed
