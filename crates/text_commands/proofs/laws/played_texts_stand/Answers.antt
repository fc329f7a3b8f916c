use Rattle.text_commands.proofs.TextsStand.{answered, reached}
use Rattle.text_commands.proofs.laws.played_texts_stand.Goals as goal

pub returns-clause-reached : goal.returns-clause-reached
returns-clause-reached c = reached

pub returns-clause-answered : goal.returns-clause-answered
returns-clause-answered c = λ text written played answer plays has judged. answered text written answer judged played plays has
