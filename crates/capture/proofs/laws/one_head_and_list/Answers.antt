use Rattle.capture.proofs.TextLaws.{one_of_texts, one_text}
use Rattle.capture.proofs.laws.one_head_and_list.Goals as goal

pub returns-clause-format : goal.returns-clause-format
returns-clause-format c = λ format format' own peer own' peer' rs ss bytes a b. (one_text format format' own peer own' peer' rs ss bytes a b).0

pub returns-clause-list : goal.returns-clause-list
returns-clause-list c = one_of_texts
