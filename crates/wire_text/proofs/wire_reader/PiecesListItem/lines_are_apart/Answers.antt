use Rattle.wire_text.proofs.TextLaws.{lines}
use Rattle.wire_text.proofs.wire_reader.PiecesListItem.lines_are_apart.Goals as goal

pub returns : goal.returns
returns c = lines
