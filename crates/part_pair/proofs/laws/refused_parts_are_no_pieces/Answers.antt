use Rattle.part_pair.proofs.Final.{refused_are_no_pieces}
use Rattle.part_pair.proofs.laws.refused_parts_are_no_pieces.Goals as goal

pub returns : goal.returns
returns c = refused_are_no_pieces
