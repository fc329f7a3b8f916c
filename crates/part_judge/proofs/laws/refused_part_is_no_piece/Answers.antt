use Rattle.part_judge.proofs.PartFinal.{refused_is_no_piece}
use Rattle.part_judge.proofs.laws.refused_part_is_no_piece.Goals as goal

pub returns : goal.returns
returns c = refused_is_no_piece
