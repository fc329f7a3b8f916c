use Rattle.part_station.proofs.Final.{refused_is_no_piece}
use Rattle.part_station.proofs.laws.refused_is_no_piece.Goals as goal

pub returns : goal.returns
returns c = λ records refusal refused piece. refused_is_no_piece records refusal refused piece
