use Rattle.ladder.proofs.Places.{stand_once, stay}
use Rattle.ladder.proofs.laws.records_stand_once_in_order.Goals as goal

pub returns-clause-joined : goal.returns-clause-joined
returns-clause-joined c = stand_once

pub returns-clause-passed : goal.returns-clause-passed
returns-clause-passed c = stay
