-- How it is told why a side can't have sent a unit.
use Rattle.std.specs.Prelude.{ℕ, List, codes}
use Rattle.accusing.specs.declared.wrong.Wrong.{Wrong}
use Rattle.accusing.specs.declared.wrong.Wrong.TheVariants.{NotAMessage, NoStart, NotRunning, WrongResponse, NothingOutstanding, WrongNumber}
use Rattle.accusing.specs.declared.wrong.Wrong.TheVariants.{WindowFull, Changed}

abbrev pub wrong_words : Wrong → List ℕ
wrong_words NotAMessage = codes "it is no sound message"
wrong_words NoStart = codes "no STRT passed that it could answer"
wrong_words NotRunning = codes "nothing passed that leads to RUNNING"
wrong_words WrongResponse = codes "RESP is no data message that can have come in order"
wrong_words NothingOutstanding = codes "no data message is outstanding"
wrong_words WrongNumber = codes "NUM can't be next"
wrong_words WindowFull = codes "255 data messages are outstanding and none was acknowledged"
wrong_words Changed = codes "it was first sent with other data"
