-- What a packet carries, as the code hands it on.
use Rattle.std.specs.Prelude.{Option, Some, None}
use Rattle.pair_judge.specs.declared.packet.Carried.{Carried}
use Rattle.pair_judge.specs.FailedCheck.{Lent}

abbrev pub lent_in : Option Carried → Option Lent
lent_in None = None
lent_in (Some carried) = Some (record { dst = carried.dst; src = carried.src; message = carried.message.now })
