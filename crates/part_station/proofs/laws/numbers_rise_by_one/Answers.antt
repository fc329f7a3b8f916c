use Rattle.part_station.proofs.Growth.{first_low, sending_low, meeting_low, user_low}
use Rattle.part_station.proofs.LowSteps.{low_step}
use Rattle.part_station.proofs.laws.numbers_rise_by_one.Goals as goal

pub returns : goal.returns
returns c = record {
  first = first_low;
  sends = λ bound cases after m large low byte e. sending_low bound cases after large low m byte e;
  meets = λ bound cases after arrival kept large low byte e. meeting_low bound cases after large low arrival kept byte e;
  user = λ bound cases after event large low e. user_low bound cases after large low event e;
  step = λ bound cases after r large low bytes e. low_step bound cases after large low r bytes e;
}
