use Rattle.ddcmp_station.proofs.Failing.{cause_passes, first_given_passes, highest_passes, next_passes, outstanding_passes}
use Rattle.ddcmp_station.proofs.Failing.{response_passes, room_passes}
use Rattle.ddcmp_station.proofs.laws.allowed_passes.Goals as goal

pub returns : goal.returns
returns g c = record {
  response = response_passes;
  next = next_passes;
  highest = highest_passes;
  cause = cause_passes;
  first_given = first_given_passes;
  outstanding = outstanding_passes;
  room = room_passes;
}
