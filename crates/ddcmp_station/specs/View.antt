-- What is shown of a station: of what a node keeps of it, and the same on true numbers.
use Rattle.std.specs.Prelude.{◌+◌, ◌-◌, length}
use Rattle.dna_station.specs.NakCauses.{Causes}
use Rattle.dna_station.specs.Station.{Station, given, wire}
use Rattle.dna_station.specs.WireStation.{WireStation}
use Rattle.ddcmp_station.specs.declared.view.OpenCauses.{OpenCauses}
use Rattle.ddcmp_station.specs.declared.view.StationView.{StationView}

abbrev pub open_of : Causes → OpenCauses
open_of c = record { header_check = c.header_check; data_check = c.data_check; rep_response = c.rep_response; no_buffer = c.no_buffer }

abbrev pub view_of : {L : Type 0} → WireStation L → StationView
view_of w = record {
  state = w.variables.state;
  period = w.period;
  partner = w.partner;
  received = w.variables.received;
  acknowledged = w.variables.acknowledged;
  given = wire (w.variables.acknowledged + length w.variables.held);
  to_send = wire (w.variables.acknowledged + 1 + w.variables.ahead);
  outstanding = length w.variables.held;
  open_causes = open_of w.causes;
}

-- R, A, N and T as the line has them, and how many lie from A + 1 to N
abbrev pub true_view : Station → StationView
true_view s = record {
  state = s.state;
  period = s.period;
  partner = s.partner;
  received = wire s.received;
  acknowledged = wire s.acknowledged;
  given = wire (given s);
  to_send = wire s.next_to_send;
  outstanding = given s - s.acknowledged;
  open_causes = open_of s.causes;
}
