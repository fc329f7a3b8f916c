use Rattle.leaving_runs.proofs.Stations.{event_left, sending_left, after_left, truth_left, refusal_left, arrival_left}
use Rattle.leaving_runs.proofs.laws.stations_look_at_no_packet.Goals as goal

pub returns-clause-event : goal.returns-clause-event
returns-clause-event c = λ packets s event. event_left packets s event

pub returns-clause-may_send : goal.returns-clause-may_send
returns-clause-may_send c = λ packets s m is. sending_left packets s m is

pub returns-clause-sends : goal.returns-clause-sends
returns-clause-sends c = λ packets s m. after_left packets s m

pub returns-clause-truth : goal.returns-clause-truth
returns-clause-truth c = λ packets s m. truth_left packets s m

pub returns-clause-refuses : goal.returns-clause-refuses
returns-clause-refuses c = λ packets s rule m u kept. refusal_left packets m u kept rule s

pub returns-clause-arrives : goal.returns-clause-arrives
returns-clause-arrives c = λ packets s m u kept. arrival_left packets m u kept s
