-- The nodes that the law is called for
use Rattle.std.proofs.Common.{ℕ}
use Rattle.two_nodes.specs.inner.Example.{Event, Fault, counters, counters_tell}
use Rattle.two_nodes.proofs.tests.two_tellings_are_two_units.Given as goal

abbrev pub ghosts-units_sent : goal.ghosts-units_sent
ghosts-units_sent a = record { State = ℕ; Record = Event; Sent = ℕ; Reason = Fault; nodes = counters; tells = counters_tell }
