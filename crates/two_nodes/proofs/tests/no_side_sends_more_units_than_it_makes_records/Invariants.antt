-- The property that the law is called for
use Rattle.std.proofs.Common.{ℕ}
use Rattle.two_nodes.specs.inner.Example.{Event, Fault, SentWithin, counters}
use Rattle.two_nodes.proofs.tests.no_side_sends_more_units_than_it_makes_records.Given as goal

abbrev pub ghosts-always : goal.ghosts-always
ghosts-always a = record { State = ℕ; Record = Event; Sent = ℕ; Reason = Fault; nodes = counters; holds = SentWithin }
