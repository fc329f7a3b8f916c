use Rattle.two_nodes.proofs.Breaking.{past_and_offender, offender_no_run, offends_behind_past}
use Rattle.two_nodes.specs.Nodes.{exchanged, exchanged_world}
use Rattle.two_nodes.proofs.Closed.{exchange_run}
use Rattle.two_nodes.proofs.Before.{past_is_before}
use Rattle.two_nodes.proofs.blaming.offender.Goals as goal

pub returns : goal.returns
returns g c = record {
  no_run = λ start xs ys n reason o. offender_no_run g.N.TwoNodes.nodes start xs ys n reason o;
  no_run_of_b = λ start xs ys n reason o run. offender_no_run (exchanged g.N.TwoNodes.nodes) (exchanged_world start) ys xs n reason o
      (exchange_run g.N.TwoNodes.nodes start xs ys run);
  breaks_its_past = λ start xs ys n reason o. past_and_offender g.N.TwoNodes.nodes start xs ys n reason o;
  is_blamed = λ first_a first_b xs ys n i j r past run place none. offends_behind_past g.N.TwoNodes.nodes g.N.TwoNodes.tells first_a first_b xs ys n i
      j r past run place none;
  past_is_before = λ first_a first_b xs ys n i j past run. past_is_before g.N.TwoNodes.nodes g.N.TwoNodes.tells first_a first_b xs ys n i j past run;
}
