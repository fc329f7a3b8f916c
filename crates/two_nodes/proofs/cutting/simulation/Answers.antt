use Rattle.std.proofs.Common.{refl}
use Rattle.two_nodes.proofs.Simulated.{seen_run, comes_of}
use Rattle.two_nodes.proofs.cutting.simulation.Goals as goal

pub returns : goal.returns
returns g c =
    let n = g.N.SeenNodes in
    record {
      seen = λ w end made_a made_b xs ys kept commutes here run. seen_run n.nodes n.others n.cut n.holds kept commutes made_a made_b here run;
      comes_of = λ w seen made_a made_b xs ys kept commutes here run. comes_of n.nodes n.others n.cut n.holds kept commutes w made_a made_b here refl
          run;
    }
