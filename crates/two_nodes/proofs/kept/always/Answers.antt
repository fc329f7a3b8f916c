use Rattle.std.proofs.Common.{[]}
use Rattle.two_nodes.proofs.Lasting.{lasts}
use Rattle.two_nodes.proofs.kept.always.Goals as goal

pub returns : goal.returns
returns g c = record {
  from_start = λ start end xs ys kept here run. lasts g.K.KeptProperty.nodes g.K.KeptProperty.holds kept [] [] here run;
  onward = λ w end made_a made_b xs ys kept here run. lasts g.K.KeptProperty.nodes g.K.KeptProperty.holds kept made_a made_b here run;
}
