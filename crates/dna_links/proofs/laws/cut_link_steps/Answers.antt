use Rattle.std.proofs.Common.{refl}
use Rattle.dna_links.proofs.Cut.Arriving.{arrived_same}
use Rattle.dna_links.proofs.Cut.Sending.{sent_same}
use Rattle.dna_links.proofs.Cut.User.{user_same}
use Rattle.dna_links.proofs.laws.cut_link_steps.Goals as goal

pub returns : goal.returns
returns c = record {
  start = λ node peer. refl;
  user = λ s event. user_same s event;
  sent = λ s packet ordered. sent_same s ordered packet;
  arrived = λ rule s packet truth ordered near. arrived_same rule s ordered truth packet near;
}
