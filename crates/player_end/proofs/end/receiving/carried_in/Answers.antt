use Rattle.std.proofs.Common.{Result, Ok, sym, ap, ◌∙◌}
use Rattle.dna_packet.specs.declared.fault.PacketFault.{PacketFault}
use Rattle.dna_packet.specs.declared.packet.Packet.{Packet}
use Rattle.dna_packet.specs.Packet.{PacketValue, view}
use Rattle.dna_node.specs.Content.{content_of}
use Rattle.dna_play.specs.Receipt.{carried_in}
use Rattle.player_end.proofs.end.receiving.carried_in.Goals as goal

pub returns-in-Data-clause-message : goal.returns-in-Data-clause-message
returns-in-Data-clause-message c =
    let d = c.in-Data in
    c.carried_on.ensures.message d.dst d.src d.forward
    ∙ sym (ap (λ (r : Result PacketValue PacketFault). carried_in (content_of r)) (c.in-Ok.ensures.exact ∙ ap (λ (p : Packet). Ok (view p)) d.is))
