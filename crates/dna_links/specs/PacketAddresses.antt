-- Between which nodes the packet of a message goes (Routing 2.0, short data packet: SRCNODE and DSTNODE). It is asked once the message
-- can be read (else 17), and of a packet that comes only where it is kept.
use Rattle.std.specs.Prelude.{ℕ, ◌&&◌, ◌==◌, Result}
use Rattle.dna_station.specs.declared.link_refusal.LinkRefusal.{LinkRefusal}
use Rattle.dna_station.specs.declared.link_refusal.LinkRefusal.TheVariants.{WrongNode}
use Rattle.dna_links.specs.Links.{Carried, check}

-- from the one node to the other, else 16
abbrev pub goes : {R : Type 0} → Carried → (src dst : ℕ) → Result R LinkRefusal → Result R LinkRefusal
goes packet src dst next = check (packet.src == src && packet.dst == dst) WrongNode next
