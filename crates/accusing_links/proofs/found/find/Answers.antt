use Rattle.accusing_links.proofs.Prelude.{Ok, refl, sym, ap, subst, ◌∙◌, IsReturned, Packet, content_of}
use Rattle.dna_packet.specs.Packet.{view}
use Rattle.accusing_links.proofs.Packets.{carries_message, carries_nothing, never}
use Rattle.accusing_links.proofs.found.find.Goals as goal

pub returns-then-returned : goal.returns-then-returned
returns-then-returned c = ap content_of c.in-Ok.ensures.exact ∙ carries_nothing (view c.in-Ok.read) (c.if-returned.ensures.0 refl)

pub returns-in-Data : goal.returns-in-Data
returns-in-Data c =
    let d = c.in-Data in
    let there : IsReturned (view c.in-Ok.read) → ⊥ = λ back. never (c.if-returned.ensures.1 back) in
    ap content_of (c.in-Ok.ensures.exact ∙ ap (λ (p : Packet). Ok (view p)) d.is) ∙ carries_message d.rtflg d.dst d.src d.forward d.nsp.now
    (λ back. there (subst (λ (p : Packet). IsReturned (view p)) (sym d.is) back))
