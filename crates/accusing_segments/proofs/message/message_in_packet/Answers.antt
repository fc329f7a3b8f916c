use Rattle.accusing_segments.proofs.Prelude.{Result, Ok, refl, sym, ap, subst, ◌∙◌, NspFault, Packet, NspValue, IsReturned, content_of}
use Rattle.accusing_segments.proofs.Prelude.{carries_message, carries_nothing, never, message_of}
use Rattle.dna_packet.specs.Packet.{view}
use Rattle.dna_node.specs.Content.{message_in}
use Rattle.accusing_segments.proofs.message.message_in_packet.Goals as goal

pub returns-then-returned : goal.returns-then-returned
returns-then-returned c =
    sym (ap message_of (ap content_of c.in-Ok.ensures.exact ∙ carries_nothing (view c.in-Ok.read) (c.if-returned.ensures.0 refl)))

pub returns-in-Ok-read_nsp : goal.returns-in-Ok-read_nsp
returns-in-Ok-read_nsp c =
    let d = c.in-Data in
    let there : IsReturned (view c.in-Ok.read) → ⊥ = λ back. never (c.if-returned.ensures.1 back) in
    sym (ap message_of (ap content_of (c.in-Ok.ensures.exact ∙ ap (λ (p : Packet). Ok (view p)) d.is)
    ∙ carries_message d.rtflg d.dst d.src d.forward d.nsp.now
    (λ back. there (subst (λ (p : Packet). IsReturned (view p)) (sym d.is) back)))
    ∙ ap (λ (r : Result NspValue NspFault). message_of (message_in d.dst d.src r)) c.in-Ok-read_nsp.ensures.exact)
