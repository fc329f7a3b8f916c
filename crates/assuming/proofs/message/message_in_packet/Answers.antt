use Rattle.std.proofs.Common.{Ok, refl, sym, ap, subst, ◌∙◌}
use Rattle.dna_packet.specs.Packet.{IsReturned, view}
use Rattle.dna_packet.specs.declared.packet.Packet.{Packet}
use Rattle.assuming.specs.Messages.{if_read, message_of}
use Rattle.assuming.proofs.Returned.{never, none_in, some_in}
use Rattle.assuming.proofs.message.message_in_packet.Goals as goal

pub returns-then-returned : goal.returns-then-returned
returns-then-returned c = sym (ap message_of c.in-Ok.ensures.exact ∙ none_in (view c.in-Ok.read) (c.if-returned.ensures.0 refl))

pub returns-in-Ok-read_nsp : goal.returns-in-Ok-read_nsp
returns-in-Ok-read_nsp c =
    let d = c.in-Data in
    let there : IsReturned (view c.in-Ok.read) → ⊥ = λ back. never (c.if-returned.ensures.1 back) in
    sym (ap message_of (c.in-Ok.ensures.exact ∙ ap (λ (p : Packet). Ok (view p)) d.is) ∙ some_in d.rtflg d.dst d.src d.forward d.nsp.now
    (λ back. there (subst (λ (p : Packet). IsReturned (view p)) (sym d.is) back)) ∙ ap if_read c.in-Ok-read_nsp.ensures.exact)
