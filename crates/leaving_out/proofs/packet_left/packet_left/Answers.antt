use Rattle.std.proofs.Common.{◌≡◌, List, ℕ, Ok, refl, sym, ap, subst, ◌∙◌, IfOk}
use Rattle.dna_packet.specs.Packet.{IsReturned, view}
use Rattle.dna_packet.specs.declared.packet.Packet.{Packet}
use Rattle.leaving_out.specs.Packets.{or_same, packet_left_by}
use Rattle.leaving_out.proofs.Returned.{goes_by, never, stays}
use Rattle.leaving_out.proofs.packet_left.packet_left.Goals as goal

pub returns-then-returned : goal.returns-then-returned
returns-then-returned c =
    let packet = c.args.packet.now in
    sym (ap (packet_left_by c.args.leaving.now c.args.sender packet) c.in-Ok.ensures.exact
    ∙ stays c.args.leaving.now c.args.sender packet (view c.in-Ok.read) (c.if-returned.ensures.0 refl))

pub returns-in-Data : goal.returns-in-Data
returns-in-Data c =
    let d = c.in-Data in
    let packet = c.args.packet.now in
    let there : IsReturned (view c.in-Ok.read) → ⊥ = λ back. never (c.if-returned.ensures.1 back) in
    let by = ap (packet_left_by c.args.leaving.now c.args.sender packet) (c.in-Ok.ensures.exact ∙ ap (λ (p : Packet). Ok (view p)) d.is)
    ∙ goes_by c.args.leaving.now c.args.sender packet d.rtflg d.dst d.src d.forward d.nsp.now
    (λ back. there (subst (λ (p : Packet). IsReturned (view p)) (sym d.is) back)) in
    subst (λ (x : List ℕ). IfOk c.message_left.result (λ left. or_same packet left ≡ x)) (sym by) c.message_left.ensures
