use Rattle.std.proofs.Common.{◌≡◌, List, ℕ, Ok, refl, sym, ap, subst, ◌∙◌, IfOk}
use Rattle.dna_packet.specs.Packet.{IsReturned, view}
use Rattle.dna_packet.specs.declared.packet.Packet.{Packet}
use Rattle.leaving_out.specs.Packets.{or_same}
use Rattle.leaving_out.specs.Fitted.{packet_fitted_by}
use Rattle.leaving_out.proofs.FittedKept.{goes_by, stays}
use Rattle.leaving_out.proofs.Returned.{never}
use Rattle.leaving_out.proofs.fitting.packet_fitted.Goals as goal

pub returns-then-returned : goal.returns-then-returned
returns-then-returned c =
    let packet = c.args.packet.now in
    sym (ap (packet_fitted_by c.args.leaving.now c.args.kept c.args.sender packet) c.in-Ok.ensures.exact
    ∙ stays c.args.leaving.now c.args.kept c.args.sender packet (view c.in-Ok.read) (c.if-returned.ensures.0 refl))

pub returns-in-Data : goal.returns-in-Data
returns-in-Data c =
    let d = c.in-Data in
    let packet = c.args.packet.now in
    let there : IsReturned (view c.in-Ok.read) → ⊥ = λ back. never (c.if-returned.ensures.1 back) in
    let by = ap (packet_fitted_by c.args.leaving.now c.args.kept c.args.sender packet) (c.in-Ok.ensures.exact ∙ ap (λ (p : Packet). Ok (view p)) d.is)
    ∙ goes_by c.args.leaving.now c.args.kept c.args.sender packet d.rtflg d.dst d.src d.forward d.nsp.now
    (λ back. there (subst (λ (p : Packet). IsReturned (view p)) (sym d.is) back)) in
    subst (λ (x : List ℕ). IfOk c.message_fitted.result (λ made. or_same packet made ≡ x)) (sym by) c.message_fitted.ensures
