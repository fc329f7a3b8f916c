use Rattle.std.proofs.Common.{Bool, List, Result, cond, sym, ap, ◌∙◌}
use Rattle.dna_packet.specs.declared.ack_word.AckWord.{AckWord}
use Rattle.dna_packet.specs.Nsp.{segment_view}
use Rattle.dna_links.specs.Segmentation.{piece_of}
use Rattle.dna_links.specs.WireSegments.{LateSent, WireSegments, last_of}
use Rattle.nsp_link.specs.FailedSending.{asked_again, asked_late, asked_new, then_asked}
use Rattle.nsp_link.specs.declared.failed.FailedLinkSending.{FailedLinkSending}
use Rattle.nsp_link.specs.declared.permit.LinkSendPermit.TheVariants.{Gives}
use Rattle.nsp_link.proofs.segments.Segments.ask_late.Goals as goal

pub returns-in-Ok : goal.returns-in-Ok
returns-in-Ok g c =
    let s = segment_view c.args.segment.now in
    let f = c.self.inside in
    let k = c.args.self.now in
    c.ask_new.ensures
    ∙ ap (λ (r : Result LateSent FailedLinkSending). then_asked r (λ late. asked_new c.args.segsize (piece_of s) k (Gives c.args.link late)))
    (sym c.in-Ok.is ∙ c.ask_late.ensures
    ∙ ap (λ (w : List AckWord). asked_late f.received w (record { sent = f.last; gap = c.args.gap })) c.deref.ensures.0
    ∙ ap (λ (t : WireSegments). asked_late t.variables.received s.acks (record { sent = last_of t; gap = c.args.gap })) c.self.view_is)
    ∙ ap (λ (b : Bool). cond b (then_asked (asked_late k.variables.received s.acks (record { sent = last_of k; gap = c.args.gap })) (λ late.
    asked_new c.args.segsize (piece_of s) k (Gives c.args.link late))) (asked_again c.args.link s k))
    (sym (sym c.is_new.ensures ∙ c.if-not-is_new.false))
