use Rattle.std.proofs.Common.{Bool, List, Result, false, cond, sym, ap, ◌∙◌}
use Rattle.dna_packet.specs.declared.ack_word.AckWord.{AckWord}
use Rattle.dna_packet.specs.Nsp.{segment_view}
use Rattle.dna_links.specs.Segmentation.{piece_of}
use Rattle.dna_links.specs.WireSegments.{LastSent, WireSegments, last_of}
use Rattle.nsp_link.specs.FailedSending.{asked_again, asked_new, asked_words, then_asked}
use Rattle.nsp_link.specs.declared.failed.FailedLinkSending.{FailedLinkSending}
use Rattle.nsp_link.specs.declared.permit.LinkSendPermit.TheVariants.{Gives}
use Rattle.nsp_link.proofs.segments.Segments.ask_segment.Goals as goal

pub returns-in-Ok : goal.returns-in-Ok
returns-in-Ok g c =
    let s = segment_view c.args.segment.now in
    let f = c.self.inside in
    let k = c.args.self.now in
    c.ask_new.ensures
    ∙ ap (λ (r : Result LastSent FailedLinkSending). then_asked r (λ sent. asked_new c.args.segsize (piece_of s) k
    (Gives c.args.link (record { sent = sent; gap = 0 }))))
    (sym c.in-Ok.is ∙ c.ask_words.ensures
    ∙ ap (λ (w : List AckWord). asked_words false f.received w f.last) c.deref.ensures.0
    ∙ ap (λ (t : WireSegments). asked_words false t.variables.received s.acks (last_of t)) c.self.view_is)
    ∙ ap (λ (b : Bool). cond b (then_asked (asked_words false k.variables.received s.acks (last_of k)) (λ sent.
    asked_new c.args.segsize (piece_of s) k (Gives c.args.link (record { sent = sent; gap = 0 })))) (asked_again c.args.link s k))
    (sym (sym c.is_new.ensures ∙ c.if-not-is_new.false))
