use Rattle.std.proofs.Common.{List, Result, true, sym, ap, ◌∙◌}
use Rattle.dna_packet.specs.declared.ack_word.AckWord.{AckWord}
use Rattle.dna_packet.specs.Nsp.{segment_view}
use Rattle.dna_links.specs.SegmentBook.{distance}
use Rattle.dna_links.specs.WireSegments.{LastSent, WireSegments, highest_given, last_of}
use Rattle.nsp_link.specs.FailedSending.{asked_below, asked_words, then_asked}
use Rattle.nsp_link.specs.declared.failed.FailedLinkSending.{FailedLinkSending}
use Rattle.nsp_link.specs.declared.permit.LinkSendPermit.TheVariants.{GoesOn}
use Rattle.nsp_link.proofs.segments.Segments.ask_again.Goals as goal

pub returns-in-Ok : goal.returns-in-Ok
returns-in-Ok g c =
    let s = segment_view c.args.segment.now in
    let f = c.self.inside in
    c.ask_below.ensures
    ∙ ap (λ (r : Result LastSent FailedLinkSending). then_asked r (λ sent. asked_below
    (distance s.number (highest_given c.args.self.now.variables)) s c.args.self.now (GoesOn c.args.link sent)))
    (sym c.in-Ok.is ∙ c.ask_words.ensures
    ∙ ap (λ (w : List AckWord). asked_words true f.received w f.last) c.deref.ensures.0
    ∙ ap (λ (t : WireSegments). asked_words true t.variables.received s.acks (last_of t)) c.self.view_is)
