use Rattle.std.proofs.Common.{ap, ◌∙◌, List}
use Rattle.dna_packet.specs.declared.ack_word.AckWord.{AckWord}
use Rattle.dna_packet.specs.Nsp.{segment_view}
use Rattle.dna_play.specs.LinkOwed.{DataAckDuty}
use Rattle.dna_play.specs.StoredLinks.{owes, took_acks}
use Rattle.player_end.proofs.Acting.{segment_and_acks}
use Rattle.player_end.proofs.link_end.LinkEnd.take_segment.Goals as goal

pub returns-clause-ok : goal.returns-clause-ok
returns-clause-ok g c =
    let s = segment_view c.args.segment.now in
    let acks = c.take_acks.ensures ∙ ap (λ (words : List AckWord). took_acks words c.hold.new.self) c.as_slice.ensures.value in
    c.owe.ensures ∙ ap (owes DataAckDuty) (acks ∙ ap (took_acks s.acks) c.in_ok-hold.ensures.ok) ∙ segment_and_acks s c.args.self.now
