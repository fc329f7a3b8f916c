use Rattle.std.proofs.Common.{sym}
use Rattle.capture_record.specs.declared.event.Event.TheVariants as events
use Rattle.dna_links.specs.declared.port.Phase.TheVariants.{Confirming}
use Rattle.dna_play.specs.LinkOwed.{ConfirmDuty}
use Rattle.dna_play.specs.StoredLinks.{answered}
use Rattle.player_end.proofs.Steps.{answers_lines}
use Rattle.player_end.proofs.end.End.accept.Goals as goal

pub returns-clause-ok : goal.returns-clause-ok
returns-clause-ok g c =
    answers_lines c.self.inside.links c.self.view_is c.args.partner (answered Confirming ConfirmDuty) (events.Accept c.args.partner)
    c.in-Some-next_address.ensures.next c.in-Some-next_address.ensures.room _ _ (sym c.in-Some.ensures.number) c.in-Some.ensures.link tt
    c.answer_at.new.self c.args.text.now.items _ (c.in-Ok.ensures _ c.in-Some.ensures.link) c.in_ok-put.ensures.ok
