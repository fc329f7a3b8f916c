use Rattle.std.proofs.Common.{sym, ap, ◌∙◌, arith}
use Rattle.dna_links.specs.declared.port.Port.{Port}
use Rattle.dna_links.specs.LookUps.{takes_messages}
use Rattle.player_end.proofs.Change.{map_ok}
use Rattle.player_end.proofs.Steps.{hands_lines}
use Rattle.player_end.proofs.end.End.hand_in.Goals as goal

pub returns-clause-ok : goal.returns-clause-ok
returns-clause-ok g c =
    map_ok c.put.result (λ line. hands_lines c.self.inside.links c.self.view_is c.args.link c.args.message.now (omega arith)
    _ _ (sym c.in-Some.ensures.number) c.in-Some.ensures.link
    (ap (λ (p : Port). takes_messages p.phase) (sym c.port.ensures) ∙ sym c.takes_messages.ensures ∙ c.if-not-takes_messages.false)
    c.hand_in_at.new.self c.args.text.now.items _ (c.in-Ok.ensures _ c.in-Some.ensures.link) line) c.put.ensures.ok
