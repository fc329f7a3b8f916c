use Rattle.std.proofs.Common.{sym, ap, ◌∙◌}
use Rattle.dna_links.specs.declared.port.Port.{Port}
use Rattle.dna_links.specs.LookUps.{is_connected}
use Rattle.player_end.proofs.Steps.{closes_lines}
use Rattle.player_end.proofs.end.End.close.Goals as goal

pub returns-clause-ok : goal.returns-clause-ok
returns-clause-ok g c =
    closes_lines c.self.inside.links c.self.view_is c.args.link _ _ (sym c.in-Some.ensures.number) c.in-Some.ensures.link
    (ap (λ (p : Port). is_connected p.phase) (sym c.port.ensures) ∙ sym c.is_connected.ensures ∙ c.if-not-is_connected.false)
    c.close_at.new.self c.args.text.now.items _ (c.close_at.ensures _ c.in-Some.ensures.link) c.in_ok-put.ensures.ok
