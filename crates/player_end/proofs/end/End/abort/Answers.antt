use Rattle.std.proofs.Common.{sym, ap, ◌∙◌}
use Rattle.dna_links.specs.declared.port.Port.{Port}
use Rattle.dna_links.specs.LookUps.{is_calling}
use Rattle.player_end.proofs.Steps.{aborts_lines}
use Rattle.player_end.proofs.end.End.abort.Goals as goal

pub returns-clause-ok : goal.returns-clause-ok
returns-clause-ok g c =
    aborts_lines c.self.inside.links c.self.view_is c.args.link _ _ (sym c.in-Some.ensures.number) c.in-Some.ensures.link
    (ap (λ (p : Port). is_calling p.phase) (sym c.port.ensures) ∙ sym c.is_calling.ensures ∙ c.if-not-is_calling.false)
    c.end_at.new.self c.args.text.now.items _ c.end_at.ensures c.in_ok-put.ensures.ok
