use Rattle.std.proofs.Common.{◌+◌, ◌%◌, sym, ap₂, ◌∙◌}
use Rattle.wire_base.proofs.WireNumbers.{wire_value-next}
use Rattle.wire_base.proofs.seq.Seq.next.Goals as goal

pub returns-clause-numbers : goal.returns-clause-numbers
returns-clause-numbers g c =
    λ number same. wire_value-next g.row.M number
    ∙ ap₂ (λ x y. (x + 1) % y) (same ∙ sym c.self.view_is ∙ sym c.from-next.ensures) (sym c.from.ensures)
