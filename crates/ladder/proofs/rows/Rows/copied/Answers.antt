use Rattle.std.proofs.Common.{sym, ap, ◌∙◌, List, [], ◌∷◌, ◌++◌}
use Rattle.ladder.specs.declared.row.Row.{Row}
use Rattle.ladder.proofs.Orders.{row_taken}
use Rattle.ladder.proofs.rows.Rows.copied.Goals as goal

pub loop-index-preserved : goal.loop-index-preserved
loop-index-preserved c = c.in_ok-push.ensures.items ∙ ap (λ (front : List Row). front ++ c.in-Some.row.now ∷ []) c.loop-index.invariant
    ∙ sym (row_taken c.self.inside.rows.items c.loop-index.index c.in-Some.row.now (sym c.in-Some.ensures))
