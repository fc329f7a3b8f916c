use Rattle.std.proofs.Common.{ℕ, List, ◌∷◌, ap, subst, sym, ◌∙◌}
use Rattle.std.proofs.lemmas.Result.{on_ok_weaker}
use Rattle.placing.specs.Placed.{IsInTime}
use Rattle.placing.proofs.Puts.{puts_came}
use Rattle.placing.proofs.waiting.Waiting.put_came.Goals as goal

pub returns-in-Some : goal.returns-in-Some
returns-in-Some c =
    let first = c.in-Some.ensures.taken ∙ ap (λ (bytes : List ℕ). bytes ∷ c.take_other.new.self.units.other) (sym c.as_slice.ensures.bytes) in
    on_ok_weaker c.line.result
    (puts_came c.args.self.now c.take_other.new.self c.line.new.self c.next_hint-hint.result c.args.fate c.as_slice.result.now
    c.next_hint-hint.ensures (subst (λ (n : ℕ). IsInTime n c.args.self.now.units.seen) (sym c.next_hint-hint.ensures) c.requires)
    c.take_other.ensures.own c.take_other.ensures.seen first c.in-Some.ensures.counted c.take_other.ensures.text c.line.ensures.units)
    c.line.ensures.text
