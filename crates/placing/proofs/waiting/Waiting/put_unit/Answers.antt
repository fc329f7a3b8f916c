use Rattle.std.proofs.Common.{ℕ, List, ◌∷◌, ap, sym, ◌∙◌}
use Rattle.std.proofs.lemmas.Result.{on_ok_weaker}
use Rattle.placing.proofs.Puts.{puts_sent}
use Rattle.placing.proofs.waiting.Waiting.put_unit.Goals as goal

pub returns-in-Some-clause-puts : goal.returns-in-Some-clause-puts
returns-in-Some-clause-puts c =
    let first = c.in-Some.ensures.taken ∙ ap (λ (bytes : List ℕ). bytes ∷ c.take_own.new.self.units.own) (sym c.as_slice.ensures.bytes) in
    on_ok_weaker c.line.result
    (puts_sent c.args.self.now c.take_own.new.self c.line.new.self c.as_slice.result.now first c.in-Some.ensures.seen c.take_own.ensures.other
    c.take_own.ensures.gone
    c.take_own.ensures.text c.line.ensures.units) c.line.ensures.text
