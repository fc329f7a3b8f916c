use Rattle.std.proofs.Common.{◌≡◌, ◌+◌, ◌-◌, Some, None, sym, ap, ◌∙◌, arith}
use Rattle.std.proofs.lemmas.Grind.{common_steps}
use Rattle.std.specs.List.{slice_get}
use Rattle.std.specs.Option.{option_map}
use Rattle.std.proofs.lemmas.Option.{gets}
use Rattle.pair_judge.specs.inner.Runs.{tag_of}
use Rattle.pair_judge.specs.inner.Held.{sent_as}
use Rattle.pair_judge.proofs.Runs.{slice_get-units_from}
use Rattle.pair_judge.proofs.line.Line.unit.Goals as goal

pub returns-in-Some : goal.returns-in-Some
returns-in-Some c =
    let line = c.args.self.now in
    let place = c.args.number - line.gone in
    let there : slice_get line.units.items place ≡ Some c.in-Some.unit.now = grind (arith, common_steps, gets) in
    let e : line.gone + place ≡ c.args.number = omega arith in
    let tag = tag_of line.tags in
    ap Some (c.new.ensures ∙ ap (sent_as c.in-Some.unit.now) c.of.ensures)
    ∙ sym (
    slice_get-units_from tag line.gone line.units.items place
    ∙ ap (λ k. option_map (λ x. sent_as x (tag k)) (slice_get line.units.items place)) e
    ∙ ap (option_map (λ x. sent_as x (tag c.args.number))) there
    )

pub returns-in-None : goal.returns-in-None
returns-in-None c =
    let line = c.args.self.now in
    let place = c.args.number - line.gone in
    let there : slice_get line.units.items place ≡ None = grind (arith, common_steps, gets) in
    let tag = tag_of line.tags in
    sym (slice_get-units_from tag line.gone line.units.items place ∙ ap (option_map (λ x. sent_as x (tag (line.gone + place)))) there)
