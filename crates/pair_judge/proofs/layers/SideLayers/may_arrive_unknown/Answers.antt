use Rattle.std.proofs.Common.{false, Some, refl, sym, ap, ◌∙◌}
use Rattle.std.proofs.lemmas.Result.{IfErr-weaker, on_ok_weaker}
use Rattle.std.specs.Option.{option_copied}
use Rattle.ddcmp_station.specs.Arrival.{arrival_view}
use Rattle.dna_node.specs.WireLayers.{of_no_link}
use Rattle.pair_judge.specs.inner.Tops.{rules_by}
use Rattle.pair_judge.proofs.Meets.{meets_ok, meets_refused}
use Rattle.pair_judge.proofs.layers.SideLayers.may_arrive_unknown.Goals as goal

pub returns-in-Some-clause-ok : goal.returns-in-Some-clause-ok
returns-in-Some-clause-ok g c =
    let allowed = rw c.is_kept-kept.ensures at c.in-Ok.ensures.allowed in
    let taken = rw c.is_kept-kept.ensures at (sym c.in-Ok.ensures.taken ∙ ap option_copied c.in-Some.is) in
    rw (← c.self.view_is)
    (on_ok_weaker c.may_keep_unknown.result (meets_ok (rules_by false false _)
    (record { station = c.self.inside.station; links = c.self.inside.links }) (Some of_no_link)
    c.args.fate (arrival_view c.args.arrival) c.in-Some.packet.now of_no_link (sym c.is_met.ensures ∙ c.if-not-is_met.false) allowed taken refl)
    (rw (← c.self.view_is) at c.may_keep_unknown.ensures.ok))

pub returns-in-Some-clause-refused : goal.returns-in-Some-clause-refused
returns-in-Some-clause-refused g c =
    let allowed = rw c.is_kept-kept.ensures at c.in-Ok.ensures.allowed in
    let taken = rw c.is_kept-kept.ensures at (sym c.in-Ok.ensures.taken ∙ ap option_copied c.in-Some.is) in
    rw (← c.self.view_is)
    (IfErr-weaker c.may_keep_unknown.result _ _ (λ refusal refuses. meets_refused (rules_by false false _)
    (record { station = c.self.inside.station; links = c.self.inside.links }) (Some of_no_link) c.args.fate (arrival_view c.args.arrival)
    c.in-Some.packet.now of_no_link (sym c.is_met.ensures ∙ c.if-not-is_met.false) allowed taken refl refusal refuses)
    (rw (← c.self.view_is) at c.may_keep_unknown.ensures.refused))
