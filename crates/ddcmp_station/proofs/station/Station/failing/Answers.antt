use Rattle.std.proofs.Common.{sym, ap, ◌∙◌, option_map}
use Rattle.ddcmp_msg.specs.Message.{view}
use Rattle.dna_station.specs.declared.state.State.{State}
use Rattle.dna_station.specs.declared.state.State.TheVariants.{Running}
use Rattle.dna_station.specs.Table.{checks}
use Rattle.dna_station.specs.Book.{failed}
use Rattle.dna_station.specs.WireBook.{wire_passes}
use Rattle.ddcmp_station.specs.Failed.{refusal_of_failed}
use Rattle.ddcmp_station.proofs.Failing.{by_list}
use Rattle.ddcmp_station.proofs.station.Station.failing.Goals as goal

pub returns-in-Running-clause-refuses : goal.returns-in-Running-clause-refuses
returns-in-Running-clause-refuses g c =
    let w = c.args.self.now in
    let m = view c.args.message.now in
    ap (option_map refusal_of_failed) c.failing_in_running.ensures
    ∙ by_list w m (checks Running m)
    ∙ ap (λ (s : State). failed (wire_passes w m) (checks s m))
    (sym c.in-Running.is ∙ c.state.ensures ∙ ap (λ w. w.variables.state) c.self.view_is)
