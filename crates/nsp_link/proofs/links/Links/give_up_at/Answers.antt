use Rattle.std.proofs.Common.{true, sym, ap, ◌∙◌}
use Rattle.dna_links.specs.Links.{LinkOf, changed}
use Rattle.dna_links.specs.LookUps.{is_in}
use Rattle.dna_links.specs.WireSegments.{WireSegments}
use Rattle.dna_links.specs.declared.port.Phase.TheVariants.{Ended}
use Rattle.dna_links.specs.declared.port.Port.{Port}
use Rattle.nsp_link.specs.Kinds.{queues_of}
use Rattle.nsp_link.proofs.Booted.{calls_with, given_up, given_up_with, still_lives}
use Rattle.nsp_link.proofs.Change.{in_place, same_link}
use Rattle.nsp_link.proofs.links.Links.give_up_at.Goals as goal

pub give_up_ended-requires-clause-calls : goal.give_up_ended-requires-clause-calls
give_up_ended-requires-clause-calls g c = λ link there.
    let at = in_place c.self.view_is c.requires.within c.index.ensures in
    calls_with (queues_of g.row.QUEUES) link (ap (λ (l : LinkOf WireSegments). is_in Ended l.port.phase) (sym (same_link at link there))
    ∙ ap (λ (p : Port). is_in Ended p.phase) (sym c.port-port.ensures.port) ∙ sym c.is_phase.ensures ∙ c.if-is_phase.true)
    (c.requires.calls link there)

pub give_up_ended-requires-clause-over : goal.give_up_ended-requires-clause-over
give_up_ended-requires-clause-over g c = λ link there.
    let at = in_place c.self.view_is c.requires.within c.index.ensures in (
      ap (λ (l : LinkOf WireSegments). is_in Ended l.port.phase) (sym (same_link at link there))
          ∙ ap (λ (p : Port). is_in Ended p.phase) (sym c.port-port.ensures.port) ∙ sym c.is_phase.ensures ∙ c.if-is_phase.true,
      ap (λ (l : LinkOf WireSegments). l.port.opened) (sym (same_link at link there))
          ∙ ap (λ (p : Port). p.opened) (sym c.port-port.ensures.port) ∙ c.if-port.true,
    )

pub returns-then-port : goal.returns-then-port
returns-then-port g c = λ link there.
    let at = in_place c.self.view_is c.requires.within c.index.ensures in
    let over = ap (λ (l : LinkOf WireSegments). is_in Ended l.port.phase) (sym (same_link at link there))
    ∙ ap (λ (p : Port). is_in Ended p.phase) (sym c.port-port.ensures.port) ∙ sym c.is_phase.ensures ∙ c.if-is_phase.true in
    c.give_up_ended.ensures link there
    ∙ ap (λ (l : LinkOf WireSegments). changed c.args.number l c.args.self.now)
    (given_up_with (queues_of g.row.QUEUES) link over (c.requires.calls link there))

pub returns-then-is_phase : goal.returns-then-is_phase
returns-then-is_phase g c = λ link there.
    let at = in_place c.self.view_is c.requires.within c.index.ensures in
    let over = ap (λ (l : LinkOf WireSegments). is_in Ended l.port.phase) (sym (same_link at link there))
    ∙ ap (λ (p : Port). is_in Ended p.phase) (sym c.port-port.ensures.port) ∙ sym c.is_phase.ensures ∙ c.if-is_phase.true in
    let came = ap (λ (l : LinkOf WireSegments). l.port.opened) (sym (same_link at link there))
    ∙ ap (λ (p : Port). p.opened) (sym c.port-port.ensures.port) ∙ c.if-port.false in
    c.settle_at.ensures link there
    ∙ ap (λ (l : LinkOf WireSegments). changed c.args.number l c.args.self.now)
    (given_up (queues_of g.row.QUEUES) link over came (c.requires.calls link there))

pub drop_at-requires-clause-live : goal.drop_at-requires-clause-live
drop_at-requires-clause-live g c = λ link there.
    let at = in_place c.self.view_is c.requires.within c.index.ensures in
    still_lives link.port.phase (ap (λ (l : LinkOf WireSegments). is_in Ended l.port.phase) (sym (same_link at link there))
    ∙ ap (λ (p : Port). is_in Ended p.phase) (sym c.port-port.ensures.port) ∙ sym c.is_phase.ensures ∙ c.if-is_phase.false)
