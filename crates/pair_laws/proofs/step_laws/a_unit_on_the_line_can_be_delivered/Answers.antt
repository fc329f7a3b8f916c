use Rattle.dna_play.specs.Script.{Deliver}
use Rattle.pair_laws.proofs.StepTests.{made_of_b}
use Rattle.pair_laws.proofs.step_laws.a_unit_on_the_line_can_be_delivered.Goals as goal

pub returns : goal.returns
returns c = λ script step so_far fits e once of_b is asks. made_of_b so_far step Deliver of_b is asks (λ full. let g = full.gives in cc)
    (c.steps_go_by_their_rules.ensures.next script step so_far fits e once)
