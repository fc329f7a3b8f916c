use Rattle.std.proofs.Common.{arith}
use Rattle.dna_play.specs.Script.{Open}
use Rattle.pair_laws.proofs.StepTests.{made_of_b}
use Rattle.pair_laws.proofs.step_laws.a_link_can_be_opened_while_an_address_is_left.Goals as goal

pub returns : goal.returns
returns c = λ script step so_far fits e once of_b is left. made_of_b so_far step Open of_b is tt (λ full. let used = full.used in omega arith)
    (c.steps_go_by_their_rules.ensures.next script step so_far fits e once)
