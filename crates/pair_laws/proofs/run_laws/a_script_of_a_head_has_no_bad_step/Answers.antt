use Rattle.std.proofs.Common.{Err, refl, arith}
use Rattle.dna_play.specs.Played.{not_begun}
use Rattle.pair_player.specs.declared.fault.PlayFault.TheVariants.{BadStep}
use Rattle.pair_player.specs.SoFar.{no_steps}
use Rattle.pair_laws.proofs.run_laws.a_script_of_a_head_has_no_bad_step.Goals as goal

pub returns : goal.returns
returns c = λ bytes node_a node_b line old new is_text plays.
    c.answered_as_true_ends.ensures.whole bytes (no_steps node_a node_b) (not_begun (no_steps node_a node_b)) old new (Err (BadStep line)) is_text
    (record { of_a = omega arith; of_b = omega arith }) refl plays
