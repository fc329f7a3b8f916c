use Rattle.std.proofs.Common.{[], ◌∷◌, arith}
use Rattle.wire_base.specs.declared.side.Side.TheVariants.{A, B}
use Rattle.dna_play.specs.Script.{Start}
use Rattle.pair_player.specs.SoFar.{no_steps, with_step}
use Rattle.pair_laws.proofs.run_laws.two_starts_are_written_as_a_run.Goals as goal

pub returns : goal.returns
returns c = λ bytes node_a node_b r is_text h.
    c.written_captures_are_a_run.ensures _ r h
    (c.starts_once_throughout.ensures bytes _ is_text (record { of_a = omega arith; of_b = omega arith }) r h)
