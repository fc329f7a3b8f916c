use Rattle.std.proofs.Common.{◌≡◌, ◌≤◌, List, ℕ, Option, false}
use Rattle.wire_base.specs.Tally.{tally_faults, tally_lent}
use Rattle.capture.specs.declared.phase.Phase.TheVariants.{Reading}
use Rattle.capture.specs.Lines.{to_come}
use Rattle.dna_play.specs.ScriptText.{MAX_STEPS}
use Rattle.pair_player.specs.inner.Beginning.{IsBegun}
use Rattle.pair_player.specs.Playing.{held}
use Rattle.pair_player.specs.inner.Making.{standing}
use Rattle.pair_player.proofs.PlayLaws.{IsUnderWay, place}
use Rattle.pair_player.proofs.playing.play_steps.Given as goal

abbrev pub invariant-loop-steps : goal.invariant-loop-steps
invariant-loop-steps g l =
    ((text : Option (List ℕ)) → IsBegun text (g.R.Read.remaining (tally_lent l.fn.script)) l.fn.begun.lines
    (standing l.fn.begun.ends l.fn.begun.texts.a.items l.fn.begun.texts.b.items l.fn.begun.texts.three l.fn.begun.texts.is_begun)
    → IsUnderWay text (held (g.A.Write.contents (tally_lent l.fn.a)) (g.B.Write.contents (tally_lent l.fn.b)))
    (place l.begun.lines (to_come l.begun.lines.unread (g.R.Read.remaining (tally_lent l.script)))
    (standing l.begun.ends l.begun.texts.a.items l.begun.texts.b.items l.begun.texts.three l.begun.texts.is_begun)
    (held (g.A.Write.contents (tally_lent l.a)) (g.B.Write.contents (tally_lent l.b))) l.steps))
    × (l.begun.lines.phase ≡ Reading)
    × (l.begun.lines.items ≡ l.steps)
    × (l.steps ≤ MAX_STEPS)
    × (tally_faults l.script ≡ tally_faults l.fn.script)
    × (tally_faults l.a ≡ tally_faults l.fn.a)
    × (tally_faults l.b ≡ tally_faults l.fn.b)
    × (l.begun.texts.streams ≡ l.fn.begun.texts.streams)
    × (l.fn.begun.texts.streams ≡ false → l.begun.texts.three ≡ false → l.begun.texts.is_begun ≡ l.fn.begun.texts.is_begun)
