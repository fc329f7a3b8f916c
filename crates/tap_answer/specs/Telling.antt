-- What is said of captures that a tap wrote, by how they end, by the verdict on them, and by whether each
-- side is explained by itself (`apart`).
use Rattle.std.specs.Prelude.{Bool, if◌then◌else◌}
use Rattle.pair_judge.specs.declared.verdict.Verdict.{Verdict}
use Rattle.pair_judge.specs.declared.verdict.Verdict.TheVariants.{Accepted, Refused}
use Rattle.pair_judge.specs.declared.reason.Reason.{Reason}
use Rattle.wire_tap.specs.declared.tapped.Ending.{Ending}
use Rattle.wire_tap.specs.declared.tapped.Ending.TheVariants as ends
use Rattle.wire_tap.specs.declared.tapped.Passed.{Passed}
use Rattle.tap_answer.specs.declared.told.Told.{Told}
use Rattle.tap_answer.specs.declared.told.Told.TheVariants as says

module _ (apart : Bool) where
  -- they are refused, though each side is explained by itself; or one is not
  abbrev pub refused : Passed → Reason → Told
  refused passed reason = if apart then says.Apart passed reason else says.Unexplained passed reason

  -- They end with this unit. Where they are accepted all the same, the way that was found does not go on from it.
  abbrev pub unexplained : Passed → Verdict → Told
  unexplained passed (Accepted summary) = says.TooWide passed
  unexplained passed (Refused side place reason) = refused passed reason

  abbrev pub telling : Ending → Verdict → Told
  telling ends.Whole (Accepted summary) = says.Accepted
  telling ends.Whole (Refused side place reason) = says.UnexplainedEnd reason
  telling (ends.Unplaced passed) verdict = unexplained passed verdict
  telling (ends.TooWide passed) verdict = says.TooWide passed
  telling (ends.Asked passed) verdict = unexplained passed verdict
