-- The text of a verdict, by which layers are judged.
use Rattle.std.specs.Prelude.{ℕ, List}
use Rattle.pair_judge.specs.declared.judged_as.Layers.{Layers}
use Rattle.pair_judge.specs.declared.verdict.Verdict.{Verdict}
use Rattle.printing.specs.Printed.{verdict_text_by}
use Rattle.printing.specs.PrintedAlone.{counts_line}

abbrev pub verdict_text_over : Layers → Verdict → List ℕ
verdict_text_over layers = verdict_text_by (counts_line layers)
