use Rattle.std.proofs.Common.{List}
use Rattle.std.specs.List.{AllByRecursion}
use Rattle.capture_record.specs.declared.record.Record.{Record}
use Rattle.assuming.specs.Assuming.{FitsIn}
use Rattle.assuming.specs.inner.Spots.{AreOf}
use Rattle.assuming.proofs.sifted.sift.Given as goal

abbrev pub invariant-loop-proposal : goal.invariant-loop-proposal
invariant-loop-proposal l = (of_a of_b : List Record) → AreOf of_a l.a → AreOf of_b l.b → AllByRecursion (FitsIn of_a of_b) l.kept
