-- What is said of the verdict, or a fault, is told of the judge's own answer.
use Rattle.std.proofs.Common.{refl}
use Rattle.printing.specs.Printed.{moved}
use Rattle.tap_command.specs.PrintedTap.{streams}
use Rattle.pair_judge.specs.JudgedAs.{nodes_of}
use Rattle.printing.specs.Layers.{verdict_text_over}
use Rattle.tap_command.proofs.TapTelling.{tells_fault, tells_verdict, told_there}
use Rattle.tap_answer.specs.Telling.{telling}
use Rattle.tap_command.proofs.tap.tap_to.Goals as goal

pub returns-in_default-clause-checks : goal.returns-in_default-clause-checks
returns-in_default-clause-checks g c =
    let s = streams (moved g.A.Read.remaining c.args.a.now c.judge_over.new.a) (moved g.B.Read.remaining c.args.b.now c.judge_over.new.b)
    (moved g.O.Write.contents c.args.out.now c.print_told.new.out) (moved g.E.Write.contents c.args.err.now c.print_told.new.err) in
    let text = verdict_text_over c.args.layers in
    let verdict = c.in-Ok.verdict in
    let known = c.in-Ok.ensures in
    tells_verdict (nodes_of c.args.layers) text c.args.captured s verdict c.print_told.result known.judged (known.reads_a, known.reads_b)
    (told_there (text verdict) c.args.captured s (telling c.args.captured.is_apart c.args.captured.tapped.ending verdict)
    c.print_told.result
    (c.print_told.ensures (text verdict) c.verdict_text-text.ensures))

pub returns-in-Err-clause-checks : goal.returns-in-Err-clause-checks
returns-in-Err-clause-checks g c =
    let s = streams (moved g.A.Read.remaining c.args.a.now c.judge_over.new.a) (moved g.B.Read.remaining c.args.b.now c.judge_over.new.b)
    (moved g.O.Write.contents c.args.out.now c.args.out.now) (moved g.E.Write.contents c.args.err.now c.print_fault.new.err) in
    let known = c.in-Err.ensures in
    tells_fault (nodes_of c.args.layers) (verdict_text_over c.args.layers) c.args.captured s c.in-Err.fault c.print_fault.result known.judged
    (known.reads_a, known.reads_b) c.print_fault.ensures refl
