-- What is printed of a fault is told by `print_fault`; where there is no memory for the text of a verdict, the answer is `out of memory`.
use Rattle.std.proofs.Common.{refl}
use Rattle.pair_judge.specs.JudgedAs.{nodes_of}
use Rattle.printing.specs.Layers.{verdict_text_over}
use Rattle.printing.proofs.Answering.{checks_fault, checks_nothing}
use Rattle.printing.proofs.check.check_to.Goals as goal

pub returns-in-Err-verdict_text : goal.returns-in-Err-verdict_text
returns-in-Err-verdict_text g c = checks_nothing (nodes_of c.args.layers) (verdict_text_over c.args.layers) _ _ _ _ _ c.in-Ok.ensures.reads_a
    c.in-Ok.ensures.reads_b c.print_out_of_memory.ensures refl

pub returns-in-Err : goal.returns-in-Err
returns-in-Err g c = checks_fault (nodes_of c.args.layers) (verdict_text_over c.args.layers) _ _ _ _ _ c.in-Err.fault c.in-Err.ensures.judged
    c.in-Err.ensures.reads_a c.in-Err.ensures.reads_b c.print_fault.ensures refl
