-- What is printed of a fault is told by `print_end_fault`; where there is no memory for the text of a verdict, the answer is `out of memory`.
use Rattle.std.proofs.Common.{refl}
use Rattle.pair_judge.specs.JudgedAs.{end_of}
use Rattle.printing.specs.PrintedAlone.{end_text_over}
use Rattle.printing.proofs.AnsweringAlone.{checks_fault, checks_nothing}
use Rattle.printing.proofs.alone.alone_to.Goals as goal

pub returns-in-Err-end_text : goal.returns-in-Err-end_text
returns-in-Err-end_text g c =
    checks_nothing (end_of c.args.layers) (end_text_over c.args.layers) _ _ _ _ c.in-Ok.ensures.reads c.print_out_of_memory.ensures refl

pub returns-in-Err : goal.returns-in-Err
returns-in-Err g c = checks_fault (end_of c.args.layers) (end_text_over c.args.layers) _ _ _ _ c.in-Err.fault c.in-Err.ensures.judged
    c.in-Err.ensures.reads c.print_end_fault.ensures refl
