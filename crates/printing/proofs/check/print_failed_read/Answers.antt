use Rattle.printing.proofs.check.print_failed_read.Goals as goal

pub returns-in-A : goal.returns-in-A
returns-in-A g c = rw c.in-A.is c.print.ensures

pub returns-in-B : goal.returns-in-B
returns-in-B g c = rw c.in-B.is c.print-in-B.ensures
