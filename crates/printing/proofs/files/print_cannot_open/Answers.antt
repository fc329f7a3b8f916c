use Rattle.printing.proofs.files.print_cannot_open.Goals as goal

pub returns-in-Script : goal.returns-in-Script
returns-in-Script g c = rw c.in-Script.is c.print.ensures

pub returns-in-Wire : goal.returns-in-Wire
returns-in-Wire g c = rw c.in-Wire.is c.print-in-Wire.ensures

pub returns-in-A : goal.returns-in-A
returns-in-A g c = rw c.in-A.is c.print-in-A.ensures

pub returns-in-B : goal.returns-in-B
returns-in-B g c = rw c.in-B.is c.print-in-B.ensures

pub returns-in-Svg : goal.returns-in-Svg
returns-in-Svg g c = rw c.in-Svg.is c.print-in-Svg.ensures

pub returns-in-OutA : goal.returns-in-OutA
returns-in-OutA g c = rw c.in-OutA.is c.print-in-OutA.ensures

pub returns-in-OutB : goal.returns-in-OutB
returns-in-OutB g c = rw c.in-OutB.is c.print-in-OutB.ensures
