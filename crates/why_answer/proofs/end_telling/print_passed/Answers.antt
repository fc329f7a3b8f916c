use Rattle.std.proofs.Common.{inl, refl}
use Rattle.why_answer.proofs.end_telling.print_passed.Goals as goal

pub returns-in-Json : goal.returns-in-Json
returns-in-Json g c = inl (rw c.in-Json.is c.print.ensures, refl)

pub returns-in-Ok : goal.returns-in-Ok
returns-in-Ok g c = inl (rw c.in-Rows.is (rw (c.as_bytes.ensures.value, c.in-Ok.ensures) at c.print-in-Ok.ensures), refl)
