use Rattle.std.proofs.Common.{inl}
use Rattle.tap_command.proofs.tap.print_wire_line.Goals as goal

pub returns-in-Ok : goal.returns-in-Ok
returns-in-Ok g c = inl (rw (c.as_bytes.ensures.value, c.in-Ok.ensures) at c.print.ensures)
