use Rattle.std.proofs.Common.{◌≤◌, ℕ, length, take, Ok, Err, sym, ap, arith}
use Rattle.std.proofs.lemmas.List.{length-take}
use Rattle.capture.proofs.SidedLaws.{side_takes}
use Rattle.wire_text.proofs.PieceLaws.{piece_read, no_side, no_piece}
use Rattle.wire_text.proofs.wire_reader.PiecesListItem.read.Goals as goal

pub returns-in_default-clause-departs : goal.returns-in_default-clause-departs
returns-in_default-clause-departs c = no_side c.args.line.now (sym c.in_default.ensures)

pub returns-in-Ok-eq0-clause-departs : goal.returns-in-Ok-eq0-clause-departs
returns-in-Ok-eq0-clause-departs c =
    let front = side_takes c.args.line.now (c.in-Some.side, c.in-Some.digits.now) (sym c.in-Some.ensures) in
    no_piece c.args.line.now c.in-Some.digits.now c.in-Some.side (Ok (take c.in-Ok-eq0.field-0 c.bytes_into.new.room)) c.requires.line front
    c.in-Ok-eq0.ensures.bytes (ap (λ (n : ℕ). take n c.bytes_into.new.room) c.in-Ok-eq0.field-0-test)

pub returns-in-Ok-clause-item : goal.returns-in-Ok-clause-item
returns-in-Ok-clause-item c =
    let front = side_takes c.args.line.now (c.in-Some.side, c.in-Some.digits.now) (sym c.in-Some.ensures) in
    let some : 1 ≤ length (take c.in-Ok.len c.bytes_into.new.room) =
    omega (arith, length-take {A = ℕ}, c.in-Ok.ensures.len, c.bytes_into.ensures.room) in
    piece_read c.args.line.now c.in-Some.digits.now c.in-Some.side (take c.in-Ok.len c.bytes_into.new.room) front c.in-Ok.ensures.bytes some

pub returns-in-Err-clause-departs : goal.returns-in-Err-clause-departs
returns-in-Err-clause-departs c =
    let front = side_takes c.args.line.now (c.in-Some.side, c.in-Some.digits.now) (sym c.in-Some.ensures) in
    no_piece c.args.line.now c.in-Some.digits.now c.in-Some.side (Err c.in-Err.field-0) c.requires.line front c.in-Err.ensures.bytes tt
