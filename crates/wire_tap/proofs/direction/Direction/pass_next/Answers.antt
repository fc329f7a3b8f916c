use Rattle.std.proofs.Common.{refl, arith}
use Rattle.wire_tap.proofs.DirectionLaws.{finds_none, finds_one, now_all, now_within, place_known, place_within}
use Rattle.wire_tap.proofs.direction.Direction.pass_next.Goals as goal

pub returns-in_ok-find-in-Unit-clause-finds : goal.returns-in_ok-find-in-Unit-clause-finds
returns-in_ok-find-in-Unit-clause-finds c line_alone a b passed lines place tells keeps on_line =
    let held = c.args.self.now.framer.held in
    let piece = c.args.piece.now in
    let unit = c.in-Unit.unit.now in
    let rest = c.in-Unit.rest.now in
    let found = c.in-Unit.ensures.found.0 in
    let left = c.held-held.ensures.left in
    let short = rw c.held-held.ensures.bytes at c.held-held.ensures.short in
    let first = (rw c.held-held.ensures.bytes at c.first_place-first.ensures) (omega arith) in
    let line = (rw (c.held-held.ensures.bytes, first) at c.line_at-line.ensures) lines place _ keeps on_line
    (place_within held piece c.in-Unit.kind c.in-Unit.strays unit rest found left)
    (place_known held piece c.in-Unit.kind c.in-Unit.strays unit rest found left) in
    finds_one held piece c.in-Unit.kind c.in-Unit.strays unit rest found left c.args.self.now.side lines place
    c.line_at-line.result line line_alone a b passed c.find.new.self (c.in_ok-find-in-Unit.ensures line_alone a b passed tells)

pub returns-in_ok-find-in-Completed-clause-finds : goal.returns-in_ok-find-in-Completed-clause-finds
returns-in_ok-find-in-Completed-clause-finds c line_alone a b passed lines place tells keeps on_line =
    let held = c.args.self.now.framer.held in
    let piece = c.args.piece.now in
    let unit = c.completed-unit.result.now in
    let rest = c.in-Completed.rest.now in
    let found = rw (← c.completed-unit.ensures) at c.in-Completed.ensures.found.0 in
    let left = c.held-held.ensures.left in
    let short = rw c.held-held.ensures.bytes at c.held-held.ensures.short in
    let first = (rw c.held-held.ensures.bytes at c.first_place-first-in-Completed.ensures) (omega arith) in
    let line = (rw (c.held-held.ensures.bytes, first) at c.line_at-line-in-Completed.ensures) lines place _ keeps on_line
    (place_within held piece c.in-Completed.kind c.in-Completed.strays unit rest found left)
    (place_known held piece c.in-Completed.kind c.in-Completed.strays unit rest found left) in
    finds_one held piece c.in-Completed.kind c.in-Completed.strays unit rest found left c.args.self.now.side lines place
    c.line_at-line-in-Completed.result line line_alone a b passed c.find-in-Completed.new.self
    (c.in_ok-find-in-Completed.ensures line_alone a b passed tells)

pub returns-in-More-clause-finds : goal.returns-in-More-clause-finds
returns-in-More-clause-finds c line_alone a b passed lines place tells keeps on_line =
    let held = c.args.self.now.framer.held in
    let piece = c.args.piece.now in
    let now = c.next.new.self.held in
    let found = c.in-More.ensures.found in
    let left = c.held-held.ensures.left in
    let short = rw c.held-held.ensures.bytes at c.held-held.ensures.short in
    let held_now = (rw (c.held-held.ensures.bytes, c.held-now.ensures.bytes) at c.hold.ensures) lines place keeps on_line (omega arith)
    (now_within held piece c.in-More.strays now found left) (now_all held piece c.in-More.strays now found left) in
    finds_none held piece c.in-More.strays now found left line_alone a b c.args.self.now.side passed lines place _ _ tells refl held_now
