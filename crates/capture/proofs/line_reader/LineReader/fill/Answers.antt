use Rattle.std.proofs.Common.{ℕ, ap, ◌∙◌, arith}
use Rattle.std.proofs.lemmas.List.{length-take, length-drop}
use Rattle.capture.specs.Lines.{LineState}
use Rattle.capture.proofs.BlockLaws.{filled, unfilled}
use Rattle.capture.proofs.line_reader.LineReader.fill.Goals as goal

pub returns-in-Ok-clause-more : goal.returns-in-Ok-clause-more
returns-in-Ok-clause-more g c =
    let took = c.in-Ok.ensures in
    let room = c.with_room-start.ensures.room in
    let whole = c.with_room-start.ensures.whole in
    let is = c.with_room-start.new.block.ok in
    filled c.with_room-start.new.block.items c.deref_mut.result.now c.read.new.buf c.args.self.now.unread c.with_room-start.new.block.len
    c.with_room-start.result.0 c.with_room-start.result.1 c.in-Ok.count _ _
    c.deref_mut.ensures.value (omega arith) (omega arith) room.0 (omega (arith, c.read.auto.buf, length-take {A = ℕ}, length-drop {A = ℕ}))
    took.bound.0
    (c.with_room-start.ensures.same ∙ ap (λ (s : LineState). s.unread) c.self.view_is) took.bytes.0 took.bytes.1

pub returns-in-Err-clause-same : goal.returns-in-Err-clause-same
returns-in-Err-clause-same g c =
    let room = c.with_room-start.ensures.room in
    let whole = c.with_room-start.ensures.whole in
    unfilled c.with_room-start.new.block.items c.deref_mut.result.now c.read.new.buf c.args.self.now.unread c.with_room-start.new.block.len
    c.with_room-start.result.0 c.with_room-start.result.1
    c.deref_mut.ensures.value (omega arith) (omega arith) room.0 (omega (arith, c.read.auto.buf, length-take {A = ℕ}, length-drop {A = ℕ}))
    (c.with_room-start.ensures.same ∙ ap (λ (s : LineState). s.unread) c.self.view_is)
