use Rattle.std.proofs.Common.{refl, ◌∙◌}
use Rattle.capture_record.specs.Entries.{record_with}
use Rattle.capture.proofs.SoFarLaws.{form_marked}
use Rattle.capture.proofs.ConvertLaws.{finished, line_on, line_short, lines_at_fault, no_head_written, not_in_format, some_taken, stopped}
use Rattle.capture.proofs.EventLaws.{not_allowed}
use Rattle.capture.proofs.converting.convert_to.Goals as goal

pub returns-in-Err-Write-clause-converts : goal.returns-in-Err-Write-clause-converts
returns-in-Err-Write-clause-converts g c =
    no_head_written c.args.to _ _ _ _ c.in-Ok-open.capture c.in-Ok-open.ensures.opens
    (rw (c.own.ensures, c.peer.ensures) at (rw c.in-Err-Write.field-0-is at c.in-Err-Write.ensures.fault)).0

pub returns-in_default-write_out-clause-converts : goal.returns-in_default-write_out-clause-converts
returns-in_default-write_out-clause-converts g c =
    let h = c.loop-count.invariant.0 in
    some_taken c.args.to _ _ _ h _ c.in_default-write_out.ensures.err

pub returns-then-not-has-clause-converts : goal.returns-then-not-has-clause-converts
returns-then-not-has-clause-converts g c =
    let h = c.loop-count.invariant.0 in
    let gives = rw c.in-Ok-Some.field-0-is at c.in-Ok-Some.ensures.gives h.reading in
    let bytes = c.advance.new.self.bytes in
    not_in_format c.args.to _ _ _ h c.advance.new.self _ _ _ (record_with c.in-Ok-Some.entry bytes) _ gives
    (λ has. not_allowed ((c.if-not-has.ensures bytes).1 has)) c.in-Ok-write_out.ensures.ok c.in-Ok-write_out.ensures.empty refl

pub returns-in_default-make_room-clause-converts :
    goal.returns-in_default-make_room-clause-converts
returns-in_default-make_room-clause-converts g c =
    let h = c.loop-count.invariant.0 in
    some_taken c.args.to _ _ _ h _ c.in_default-make_room.ensures.err

pub put_line-requires-clause-short : goal.put_line-requires-clause-short
put_line-requires-clause-short g c =
    let h = c.loop-count.invariant.0 in
    let gives = rw c.in-Ok-Some.field-0-is at c.in-Ok-Some.ensures.gives h.reading in
    let line = rw c.in-Ok-Some.field-0-is at c.in-Ok-Some.ensures.line in
    line_short _ _ (record_with c.in-Ok-Some.entry c.advance.new.self.bytes) _ h.read gives.0 (c.line.ensures ∙ line)

pub returns-in-Ok-write_out-2-clause-converts : goal.returns-in-Ok-write_out-2-clause-converts
returns-in-Ok-write_out-2-clause-converts g c =
    let h = c.loop-count.invariant.0 in
    let gives = rw c.in-Ok-None.field-0-is at c.in-Ok-None.ensures.gives h.reading in
    finished c.args.to _ _ _ h _ _ gives.0 c.in-Ok-write_out-2.ensures.ok c.in-Ok-write_out-2.ensures.empty

pub returns-in-Err-write_out-clause-converts : goal.returns-in-Err-write_out-clause-converts
returns-in-Err-write_out-clause-converts g c =
    let h = c.loop-count.invariant.0 in
    some_taken c.args.to _ _ _ h _ c.in-Err-write_out.ensures.err

pub returns-in-Ok-write_out-3-clause-converts : goal.returns-in-Ok-write_out-3-clause-converts
returns-in-Ok-write_out-3-clause-converts g c =
    let h = c.loop-count.invariant.0 in
    rw c.fault_of-in-Ok-write_out-3.ensures
    (stopped c.args.to _ _ _ h c.in-Err-advance.fault _ _ (λ e. c.in-Err-advance.ensures.memory (rw e refl))
    (c.in-Err-advance.ensures.gives h.reading).0 c.in-Ok-write_out-3.ensures.ok c.in-Ok-write_out-3.ensures.empty)

pub returns-in-Ok-write_out-3-clause-lines : goal.returns-in-Ok-write_out-3-clause-lines
returns-in-Ok-write_out-3-clause-lines g c =
    let h = c.loop-count.invariant.0 in
    rw c.fault_of-in-Ok-write_out-3.ensures
    (lines_at_fault c.args.to _ _ _ h c.in-Err-advance.fault _ _ _ (c.in-Err-advance.ensures.cut h.reading) c.in-Ok-write_out-3.ensures.ok
    c.in-Ok-write_out-3.ensures.empty)

pub returns-in-Err-write_out-2-clause-converts : goal.returns-in-Err-write_out-2-clause-converts
returns-in-Err-write_out-2-clause-converts g c =
    let h = c.loop-count.invariant.0 in
    some_taken c.args.to _ _ _ h _ c.in-Err-write_out-2.ensures.err

pub loop-count-preserved : goal.loop-count-preserved
loop-count-preserved g c =
    let h = c.loop-count.invariant.0 in
    let gives = rw c.in-Ok-Some.field-0-is at c.in-Ok-Some.ensures.gives h.reading in
    let line = rw c.in-Ok-Some.field-0-is at c.in-Ok-Some.ensures.line in
    let bytes = c.advance.new.self.bytes in
    let put = c.put_line.ensures c.loop-count.capture.form bytes (form_marked _ _ h.read) gives.0.spelling.numbers (c.line.ensures ∙ line) in (
      line_on c.args.to _ _ _ h _ c.make_room.new.self (record_with c.in-Ok-Some.entry bytes) c.advance.ensures.head.0 c.advance.ensures.head.1 gives
          c.in-Ok-make_room.ensures.ok put (c.after-form.ensures bytes) refl ((c.if-not-has.ensures bytes).0 refl),
      c.in-Ok-Some.ensures.reads ∙ c.loop-count.invariant.1,
      c.in-Ok-make_room.ensures.faults ∙ c.loop-count.invariant.2,
    )
