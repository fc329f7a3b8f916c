use Rattle.std.proofs.Common.{arith}
use Rattle.wire_base.specs.Tally.{tally_lent}
use Rattle.capture.proofs.SeekLaws.{seek_long, seek_whole, seek_long_open, seek_cut, seek_failed}
use Rattle.capture.proofs.line_reader.LineReader.next.Goals as goal

pub returns-in-Some-clause-found : goal.returns-in-Some-clause-found
returns-in-Some-clause-found g c =
    let s = c.loop-len.invariant in
    let same = s.same_taken in
    seek_long c.args.most c.loop-len.searched c.loop-len.self.unread _ (g.R.Read.remaining (tally_lent c.loop-len.reader)) c.loop-len.self.taken
    c.args.self.now.taken _ _ s
    c.in-Some.len c.in-Some.ensures c.if-len-gt-MAX_LINE.true (omega arith)

pub returns-in-Some-2-clause-found : goal.returns-in-Some-2-clause-found
returns-in-Some-2-clause-found g c =
    let s = c.loop-len.invariant in
    let same = s.same_taken in
    let found = seek_whole c.args.most c.loop-len.searched c.loop-len.self.unread _ (g.R.Read.remaining (tally_lent c.loop-len.reader))
    c.loop-len.self.taken c.args.self.now.taken _ _ s
    c.in-Some.len c.in-Some.ensures c.if-len-gt-MAX_LINE.false in
    (omega arith, found.0, found.1, s.kept)

pub returns-then-searched-gt-MAX_LINE-clause-found : goal.returns-then-searched-gt-MAX_LINE-clause-found
returns-then-searched-gt-MAX_LINE-clause-found g c =
    let s = c.loop-len.invariant in
    let same = s.same_taken in
    seek_long_open c.args.most c.loop-len.searched c.loop-len.self.unread _ (g.R.Read.remaining (tally_lent c.loop-len.reader)) c.loop-len.self.taken
    c.args.self.now.taken _ _ s
    c.in-None.ensures (rw c.unread-searched.ensures at c.if-searched-gt-MAX_LINE.true) (omega arith)

pub returns-in-Ok-false-2-clause-found : goal.returns-in-Ok-false-2-clause-found
returns-in-Ok-false-2-clause-found g c =
    let s = c.loop-len.invariant in
    let same = s.same_taken in
    let kept = c.in-Ok-false.ensures.taken in
    let read = rw c.in-Ok-false.field-0-test at c.in-Ok-false.ensures.more in
    rw kept (seek_cut c.args.most c.loop-len.searched c.loop-len.self.unread _ (g.R.Read.remaining (tally_lent c.loop-len.reader))
    c.loop-len.self.taken c.args.self.now.taken _ _ s
    c.in-None.ensures c.fill.new.self.unread (g.R.Read.remaining (tally_lent c.fill.new.reader)) read
    (rw c.unread-searched.ensures at c.if-searched-gt-MAX_LINE.false) (rw c.unread-searched.ensures at c.if-searched-eq0.false) (omega arith))

pub returns-in-Err-clause-found : goal.returns-in-Err-clause-found
returns-in-Err-clause-found g c =
    seek_failed c.loop-len.searched c.loop-len.self.unread c.fill.new.self.unread _ (g.R.Read.remaining (tally_lent c.loop-len.reader)) _
    c.loop-len.self.taken c.args.self.now.taken _ _ c.loop-len.invariant
    c.in-None.ensures c.in-Err.ensures.same c.in-Err.ensures.left
