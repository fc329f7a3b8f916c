use Rattle.std.proofs.Common.{◌≡◌, ◌≤◌, length, take, drop, sym, ap, arith}
use Rattle.std.proofs.lemmas.List.{length-take, length-take-le}
use Rattle.edited.specs.Reader.{edited_on}
use Rattle.edited.proofs.LeftLaws.{consumes_known, front_given, lines_given}
use Rattle.edited.proofs.reader.EditedReader.give_lines.Goals as goal

pub returns-clause-count : goal.returns-clause-count
returns-clause-count g c =
    let len = c.reach-len.result.0 in
    let within = c.reach-len.ensures.reaches.within in
    let ahead = ap length c.as_slice-unread.ensures in
    let looked = length-take c.min-most.result c.as_slice-unread.result.now in
    let some = c.reach-len.ensures.some c.requires.passed (omega (arith, looked, ahead, c.min-most.ensures, c.requires.some, c.requires.room)) in
    let size : len ≤ length c.give.new.buf = omega (arith, within, looked, ahead, c.min-most.ensures, c.give.auto.buf) in
    (some, (size, sym (length-take-le len c.give.new.buf size)))

pub returns-clause-bytes : goal.returns-clause-bytes
returns-clause-bytes g c =
    let len = c.reach-len.result.0 in
    let left = c.reach-len.result.1 in
    let ahead = c.args.self.now.ahead in
    let l = c.args.self.now.left in
    let reaches = rw c.as_slice-unread.ensures at c.reach-len.ensures.reaches in
    let within : len ≤ length ahead = omega (arith, reaches.within, length-take c.min-most.result ahead) in
    let front : take len c.give.new.buf ≡ take len ahead = rw c.give.ensures.given (front_given len ahead c.args.buf.now within) in
    rw (front, c.give.ensures.left)
    (consumes_known (edited_on l) (edited_on (record l { passed = left })) ahead (drop len ahead) (take len ahead)
    (g.R.Read.remaining c.args.self.now.inner) (λ r. lines_given l left len c.min-most.result ahead r reaches))
