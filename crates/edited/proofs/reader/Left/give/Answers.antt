use Rattle.std.proofs.Common.{◌≤◌, length, drop, arith}
use Rattle.std.proofs.lemmas.List.{take_rest}
use Rattle.edited.proofs.LeftLaws.{put_given}
use Rattle.edited.proofs.reader.Left.give.Goals as goal

pub returns-clause-bytes : goal.returns-clause-bytes
returns-clause-bytes c =
    let put = c.args.self.now.put.items in
    let start = c.args.self.now.given in
    let len = c.give_front-count.result in
    let given = rw (take_rest, c.deref.ensures.value) at c.give_front-count.ensures.given in
    let count = rw (take_rest, c.deref.ensures.value) at c.give_front-count.ensures.count in
    let within : len ≤ length (drop start put) = omega (arith, count) in
    rw given (put_given start len put c.args.buf.now within)
