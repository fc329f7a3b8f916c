use Rattle.std.proofs.Common.{drop}
use Rattle.edited.specs.Reader.{edited_on}
use Rattle.edited.proofs.LeftLaws.{keeps_known, lines_dropped}
use Rattle.edited.proofs.reader.EditedReader.drop_lines.Goals as goal

pub returns : goal.returns
returns g c =
    let len = c.reach-len.result.0 in
    let left = c.reach-len.result.1 in
    let ahead = c.args.self.now.ahead in
    let l = c.args.self.now.left in
    let reaches = rw c.as_slice.ensures at c.reach-len.ensures.reaches in
    rw c.skip.ensures
    (keeps_known (edited_on l) (edited_on (record l { dropped = left })) ahead (drop len ahead)
    (g.R.Read.remaining c.args.self.now.inner) (λ r. lines_dropped l left len ahead r c.requires.passed reaches))
