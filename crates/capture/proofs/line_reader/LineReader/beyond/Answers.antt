use Rattle.wire_base.specs.Tally.{tally_lent}
use Rattle.capture.proofs.SeekLaws.{beyond_known}
use Rattle.capture.proofs.line_reader.LineReader.beyond.Goals as goal

pub returns-then-not-is_empty-clause-found : goal.returns-then-not-is_empty-clause-found
returns-then-not-is_empty-clause-found g c =
    beyond_known c.args.most c.args.self.now.taken c.args.self.now.unread (g.R.Read.remaining (tally_lent c.args.reader.now)) c.requires
    (rw c.unread.ensures at c.if-not-is_empty.ensures)
