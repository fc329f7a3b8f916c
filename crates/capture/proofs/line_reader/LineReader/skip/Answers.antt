use Rattle.std.proofs.Common.{ℕ, ◌≡◌, ◌+◌, ◌<◌, length, take, drop, sym, ap, subst, ◌∙◌, arith}
use Rattle.std.specs.List.{between}
use Rattle.capture.specs.Lines.{LineState}
use Rattle.capture.proofs.BlockLaws.{between-line, between-skipped}
use Rattle.capture.proofs.line_reader.LineReader.skip.Goals as goal

pub returns-clause-unread : goal.returns-clause-unread
returns-clause-unread c =
    let regrouped : c.self.inside.start + c.args.len + 1 ≡ c.self.inside.start + (c.args.len + 1) = omega arith in
    ap (λ (k : ℕ). between k c.self.inside.end c.self.inside.block.items) regrouped
    ∙ between-skipped c.self.inside.start c.self.inside.end (c.args.len + 1) c.self.inside.block.items
    ∙ ap (λ (s : LineState). drop (c.args.len + 1) s.unread) c.self.view_is

pub returns-clause-last : goal.returns-clause-last
returns-clause-last c =
    between-line c.self.inside.start c.self.inside.end c.args.len c.self.inside.block.items (omega arith)
    (subst (λ (s : LineState). c.args.len < length s.unread) (sym c.self.view_is) c.requires.whole)
    ∙ ap (λ (s : LineState). take c.args.len s.unread) c.self.view_is
