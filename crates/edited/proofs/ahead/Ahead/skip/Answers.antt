use Rattle.std.proofs.Common.{ℕ, ◌+◌, List, take, drop, sym, ap, ◌∙◌}
use Rattle.std.proofs.lemmas.List.{drop-drop}
use Rattle.std.proofs.lemmas.Slice.{between_is}
use Rattle.edited.proofs.ahead.Ahead.skip.Goals as goal

pub returns : goal.returns
returns c =
    let a = c.self.inside in
    between_is a.block.items (a.start + c.args.len) a.end
    ∙ sym (ap (drop c.args.len) (between_is a.block.items a.start a.end) ∙ drop-drop c.args.len a.start (take a.end a.block.items))
    ∙ ap (λ (bytes : List ℕ). drop c.args.len bytes) c.self.view_is
