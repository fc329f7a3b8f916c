-- A text that goes on after one that begins with a line begins with it too.
use Rattle.std.proofs.Common.{◌≡◌, ℕ, List, ◌++◌, ap, ◌∙◌}
use Rattle.std.proofs.lemmas.List.{append_assoc}
use Rattle.why.specs.Refused.{BeginsWith}

pub begins_more : (front whole more text : List ℕ) → BeginsWith front whole → text ≡ whole ++ more → BeginsWith front text
begins_more front whole more text b is = record {
  rest = b.rest ++ more;
  is = is ∙ ap (λ (ys : List ℕ). ys ++ more) b.is ∙ append_assoc front b.rest more;
}
