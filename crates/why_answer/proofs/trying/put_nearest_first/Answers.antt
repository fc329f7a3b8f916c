use Rattle.std.proofs.Common.{rules}
use Rattle.std.proofs.lemmas.List.Sorted.{IsNonDecreasingBy-from_sort_by_key}
use Rattle.why_answer.specs.inner.Trying.{lines_away}
use Rattle.why_answer.proofs.trying.put_nearest_first.Goals as goal

pub returns-clause-sorted : goal.returns-clause-sorted
returns-clause-sorted c =
    IsNonDecreasingBy-from_sort_by_key (λ edit. lines_away c.args.places edit.of) _ c.in_ok-sort_by_key.ensures.sorted (λ a r q k. search rules)
