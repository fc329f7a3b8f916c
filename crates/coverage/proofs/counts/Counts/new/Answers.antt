use Rattle.std.proofs.Common.{ℕ, Some, replicate, ap, ◌∙◌, arith}
use Rattle.std.proofs.lemmas.List.{get_or-replicate, length-replicate}
use Rattle.std.proofs.lemmas.Option.{slice_get-get_or}
use Rattle.coverage.specs.Row.{place}
use Rattle.coverage.proofs.Places.{place_below}
use Rattle.coverage.proofs.counts.Counts.new.Goals as goal

pub returns : goal.returns
returns c row =
    let below = place_below row in
    let long = length-replicate {A = ℕ} 88 0 in
    slice_get-get_or (replicate 88 0) (place row) 0 (omega arith) ∙ ap (λ (n : ℕ). Some n) (get_or-replicate {A = ℕ} 88 (place row) 0 0 below)
