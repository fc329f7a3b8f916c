-- How long a log is.
use Rattle.std.proofs.Common.{◌≡◌, ◌≤◌, ℕ, List, length, take}
use Rattle.std.proofs.lemmas.List.{length-take-le}

pub log_length : {X : Type 0} (count : ℕ) (items : List X) → count ≤ length items → length (take count items) ≡ count
log_length count items within = length-take-le count items within
