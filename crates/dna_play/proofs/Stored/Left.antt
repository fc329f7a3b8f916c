-- What a step at one end leaves on both lines.
use Rattle.dna_play.proofs.Prelude.{add-zero, ◌≡◌, ℕ, ◌+◌, ◌≤◌, Bool, true, false, cond, List, ◌++◌, length, drop, sym, ap, ◌∙◌, arith}
use Rattle.dna_play.proofs.Prelude.{length-append, map-append, drop-drop, drop-append-le, drop_at, length-map, LayersUnit, StepValue, is_of_line}
use Rattle.dna_play.proofs.Prelude.{left_by}
use Rattle.std.proofs.lemmas.List.{length-drop}
use Rattle.dna_play.proofs.{Played.Walk.off_line, Played.SentGrows.Grows, Ends.TrueEnd.bytes_of}

-- the unit that a step takes off the line is no longer on it
pub line_left : (step : StepValue) (passed : ℕ) (units : List (List ℕ)) → drop (passed + off_line step) units ≡ left_by step (drop passed units)
line_left step passed units = go (is_of_line step)
  where
    go : (b : Bool) → drop (passed + cond b 1 0) units ≡ cond b (drop 1 (drop passed units)) (drop passed units)
    go true = sym (drop-drop 1 passed units)
    go false = ap (λ (n : ℕ). drop n units) (add-zero passed)

-- what a step sends comes behind what is on the line
pub line_grows : (passed : ℕ) (before after : List LayersUnit) → passed ≤ length before → Grows before after →
    drop passed (bytes_of after) ≡ drop passed (bytes_of before) ++ drop (length before) (bytes_of after)
line_grows passed before after few grows =
    let first = bytes_of before in let more = bytes_of grows.more in
    let counted : length first ≡ length before = length-map before (λ (unit : LayersUnit). unit.bytes) in
    let all : bytes_of after ≡ first ++ more =
    ap bytes_of grows.is ∙ map-append (λ (unit : LayersUnit). unit.bytes) before grows.more in
    ap (drop passed) all ∙ drop-append-le passed first more (omega arith)
    ∙ ap (λ (rest : List (List ℕ)). drop passed first ++ rest) (sym (ap (drop (length before)) all ∙ drop_at first more (length before) counted))

-- and what was sent before is still there
pub longer : (before after : List LayersUnit) (n : ℕ) → Grows before after → n ≤ length before → n ≤ length after
longer before after n grows few = let e = ap (λ (sent : List LayersUnit). length sent) grows.is in let l = length-append before grows.more in
    omega arith

-- a unit that is on the line was sent
pub was_sent : (passed units : ℕ) (sent : List LayersUnit) → passed ≤ length sent → units ≤ length (drop passed (bytes_of sent)) →
    passed + units ≤ length sent
was_sent passed units sent few there =
    let counted = length-map sent (λ (unit : LayersUnit). unit.bytes) in let l = length-drop passed (bytes_of sent) in omega arith
