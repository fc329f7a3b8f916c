-- A line beside the list of all units that were sent.
use Rattle.std.proofs.Common.{◌≡◌, ℕ, ◌+◌, ◌-◌, ◌<◌, ◌≤◌, List, length, drop, ap, ◌∙◌, arith}
use Rattle.std.specs.List.{slice_get}
use Rattle.std.proofs.lemmas.List.{drop-drop}
use Rattle.two_nodes.proofs.NumberedSteps.{slice_get-drop}
use Rattle.dna_node.specs.WireLayers.{WireLayersUnit}
use Rattle.pair_judge.specs.declared.line.Line.{Line}
use Rattle.pair_judge.specs.inner.Lines.{held, Shows}

-- a unit that can still come is where the line holds it
pub held_at : (line : Line) (sent : List WireLayersUnit) (hint : ℕ) → Shows line sent → line.gone ≤ hint →
    slice_get (held line) (hint - line.gone) ≡ slice_get sent hint
held_at line sent hint shows at_least =
    let e : line.gone + (hint - line.gone) ≡ hint = omega arith in
    ap (λ xs. slice_get xs (hint - line.gone)) shows.rest ∙ slice_get-drop line.gone (hint - line.gone) sent ∙ ap (slice_get sent) e

-- the line after a unit came
pub released : (before after : Line) (sent : List WireLayersUnit) (hint : ℕ) → Shows before sent → before.gone ≤ hint → hint < length sent →
    after.gone ≡ hint + 1 → held after ≡ drop (hint + 1 - before.gone) (held before) → Shows after sent
released before after sent hint shows at_least was_sent gone units =
    let e : before.gone + (hint + 1 - before.gone) ≡ after.gone = omega arith in
    record {
      within = omega arith;
      rest = units ∙ ap (drop (hint + 1 - before.gone)) shows.rest ∙ drop-drop (hint + 1 - before.gone) before.gone sent ∙ ap (λ n. drop n sent) e;
    }
