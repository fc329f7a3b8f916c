-- The ends alone play a script as they do with their nodes, and keep what these keep.
use Rattle.dna_play.proofs.Prelude.{◌≡◌, ℕ, Option, Some, None, List, [], ◌∷◌, ◌++◌, map, take, drop, length, Result, Ok, Err, refl, sym, ap, ◌∙◌}
use Rattle.dna_play.proofs.Prelude.{subst, arith, length-append, take-append-drop, option_map, ok_or, result_map_both, World, Side, A, B}
use Rattle.dna_play.proofs.Prelude.{LayersNode, LayersUnit, StepValue, ScriptStep, Script, IsStep, IsScript, LinkEnd, Stop, BadStep, Stopped}
use Rattle.dna_play.proofs.Prelude.{plays_all, Played, by_node, made_by, plays_step, play, ends_of, of_end, of_link, live_links, IsOfNode}
use Rattle.dna_play.proofs.Prelude.{AreOfNodes, StartsOnce, StoredStepped, StoredPlayed, played_after, stored_plays_step, stored_plays_on}
use Rattle.dna_play.proofs.Prelude.{stored_play, LinkList}
use Rattle.dna_play.proofs.Links.Keeps.{Keeps, NoLink, Over, Lives}
use Rattle.dna_play.proofs.Played.Reached.{Reached, NoStep, OneStep, Progress, each_later, starts_of-append, whole_reached, stopped_reached}
use Rattle.dna_play.proofs.Played.Behind as behind
use Rattle.dna_play.proofs.{Played.Walk.IfMade, Played.Stages.Standing, Played.Stages.reached_standing, Played.Ruled.next_stops, Ends.Stage.Stage}
use Rattle.dna_play.proofs.{Ends.TrueEnd.End, Ends.TrueEnd.stored}

-- ---- the ends alone

-- what a step leaves with the nodes is what it leaves without
step_kept : (so_far : Played) (side : Side) (step : StepValue) (result : Result StoredStepped Stop) →
    IfMade (λ (next : Played). result_map_both (played_after so_far.ends side step) (λ (stop : Stop). stop) result ≡ Ok next.ends)
    (made_by so_far side step result)
step_kept so_far side step (Err stop) = tt
step_kept so_far side step (Ok made) = go (by_node so_far.nodes side made.records)
  where
    ends : StoredPlayed
    ends = played_after so_far.ends side step made

    go : (o : Option (World LayersNode LayersUnit)) → IfMade (λ (next : Played). ◌≡◌ {A = Result StoredPlayed Stop} (Ok ends) (Ok next.ends))
        (ok_or (option_map (λ (w : World LayersNode LayersUnit). record { ends = ends; nodes = w }) o) BadStep)
    go None = tt
    go (Some nodes) = refl

-- and with what an end makes of a step
pub plays_on : (so_far : StoredPlayed) (step : ScriptStep) (result : Result StoredStepped Stop) → stored_plays_step so_far.pair step ≡ result →
    stored_plays_on so_far step ≡ result_map_both (played_after so_far step.side step.step) (λ (stop : Stop). stop) result
plays_on so_far step result e = ap (result_map_both (played_after so_far step.side step.step) (λ (stop : Stop). stop)) e

reached_kept : {script : Script} {first later : List ScriptStep} {so_far : Played} → Reached script first later so_far →
    stored_play script ≡ plays_all stored_plays_on (length first) so_far.ends later
unfolding plays_step
reached_kept NoStep = refl
reached_kept {later = later} (OneStep {first} so_far next step before is) =
    reached_kept before
    ∙ behind.next stored_plays_on (length first) so_far.ends step later (Ok next.ends)
    (subst (IfMade (λ (next : Played). stored_plays_on so_far.ends step ≡ Ok next.ends)) is (step_kept so_far step.side step.step _))
    ∙ ap (λ (n : ℕ). plays_all stored_plays_on n next.ends later) (sym (length-append first (step ∷ [])))

pub stopped_kept : (script : Script) (stopped : Stopped Played) → IsScript script → play script ≡ Err stopped →
    StartsOnce (take stopped.steps script.steps) → ends_of (play script) ≡ stored_play script
stopped_kept script stopped fits e once =
    let s = stopped_reached script stopped e in let few = s.few in let most = fits.few in let n = s.counted in
    let standing = reached_standing script fits s.before once (omega arith) in
    let ends = stopped.so_far.ends in
    let stops = next_stops _ stopped.so_far standing s.step (each_later IsStep s.before fits.each).0 stopped.stop s.stops in
    ap ends_of e ∙ sym (reached_kept s.before ∙ ap (λ (n : ℕ). plays_all stored_plays_on n ends (s.step ∷ s.later)) s.counted
    ∙ behind.next stored_plays_on stopped.steps ends s.step s.later (Err stopped.stop) (plays_on ends s.step (Err stopped.stop) stops))

-- the first steps start a side no more often than all of them
pub once_begun : (steps more : List ScriptStep) → StartsOnce (steps ++ more) → StartsOnce steps
once_begun steps more once =
    let a = once.of_a in let b = once.of_b in let all_a = starts_of-append A steps more in let all_b = starts_of-append B steps more in
    record { of_a = omega arith; of_b = omega arith }

pub whole_kept : (script : Script) → IsScript script → StartsOnce script.steps → ends_of (play script) ≡ stored_play script
whole_kept script fits once = go (play script) refl
  where
    go : (result : Result Played (Stopped Played)) → play script ≡ result → ends_of (play script) ≡ stored_play script
    go (Ok played) e = ap ends_of e ∙ sym (reached_kept (whole_reached script played e))
    go (Err stopped) e = stopped_kept script stopped fits e (once_begun (take stopped.steps script.steps) (drop stopped.steps script.steps)
        (subst StartsOnce (sym (take-append-drop stopped.steps script.steps)) once))

-- ---- what an end keeps

live_same : {links : LinkList} {ends : List LinkEnd} → Keeps links ends → map of_end ends ≡ map of_link (live_links links)
live_same NoLink = refl
live_same (Over over rest) = rw over (live_same rest)
live_same (Lives kept rest) = rw (kept.lives, live_same rest) refl

of_node : (own : End) → Stage own → IsOfNode (stored own) own.half
of_node own stage = record { head = refl; variables = refl; links = live_same stage.links.keeps }

standing_kept : (p : Progress) (so_far : Played) → Standing p so_far → AreOfNodes so_far
standing_kept p so_far s = let both = s.stages.both in
    subst AreOfNodes s.stages.is
    (record { of_a = of_node both.a s.stages.of_a.stage; of_b = of_node both.b s.stages.of_b.stage })

module _ (script : Script) (fits : IsScript script) where
  pub whole_of_nodes : (played : Played) → play script ≡ Ok played → StartsOnce script.steps → AreOfNodes played
  whole_of_nodes played e once = standing_kept _ played (reached_standing script fits (whole_reached script played e) once fits.few)

  pub stopped_of_nodes : (stopped : Stopped Played) → play script ≡ Err stopped → StartsOnce (take stopped.steps script.steps) →
      AreOfNodes stopped.so_far
  stopped_of_nodes stopped e once =
      let s = stopped_reached script stopped e in let less = s.few in let few = fits.few in let n = s.counted in
      standing_kept _ stopped.so_far (reached_standing script fits s.before once (omega arith))
