-- What a script plays, step by step: the one induction over its steps. What holds before any step, and is kept by each step that is made, holds of
-- all that is reached. What holds of side a holds of side b too, with the sides exchanged.
use Rattle.dna_play.proofs.Prelude.{◌≡◌, ℕ, ◌+◌, ◌≤◌, Option, Some, None, List, [], ◌∷◌, ◌++◌, length, take, Result, Ok, Err, refl, sym, ap, ◌∙◌}
use Rattle.dna_play.proofs.Prelude.{subst, append-nil, append_assoc, length-append, arith, slice_get, option_map, ok_or, AllByRecursion}
use Rattle.dna_play.proofs.Prelude.{take-append_seam, next_at, World, exchanged_world, Side, A, B, All-behind, LayersNode, LayersUnit, StepValue}
use Rattle.dna_play.proofs.Prelude.{ScriptStep, Script, Stop, BadStep, Stopped, if_made, plays_all, StoredStepped, stored_plays, StoredPlayed}
use Rattle.dna_play.proofs.Prelude.{own_side, played_after, stored_plays_step, Played, makes_all, not_begun, made_by, plays_step, play, starts_now}
use Rattle.dna_play.proofs.Prelude.{starts_of}
use Rattle.std.proofs.Math.Nat.{add-zero}
use Rattle.dna_play.proofs.Played.Steps.{PlayHalf, MakesAll, made_all}
use Rattle.dna_play.proofs.Played.Walk.{IfMade}

-- ---- what is reached

-- behind the first steps, which were made, where these come later
pub data Reached (script : Script) : (first later : List ScriptStep) → Played → Type 0 where
  NoStep : Reached script [] script.steps (not_begun script)
  OneStep : {first later : List ScriptStep} (so_far next : Played) (step : ScriptStep) → Reached script first (step ∷ later) so_far →
      plays_step so_far step ≡ Ok next → Reached script (first ++ step ∷ []) later next

pub whole : {script : Script} {first later : List ScriptStep} {so_far : Played} → Reached script first later so_far → first ++ later ≡ script.steps
whole NoStep = refl
whole {later = later} (OneStep {first} so_far next step before is) = append_assoc first (step ∷ []) later ∙ whole before

-- the steps that come later are steps of the script
pub each_later : {script : Script} {first later : List ScriptStep} {so_far : Played} (P : ScriptStep → Type 0) →
    Reached script first later so_far → AllByRecursion P script.steps → AllByRecursion P later
each_later {first = first} {later = later} P r all = All-behind P first later (subst (AllByRecursion P) (sym (whole r)) all)

pub starts_of-append : (side : Side) (first later : List ScriptStep) →
    starts_of side (first ++ later) ≡ starts_of side first + starts_of side later
starts_of-append side [] later = omega arith
starts_of-append side (step ∷ first) later = let e = starts_of-append side first later in omega arith

-- ---- a step of a side that is made

-- what is left of both
abbrev pub after_a : Played → StepValue → StoredStepped → PlayHalf → Played
after_a so_far step made half = record { ends = played_after so_far.ends A step made; nodes = record so_far.nodes { a = half } }

-- by its end, and by the node beside it
pub data StepOfA (so_far : Played) (step : StepValue) : Played → Type 0 where
  OfStep : (made : StoredStepped) (half : PlayHalf) → stored_plays so_far.ends.pair.a.end so_far.ends.pair.a.coming step ≡ Ok made →
      MakesAll so_far.nodes.b so_far.nodes.a made.records half → StepOfA so_far step (after_a so_far step made half)

-- the sides exchanged
abbrev pub exchanged : Played → Played
exchanged played = let pair = played.ends.pair in record {
  ends = record { pair = record { a = pair.b; b = pair.a }; of_a = played.ends.of_b; of_b = played.ends.of_a };
  nodes = exchanged_world played.nodes;
}

abbrev StepAt : Side → Played → StepValue → Played → Type 0
StepAt A so_far step next = StepOfA so_far step next
StepAt B so_far step next = StepOfA (exchanged so_far) step (exchanged next)

-- the node makes the records, or not
by_half : (Q : Played → Type 0) (ends : StoredPlayed) (nodes : PlayHalf → World LayersNode LayersUnit) (o : Option PlayHalf) →
    ((half : PlayHalf) → o ≡ Some half → Q (record { ends = ends; nodes = nodes half })) →
    IfMade Q (ok_or (option_map (λ (w : World LayersNode LayersUnit). record { ends = ends; nodes = w }) (option_map nodes o)) BadStep)
by_half Q ends nodes None all = tt
by_half Q ends nodes (Some half) all = all half refl

module _ (so_far : Played) (step : StepValue) where
  step_at : (side : Side) (result : Result StoredStepped Stop) →
      stored_plays (own_side side so_far.ends.pair).end (own_side side so_far.ends.pair).coming step ≡ result →
      IfMade (StepAt side so_far step) (made_by so_far side step result)
  step_at A (Ok made) is = by_half (StepAt A so_far step) _ _ (makes_all so_far.nodes.a so_far.nodes.b made.records)
      (λ half e. OfStep made half is (made_all so_far.nodes.b so_far.nodes.a made.records half e))
  step_at B (Ok made) is = by_half (StepAt B so_far step) _ _ (makes_all so_far.nodes.b so_far.nodes.a made.records)
      (λ half e. OfStep made half is (made_all so_far.nodes.a so_far.nodes.b made.records half e))
  step_at side (Err stop) is = tt

-- ---- the induction

-- the addresses of both nodes, how often each side was started, and how many steps were made
pub record Progress : Type 0 where
  pub node_a : ℕ
  pub node_b : ℕ
  pub starts_a : ℕ
  pub starts_b : ℕ
  pub steps : ℕ

abbrev pub progress_of : Script → (first : List ScriptStep) → Progress
progress_of script first = record {
  node_a = script.node_a;
  node_b = script.node_b;
  starts_a = starts_of A first;
  starts_b = starts_of B first;
  steps = length first;
}

abbrev pub exchanged_progress : Progress → Progress
exchanged_progress p =
    record { node_a = p.node_b; node_b = p.node_a; starts_a = p.starts_b; starts_b = p.starts_a; steps = p.steps }

-- behind one more step of side a
abbrev pub one_more : StepValue → Progress → Progress
one_more step p = record p { starts_a = p.starts_a + starts_now step; steps = p.steps + 1 }

abbrev one_more_at : Side → StepValue → Progress → Progress
one_more_at A step p = one_more step p
one_more_at B step p = exchanged_progress (one_more step (exchanged_progress p))

counts : (script : Script) (first : List ScriptStep) (step : StepValue) (side : Side) →
    progress_of script (first ++ record { side = side; step = step } ∷ []) ≡ one_more_at side step (progress_of script first)
counts script first step A =
    rw (starts_of-append A first, starts_of-append B first, length-append first, add-zero (starts_now step), add-zero (starts_of B first)) refl
counts script first step B =
    rw (starts_of-append A first, starts_of-append B first, length-append first, add-zero (starts_now step), add-zero (starts_of A first)) refl

-- what is kept by each step of side a that is made, and holds too with the sides exchanged
module _ (Holds : Progress → Played → Type 0)
    (exchange : (p : Progress) (so_far : Played) → Holds p so_far → Holds (exchanged_progress p) (exchanged so_far))
    (Fits : ScriptStep → Type 0)
    (keeps : (p : Progress) (so_far next : Played) (step : ScriptStep) → Fits step → StepOfA so_far step.step next → Holds p so_far →
    Holds (one_more step.step p) next) where
  side_holds : (p : Progress) (side : Side) (step : StepValue) (so_far next : Played) → Fits (record { side = side; step = step }) →
      StepAt side so_far step next → Holds p so_far → Holds (one_more_at side step p) next
  side_holds p A step so_far next fits made holds = keeps p so_far next (record { side = A; step = step }) fits made holds
  side_holds p B step so_far next fits made holds = exchange _ (exchanged next)
      (keeps (exchanged_progress p) (exchanged so_far) (exchanged next) (record { side = B; step = step }) fits made (exchange p so_far holds))

  pub reached_holds : {script : Script} {first later : List ScriptStep} {so_far : Played} → Reached script first later so_far →
      AllByRecursion Fits script.steps → Holds (progress_of script []) (not_begun script) → Holds (progress_of script first) so_far
  unfolding plays_step stored_plays_step
  reached_holds NoStep fits base = base
  reached_holds {script} (OneStep {first} so_far next step before is) fits base =
      subst (λ (p : Progress). Holds p next) (sym (counts script first step.step step.side))
      (side_holds (progress_of script first) step.side step.step so_far next (each_later Fits before fits).0
      (subst (IfMade (StepAt step.side so_far step.step)) is (step_at so_far step.step step.side _ refl)) (reached_holds before fits base))

-- no condition on steps
pub each_step : (list : List ScriptStep) → AllByRecursion (λ (step : ScriptStep). Unit {0}) list
each_step [] = tt
each_step (step ∷ later) = (tt, each_step later)

-- ---- whole scripts

module _ (script : Script) where
  -- where a step stops the script
  pub record StopsAt (stopped : Stopped Played) : Type 0 where
    pub step : ScriptStep
    pub later : List ScriptStep
    pub there : slice_get script.steps stopped.steps ≡ Some step
    pub before : Reached script (take stopped.steps script.steps) (step ∷ later) stopped.so_far
    pub counted : length (take stopped.steps script.steps) ≡ stopped.steps
    pub few : stopped.steps ≤ length script.steps
    pub stops : plays_step stopped.so_far step ≡ Err stopped.stop

  -- behind the first steps
  stops_at : (first : List ScriptStep) (so_far : Played) (step : ScriptStep) (later : List ScriptStep) →
      Reached script first (step ∷ later) so_far → (stop : Stop) → plays_step so_far step ≡ Err stop →
      StopsAt (record { steps = length first; stop = stop; so_far = so_far })
  stops_at first so_far step later r stop is =
      let list : first ++ step ∷ later ≡ script.steps = whole r in
      let taken : first ≡ take (length first) script.steps = sym (take-append_seam first (step ∷ later)) ∙ ap (take (length first)) list in
      let l = length-append first (step ∷ later) in let all = ap (λ (list : List ScriptStep). length list) list in
      record {
        step = step;
        later = later;
        there = ap (λ (list : List ScriptStep). slice_get list (length first)) (sym list) ∙ next_at first later step;
        before = subst (λ (first : List ScriptStep). Reached script first (step ∷ later) so_far) taken r;
        counted = ap (λ (list : List ScriptStep). length list) (sym taken);
        few = omega arith;
        stops = is;
      }

  abbrev Reaches : Result Played (Stopped Played) → Type 0
  Reaches (Ok played) = Reached script script.steps [] played
  Reaches (Err stopped) = StopsAt stopped

  after_step : (first : List ScriptStep) (so_far : Played) (step : ScriptStep) (later : List ScriptStep) →
      Reached script first (step ∷ later) so_far →
      ((next : Played) → Reached script (first ++ step ∷ []) later next → Reaches (plays_all plays_step (length first + 1) next later)) →
      (result : Result Played Stop) → plays_step so_far step ≡ result →
      Reaches (if_made result (λ next. plays_all plays_step (length first + 1) next later)
      (λ stop. record { steps = length first; stop = stop; so_far = so_far }))
  after_step first so_far step later r all (Ok next) is = all next (OneStep so_far next step r is)
  after_step first so_far step later r all (Err stop) is = stops_at first so_far step later r stop is

  all_reached : (first : List ScriptStep) (so_far : Played) (list : List ScriptStep) → Reached script first list so_far →
      Reaches (plays_all plays_step (length first) so_far list)
  all_reached first so_far [] r =
      subst (λ (first : List ScriptStep). Reached script first [] so_far) (sym (append-nil first) ∙ whole r) r
  all_reached first so_far (step ∷ later) r = after_step first so_far step later r
      (λ next k. subst (λ (n : ℕ). Reaches (plays_all plays_step n next later)) (length-append first (step ∷ []))
      (all_reached (first ++ step ∷ []) next later k)) (plays_step so_far step) refl

  pub whole_reached : (played : Played) → play script ≡ Ok played → Reached script script.steps [] played
  whole_reached played e = subst Reaches e (all_reached [] (not_begun script) script.steps NoStep)

  pub stopped_reached : (stopped : Stopped Played) → play script ≡ Err stopped → StopsAt stopped
  stopped_reached stopped e = subst Reaches e (all_reached [] (not_begun script) script.steps NoStep)
