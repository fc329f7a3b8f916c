-- What a script plays is a run of nodes that ask no rule on tags, and each record has a line; it starts each side so often as its steps do, and gives
-- link addresses in order.
use Rattle.dna_play.proofs.Prelude.{◌≡◌, ◌≤◌, Bool, true, Some, None, List, [], ◌∷◌, ◌++◌, Ok, Err, refl, ap, ◌∙◌, cond, append_assoc, append-nil}
use Rattle.dna_play.proofs.Prelude.{arith, AllByRecursion, same_Some, World, Run, Done, Outcome, Made, advance, one_more_of_a, exchange, Record}
use Rattle.dna_play.proofs.Prelude.{IsRecord, All-push, Head, StepRefusal, by_bytes, LayersNode, LayersUnit, layers_start, bytes_pair, StepValue}
use Rattle.dna_play.proofs.Prelude.{ScriptStep, Script, has_line, Stopped, end_step, made_half, makes, Played, not_begun, play, starts_now}
use Rattle.dna_play.proofs.Prelude.{ArePlayed, OnTop, follows}
use Rattle.dna_play.proofs.{Played.PlayLines.line_told, Played.Walk.stored_leaves}
use Rattle.dna_play.proofs.Played.Steps.{PlayHalf, MakesAll, Nothing, First}
use Rattle.dna_play.proofs.Played.Order.{InOrder, order_join, nothing_in_order}
use Rattle.dna_play.proofs.Played.Reached.{Reached, Progress, progress_of, exchanged_progress, one_more, exchanged, StepOfA, reached_holds, each_step}
use Rattle.dna_play.proofs.Played.Reached.{OfStep, whole_reached, stopped_reached}

-- ---- one record

-- a record that is made has a line, and is made by the node
makes_tells : (own other : PlayHalf) (r : Record) (h : PlayHalf) → makes own other r ≡ Some h → (has_line r ≡ true) ×
    (advance end_step own other r ≡ Made h)
makes_tells own other r h e = go (has_line r) (advance end_step own other r) refl refl e
  where
    go : (b : Bool) (o : Outcome LayersNode LayersUnit StepRefusal) → has_line r ≡ b → advance end_step own other r ≡ o →
        cond b (made_half o) None ≡ Some h → (has_line r ≡ true) × (advance end_step own other r ≡ Made h)
    go true (Made half) line is e = (line, is ∙ ap Made (same_Some half h e))
    go b o line is e = absurd cc

pub line_makes : (own other : PlayHalf) (r : Record) (h : PlayHalf) → has_line r ≡ true → advance end_step own other r ≡ Made h →
    makes own other r ≡ Some h
line_makes own other r h line e = rw (line, e) refl

-- and does one of a few things with the links
pub makes_on_top : (own other : PlayHalf) (r : Record) (h : PlayHalf) → makes own other r ≡ Some h → OnTop by_bytes own other r h
unfolding end_step
makes_on_top own other r h e = (follows by_bytes own other h r (makes_tells own other r h e).1).links

-- ---- the records of one step

-- what is left when a's half has moved, and when b's has
pub record AreMade (start w : World LayersNode LayersUnit) (of_a of_b : List Record) : Type 0 where
  pub run : Run bytes_pair start of_a of_b w
  pub lines_a : AllByRecursion IsRecord of_a
  pub lines_b : AllByRecursion IsRecord of_b

pub more_of_a : (start : World LayersNode LayersUnit) (b : PlayHalf) {own end : PlayHalf} {records : List Record} (of_a of_b : List Record) →
    MakesAll b own records end → AreMade start (record { a = own; b = b }) of_a of_b →
    AreMade start (record { a = end; b = b }) (of_a ++ records) of_b
unfolding end_step
more_of_a start b {own} of_a of_b Nothing h =
    rw (append-nil of_a) h
more_of_a start b of_a of_b (First {own} {next} {end} {r} {later} m rest) h =
    let told = makes_tells own b r next m in
    rw (← append_assoc of_a (r ∷ []) later)
    (more_of_a start b (of_a ++ r ∷ []) of_b rest
    (record {
      run = one_more_of_a bytes_pair r next h.run told.1;
      lines_a = All-push IsRecord of_a r h.lines_a (line_told r told.0);
      lines_b = h.lines_b;
    }))

-- ---- all steps

abbrev pub first_head : Progress → Head
first_head p = record { own = p.node_a; peer = p.node_b }

abbrev pub second_head : Progress → Head
second_head p = record { own = p.node_b; peer = p.node_a }

-- with so many starts of each side so far, and addresses in order where it is one at most
pub record Going (p : Progress) (so_far : Played) : Type 0 where
  pub made : AreMade (layers_start (first_head p) (second_head p)) so_far.nodes so_far.ends.of_a so_far.ends.of_b
  pub order_a : p.starts_a ≤ 1 → InOrder 0 p.starts_a so_far.ends.of_a so_far.ends.pair.a.end.addresses
  pub order_b : p.starts_b ≤ 1 → InOrder 0 p.starts_b so_far.ends.of_b so_far.ends.pair.b.end.addresses

pub going_exchange : (p : Progress) (so_far : Played) → Going p so_far → Going (exchanged_progress p) (exchanged so_far)
going_exchange p so_far g = record {
  made = record { run = exchange bytes_pair g.made.run; lines_a = g.made.lines_b; lines_b = g.made.lines_a };
  order_a = g.order_b;
  order_b = g.order_a;
}

pub going_keeps : (p : Progress) (so_far : Played) {next : Played} (step : StepValue) → StepOfA so_far step next → Going p so_far →
    Going (one_more step p) next
going_keeps p so_far step (OfStep made half is makes) g =
    let own = so_far.ends.pair.a.end in record {
      made = more_of_a _ so_far.nodes.b so_far.ends.of_a so_far.ends.of_b makes g.made;
      order_a = λ once. order_join 0 own.addresses made.end.addresses p.starts_a (starts_now step) so_far.ends.of_a made.records
          (g.order_a (omega arith)) ((stored_leaves own so_far.ends.pair.a.coming step made is).order (omega arith));
      order_b = g.order_b;
    }

pub not_begun_going : (script : Script) → Going (progress_of script []) (not_begun script)
not_begun_going script = record {
  made = record { run = Done; lines_a = tt; lines_b = tt };
  order_a = λ once. nothing_in_order 0;
  order_b = λ once. nothing_in_order 0;
}

pub reached_going : {script : Script} {first later : List ScriptStep} {so_far : Played} → Reached script first later so_far →
    Going (progress_of script first) so_far
reached_going {script} r = reached_holds Going going_exchange (λ step. Unit {0})
    (λ p so_far next step fits made g. going_keeps p so_far step.step made g) r (each_step script.steps) (not_begun_going script)

pub reached_played : {script : Script} {first later : List ScriptStep} {so_far : Played} → Reached script first later so_far → ArePlayed script so_far
reached_played r = let m = (reached_going r).made in record { run = m.run; lines_a = m.lines_a; lines_b = m.lines_b }

module _ (script : Script) where
  pub whole_is_played : (played : Played) → play script ≡ Ok played → ArePlayed script played
  whole_is_played played e = reached_played (whole_reached script played e)

  pub stopped_is_played : (stopped : Stopped Played) → play script ≡ Err stopped → ArePlayed script stopped.so_far
  stopped_is_played stopped e = reached_played (stopped_reached script stopped e).before
