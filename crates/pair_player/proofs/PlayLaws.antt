-- What was played of a script, from one step to the next.
use Rattle.std.proofs.Common.{◌≡◌, ℕ, ◌+◌, ◌<◌, Bool, false, List, [], ◌∷◌, ◌++◌, length, Option, Some, Ok, Err, refl}
use Rattle.std.proofs.Common.{true, sym, ap, ap₂, subst, ◌∙◌, arith, length-append, append-nil}
use Rattle.std.specs.Prelude.{◌&&◌, ◌||◌, not}
use Rattle.std.specs.Io.KnownBytes.{Consumes}
use Rattle.wire_base.specs.declared.side.Side.{Side}
use Rattle.wire_base.specs.declared.side.Side.TheVariants.{A, B}
use Rattle.capture.specs.declared.hint.HintForm.TheVariants.{Number}
use Rattle.capture.specs.declared.phase.Phase.TheVariants.{Reading}
use Rattle.capture.specs.Lines.{to_come}
use Rattle.capture.specs.ListReader.{Advances, ListState}
use Rattle.capture.specs.Paged.{HandsOver}
use Rattle.capture.specs.Text.{capture_text, head_line, record_lines}
use Rattle.capture.specs.declared.format.Format.TheVariants.{One}
use Rattle.dna_play.specs.Script.{StepValue, ScriptStep, Script, format_of, has_of_three, is_of_three}
use Rattle.dna_play.specs.ScriptText.{IsStep, listed, script_form, script_line, MAX_STEPS}
use Rattle.dna_play.specs.StoredPlay.{StoredStepped}
use Rattle.dna_play.specs.StoredPlayed.{StoredPair, StoredPlayed, pair_after, played_after, stored_not_begun, stored_play, stored_plays_on}
use Rattle.dna_play.specs.StoredPlayed.{stored_plays_step}
use Rattle.dna_play.proofs.Played.Behind.{behind, next}
use Rattle.dna_play.proofs.Stored.Law.{plays_on}
use Rattle.pair_player.specs.declared.fault.PlayFault.TheVariants as faults
use Rattle.pair_player.specs.inner.Beginning.{IsBegun}
use Rattle.pair_player.specs.Playing.{HasPlayed, HasWritten, Held, Plays, Reached}
use Rattle.pair_player.specs.Playing.{held, text_a, text_b}
use Rattle.pair_player.specs.SoFar.{no_steps, with_step}
use Rattle.pair_player.specs.inner.Making.{HasHead, PutsLines, Standing, Steps, standing}
use Rattle.capture.specs.inner.Outlets.{FailsAt, Outlet, outlet}
use Rattle.capture.proofs.ListedSoFar.{opened, one_more}
use Rattle.capture.proofs.OverLaws.{all_over, beginning_over, more_over, nothing_over, on_over, some_over}
use Rattle.pair_player.proofs.Headed.{IsInTime, format_by, headed_on, text-more, three-append}

-- ---- between two steps

-- what the script's reader is, and what is to come; both ends; the lines that wait and what the writers hold; and how many steps were made
pub record Place : Type 0 where
  pub lines : ListState
  pub come : Option (List ℕ)
  pub pair : StoredPair
  pub a : List ℕ
  pub b : List ℕ
  pub three : Bool
  pub is_begun : Bool
  pub now : Held
  pub steps : ℕ

abbrev pub place : ListState → Option (List ℕ) → Standing → Held → ℕ → Place
place lines come at now steps =
    record {
      lines = lines;
      come = come;
      pair = at.pair;
      a = at.a;
      b = at.b;
      three = at.three;
      is_begun = at.is_begun;
      now = now;
      steps = steps;
    }

-- so many steps were read and made; a part of both texts was written, and the rest waits
pub record IsUnderWay (text : Option (List ℕ)) (old : Held) (p : Place) : Type 0 where
  pub reached : Reached
  pub played : HasPlayed text reached
  pub come_is : reached.come ≡ p.come
  pub pair_is : reached.played.pair ≡ p.pair
  pub count : length reached.script.steps ≡ p.steps
  pub counted : p.lines.items ≡ p.steps
  pub reading : p.lines.phase ≡ Reading
  pub over_a : HandsOver (text_a reached) p.a old.a p.now.a
  pub over_b : HandsOver (text_b reached) p.b old.b p.now.b
  pub three_is : has_of_three reached.script.steps ≡ p.three
  -- all waits until a head is written
  pub waits : p.is_begun ≡ false → (p.a ≡ text_a reached) × (p.b ≡ text_b reached)

abbrev no_step : ListState → Option (List ℕ) → Reached
no_step lines left = let script = no_steps lines.node_a lines.node_b in record { script = script; played = stored_not_begun script; come = left }

-- the heads wait
pub under_way : (text left : Option (List ℕ)) (old : Held) (lines : ListState) (at : Standing) → IsBegun text left lines at →
    IsUnderWay text old (place lines (to_come lines.unread left) at old 0)
under_way text left old lines at begun = let opens = begun.0 in record {
  reached = no_step lines (to_come lines.unread left);
  played = record { read = opened script_form text (to_come lines.unread left) lines.node_a lines.node_b opens.0 opens.1 opens.4; made = refl };
  come_is = refl;
  pair_is = sym begun.1;
  count = refl;
  counted = opens.2;
  reading = opens.3;
  over_a = subst (λ (x : List ℕ). HandsOver x at.a old.a old.a) (begun.2 ∙ sym (append-nil (head_line One lines.node_a lines.node_b)))
      (nothing_over at.a old.a);
  over_b = subst (λ (x : List ℕ). HandsOver x at.b old.b old.b) (begun.3 ∙ sym (append-nil (head_line One lines.node_b lines.node_a)))
      (nothing_over at.b old.b);
  three_is = sym begun.4;
  waits = λ e.
      (begun.2 ∙ sym (append-nil (head_line One lines.node_a lines.node_b)), begun.3 ∙ sym (append-nil (head_line One lines.node_b lines.node_a)));
}

-- ---- one step more

step_more : (script : Script) (played : StoredPlayed) (step : ScriptStep) (made : StoredStepped) → stored_play script ≡ Ok played →
    stored_plays_step played.pair step ≡ Ok made → stored_play (with_step script step) ≡ Ok (played_after played step.side step.step made)
step_more script played step made e f =
    behind stored_plays_on 0 (stored_not_begun script) played script.steps (step ∷ []) e
    ∙ next stored_plays_on _ played step [] (Ok (played_after played step.side step.step made)) (plays_on played step (Ok made) f)

pair_with : (so_far : StoredPlayed) (side : Side) (step : StepValue) (made : StoredStepped) →
    (played_after so_far side step made).pair ≡ pair_after side step made so_far.pair
pair_with so_far A step made = refl
pair_with so_far B step made = refl

module _ (text : Option (List ℕ)) (old : Held) (p : Place) (h : IsUnderWay text old p) where
  abbrev reached_on : ScriptStep → StoredStepped → Option (List ℕ) → Reached
  reached_on step made after =
      record { script = with_step h.reached.script step; played = played_after h.reached.played step.side step.step made; come = after }

  played_on : (step : ScriptStep) (made : StoredStepped) (after : Option (List ℕ)) → IsStep step → length h.reached.script.steps < MAX_STEPS →
      Consumes p.come after (script_line step)
      → stored_plays_step p.pair step ≡ Ok made → HasPlayed text (reached_on step made after)
  played_on step made after fits few consumes e = record {
    read = one_more script_form text h.reached.come after (listed h.reached.script) step h.played.read few fits
        (subst (λ (x : Option (List ℕ)). Consumes x after (script_line step)) (sym h.come_is) consumes);
    made = step_more h.reached.script h.reached.played step made h.played.made
        (ap (λ (x : StoredPair). stored_plays_step x step) h.pair_is ∙ e);
  }

  -- the lines of its records wait behind those of its side
  put_on : (side : Side) (step : StepValue) (made : StoredStepped) (put : List ℕ × List ℕ) →
      PutsLines side (p.a, p.b) put (record_lines Number made.records) →
      let script = h.reached.script in let after = played_after h.reached.played side step made in
      HandsOver (capture_text (format_of script.steps) script.node_a script.node_b after.of_a) put.0 old.a p.now.a
      × HandsOver (capture_text (format_of script.steps) script.node_b script.node_a after.of_b) put.1 old.b p.now.b
  put_on A step made put puts = (
    more_over _ p.a old.a p.now.a h.over_a (record_lines Number made.records) _ put.0
        (text-more (has_of_three h.reached.script.steps) h.reached.script.node_a h.reached.script.node_b h.reached.played.of_a made.records) puts.0,
    subst (λ (x : List ℕ). HandsOver (text_b h.reached) x old.b p.now.b) (sym puts.1) h.over_b,
  )
  put_on B step made put puts = (
    subst (λ (x : List ℕ). HandsOver (text_a h.reached) x old.a p.now.a) (sym puts.0) h.over_a,
    more_over _ p.b old.b p.now.b h.over_b (record_lines Number made.records) _ put.1
        (text-more (has_of_three h.reached.script.steps) h.reached.script.node_b h.reached.script.node_a h.reached.played.of_b made.records) puts.1,
  )

  -- and all waits still, where it did
  put_waits : (side : Side) (step : StepValue) (made : StoredStepped) (put : List ℕ × List ℕ) →
      PutsLines side (p.a, p.b) put (record_lines Number made.records) → p.is_begun ≡ false →
      let script = h.reached.script in let after = played_after h.reached.played side step made in
      (put.0 ≡ capture_text (format_of script.steps) script.node_a script.node_b after.of_a)
      × (put.1 ≡ capture_text (format_of script.steps) script.node_b script.node_a after.of_b)
  put_waits A step made put puts none = let w = h.waits none in (
    puts.0 ∙ ap (λ (x : List ℕ). x ++ record_lines Number made.records) w.0
        ∙ sym (text-more (has_of_three h.reached.script.steps) h.reached.script.node_a h.reached.script.node_b h.reached.played.of_a made.records),
    puts.1 ∙ w.1,
  )
  put_waits B step made put puts none = let w = h.waits none in (
    puts.0 ∙ w.0,
    puts.1 ∙ ap (λ (x : List ℕ). x ++ record_lines Number made.records) w.1
        ∙ sym (text-more (has_of_three h.reached.script.steps) h.reached.script.node_b h.reached.script.node_a h.reached.played.of_b made.records),
  )

  pub few_steps : p.lines.items < MAX_STEPS → length h.reached.script.steps < MAX_STEPS
  few_steps before = let count = h.count in let counted = h.counted in omega arith

  -- the step that was read is made
  pub step_on : (step : ScriptStep) (lines : ListState) (after : Option (List ℕ)) (at : Standing) →
      Advances script_form p.lines lines p.come after (Ok (Some step)) → IsInTime p.is_begun p.three (is_of_three step.step)
      → Steps step (standing p.pair p.a p.b p.three p.is_begun) at → IsUnderWay text old (place lines after at p.now (p.steps + 1))
  step_on step lines after at advances early steps =
      let count = h.count in
      let counted = h.counted in
      let script = h.reached.script in
      let made = played_after h.reached.played step.side step.step steps.made in
      let now = is_of_three step.step in
      let puts = put_on step.side step.step steps.made steps.put steps.puts in
      let all = put_waits step.side step.step steps.made steps.put steps.puts in
      let same = three-append script.steps step in
      let in_time = subst (λ (b : Bool). IsInTime p.is_begun b now) (sym h.three_is) early in
      let a = headed_on p.is_begun (has_of_three script.steps) now in_time
      script.node_a script.node_b made.of_a steps.put.0 at.a old.a p.now.a puts.0
      (λ none. (all none).0)
      (subst (λ (b : Bool). HasHead (not b && now) steps.put.0 at.a) (sym h.three_is) steps.head_a) in
      let b = headed_on p.is_begun (has_of_three script.steps) now in_time
      script.node_b script.node_a made.of_b steps.put.1 at.b old.b p.now.b puts.1
      (λ none. (all none).1)
      (subst (λ (b : Bool). HasHead (not b && now) steps.put.1 at.b) (sym h.three_is) steps.head_b) in
      let three : has_of_three script.steps || now ≡ at.three = ap (λ (b : Bool). b || now) h.three_is ∙ sym steps.three in
      record {
        reached = reached_on step steps.made after;
        played = played_on step steps.made after advances.0 (few_steps advances.1) advances.4 steps.makes;
        come_is = refl;
        pair_is = pair_with h.reached.played step.side step.step steps.made
            ∙ ap (pair_after step.side step.step steps.made) h.pair_is ∙ sym steps.pair;
        count = omega (arith, length-append h.reached.script.steps (step ∷ []));
        counted = omega (arith, advances.2);
        reading = advances.3;
        over_a = subst (λ (b : Bool). HandsOver (capture_text (format_by b) script.node_a script.node_b made.of_a) at.a old.a p.now.a) (sym same)
            a.over;
        over_b = subst (λ (b : Bool). HandsOver (capture_text (format_by b) script.node_b script.node_a made.of_b) at.b old.b p.now.b) (sym same)
            b.over;
        three_is = same ∙ three;
        waits = λ none. let still = sym steps.is_begun ∙ none in (
          a.waits still ∙ ap (λ (b : Bool). capture_text (format_by b) script.node_a script.node_b made.of_a) (sym same),
          b.waits still ∙ ap (λ (b : Bool). capture_text (format_by b) script.node_b script.node_a made.of_b) (sym same),
        );
      }

  -- some of the lines that waited were written
  pub moved_on : (later : Held) (a b : List ℕ) (three is_begun : Bool) → HandsOver p.a a p.now.a later.a → HandsOver p.b b p.now.b later.b →
      three ≡ p.three → (is_begun ≡ false → p.is_begun ≡ false) → (is_begun ≡ false → a ≡ p.a) → (is_begun ≡ false → b ≡ p.b) →
      IsUnderWay text old (place p.lines p.come (standing p.pair a b three is_begun) later p.steps)
  moved_on later a b three is_begun over_a over_b same before stays_a stays_b = record {
    reached = h.reached;
    played = h.played;
    come_is = h.come_is;
    pair_is = h.pair_is;
    count = h.count;
    counted = h.counted;
    reading = h.reading;
    over_a = on_over _ _ _ _ h.over_a a later.a over_a;
    over_b = on_over _ _ _ _ h.over_b b later.b over_b;
    three_is = h.three_is ∙ sym same;
    waits = λ none. let w = h.waits (before none) in (stays_a none ∙ w.0, stays_b none ∙ w.1);
  }

  -- ---- where a write fails, or the rest is written

  pub fails : (side : Side) (n m : ℕ) (new : Outlet × Outlet) → FailsAt side (outlet p.a p.now.a n, outlet p.b p.now.b m) new →
      Plays text old (held new.0.held new.1.held) (Err (faults.Write side))
  fails A n m new f = (h.reached, h.played, (beginning_over _ _ _ _ h.over_a new.0.held f.0.some, some_over _ _ _ _ h.over_b new.1.held f.1.some))
  fails B n m new f = (h.reached, h.played, (some_over _ _ _ _ h.over_a new.0.held f.0.some, beginning_over _ _ _ _ h.over_b new.1.held f.1.some))

  pub written : (later : Held) (a b : List ℕ) → HandsOver p.a a p.now.a later.a → HandsOver p.b b p.now.b later.b → a ≡ [] → b ≡ [] →
      HasWritten old later h.reached
  written later a b over_a over_b none_a none_b = record {
    a = all_over _ _ _ _ (on_over _ _ _ _ h.over_a a later.a over_a) none_a;
    b = all_over _ _ _ _ (on_over _ _ _ _ h.over_b b later.b over_b) none_b;
  }

-- ---- where lines may not be written before the format is known

first_is_false : (a b : Bool) → a || b ≡ false → a ≡ false
first_is_false true b e = e
first_is_false false b e = refl

-- no head is written then, as long as no step needs format 3
pub held_back : (step : ScriptStep) (old at : Standing) (streams now begun : Bool) → Steps step old at → streams ≡ false → at.three ≡ false →
    (at.three || streams ≡ false → now ≡ at.is_begun) → (old.three ≡ false → old.is_begun ≡ begun) → now ≡ begun
held_back step old at streams now begun steps holds none writes before =
    writes (ap₂ (λ (x y : Bool). x || y) none holds) ∙ steps.is_begun
    ∙ before (first_is_false old.three (is_of_three step.step) (sym steps.three ∙ none))
