-- At any time of a script that starts each side at most once, both ends are read off ends with their nodes, of which holds all that lets an end send
-- what it chooses and take what comes.
use Rattle.dna_play.proofs.Prelude.{◌≡◌, ℕ, ◌+◌, ◌≤◌, List, [], ◌++◌, length, refl, sym, ap, ◌∙◌, subst, arith, IsNode, ScriptStep, Script}
use Rattle.dna_play.proofs.Prelude.{MAX_STEPS, IsStep, IsScript, StoredEnd, stored_plays, Played, head_a, head_b, not_begun, StartsOnce}
use Rattle.dna_play.proofs.{Played.Steps.one_end, Played.SentGrows.all_grows, Ends.Stage.Stage, Ends.Stage.new_stage, Stored.Now.StoredNow}
use Rattle.dna_play.proofs.{Stored.Right.IsMade, Stored.Right.IsRight, Stored.Steps.step_right}
use Rattle.dna_play.proofs.Played.Walk.{off_line, one_off, stored_leaves}
use Rattle.dna_play.proofs.Played.Reached.{Reached, Progress, progress_of, exchanged_progress, one_more, exchanged, StepOfA, OfStep}
use Rattle.dna_play.proofs.Played.Reached.{reached_holds}
use Rattle.dna_play.proofs.Played.Runs.{Going, going_exchange, going_keeps, not_begun_going}
use Rattle.dna_play.proofs.Played.Facts.{TrueEnds, played_of, later_a}
use Rattle.dna_play.proofs.Ends.TrueEnd.{End, stored, bytes_of, coming, new_end}
use Rattle.dna_play.proofs.Stored.Left.{line_left, line_grows, longer, was_sent}

-- of an end beside the other, after this many steps
pub record IsAt (own other : End) (steps : ℕ) : Type 0 where
  pub stage : Stage own
  pub passed : own.passed ≤ steps
  -- what passed was sent
  pub there : own.passed ≤ length other.half.sent

pub record Stages (steps : ℕ) (so_far : Played) : Type 0 where
  pub both : TrueEnds
  pub is : played_of both ≡ so_far
  pub of_a : IsAt both.a both.b steps
  pub of_b : IsAt both.b both.a steps

-- each side was started at most once, by so many steps as a script may have
pub record Allowed (p : Progress) : Type 0 where
  pub node_a : IsNode p.node_a
  pub node_b : IsNode p.node_b
  pub few_a : p.starts_a ≤ 1
  pub few_b : p.starts_b ≤ 1
  pub few : p.steps ≤ MAX_STEPS

abbrev allowed_exchange : (p : Progress) → Allowed p → Allowed (exchanged_progress p)
allowed_exchange p all = record { node_a = all.node_b; node_b = all.node_a; few_a = all.few_b; few_b = all.few_a; few = all.few }

pub record Standing (p : Progress) (so_far : Played) : Type 0 where
  pub allowed : Allowed p
  pub going : Going p so_far
  pub stages : Stages p.steps so_far

abbrev pub standing_exchange : (p : Progress) (so_far : Played) → Standing p so_far → Standing (exchanged_progress p) (exchanged so_far)
standing_exchange p so_far s = record {
  allowed = allowed_exchange p s.allowed;
  going = going_exchange p so_far s.going;
  stages = record {
    both = record { a = s.stages.both.b; b = s.stages.both.a; of_a = s.stages.both.of_b; of_b = s.stages.both.of_a };
    is = ap exchanged s.stages.is;
    of_a = s.stages.of_b;
    of_b = s.stages.of_a;
  };
}

-- ---- a step

module _ (p : Progress) (so_far : Played) (s : Standing p so_far) where
  abbrev own : End
  own = s.stages.both.a

  abbrev other : End
  other = s.stages.both.b

  -- what a step of side a needs is known
  now_of_a : StoredNow own other
  now_of_a = let allowed = s.allowed in let few = allowed.few in let passed = s.stages.of_a.passed in record {
    stage = s.stages.of_a.stage;
    theirs = s.stages.of_b.stage;
    later = later_a p allowed.node_a allowed.node_b allowed.few_a allowed.few_b s.stages.both (subst (Going p) (sym s.stages.is) s.going);
    few = omega arith;
  }

  -- so it is right
  pub right_of_a : (step : ScriptStep) → IsStep step →
      IsRight own other step.step (stored_plays (stored own) (coming own other.half) step.step)
  right_of_a step fits = step_right own other now_of_a step fits

stages_keep : (p : Progress) (so_far : Played) (s : Standing p so_far) (step : ScriptStep) → IsStep step → {next : Played} →
    StepOfA (played_of s.stages.both) step.step next → Stages (p.steps + 1) next
stages_keep p so_far s step fits (OfStep made half is makes) =
    let both = s.stages.both in let a = s.stages.of_a in let b = s.stages.of_b in
    let m : IsMade both.a both.b step.step made = subst (IsRight both.a both.b step.step) is (right_of_a p so_far s step fits) in
    let left = stored_leaves (stored both.a) (coming both.a both.b.half) step.step made is in
    let same : m.after.passed ≡ both.a.passed + off_line step.step = ap (λ (e : StoredEnd). e.passed) m.same ∙ left.passed in
    let few_a = a.passed in let few_b = b.passed in let one = one_off step.step in
    let there = was_sent both.a.passed (off_line step.step) both.b.half.sent a.there left.there in
    let more = all_grows both.b.half m.makes in
    record {
      both = record { a = m.after; b = both.b; of_a = both.of_a ++ made.records; of_b = both.of_b };
      is = rw (
        m.same,
        same,
        line_left step.step both.a.passed (bytes_of both.b.half.sent),
        line_grows both.b.passed both.a.half.sent m.after.half.sent b.there more,
        m.sent,
        one_end m.makes makes,
      ) refl;
      of_a = record { stage = m.stage; passed = omega arith; there = omega arith };
      of_b = record { stage = b.stage; passed = omega arith; there = longer both.a.half.sent m.after.half.sent both.b.passed more b.there };
    }

-- ---- all steps

-- what is kept where no side starts twice
abbrev Stands : Progress → Played → Type 0
Stands p so_far = Allowed p → Standing p so_far

keeps : (p : Progress) (so_far next : Played) (step : ScriptStep) → IsStep step → StepOfA so_far step.step next → Stands p so_far →
    Stands (one_more step.step p) next
keeps p so_far next step fits made stands allowed =
    let few_a = allowed.few_a in let few = allowed.few in
    let s = stands (record { node_a = allowed.node_a; node_b = allowed.node_b; few_a = omega arith; few_b = allowed.few_b; few = omega arith }) in
    record {
      allowed = allowed;
      going = going_keeps p so_far step.step made s.going;
      stages = stages_keep p so_far s step fits (subst (λ (x : Played). StepOfA x step.step next) (sym s.stages.is) made);
    }

begun : (script : Script) → Stages 0 (not_begun script)
begun script = record {
  both = record { a = new_end (head_a script); b = new_end (head_b script); of_a = []; of_b = [] };
  is = refl;
  of_a = record { stage = new_stage (head_a script); passed = omega arith; there = omega arith };
  of_b = record { stage = new_stage (head_b script); passed = omega arith; there = omega arith };
}

pub reached_standing : (script : Script) → IsScript script → {first later : List ScriptStep} {so_far : Played} → Reached script first later so_far →
    StartsOnce first → length first ≤ MAX_STEPS → Standing (progress_of script first) so_far
reached_standing script fits r once few = reached_holds Stands
    (λ p so_far stands allowed. standing_exchange p so_far (stands (allowed_exchange (exchanged_progress p) allowed))) IsStep keeps r fits.each
    (λ allowed. record { allowed = allowed; going = not_begun_going script; stages = begun script })
    (record { node_a = fits.node_a; node_b = fits.node_b; few_a = once.of_a; few_b = once.of_b; few = few })
