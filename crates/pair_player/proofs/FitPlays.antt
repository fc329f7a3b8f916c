-- Of every script the records that its ends make have lines, and are few enough for a text.
use Rattle.std.proofs.Common.{◌≡◌, ℕ, ◌+◌, ◌*◌, ◌≤◌, Bool, true, false, cond, List, [], ◌∷◌, ◌++◌, length, Result, Ok, Err, refl, subst, arith}
use Rattle.std.proofs.Common.{length-append}
use Rattle.std.specs.Prelude.{drop}
use Rattle.std.specs.List.{AllByRecursion}
use Rattle.std.specs.Result.{result_map_both}
use Rattle.wire_base.specs.declared.side.Side.{Side}
use Rattle.wire_base.specs.declared.side.Side.TheVariants.{A, B}
use Rattle.capture.specs.declared.limit.TheConstants.{MAX_RECORDS}
use Rattle.capture_record.specs.declared.record.Record.{Record}
use Rattle.capture.specs.declared.format.Format.TheVariants.{One}
use Rattle.capture_record.specs.Range.{IsRecord}
use Rattle.capture.specs.Range.{IsInFormat}
use Rattle.dna_play.specs.Script.{StepValue, ScriptStep, Script, format_of, has_of_three}
use Rattle.dna_play.specs.ScriptText.{IsScript, IsStep, step_bytes}
use Rattle.dna_play.specs.Stop.{Stop, if_made, plays_all}
use Rattle.dna_play.specs.StoredPlay.{StoredStepped, stored_plays}
use Rattle.dna_play.specs.StoredPlayed.{StoredSide, StoredPlayed, after_other, after_own, is_of_line, left_by, new_side, own_side, played_after}
use Rattle.dna_play.specs.StoredPlayed.{stored_not_begun, stored_play, stored_plays_on, stored_plays_step}
use Rattle.dna_play.proofs.Links.Waiting.{waiting}
use Rattle.dna_play.proofs.Played.Walk.{IfMade, Leaves, plays_leave}
use Rattle.dna_play.proofs.Bytes.{bytes_tested}
use Rattle.dna_play.proofs.EachElement.{left_all, more_all}
use Rattle.pair_player.proofs.FitRecords.{EndFits, StepFits, UnitFits}
use Rattle.pair_player.proofs.FitFormats.{InOne, NeedsOne, each_one, plays_one}
use Rattle.pair_player.proofs.FitSteps.{plays_fit}
use Rattle.pair_player.proofs.Headed.{format_by}

-- ---- a side

-- behind so many steps: its records have lines, in format 1 where none of the steps needs another; and with the pieces that wait there they are at
-- most two for each step
record SideFits (three : Bool) (steps : ℕ) (side : StoredSide) (records : List Record) : Type 0 where
  end : EndFits side.end
  units : AllByRecursion UnitFits side.coming
  lines : AllByRecursion IsRecord records
  formats : three ≡ false → AllByRecursion (IsInFormat One) records
  few : length records + waiting side.end.links.links ≤ 2 * steps

side_begins : (three : Bool) (node peer : ℕ) → SideFits three 0 (new_side node peer) []
side_begins three node peer = record {
  end = record { station = record { received_fits = omega arith; held_fits = tt }; links = tt };
  units = tt;
  lines = tt;
  formats = λ one. tt;
  few = omega arith;
}

left_fits : (step : StepValue) (coming : List (List ℕ)) → AllByRecursion UnitFits coming → AllByRecursion UnitFits (left_by step coming)
left_fits step coming h = go (is_of_line step)
  where
    go : (b : Bool) → AllByRecursion UnitFits (cond b (drop 1 coming) coming)
    go true = left_all UnitFits 1 coming h
    go false = h

module _ (three : Bool) (steps : ℕ) (side : StoredSide) (records : List Record) (h : SideFits three steps side records) where
  -- behind a step of it
  side_steps : (step : StepValue) (made : StoredStepped) → StepFits made → (three ≡ false → InOne made) → Leaves side.end side.coming step made →
      SideFits three (steps + 1) (after_own step made side) (records ++ made.records)
  side_steps step made fits ones leaves =
      let l = length-append records made.records in let before = h.few in let now = leaves.few in
      record {
        end = fits.end;
        units = left_fits step side.coming h.units;
        lines = more_all IsRecord records made.records h.lines fits.records;
        formats = λ one. more_all (IsInFormat One) records made.records (h.formats one) (ones one);
        few = omega arith;
      }

  -- and of the other
  side_waits : (made : StoredStepped) → StepFits made → SideFits three (steps + 1) (after_other made side) records
  side_waits made fits = let before = h.few in
      record {
        end = h.end;
        units = more_all UnitFits side.coming made.sent h.units fits.sent;
        lines = h.lines;
        formats = h.formats;
        few = omega arith;
      }

  -- what a step of it makes
  step_fits : (step : ScriptStep) → IsStep step → IfMade StepFits (stored_plays side.end side.coming step.step)
  step_fits step fits = plays_fit side.end h.end side.coming h.units step.step fits.spelling.numbers
      (record { are = bytes_tested (step_bytes step.step) fits.spelling.bytes; few = fits.short })

-- ---- both

abbrev PlayedFits : Bool → ℕ → StoredPlayed → Type 0
PlayedFits three steps played = SideFits three steps played.pair.a played.of_a × SideFits three steps played.pair.b played.of_b

-- a step of a script, which needs format 3 only where this says so
abbrev FitsIn : Bool → ScriptStep → Type 0
FitsIn three step = IsStep step × NeedsOne three step

module _ (three : Bool) (steps : ℕ) (so_far : StoredPlayed) (h : PlayedFits three steps so_far) (step : StepValue) where
  after_fits : (side : Side) (result : Result StoredStepped Stop) → IfMade StepFits result → (three ≡ false → IfMade InOne result) →
      IfMade (Leaves (own_side side so_far.pair).end (own_side side so_far.pair).coming step) result →
      IfMade (PlayedFits three (steps + 1)) (result_map_both (played_after so_far side step) (λ (stop : Stop). stop) result)
  after_fits A (Ok made) fits ones leaves =
      (side_steps three steps _ _ h.0 step made fits ones leaves, side_waits three steps _ _ h.1 made fits)
  after_fits B (Ok made) fits ones leaves =
      (side_waits three steps _ _ h.0 made fits, side_steps three steps _ _ h.1 step made fits ones leaves)
  after_fits side (Err stop) fits ones leaves = tt

next_fits : (three : Bool) (steps : ℕ) (so_far : StoredPlayed) (step : ScriptStep) → PlayedFits three steps so_far → FitsIn three step →
    IfMade (PlayedFits three (steps + 1)) (stored_plays_on so_far step)
unfolding stored_plays_step
next_fits three steps so_far step h fits =
    let own = own_side step.side so_far.pair in
    after_fits three steps so_far h step.step step.side _ (go step.side)
    (λ one. plays_one own.end own.coming step.step (fits.1 one)) (plays_leave own.end own.coming step.step)
  where
    go : (side : Side) → IfMade StepFits (stored_plays (own_side side so_far.pair).end (own_side side so_far.pair).coming step.step)
    go A = step_fits three steps _ _ h.0 step fits.0
    go B = step_fits three steps _ _ h.1 step fits.0

-- ---- all steps

module _ (three : Bool) where
  after_step : (steps most : ℕ) (so_far : StoredPlayed) (later : List ScriptStep) →
      ((next : StoredPlayed) → PlayedFits three (steps + 1) next →
      IfMade (PlayedFits three most) (plays_all stored_plays_on (steps + 1) next later)) →
      (result : Result StoredPlayed Stop) → IfMade (PlayedFits three (steps + 1)) result →
      IfMade (PlayedFits three most) (if_made result (λ next. plays_all stored_plays_on (steps + 1) next later)
      (λ stop. record { steps = steps; stop = stop; so_far = so_far }))
  after_step steps most so_far later all (Ok next) fits = all next fits
  after_step steps most so_far later all (Err stop) fits = tt

  all_fit : (steps most : ℕ) (so_far : StoredPlayed) (list : List ScriptStep) → steps + length list ≡ most → PlayedFits three steps so_far →
      AllByRecursion IsStep list → AllByRecursion (NeedsOne three) list →
      IfMade (PlayedFits three most) (plays_all stored_plays_on steps so_far list)
  all_fit steps most so_far [] count h fits ones = let same : steps ≡ most = omega arith in
      subst (λ (n : ℕ). PlayedFits three n so_far) same h
  all_fit steps most so_far (step ∷ later) count h fits ones =
      after_step steps most so_far later (λ next k. all_fit (steps + 1) most next later (omega arith) k fits.1 ones.1)
      (stored_plays_on so_far step) (next_fits three steps so_far step h (fits.0, ones.0))

-- what was played of a script has lines in its format, and few enough
pub record HasLines (steps : List ScriptStep) (played : StoredPlayed) : Type 0 where
  pub lines_a : AllByRecursion IsRecord played.of_a
  pub lines_b : AllByRecursion IsRecord played.of_b
  pub formats_a : AllByRecursion (IsInFormat (format_of steps)) played.of_a
  pub formats_b : AllByRecursion (IsInFormat (format_of steps)) played.of_b
  pub few_a : length played.of_a ≤ MAX_RECORDS
  pub few_b : length played.of_b ≤ MAX_RECORDS

in_format : (three : Bool) (records : List Record) → (three ≡ false → AllByRecursion (IsInFormat One) records) →
    AllByRecursion (IsInFormat (format_by three)) records
in_format false records all = all refl
in_format true [] all = tt
in_format true (r ∷ later) all = (tt, in_format true later (λ e. absurd cc))

pub played_lines : (script : Script) (played : StoredPlayed) → IsScript script → stored_play script ≡ Ok played → HasLines script.steps played
played_lines script played fits made =
    let most = fits.few in
    let three = has_of_three script.steps in
    let h : PlayedFits three (length script.steps) played = subst (IfMade (PlayedFits three (length script.steps))) made
    (all_fit three 0 (length script.steps) (stored_not_begun script) script.steps (omega arith) (side_begins three _ _, side_begins three _ _)
    fits.each (each_one script.steps three (λ e. e))) in
    let a = h.0.few in let b = h.1.few in
    record {
      lines_a = h.0.lines;
      lines_b = h.1.lines;
      formats_a = in_format three played.of_a h.0.formats;
      formats_b = in_format three played.of_b h.1.formats;
      few_a = omega arith;
      few_b = omega arith;
    }
