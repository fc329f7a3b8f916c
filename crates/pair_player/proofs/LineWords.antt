-- The line of a step: what is read is its one spelling, and its spelling is read.
use Rattle.std.proofs.Common.{◌≡◌, ℕ, ◌<◌, Bool, true, false, cond, leb, List, length, Result, Ok, Err, sym, ap, subst, ◌∙◌, arith, take}
use Rattle.std.specs.Prelude.{IfOk, IfErr}
use Rattle.wire_base.specs.declared.side.Side.{Side}
use Rattle.wire_base.specs.Side.{side_letter}
use Rattle.capture.specs.declared.fault.Departure.{Departure}
use Rattle.capture.specs.declared.fault.Departure.TheVariants.{Syntax, TooLong, TooMany, Part}
use Rattle.capture.specs.Text.{spaced}
use Rattle.capture.specs.ListReader.{IsLineOf}
use Rattle.capture.specs.Sided.{side_at}
use Rattle.capture.proofs.SidedLaws.{side_again, side_takes}
use Rattle.capture.proofs.BytesLaws.{limited, limited_then}
use Rattle.capture.proofs.Shown.{Shows, shows_map, shows_must}
use Rattle.dna_play.specs.Script.{StepValue, ScriptStep}
use Rattle.dna_play.specs.ScriptText.{step_text, line_text, step_bytes, most_bytes, HasSpelling, WordsDepart, script_form}
use Rattle.pair_player.specs.Step.{line_with}
use Rattle.pair_player.specs.declared.step.LineEntry.{LineEntry}
use Rattle.pair_player.specs.inner.Entries.{parted}
use Rattle.pair_player.specs.inner.Reading.{step_at, line_at}
use Rattle.pair_player.proofs.StepLaws.{IsStepOf, IsLongStepOf, step_shows, step_again}

abbrev pub at_side : Side → StepValue → ScriptStep
at_side side step = record { side = side; step = step }

-- a line that was read but for the length of its message
abbrev IsLongLineOf : List ℕ → ScriptStep → Type 0
IsLongLineOf text line = (text ≡ line_text line) × HasSpelling line × (most_bytes line.step < length (step_bytes line.step))

-- ---- the line

line_shows : (text : List ℕ) → Shows (IsLineOf script_form text) (IsLongLineOf text) (line_at text)
unfolding line_at
line_shows text =
    shows_must (IsLineOf script_form text) (IsLongLineOf text) (side_at text) _ (λ parts cut.
    let front = side_takes text parts cut in
    shows_map (IsStepOf parts.1) (IsLongStepOf parts.1) (IsLineOf script_form text) (IsLongLineOf text) (at_side parts.0) (step_at parts.1)
    (step_shows parts.1)
    (λ step h. record {
      fits = record { spelling = record { numbers = h.1; bytes = h.2 }; short = h.3 };
      spelled = front ∙ ap (spaced (side_letter parts.0)) h.0;
    })
    (λ step h. (front ∙ ap (spaced (side_letter parts.0)) h.0, record { numbers = h.1; bytes = h.2 }, h.3)))

pub line_again : (side : Side) (step : StepValue) → HasSpelling (at_side side step) → line_at (line_text (at_side side step)) ≡ limited
    (most_bytes step) (step_bytes step) (at_side side step)
unfolding line_at
line_again side step h =
    rw (side_again side (step_text step), step_again step h.numbers h.bytes) (limited_then (most_bytes step) (step_bytes step) step (at_side side))

-- ---- what a reading says of its line

line_ok : (text : List ℕ) (line : ScriptStep) → line_at text ≡ Ok line → IsLineOf script_form text line
line_ok text line e = subst (Shows (IsLineOf script_form text) (IsLongLineOf text)) e (line_shows text)

-- neither `Ok` nor `TooLong` is `Syntax`
limited_apart : (most : ℕ) (bytes : List ℕ) (line : ScriptStep) → limited most bytes line ≡ Err Syntax → ⊥
limited_apart most bytes line e = by_test (leb (length bytes) most) e
  where
    by_test : (t : Bool) → ◌≡◌ {A = Result ScriptStep Departure} (cond t (Ok line) (Err TooLong)) (Err Syntax) → ⊥
    by_test true h = cc
    by_test false h = cc

words_depart : (kind : Departure) (text : List ℕ) → line_at text ≡ Err kind → WordsDepart kind text
words_depart Syntax text e =
    λ line h spelled. limited_apart (most_bytes line.step) (step_bytes line.step) line
    (sym (line_again line.side line.step h) ∙ ap line_at (sym spelled) ∙ e)
words_depart TooLong text e =
    let shown = subst (Shows (IsLineOf script_form text) (IsLongLineOf text)) e (line_shows text) in
    long_from shown.0 shown.1
  where
    long_from : (line : ScriptStep) → IsLongLineOf text line → WordsDepart TooLong text
    long_from line h = (line, h.1, (λ short. let long = h.2 in absurd (omega arith)), h.0)
words_depart TooMany text e = subst (Shows (IsLineOf script_form text) (IsLongLineOf text)) e (line_shows text)
words_depart Part text e = subst (Shows (IsLineOf script_form text) (IsLongLineOf text)) e (line_shows text)

-- the same of a reading in two parts
pub read_step : (room text : List ℕ) (read : Result (LineEntry × ℕ) Departure) → line_at text ≡ parted room read →
    IfOk read (λ parts. IsLineOf script_form text (line_with parts.0 (take parts.1 room)))
read_step room text (Ok (line, len)) e = line_ok text (line_with line (take len room)) e
read_step room text (Err kind) e = tt

pub read_departs : (room text : List ℕ) (read : Result (LineEntry × ℕ) Departure) → line_at text ≡ parted room read →
    IfErr read (λ kind. WordsDepart kind text)
read_departs room text (Ok parts) e = tt
read_departs room text (Err kind) e = words_depart kind text e
