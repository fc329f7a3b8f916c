-- The texts of both captures in either format, and the heads that they have in format 3 once a record needs it.
use Rattle.std.proofs.Common.{◌≡◌, ℕ, ◌≤◌, Bool, true, false, cond, List, [], ◌∷◌, ◌++◌, length, Option, refl, sym, ap, ap₂, subst, ◌∙◌, arith}
use Rattle.std.proofs.Common.{length-append, append_assoc}
use Rattle.std.specs.Prelude.{◌&&◌, ◌||◌, not, slice_set}
use Rattle.std.specs.Io.KnownBytes.{Appends}
use Rattle.capture.specs.declared.format.Format.{Format}
use Rattle.capture.specs.declared.format.Format.TheVariants.{One, Three}
use Rattle.capture.specs.declared.hint.HintForm.TheVariants.{Number, Wide}
use Rattle.capture_record.specs.declared.record.Record.{Record}
use Rattle.capture_record.specs.declared.record.Record.TheVariants.{Received}
use Rattle.capture.specs.Paged.{HandsOver}
use Rattle.capture.specs.Text.{capture_text, head_line, record_line, record_lines}
use Rattle.dna_play.specs.Script.{ScriptStep, has_of_three, is_of_three}
use Rattle.pair_player.specs.inner.Making.{HasHead}

abbrev pub format_by : (three : Bool) → Format
format_by three = cond three Three One

-- ---- a step more

or_assoc : (a b c : Bool) → a || (b || c) ≡ (a || b) || c
or_assoc true b c = refl
or_assoc false b c = refl

or_false : (b : Bool) → b || false ≡ b
or_false true = refl
or_false false = refl

pub three-append : (steps : List ScriptStep) (step : ScriptStep) →
    has_of_three (steps ++ step ∷ []) ≡ has_of_three steps || is_of_three step.step
three-append [] step = or_false (is_of_three step.step)
three-append (first ∷ later) step =
    ap (λ (b : Bool). is_of_three first.step || b) (three-append later step)
    ∙ or_assoc (is_of_three first.step) (has_of_three later) (is_of_three step.step)

-- ---- texts

-- the lines of both formats are the same
line_same : (r : Record) → record_line Wide r ≡ record_line Number r
line_same (Received hint fate bytes) = refl
line_same r = refl

lines_same : (rs : List Record) → record_lines Wide rs ≡ record_lines Number rs
lines_same [] = refl
lines_same (r ∷ rs) = ap₂ (λ (x y : List ℕ). x ++ y) (line_same r) (lines_same rs)

text_is : (three : Bool) (own peer : ℕ) (rs : List Record) →
    capture_text (format_by three) own peer rs ≡ head_line (format_by three) own peer ++ record_lines Number rs
text_is true own peer rs = ap (λ (x : List ℕ). head_line Three own peer ++ x) (lines_same rs)
text_is false own peer rs = refl

lines-append : (rs more : List Record) → record_lines Number (rs ++ more) ≡ record_lines Number rs ++ record_lines Number more
lines-append [] more = refl
lines-append (r ∷ rs) more = ap (λ (x : List ℕ). record_line Number r ++ x) (lines-append rs more) ∙
    sym (append_assoc (record_line Number r) (record_lines Number rs) (record_lines Number more))

pub text-more : (three : Bool) (own peer : ℕ) (rs more : List Record) →
    capture_text (format_by three) own peer (rs ++ more) ≡ capture_text (format_by three) own peer rs ++ record_lines Number more
text-more three own peer rs more =
    text_is three own peer (rs ++ more)
    ∙ ap (λ (x : List ℕ). head_line (format_by three) own peer ++ x) (lines-append rs more)
    ∙ sym (append_assoc (head_line (format_by three) own peer) (record_lines Number rs) (record_lines Number more))
    ∙ ap (λ (x : List ℕ). x ++ record_lines Number more) (sym (text_is three own peer rs))

-- ---- heads

pub has_number : (old new : List ℕ) → new ≡ slice_set old 6 51 → HasHead true old new
has_number old new e own peer lines is = e ∙ ap (λ (x : List ℕ). slice_set x 6 51) is

pub has_none : (old new : List ℕ) → length old ≤ 6 → HasHead true old new
has_none old new short own peer lines is = let l = ap (λ (x : List ℕ). length x) is in absurd (omega arith)

pub ruleset headed = (has_number, has_none)

-- all that waits was never written
none_taken : (whole rest : List ℕ) (old now : Option (List ℕ)) → HandsOver whole rest old now → rest ≡ whole → Appends old now []
none_taken whole rest old now h same = subst (Appends old now) (go h.written (
    let l = length-append h.written rest in let e = ap (λ (x : List ℕ). length x) (same ∙ h.parts) in omega arith)) h.taken
  where
    go : (written : List ℕ) → length written ≡ 0 → written ≡ []
    go [] e = refl
    go (x ∷ xs) e = absurd (omega arith)

-- one side's text after a step, where the format is 3 from this step on, or was before
pub record HeadedOn (is_begun three now : Bool) (own peer : ℕ) (rs : List Record) (new : List ℕ) (old later : Option (List ℕ)) : Type 0 where
  pub over : HandsOver (capture_text (format_by (three || now)) own peer rs) new old later
  pub waits : is_begun ≡ false → new ≡ capture_text (format_by (three || now)) own peer rs

-- a head that was written is not changed any more
abbrev pub IsInTime : (is_begun three now : Bool) → Type 0
IsInTime is_begun three now = is_begun && (not three && now) ≡ false

in_time : (is_begun : Bool) → is_begun && true ≡ false → is_begun ≡ false
in_time true e = e
in_time false e = refl

pub headed_on : (is_begun three now : Bool) → IsInTime is_begun three now →
    (own peer : ℕ) (rs : List Record) (put new : List ℕ) (old later : Option (List ℕ)) →
    HandsOver (capture_text (format_by three) own peer rs) put old later →
    (is_begun ≡ false → put ≡ capture_text (format_by three) own peer rs) → HasHead (not three && now) put new →
    HeadedOn is_begun three now own peer rs new old later
headed_on is_begun true now early own peer rs put new old later over all is = record {
  over = subst (λ (x : List ℕ). HandsOver (capture_text Three own peer rs) x old later) (sym is) over;
  waits = λ e. is ∙ all e;
}
headed_on is_begun false false early own peer rs put new old later over all is = record {
  over = subst (λ (x : List ℕ). HandsOver (capture_text One own peer rs) x old later) (sym is) over;
  waits = λ e. is ∙ all e;
}
headed_on is_begun false true early own peer rs put new old later over all is =
    let none = in_time is_begun early in
    let whole = is own peer (record_lines Number rs) (all none) ∙ sym (text_is true own peer rs) in
    record {
      over = subst (λ (x : List ℕ). HandsOver (capture_text Three own peer rs) x old later) (sym whole)
          (record { written = []; parts = refl; taken = none_taken _ put old later over (all none) });
      waits = λ e. whole;
    }
