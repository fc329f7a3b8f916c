-- Formats 1 and 3 spell a record alike, where both have it; and in which of them records are written.
use Rattle.std.proofs.Common.{◌≡◌, Bool, true, false, cond, List, [], ◌∷◌, ◌++◌, ap₂, refl, ◌⊎◌, inl, inr}
use Rattle.std.specs.List.{AllByRecursion}
use Rattle.std.proofs.lemmas.Bool.{cases_Bool}
use Rattle.capture.specs.declared.format.Format.TheVariants.{One, Three}
use Rattle.capture.specs.declared.hint.HintForm.TheVariants.{Number, Wide}
use Rattle.capture_record.specs.declared.record.Record.{Record}
use Rattle.capture_record.specs.declared.record.Record.TheVariants.{Sent, Received, Noise, User}
use Rattle.capture.specs.Range.{IsInFormat, format_for, in_each_format}
use Rattle.capture.specs.Text.{first_form, record_line, record_lines}

pub wide_line : (r : Record) → record_line Wide r ≡ record_line Number r
wide_line (Sent bytes) = refl
wide_line (Received hint fate bytes) = refl
wide_line (Noise bytes) = refl
wide_line (User event) = refl

pub wide_lines : (rs : List Record) → record_lines Wide rs ≡ record_lines Number rs
wide_lines [] = refl
wide_lines (r ∷ rs) = ap₂ (λ x y. x ++ y) (wide_line r) (wide_lines rs)

-- it is one of the two
pub one_or_three : (rs : List Record) → (format_for rs ≡ One) ⊎ (format_for rs ≡ Three)
one_or_three [] = inl refl
one_or_three (r ∷ rs) = elim (cases_Bool (in_each_format r)) [ inl has ↦ rw has (one_or_three rs) | inr lacks ↦ rw lacks (inr refl) ]

-- so the lines have numbers for hints
pub lines_for : (all rs : List Record) → record_lines (first_form (format_for all)) rs ≡ record_lines Number rs
lines_for all rs = elim (one_or_three all) [ inl one ↦ rw one refl | inr three ↦ rw three (wide_lines rs) ]

any_in_three : (rs : List Record) → AllByRecursion (IsInFormat Three) rs
any_in_three [] = tt
any_in_three (r ∷ rs) = (tt, any_in_three rs)

all_in_one : (rs : List Record) → format_for rs ≡ One → AllByRecursion (IsInFormat One) rs
all_in_one [] e = tt
all_in_one (r ∷ rs) e = by_test (λ one. all_in_one rs one) (in_each_format r) refl e
  where
    by_test : (format_for rs ≡ One → AllByRecursion (IsInFormat One) rs) → (has : Bool) → in_each_format r ≡ has →
        cond has (format_for rs) Three ≡ One → AllByRecursion (IsInFormat One) (r ∷ rs)
    by_test later true has one = (has, later one)
    by_test later false lacks one = absurd cc

-- and it has a line for each
pub in_format_for : (rs : List Record) → AllByRecursion (IsInFormat (format_for rs)) rs
in_format_for rs = elim (one_or_three rs) [ inl one ↦ rw one (all_in_one rs one) | inr three ↦ rw three (any_in_three rs) ]
