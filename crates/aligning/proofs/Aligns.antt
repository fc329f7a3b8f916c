-- Laws of an alignment, by the records of the capture.
use Rattle.std.proofs.Common.{◌≡◌, ℕ, ◌+◌, ◌≤◌, Bool, true, false, if◌then◌else◌, Option, Some, None, List, [], ◌∷◌, map, refl, ap, arith}
use Rattle.std.proofs.Common.{◌++◌, length, drop, sym, ◌∙◌, append-nil}
use Rattle.std.specs.Prelude.{IfSome}
use Rattle.std.proofs.lemmas.List.{drop_all}
use Rattle.capture.specs.declared.hint.HintForm.TheVariants.{Number}
use Rattle.capture_record.specs.declared.record.Record.{Record}
use Rattle.capture_record.specs.declared.record.Record.TheVariants.{Sent, Received, Noise, User}
use Rattle.capture.specs.Range.{format_for}
use Rattle.capture.specs.Text.{capture_text, head_line, record_lines}
use Rattle.capture.proofs.WideLaws.{lines_for}
use Rattle.aligning.specs.Aligned.{aligned, choice, fits, or_next, first_fit}
use Rattle.aligning.specs.Laws.{HintsRise, without_hint}

-- ---- nothing but hints changes

pub hints_alone : (next : ℕ) (other rs : List Record) → map without_hint (aligned next other rs) ≡ map without_hint rs
hints_alone next other [] = refl
hints_alone next other (Sent unit ∷ rs) = ap (λ (rest : List Record). Sent unit ∷ rest) (hints_alone next other rs)
hints_alone next other (Received hint fate bytes ∷ rs) =
    ap (λ (rest : List Record). Received 0 fate bytes ∷ rest) (hints_alone ((choice bytes next other).0 + 1) (choice bytes next other).1 rs)
hints_alone next other (Noise bytes ∷ rs) = ap (λ (rest : List Record). Noise bytes ∷ rest) (hints_alone next other rs)
hints_alone next other (User event ∷ rs) = ap (λ (rest : List Record). User event ∷ rest) (hints_alone next other rs)

-- ---- hints rise

weaker : (least more : ℕ) (found : Option (ℕ × List Record)) → least ≤ more → IfSome found (λ (f : ℕ × List Record). more ≤ f.0) →
    IfSome found (λ (f : ℕ × List Record). least ≤ f.0)
weaker least more None le h = tt
weaker least more (Some f) le h = omega arith

picked : (next : ℕ) (here : Bool) (rs : List Record) (later : Option (ℕ × List Record)) → IfSome later (λ (f : ℕ × List Record). next + 1 ≤ f.0) →
    IfSome (if here then Some (next, rs) else later) (λ (f : ℕ × List Record). next ≤ f.0)
picked next true rs later h = omega arith
picked next false rs later h = weaker next (next + 1) later (omega arith) h

fit_from : (received : List ℕ) (next : ℕ) (other : List Record) → IfSome (first_fit received next other) (λ (f : ℕ × List Record). next ≤ f.0)
fit_from received next [] = tt
fit_from received next (Sent unit ∷ rs) =
    picked next (fits received unit) rs (first_fit received (next + 1) rs) (fit_from received (next + 1) rs)
fit_from received next (Received hint fate bytes ∷ rs) = fit_from received next rs
fit_from received next (Noise bytes ∷ rs) = fit_from received next rs
fit_from received next (User event ∷ rs) = fit_from received next rs

chosen_from : (next : ℕ) (found : Option (ℕ × List Record)) → IfSome found (λ (f : ℕ × List Record). next ≤ f.0) → next ≤ (or_next next found).0
chosen_from next None h = omega arith
chosen_from next (Some f) h = h

pub hints_rise : (next : ℕ) (other rs : List Record) → HintsRise next (aligned next other rs)
hints_rise next other [] = tt
hints_rise next other (Sent unit ∷ rs) = hints_rise next other rs
hints_rise next other (Received hint fate bytes ∷ rs) = (
  chosen_from next (first_fit bytes next other) (fit_from bytes next other),
  hints_rise ((choice bytes next other).0 + 1) (choice bytes next other).1 rs,
)
hints_rise next other (Noise bytes ∷ rs) = hints_rise next other rs
hints_rise next other (User event ∷ rs) = hints_rise next other rs

-- ---- the text

-- the head and all lines were put, and no record is left
pub all_put : (own peer : ℕ) (other all : List Record) (text : List ℕ) (next : ℕ) (left : List Record) (at : ℕ) → length all ≤ at →
    text ++ record_lines Number (aligned next left (drop at all)) ≡ head_line (format_for all) own peer ++ record_lines Number (aligned 0 other all)
    → text ≡ capture_text (format_for all) own peer (aligned 0 other all)
all_put own peer other all text next left at end put =
    sym (append-nil text) ∙ ap (λ (rs : List Record). text ++ record_lines Number (aligned next left rs)) (sym (drop_all at all end)) ∙ put
    ∙ ap (λ (lines : List ℕ). head_line (format_for all) own peer ++ lines) (sym (lines_for all (aligned 0 other all)))
