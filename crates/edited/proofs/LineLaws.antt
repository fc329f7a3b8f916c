-- Lines that pass, by the LFs that are found.
use Rattle.std.proofs.Common.{◌≡◌, ◌≢◌, ℕ, zero, suc, ◌+◌, ◌<◌, Bool, if◌then◌else◌, List, [], ◌∷◌, ◌++◌, length, get_or, take, drop}
use Rattle.std.proofs.Common.{refl, sym, ap, ◌∙◌, arith}
use Rattle.std.proofs.lemmas.Bool.{eq-eqb, ne_eqb}
use Rattle.std.proofs.lemmas.List.{append_assoc, drop-drop, length-drop, take-append-drop}
use Rattle.std.proofs.Math.Seq.{take-add, take-length, drop-length}
use Rattle.edited.specs.Edited.{first_lines, behind_lines}
use Rattle.edited.specs.inner.Lines.{Reaches}

-- no LF stands below this place
abbrev pub NoLf : ℕ → List ℕ → Type 0
NoLf upto bytes = (j : ℕ) → j < upto → get_or bytes j 0 ≢ 10

abbrev later_none : (upto b : ℕ) (bytes : List ℕ) → NoLf (suc upto) (b ∷ bytes) → NoLf upto bytes
later_none upto b bytes none = λ j lt. none (suc j) (omega arith)

-- ---- one byte of lines that pass

first-lf : (n b : ℕ) (text : List ℕ) → b ≡ 10 → first_lines (suc n) (b ∷ text) ≡ b ∷ first_lines n text
first-lf n b text lf = ap (λ (is : Bool). b ∷ first_lines (if is then n else suc n) text) (eq-eqb b 10 lf)

first-other : (n b : ℕ) (text : List ℕ) → b ≢ 10 → first_lines (suc n) (b ∷ text) ≡ b ∷ first_lines (suc n) text
first-other n b text other = ap (λ (is : Bool). b ∷ first_lines (if is then n else suc n) text) (ne_eqb b 10 other)

behind-lf : (n b : ℕ) (text : List ℕ) → b ≡ 10 → behind_lines (suc n) (b ∷ text) ≡ behind_lines n text
behind-lf n b text lf = ap (λ (is : Bool). behind_lines (if is then n else suc n) text) (eq-eqb b 10 lf)

behind-other : (n b : ℕ) (text : List ℕ) → b ≢ 10 → behind_lines (suc n) (b ∷ text) ≡ behind_lines (suc n) text
behind-other n b text other = ap (λ (is : Bool). behind_lines (if is then n else suc n) text) (ne_eqb b 10 other)

-- ---- where the text is at its end

pub first-nil : (n : ℕ) → first_lines n [] ≡ []
first-nil zero = refl
first-nil (suc n) = refl

pub behind-nil : (n : ℕ) → behind_lines n [] ≡ []
behind-nil zero = refl
behind-nil (suc n) = refl

-- ---- the line at hand ends at a place

pub ends : (n at : ℕ) (bytes rest : List ℕ) → at < length bytes → get_or bytes at 0 ≡ 10 → NoLf at bytes →
    (first_lines (suc n) (bytes ++ rest) ≡ take (suc at) bytes ++ first_lines n (drop (suc at) bytes ++ rest))
    × (behind_lines (suc n) (bytes ++ rest) ≡ behind_lines n (drop (suc at) bytes ++ rest))
ends n at [] rest lt lf none = absurd (omega arith)
ends n zero (b ∷ bytes) rest lt lf none = (first-lf n b (bytes ++ rest) lf, behind-lf n b (bytes ++ rest) lf)
ends n (suc at) (b ∷ bytes) rest lt lf none =
    let ih = ends n at bytes rest (omega arith) lf (later_none at b bytes none) in
    let other = none 0 (omega arith) in
    (first-other n b (bytes ++ rest) other ∙ ap (λ (t : List ℕ). b ∷ t) ih.0, behind-other n b (bytes ++ rest) other ∙ ih.1)

-- it doesn't end in these bytes
pub goes_on : (n : ℕ) (bytes rest : List ℕ) → NoLf (length bytes) bytes →
    (first_lines (suc n) (bytes ++ rest) ≡ bytes ++ first_lines (suc n) rest)
    × (behind_lines (suc n) (bytes ++ rest) ≡ behind_lines (suc n) rest)
goes_on n [] rest none = (refl, refl)
goes_on n (b ∷ bytes) rest none =
    let ih = goes_on n bytes rest (later_none (length bytes) b bytes none) in
    let other = none 0 (omega arith) in
    (first-other n b (bytes ++ rest) other ∙ ap (λ (t : List ℕ). b ∷ t) ih.0, behind-other n b (bytes ++ rest) other ∙ ih.1)

-- ---- how far bytes reach

pub reaches_none : (lines : ℕ) (bytes : List ℕ) → Reaches lines bytes 0 lines
reaches_none lines bytes = record { within = omega arith; first = λ rest. refl; behind = λ rest. refl; progress = omega arith }

pub reaches_line : (lines : ℕ) (bytes : List ℕ) (len left at : ℕ) → Reaches lines bytes len (suc left) → at < length (drop len bytes) →
    get_or (drop len bytes) at 0 ≡ 10 → NoLf at (drop len bytes) → Reaches lines bytes (len + suc at) left
reaches_line lines bytes len left at r lt lf none =
    let beyond : drop (suc at) (drop len bytes) ≡ drop (len + suc at) bytes = drop-drop (suc at) len bytes in
    record {
      within = omega (arith, length-drop len bytes, r.within);
      first = λ rest.
          r.first rest
          ∙ ap (λ (t : List ℕ). take len bytes ++ t) ((ends left at (drop len bytes) rest lt lf none).0)
          ∙ sym (append_assoc (take len bytes) (take (suc at) (drop len bytes)) (first_lines left (drop (suc at) (drop len bytes) ++ rest)))
          ∙ rw (beyond, take-add len (suc at) bytes) refl;
      behind = λ rest. r.behind rest ∙ (ends left at (drop len bytes) rest lt lf none).1 ∙ rw beyond refl;
      progress = omega (arith, r.progress);
    }

pub reaches_end : (lines : ℕ) (bytes : List ℕ) (len left : ℕ) → Reaches lines bytes len (suc left) →
    NoLf (length (drop len bytes)) (drop len bytes) → Reaches lines bytes (length bytes) (suc left)
reaches_end lines bytes len left r none =
    record {
      within = omega arith;
      first = λ rest.
          r.first rest
          ∙ ap (λ (t : List ℕ). take len bytes ++ t) ((goes_on left (drop len bytes) rest none).0)
          ∙ sym (append_assoc (take len bytes) (drop len bytes) (first_lines (suc left) rest))
          ∙ rw (take-append-drop len bytes, take-length bytes, drop-length bytes) refl;
      behind = λ rest. r.behind rest ∙ (goes_on left (drop len bytes) rest none).1 ∙ rw (drop-length bytes) refl;
      progress = omega (arith, r.within, r.progress);
    }
