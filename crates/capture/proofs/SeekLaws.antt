-- The search for the LF of the line at hand.
use Rattle.std.proofs.Common.{◌≡◌, ◌≢◌, ℕ, ◌<◌, ◌≤◌, true, false, eqb, List, ◌++◌, length, get_or, Option, Some, None, sym, ap, subst, ◌∙◌, inl, inr}
use Rattle.std.proofs.Common.{arith}
use Rattle.std.specs.Prelude.{IfSome}
use Rattle.std.specs.Io.KnownBytes.{prepend_known, Keeps, IsAtEnd}
use Rattle.std.proofs.KnownBytes.{Keeps-refl}
use Rattle.std.proofs.lemmas.Bool.{cases_lt, eqb-false}
use Rattle.std.proofs.lemmas.List.{length-append, append-nil}
use Rattle.capture.specs.declared.limit.TheConstants.{MAX_LINE}
use Rattle.capture.specs.declared.fault.Departure.TheVariants.{Syntax, TooLong, TooMany}
use Rattle.capture.specs.Departing.{first_line, has_lf, IsWhole, LineDeparts}
use Rattle.capture.specs.Lines.{to_come, FindsLf, ReadsAhead}
use Rattle.capture.proofs.LineLaws.{line-found, line-open, line-append, line-append_open, if_known, if_all_known, kept_on}

-- No LF stands before `searched`, and nothing that was to come is lost.
pub record Seeking (searched : ℕ) (unread : List ℕ) (before after : Option (List ℕ)) (taken old_taken faults old_faults : ℕ) : Type 0 where
  pub within : searched ≤ length unread
  pub none : (j : ℕ) → j < searched → get_or unread j 0 ≢ 10
  pub kept : Keeps before (prepend_known unread after)
  pub same_taken : taken ≡ old_taken
  pub same_faults : faults ≡ old_faults

module _ (most searched : ℕ) (unread : List ℕ) (before after : Option (List ℕ)) (taken old_taken faults old_faults : ℕ)
    (s : Seeking searched unread before after taken old_taken faults old_faults) where
  pub seek_found : (len : ℕ) → FindsLf searched unread (Some len) → (length (first_line unread) ≡ len) × (has_lf unread ≡ true)
  seek_found len f = line-found unread len f.1 f.2 (λ j lt. elim (cases_lt j searched) [ inl early ↦ s.none j early | inr late ↦ f.3 j late lt ])

  pub seek_long : (len : ℕ) → FindsLf searched unread (Some len) → MAX_LINE < len → taken < most → IfSome before (LineDeparts most taken TooLong)
  seek_long len f long lt =
      let found = seek_found len f in
      if_known before after unread (LineDeparts most taken TooLong) s.kept (λ rest.
      let same = line-append unread rest found.1 in
      (lt, rw (same.0, found.0) long))

  pub seek_whole : (len : ℕ) → FindsLf searched unread (Some len) → len ≤ MAX_LINE → IsWhole unread × (len ≡ length (first_line unread))
  seek_whole len f short = let found = seek_found len f in (record { short = rw found.0 short; ended = found.1 }, sym found.0)

  pub seek_open : FindsLf searched unread None → (first_line unread ≡ unread) × (has_lf unread ≡ false)
  seek_open f = line-open unread (λ j lt. elim (cases_lt j searched) [ inl early ↦ s.none j early | inr late ↦ f j late lt ])

  pub seek_long_open : FindsLf searched unread None → MAX_LINE < length unread → taken < most → IfSome before (LineDeparts most taken TooLong)
  seek_long_open f long lt =
      let open_line = seek_open f in
      if_known before after unread (LineDeparts most taken TooLong) s.kept (λ rest.
      let same = line-append_open unread rest open_line.1 in
      (lt, rw same.0 (omega (arith, length-append unread (first_line rest)))))

  -- the reader is at its end
  pub seek_ended : (new : List ℕ) (later : Option (List ℕ)) → ReadsAhead unread new after later false → Keeps before (prepend_known unread later) ×
      IsAtEnd later
  seek_ended new later read =
      let same : new ≡ unread = read.1 ∙ ap (λ (t : List ℕ). unread ++ t) read.3.0 ∙ append-nil unread in
      (rw same at (kept_on before after later unread new read.0 s.kept read.1 read.2), read.3.1)

  pub seek_cut : FindsLf searched unread None → (new : List ℕ) (later : Option (List ℕ)) → ReadsAhead unread new after later false →
      length unread ≤ MAX_LINE → (length unread ≡ 0 → ⊥) → taken < most
      → IfSome before (LineDeparts most taken Syntax)
  seek_cut f new later read short some lt =
      let open_line = seek_open f in
      let ended = seek_ended new later read in
      if_all_known before later unread (LineDeparts most taken Syntax) ended.0 ended.1
      (lt, (λ e. some (ap length e)), rw open_line.0 short, open_line.1)

-- a reader that fails has what it had left
left_kept : (before mid after : Option (List ℕ)) (unread : List ℕ) → Keeps before (prepend_known unread mid) → Keeps mid after →
    Keeps before (prepend_known unread after)
left_kept None mid after unread kept left = tt
left_kept (Some xs) None after unread kept left = absurd kept
left_kept (Some xs) (Some ys) None unread kept left = absurd left
left_kept (Some xs) (Some ys) (Some zs) unread kept left = ap (λ (t : List ℕ). unread ++ t) left ∙ kept

pub seek_failed : (searched : ℕ) (unread new : List ℕ) (before after later : Option (List ℕ)) (taken old_taken faults old_faults : ℕ) →
    Seeking searched unread before after taken old_taken faults old_faults
    → FindsLf searched unread None → new ≡ unread → Keeps after later → (has_lf new ≡ false) × Keeps before (prepend_known new later)
seek_failed searched unread new before after later taken old_taken faults old_faults s f same left =
    subst (λ (t : List ℕ). (has_lf t ≡ false) × Keeps before (prepend_known t later)) (sym same)
    ((seek_open searched searched unread before after taken old_taken faults old_faults s f).1, left_kept before after later unread s.kept left)

-- ---- where no line may come any more

pub beyond_known : (most taken : ℕ) (unread : List ℕ) (after : Option (List ℕ)) → most ≤ taken → false ≡ eqb (length unread) 0 →
    IfSome (to_come unread after) (LineDeparts most taken TooMany)
beyond_known most taken unread after le some =
    if_known (to_come unread after) after unread (LineDeparts most taken TooMany) (Keeps-refl (to_come unread after)) (λ rest. (
      le,
      λ e. eqb-false (length unread) 0 (sym some)
          (let none : length (unread ++ rest) ≡ 0 = ap length e in omega (arith, length-append unread rest)),
    ))
