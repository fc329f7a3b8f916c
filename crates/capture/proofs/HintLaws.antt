-- Hints, in each form: what is read is the hint's one spelling, and its spelling is read.
use Rattle.std.proofs.Common.{◌≡◌, ℕ, ◌+◌, ◌-◌, ◌<◌, ◌≤◌, false, leb, List, [], ◌∷◌, length, Option, Some, None}
use Rattle.std.proofs.Common.{refl, sym, ap, subst, ◌∙◌, inl, inr, arith, lit<}
use Rattle.std.specs.Prelude.{codes}
use Rattle.std.specs.Fmt.{decimal}
use Rattle.std.specs.Option.{option_map}
use Rattle.std.specs.Str.{bytes_eq}
use Rattle.std.proofs.lemmas.Bool.{cases_lt, cases_eq, cases_Bool, false_from_ne_true, ne_eqb, le-leb, lt-leb, leb-true}
use Rattle.std.proofs.lemmas.Slice.Eq.{bytes_eq-Decides}
use Rattle.std.proofs.lemmas.Fmt.{length-decimal-le}
use Rattle.std.proofs.lemmas.Option.{cond_some, same_Some}
use Rattle.capture_record.specs.declared.limit.TheConstants.{MAX_HINT}
use Rattle.capture.specs.declared.limit.TheConstants.{MAX_MARK}
use Rattle.capture.specs.declared.hint.HintForm.{HintForm}
use Rattle.capture.specs.declared.hint.HintForm.TheVariants.{Number, Distance, Wide, Part}
use Rattle.capture_record.specs.declared.record.Record.{Record}
use Rattle.capture_record.specs.declared.record.Record.TheVariants.{Sent, Received, Noise, User}
use Rattle.capture.specs.Text.{hint_text, form_after}
use Rattle.capture_record.specs.Range.{NumbersFit}
use Rattle.capture.specs.Range.{FormFits}
use Rattle.capture.specs.Reading.{after, hint_at, hint_above, hint_below, number_at, or_else, positive_at}
use Rattle.capture.proofs.PartLaws.{HasNo, after_takes, map_some}
use Rattle.capture.proofs.NumberLaws.{number_takes, number_again, positive_takes, positive_again, decimal_lacks}
use Rattle.capture.proofs.AddressLaws.{and_then}

-- ---- by distance

-- what does not begin with the mark has nothing behind it
after_none : (b : ℕ) (text : List ℕ) → HasNo b text → after (b ∷ []) text ≡ None
after_none b [] h = refl
after_none b (c ∷ text) h = rw (ne_eqb c b h.0) refl

at_distance : (mark hint : ℕ) → mark ≤ hint → hint_text (Distance mark) hint ≡ decimal (hint - mark)
at_distance mark hint above = rw (le-leb mark hint above) refl

before_mark : (mark hint : ℕ) → hint < mark → hint_text (Distance mark) hint ≡ 45 ∷ decimal (mark - hint)
before_mark mark hint below = rw (lt-leb mark hint below) refl

above_takes : (mark : ℕ) (text : List ℕ) (hint : ℕ) → hint_above mark text ≡ Some hint → (text ≡ hint_text (Distance mark) hint) × (hint ≤ MAX_HINT)
unfolding hint_above
above_takes mark text hint e =
    let d = and_then (number_at MAX_HINT text) _ hint e in
    let c = cond_some (leb (mark + d.0) MAX_HINT) (mark + d.0) hint d.2 in
    let p = number_takes MAX_HINT text d.0 (lit< tt) d.1 in
    let small : mark + d.0 ≤ MAX_HINT = leb-true _ _ c.0 in
    let is : mark + d.0 ≡ hint = c.1 in
    let far : d.0 ≡ hint - mark = omega arith in
    (p.0 ∙ ap decimal far ∙ sym (at_distance mark hint (omega arith)), omega arith)

below_takes : (mark : ℕ) (text : List ℕ) (hint : ℕ) → mark ≤ MAX_MARK → hint_below mark text ≡ Some hint →
    (45 ∷ text ≡ hint_text (Distance mark) hint) × (hint ≤ MAX_HINT)
unfolding hint_below
below_takes mark text hint fits e =
    let d = map_some (λ distance. mark - distance) (positive_at mark text) hint e in
    let p = positive_takes mark text d.0 (omega arith) d.1 in
    let most = p.1 in
    let some = p.2 in
    let is : mark - d.0 ≡ hint = d.2 in
    let far : d.0 ≡ mark - hint = omega arith in
    (ap (λ (t : List ℕ). 45 ∷ t) (p.0 ∙ ap decimal far) ∙ sym (before_mark mark hint (omega arith)), omega arith)

distance_takes : (mark : ℕ) (text : List ℕ) (hint : ℕ) → mark ≤ MAX_MARK → (o : Option (List ℕ)) → after (codes "-") text ≡ o →
    or_else o (hint_below mark) (hint_above mark text) ≡ Some hint
    → (text ≡ hint_text (Distance mark) hint) × (hint ≤ MAX_HINT)
distance_takes mark text hint fits None begins e = above_takes mark text hint e
distance_takes mark text hint fits (Some rest) begins e =
    let p = below_takes mark rest hint fits e in
    (after_takes (codes "-") text rest begins ∙ p.0, p.1)

above_again : (mark hint : ℕ) → mark ≤ hint → hint ≤ MAX_HINT → hint_at (Distance mark) (hint_text (Distance mark) hint) ≡ Some hint
unfolding hint_at hint_above
above_again mark hint above small =
    let back : mark + (hint - mark) ≡ hint = omega arith in
    let no_sign = after_none 45 (decimal (hint - mark)) (decimal_lacks 45 (hint - mark) (lit< tt) (omega arith)) in
    rw (at_distance mark hint above, no_sign, number_again MAX_HINT (hint - mark) (lit< tt) (omega arith), back, le-leb hint MAX_HINT small) refl

below_again : (mark hint : ℕ) → mark ≤ MAX_MARK → hint < mark → hint_at (Distance mark) (hint_text (Distance mark) hint) ≡ Some hint
unfolding hint_at hint_below
below_again mark hint fits below =
    let back : mark - (mark - hint) ≡ hint = omega arith in
    rw (before_mark mark hint below, positive_again mark (mark - hint) (omega arith) (omega arith) (omega arith), back) refl

-- ---- in a part of a run

at_number : (hint : ℕ) → 1 ≤ hint → hint_text Part hint ≡ decimal (hint - 1)
at_number hint some = rw (ne_eqb hint 0 (λ e. absurd (omega arith))) refl

-- a number is not spelled `-`
no_dash : (number : ℕ) → number ≤ MAX_HINT → bytes_eq (decimal number) (codes "-") ≡ false
no_dash number small = false_from_ne_true (bytes_eq (decimal number) (codes "-")) (λ e.
    let is : decimal number ≡ codes "-" = (bytes_eq-Decides (decimal number) (codes "-")).0 e in
    let lacks : HasNo 45 (codes "-") = subst (HasNo 45) is (decimal_lacks 45 number (lit< tt) (omega arith)) in
    lacks.0 refl)

part_takes : (text : List ℕ) (hint : ℕ) → hint_at Part text ≡ Some hint → (text ≡ hint_text Part hint) × (hint ≤ MAX_HINT)
unfolding hint_at
part_takes text hint e =
    elim (cases_Bool (bytes_eq text (codes "-"))) [
      | inl dash ↦
          let is : text ≡ codes "-" = (bytes_eq-Decides text (codes "-")).0 dash in
          let first : Some 0 ≡ Some hint = rw dash at e in
          rw (← same_Some 0 hint first) (is, omega arith)
      | inr other ↦
          let found : option_map (λ number. number + 1) (number_at (MAX_HINT - 1) text) ≡ Some hint = rw other at e in
          let parts = map_some (λ number. number + 1) (number_at (MAX_HINT - 1) text) hint found in
          let spelled = number_takes (MAX_HINT - 1) text parts.0 (lit< tt) parts.1 in
          by_next parts.0 spelled.0 spelled.1 parts.2
    ]
  where
    by_next : (number : ℕ) → text ≡ decimal number → number ≤ MAX_HINT - 1 → number + 1 ≡ hint → (text ≡ hint_text Part hint) × (hint ≤ MAX_HINT)
    by_next number spelled most is =
        let back : number ≡ hint - 1 = omega arith in
        (spelled ∙ ap decimal back ∙ sym (at_number hint (omega arith)), omega arith)

part_again : (hint : ℕ) → hint ≤ MAX_HINT → hint_at Part (hint_text Part hint) ≡ Some hint
unfolding hint_at
part_again hint small =
    elim (cases_eq hint 0) [
      | inl before ↦ rw before refl
      | inr some ↦
          let back : (hint - 1) + 1 ≡ hint = omega (arith, some) in
          rw (
            at_number hint (omega (arith, some)),
            no_dash (hint - 1) (omega arith),
            number_again (MAX_HINT - 1) (hint - 1) (lit< tt) (omega (arith, small)),
            back,
          ) refl
    ]

part_lacks : (b hint : ℕ) → b < 45 → hint ≤ MAX_HINT → HasNo b (hint_text Part hint)
part_lacks b hint low small =
    elim (cases_eq hint 0) [
      | inl before ↦ rw before ((λ e. absurd (omega arith)), tt)
      | inr some ↦ rw (at_number hint (omega (arith, some))) (decimal_lacks b (hint - 1) (omega arith) (omega arith))
    ]

part_short : (hint : ℕ) → hint ≤ MAX_HINT → length (hint_text Part hint) ≤ 20
part_short hint small =
    elim (cases_eq hint 0) [
      | inl before ↦ rw before (omega arith)
      | inr some ↦
          let short = length-decimal-le 18 (hint - 1) (lit< tt) (omega arith) (omega arith) in
          rw (at_number hint (omega (arith, some))) (omega arith)
    ]

-- ---- in each form

pub hint_takes : (form : HintForm) (text : List ℕ) (hint : ℕ) → FormFits form → hint_at form text ≡ Some hint → (text ≡ hint_text form hint) ×
    (hint ≤ MAX_HINT)
unfolding hint_at
hint_takes Number text hint fits e = number_takes MAX_HINT text hint (lit< tt) e
hint_takes Wide text hint fits e = number_takes MAX_HINT text hint (lit< tt) e
hint_takes Part text hint fits e = part_takes text hint e
hint_takes (Distance mark) text hint fits e = distance_takes mark text hint fits (after (codes "-") text) refl e

pub hint_again : (form : HintForm) (hint : ℕ) → FormFits form → hint ≤ MAX_HINT → hint_at form (hint_text form hint) ≡ Some hint
unfolding hint_at
hint_again Number hint fits small = number_again MAX_HINT hint (lit< tt) small
hint_again Wide hint fits small = number_again MAX_HINT hint (lit< tt) small
hint_again Part hint fits small = part_again hint small
hint_again (Distance mark) hint fits small =
    elim (cases_lt hint mark) [ inl below ↦ below_again mark hint fits below | inr above ↦ above_again mark hint above small ]

pub hint_lacks : (form : HintForm) (b hint : ℕ) → b < 45 → FormFits form → hint ≤ MAX_HINT → HasNo b (hint_text form hint)
hint_lacks Number b hint low fits small = decimal_lacks b hint (omega arith) (omega arith)
hint_lacks Wide b hint low fits small = decimal_lacks b hint (omega arith) (omega arith)
hint_lacks Part b hint low fits small = part_lacks b hint low small
hint_lacks (Distance mark) b hint low fits small =
    elim (cases_lt hint mark) [
      | inl below ↦ rw (before_mark mark hint below) ((λ e. absurd (omega arith)), decimal_lacks b (mark - hint) (omega arith) (omega arith))
      | inr above ↦ rw (at_distance mark hint above) (decimal_lacks b (hint - mark) (omega arith) (omega arith))
    ]

pub hint_short : (form : HintForm) (hint : ℕ) → FormFits form → hint ≤ MAX_HINT → length (hint_text form hint) ≤ 20
hint_short Number hint fits small = let short = length-decimal-le 18 hint (lit< tt) (omega arith) (omega arith) in omega arith
hint_short Wide hint fits small = let short = length-decimal-le 18 hint (lit< tt) (omega arith) (omega arith) in omega arith
hint_short Part hint fits small = part_short hint small
hint_short (Distance mark) hint fits small =
    elim (cases_lt hint mark) [
      | inl below ↦ let short = length-decimal-le 19 (mark - hint) (lit< tt) (omega arith) (omega arith) in
          rw (before_mark mark hint below) (omega arith)
      | inr above ↦ let short = length-decimal-le 18 (hint - mark) (lit< tt) (omega arith) (omega arith) in
          rw (at_distance mark hint above) (omega arith)
    ]

-- a mark is one more than some hint
pub form_fits : (form : HintForm) (r : Record) → FormFits form → NumbersFit r → FormFits (form_after form r)
form_fits Number r fits numbers = tt
form_fits Wide r fits numbers = tt
form_fits Part r fits numbers = tt
form_fits (Distance mark) (Sent bytes) fits numbers = fits
form_fits (Distance mark) (Received hint fate bytes) fits numbers = omega (arith, numbers)
form_fits (Distance mark) (Noise bytes) fits numbers = fits
form_fits (Distance mark) (User event) fits numbers = fits
