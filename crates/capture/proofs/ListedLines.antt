-- No LF stands in the lines of a text that lists items.
use Rattle.std.proofs.Common.{◌≡◌, ℕ, eqb, false, List, [], ◌∷◌, refl, inl, inr}
use Rattle.std.proofs.lemmas.Bool.{cases_Bool, eqb-false, ne_eqb}
use Rattle.capture.specs.Departing.{has_lf}
use Rattle.capture.specs.Listed.{ListForm}
use Rattle.capture.specs.ListLines.{AreLinesOf}
use Rattle.capture.proofs.PartLaws.{HasNo}
use Rattle.capture.proofs.ListedHead.{AreFirstWords}

pub no_lf : (text : List ℕ) → HasNo 10 text → has_lf text ≡ false
no_lf [] h = refl
no_lf (b ∷ text) h = rw (ne_eqb b 10 h.0) (no_lf text h.1)

lf_lacks : (text : List ℕ) → has_lf text ≡ false → HasNo 10 text
lf_lacks [] h = tt
lf_lacks (b ∷ text) h =
    elim (cases_Bool (eqb b 10)) [
      | inl same ↦ absurd (let ended = rw same at h in cc)
      | inr other ↦ (eqb-false b 10 other, lf_lacks text (rw other at h))
    ]

module _ {Item : Type 0} (form : ListForm Item) (lines : AreLinesOf form) where
  pub item_lacks : (item : Item) → form.HasLine item → HasNo 10 (form.line item)
  item_lacks item h = lf_lacks (form.line item) (lines.lacks item h)

  pub first_words : AreFirstWords form.first_words
  first_words = record { lack = lf_lacks form.first_words lines.first_lacks; short = lines.first_short }
