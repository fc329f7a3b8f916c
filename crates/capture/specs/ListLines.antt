-- What the lines of a text that lists items have to keep, so that it is read in one way alone.
use Rattle.std.specs.Prelude.{◌≡◌, ℕ, ◌+◌, ◌≤◌, false, List, length}
use Rattle.capture.specs.declared.limit.TheConstants.{MAX_LINE}
use Rattle.capture.specs.declared.fault.Departure.{Departure}
use Rattle.capture.specs.Departing.{has_lf}
use Rattle.capture.specs.Listed.{ListForm}

pub record AreLinesOf {Item : Type 0} (form : ListForm Item) : Type 0 where
  -- an item's line has no LF of its own, is no longer than a line may be, and is that of no other item
  pub lacks : (item : Item) → form.HasLine item → has_lf (form.line item) ≡ false
  pub short : (item : Item) → form.HasLine item → length (form.line item) ≤ MAX_LINE
  pub same : (p q : Item) → form.HasLine p → form.HasLine q → form.line p ≡ form.line q → p ≡ q
  -- its words don't depart; those of any line do in one way at most
  pub fit : (kind : Departure) (item : Item) → form.HasLine item → form.WordsDepart kind (form.line item) → ⊥
  pub once : (line : List ℕ) (a b : Departure) → form.WordsDepart a line → form.WordsDepart b line → a ≡ b
  -- the head's first words have no LF, and with two addresses after them they are no longer than a line may be
  pub first_lacks : has_lf form.first_words ≡ false
  pub first_short : length form.first_words + 15 ≤ MAX_LINE
