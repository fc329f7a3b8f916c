-- What joins a receipt to a row.
use Rattle.std.proofs.Common.{◌≡◌, ℕ, Bool, true, false, Some, None, refl, sym, ◌∙◌, ap, if◌then◌else◌, arith}
use Rattle.wire_base.specs.declared.side.Side.{Side}
use Rattle.wire_base.specs.declared.side.Side.TheVariants.{A, B}
use Rattle.wire_base.specs.Side.{other_side}
use Rattle.ladder.specs.declared.told.Told.{Told}
use Rattle.ladder.specs.declared.told.What.{What}
use Rattle.ladder.specs.declared.told.What.TheVariants as what
use Rattle.ladder.specs.declared.row.Row.{Row}
use Rattle.ladder.specs.declared.row.Fate.{Fate}
use Rattle.ladder.specs.declared.row.Fate.TheVariants as fate
use Rattle.ladder.specs.declared.row.Receipt.{Receipt}
use Rattle.ladder.specs.Row.{faces, joined, joined_by, sends, sends_by, with_receipt}
use Rattle.ladder.specs.Places.{IsArrow, hint_named, receipt_line, unit_sent}

pub facing_other : (sender receiver : Side) → faces sender receiver ≡ true → receiver ≡ other_side sender
facing_other A A e = cc
facing_other A B e = refl
facing_other B A e = refl
facing_other B B e = cc

pub record Sends (w : What) (f : Fate) (facing : Bool) (hint : ℕ) : Type 0 where
  pub sent : unit_sent w ≡ Some hint
  pub alone : receipt_line f ≡ None
  pub facing_is : facing ≡ true

pub sends_gives : (w : What) (f : Fate) (facing : Bool) (hint : ℕ) → sends_by w f facing hint ≡ true → Sends w f facing hint
sends_gives (what.Sent unit said again) fate.Came true hint e = record { sent = ap Some (grind (arith, e)); alone = refl; facing_is = refl }
sends_gives (what.Sent unit said again) fate.Came false hint e = cc
sends_gives (what.Sent unit said again) (fate.Here receipt) facing hint e = cc
sends_gives (what.Sent unit said again) fate.Open facing hint e = cc
sends_gives (what.Sent unit said again) fate.Lost facing hint e = cc
sends_gives (what.Came came became said sent) f facing hint e = cc
sends_gives (what.Noise said) f facing hint e = cc
sends_gives (what.Composed content) f facing hint e = cc
sends_gives (what.User entry bytes) f facing hint e = cc

some_same : {X : Type 0} {x y : X} → Some x ≡ Some y → x ≡ y
some_same e = cc

arrow_of : (row : Row) (next : Told) (made : Row) (receipt : Receipt) (hint : ℕ) → hint_named next.what ≡ Some hint → receipt.line ≡ next.line
    → Sends row.told.what row.fate (faces row.told.side next.side) hint → with_receipt row receipt ≡ made → IsArrow row next made
arrow_of row next made receipt hint named line s e = record {
  unit = hint;
  sent = s.sent;
  named = named;
  sides = facing_other row.told.side next.side s.facing_is;
  alone = s.alone;
  told = sym (ap (λ r. r.told) e);
  line = sym (ap (λ r. receipt_line r.fate) e) ∙ ap Some line;
}

by_test : (row : Row) (next : Told) (made : Row) (receipt : Receipt) (hint : ℕ) (b : Bool) → sends row next.side hint ≡ b
    → hint_named next.what ≡ Some hint → receipt.line ≡ next.line → (if b then Some (with_receipt row receipt) else None) ≡ Some made
    → IsArrow row next made
by_test row next made receipt hint true test named line e =
    arrow_of row next made receipt hint named line (sends_gives row.told.what row.fate (faces row.told.side next.side) hint test) (some_same e)
by_test row next made receipt hint false test named line e = cc

pub joined_gives : (row : Row) (next : Told) (w : What) (made : Row) → next.what ≡ w → joined_by row next w ≡ Some made → IsArrow row next made
joined_gives row next (what.Came hint became said sent) made is e =
    by_test row next made (record { line = next.line; became = became; said = said; state = next.state }) hint (sends row next.side hint) refl
    (ap hint_named is) refl e
joined_gives row next (what.Sent unit said again) made is e = cc
joined_gives row next (what.Noise said) made is e = cc
joined_gives row next (what.Composed content) made is e = cc
joined_gives row next (what.User entry bytes) made is e = cc

pub is_arrow : (row : Row) (next : Told) (made : Row) → joined row next ≡ Some made → IsArrow row next made
is_arrow row next made e = joined_gives row next next.what made refl e
