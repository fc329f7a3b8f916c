-- Where each side has begun at most one period, the rule on periods asks nothing.
use Rattle.std.proofs.Common.{◌≡◌, ℕ, ◌≤◌, Bool, true, false, ◌&&◌, eqb, cond, Option, refl, ap, ap₂, ◌∙◌, arith, eq-eqb}
use Rattle.ddcmp_msg.specs.Message.{MessageValue, Data, Ack, Nak, Rep, Strt, Stack}
use Rattle.dna_station.specs.declared.state.State.{State}
use Rattle.dna_station.specs.declared.state.State.TheVariants.{Halted, Istrt, Astrt, Running}
use Rattle.dna_station.specs.Table.{row, Fresh, OfPair, Row, ignored}
use Rattle.dna_station.specs.PeriodRule.{is_period, meets}
use Rattle.dna_station.specs.Station.{Station}
use Rattle.dna_station.specs.Truth.{tag_of}
use Rattle.dna_station.specs.Line.{SentUnit}
use Rattle.dna_node.proofs.Once.Starts.{is_on, goes_with, is_strt, IsBegun, UnitBegun}

-- the one period
only : (known : Option ℕ) (periods period : ℕ) → IsBegun known periods → periods ≤ 1 → 1 ≤ period → period ≤ 1 → is_period known period ≡ true
only known periods period b few first last =
    let f = b.first in let l = b.last in
    ap (λ (o : Option ℕ). is_period o period) b.is ∙ eq-eqb b.period period (omega arith)

module _ (s : Station) (periods : ℕ) (u : SentUnit) (own_few : s.period ≤ 1) (few : periods ≤ 1) (begun : UnitBegun periods s.period u) where
  fresh : 1 ≤ s.period → is_strt u.message ≡ false → meets Fresh (tag_of s) u.known.tag ≡ true
  fresh on other = only u.known.tag.partner s.period s.period (begun.partner other) own_few on own_few

  of_pair : 1 ≤ s.period → IsBegun s.partner periods → is_strt u.message ≡ false → meets OfPair (tag_of s) u.known.tag ≡ true
  of_pair on partner other =
      let last = begun.last in
      ap₂ (λ (x y : Bool). x && y) (only s.partner periods u.known.tag.period partner few begun.first (omega arith))
      (only u.known.tag.partner s.period s.period (begun.partner other) own_few on own_few)

  either_row : (b : Bool) (r : Row) → meets r.needs (tag_of s) u.known.tag ≡ true → meets (cond b r ignored).needs (tag_of s) u.known.tag ≡ true
  either_row true r e = e
  either_row false r e = refl

  row_meets : (state : State) (m : MessageValue) → (is_on state ≡ true → 1 ≤ s.period) → (goes_with state ≡ true → IsBegun s.partner periods) →
      u.message ≡ m → meets (row state m).needs (tag_of s) u.known.tag ≡ true
  row_meets Halted m on goes is = refl
  row_meets Istrt (Stack flags) on goes is = fresh (on refl) (ap is_strt is)
  row_meets Istrt m on goes is = refl
  row_meets Astrt (Stack flags) on goes is = fresh (on refl) (ap is_strt is)
  row_meets Astrt (Ack flags resp) on goes is = either_row (eqb resp 0) _ (of_pair (on refl) (goes refl) (ap is_strt is))
  row_meets Astrt (Data flags resp num body) on goes is = either_row (eqb resp 0) _ (of_pair (on refl) (goes refl) (ap is_strt is))
  row_meets Astrt m on goes is = refl
  row_meets Running (Strt flags) on goes is = refl
  row_meets Running (Stack flags) on goes is = of_pair (on refl) (goes refl) (ap is_strt is)
  row_meets Running (Ack flags resp) on goes is = of_pair (on refl) (goes refl) (ap is_strt is)
  row_meets Running (Nak flags reason resp) on goes is = of_pair (on refl) (goes refl) (ap is_strt is)
  row_meets Running (Rep flags num) on goes is = of_pair (on refl) (goes refl) (ap is_strt is)
  row_meets Running (Data flags resp num body) on goes is = of_pair (on refl) (goes refl) (ap is_strt is)

  -- a unit of the other side meets what its row needs
  pub meets_always : (is_on s.state ≡ true → 1 ≤ s.period) → (goes_with s.state ≡ true → IsBegun s.partner periods) →
      meets (row s.state u.message).needs (tag_of s) u.known.tag ≡ true
  meets_always on goes = row_meets s.state u.message on goes refl
