-- Which units of the other side receipts are of, record by record.
use Rattle.std.proofs.Common.{ℕ, List, [], ◌∷◌, ◌++◌, sym, ap, ◌∙◌, arith, append_assoc, append-nil}
use Rattle.capture_record.specs.declared.record.Record.{Record}
use Rattle.capture_record.specs.declared.record.Record.TheVariants.{Sent, Received, Noise, User}
use Rattle.placing.specs.Placed.{HavePassed, IsUnit, NameUnits, Waiting}
use Rattle.placing.specs.inner.Coming.{Lasts}
use Rattle.wire_base.specs.declared.side.Side.{Side}
use Rattle.wire_text.specs.WireText.{Piece}
use Rattle.wire_tap.specs.Tapping.{HadPassed}
use Rattle.wire_tap.specs.inner.Moving.{FirstPassed}

-- what had passed before a unit of the side, had passed before a later one
pub lasts : (side : Side) (pieces : List Piece) → Lasts (HadPassed side pieces)
lasts side pieces sent more number less h = record {
  first = h.first;
  rest = h.rest;
  are = h.are;
  whole = h.whole;
  few = let few = h.few in omega (arith, few, less);
}

module _ (all : List (List ℕ)) where
  pub names-append : (rs more : List Record) → NameUnits all rs → NameUnits all more → NameUnits all (rs ++ more)
  names-append [] more first second = second
  names-append (Sent bytes ∷ rs) more first second = names-append rs more first second
  names-append (Received hint fate bytes ∷ rs) more first second = (first.0, names-append rs more first.1 second)
  names-append (Noise bytes ∷ rs) more first second = names-append rs more first second
  names-append (User event ∷ rs) more first second = names-append rs more first second

  -- ---- more of them passed

  module _ (later : List (List ℕ)) where
    unit_later : (number : ℕ) (bytes : List ℕ) → IsUnit all number bytes → IsUnit (all ++ later) number bytes
    unit_later number bytes is = record {
      before = is.before;
      after = is.after ++ later;
      are = ap (λ (units : List (List ℕ)). units ++ later) is.are ∙ append_assoc is.before (bytes ∷ is.after) later;
      number_is = is.number_is;
    }

    pub names_later : (rs : List Record) → NameUnits all rs → NameUnits (all ++ later) rs
    names_later [] names = tt
    names_later (Sent bytes ∷ rs) names = names_later rs names
    names_later (Received hint fate bytes ∷ rs) names = (unit_later hint bytes names.0, names_later rs names.1)
    names_later (Noise bytes ∷ rs) names = names_later rs names
    names_later (User event ∷ rs) names = names_later rs names

-- the side was told of all
pub all_told : (other : List (List ℕ)) (w : Waiting) → HavePassed other w.units → FirstPassed other w
all_told other w passed = record { told = other; untold = []; are = sym (append-nil other); passed = passed }
