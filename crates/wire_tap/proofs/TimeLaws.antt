-- When the units of receipts had passed, piece by piece.
use Rattle.std.proofs.Common.{◌≡◌, ℕ, ◌+◌, ◌≤◌, ◌<◌, List, [], ◌∷◌, ◌++◌, length, refl, sym, ap, subst, ◌∙◌, arith}
use Rattle.std.proofs.Common.{append_assoc, append-nil, length-append}
use Rattle.wire_base.specs.Side.{other_side}
use Rattle.wire_base.specs.declared.side.Side.{Side}
use Rattle.capture_record.specs.declared.record.Record.{Record}
use Rattle.placing.specs.Placed.{AllCome, HavePassed, HintsRise, Units, Waiting, nothing, other_count, units_sent}
use Rattle.placing.specs.inner.Coming.{HoldsOn}
use Rattle.placing.proofs.Coming.{come-append, come_on, holds_on, rise-append, rise_higher}
use Rattle.wire_text.specs.WireText.{Piece}
use Rattle.wire_tap.specs.Tapping.{HadPassed}
use Rattle.wire_tap.specs.Units.{units_within}
use Rattle.wire_tap.specs.inner.Moving.{AreInTime, FirstPassed}
use Rattle.wire_tap.specs.inner.Side.{HoldsOfMore, MovesOn}
use Rattle.wire_tap.proofs.MoveLaws.{sent-append}

-- ---- what had passed

-- of all that passed
pub had_passed : (side : Side) (pieces : List Piece) (sent number : ℕ) → number < length (units_within (other_side side) pieces) →
    length (units_within side pieces) ≤ sent → HadPassed side pieces sent number
had_passed side pieces sent number whole few = record { first = pieces; rest = []; are = sym (append-nil pieces); whole = whole; few = few }

-- it holds of more pieces, where it held of fewer
abbrev pub Grows : Side → List Piece → List Piece → Type 0
Grows side pieces more = (sent number : ℕ) → HadPassed side pieces sent number → HadPassed side more sent number

pub grows : (side : Side) (pieces : List Piece) (p : Piece) → Grows side pieces (pieces ++ p ∷ [])
grows side pieces p sent number h = record {
  first = h.first;
  rest = h.rest ++ p ∷ [];
  are = ap (λ (ps : List Piece). ps ++ p ∷ []) h.are ∙ append_assoc h.first h.rest (p ∷ []);
  whole = h.whole;
  few = h.few;
}

-- ---- the receipts of a side

pub none_in_time : (side : Side) (pieces : List Piece) → AreInTime side pieces [] nothing.units
none_in_time side pieces = record {
  come = tt;
  holds = record { same = refl; before = tt; after = λ number less. absurd (omega (arith, less)) };
  rise = omega arith;
}

module _ (side : Side) (pieces : List Piece) (records : List Record) where
  pub time_on : (more : List Piece) (units : Units) → Grows side pieces more → AreInTime side pieces records units → AreInTime side more records units
  time_on more units grow h = record {
    come = come_on (HadPassed side pieces) (HadPassed side more) grow 0 records h.come;
    holds = holds_on (HadPassed side pieces) (HadPassed side more) grow (length (units_sent records)) units h.holds;
    rise = h.rise;
  }

  -- units passed, and lines were put
  module _ (units other : List (List ℕ)) (old new : Waiting) (moves : MovesOn units other old new) (h : AreInTime side pieces records old.units) where
    pub time_moves : HoldsOfMore side pieces (length (units_sent records)) other old.units →
        AreInTime side pieces (records ++ moves.records) new.units
    time_moves more =
        let sent = length (units_sent records) in
        let both = moves.come side pieces sent h.holds more in
        let start : sent ≡ 0 + sent = omega arith in
        record {
          come = come-append (HadPassed side pieces) 0 records moves.records h.come
              (subst (λ (k : ℕ). AllCome (HadPassed side pieces) k moves.records) start both.0);
          holds = subst (λ (k : ℕ). HoldsOn (HadPassed side pieces) k new.units)
              (sym (ap length (sent-append records moves.records) ∙ length-append (units_sent records) (units_sent moves.records))) both.1;
          rise = rise-append 0 old.units.gone new.units.gone records moves.records h.rise moves.rise;
        }

  -- the same where none of the other side passed
  pub time_same : (units : List (List ℕ)) (old new : Waiting) (moves : MovesOn units [] old new) → AreInTime side pieces records old.units →
      AreInTime side pieces (records ++ moves.records) new.units
  time_same units old new moves h =
      time_moves units [] old new moves h (λ number less. h.holds.after number (omega (arith, less)))

-- ---- hints

pub gone_few : (all : List (List ℕ)) (w : Waiting) → HavePassed all w.units → w.units.gone ≤ length all
gone_few all w h =
    let len = ap length h.all_are in let both = length-append h.past w.units.other in let count = h.count in omega (arith, len, both, count)

pub count_all : (all : List (List ℕ)) (w : Waiting) → HavePassed all w.units → other_count w.units ≡ length all
count_all all w h =
    let len = ap length h.all_are in let both = length-append h.past w.units.other in let count = h.count in omega (arith, len, both, count)

pub all_rise : (other : List (List ℕ)) (w : Waiting) (records : List Record) → FirstPassed other w → HintsRise 0 w.units.gone records →
    HintsRise 0 (length other) records
all_rise other w records first rise =
    let few = gone_few first.told w first.passed in
    let len = ap length first.are in
    let both = length-append first.told first.untold in
    rise_higher 0 w.units.gone (length other) records (omega (arith, few, len, both)) rise
