-- Which rows stay.
use Rattle.std.proofs.Common.{◌-◌, Bool, true, false, List, length, nat_le, if◌then◌else◌, refl, inl, inr}
use Rattle.ladder.specs.declared.row.Row.{Row}
use Rattle.ladder.specs.declared.told.Told.{Told}
use Rattle.ladder.specs.declared.rows.Keep.{Keep}
use Rattle.ladder.specs.declared.rows.Keep.TheVariants.{Last, First, From}
use Rattle.ladder.specs.declared.rows.Phase.{Phase}
use Rattle.ladder.specs.declared.rows.Phase.TheVariants.{Before, Open, Closed}
use Rattle.ladder.specs.Places.{IsCut}
use Rattle.ladder.specs.Rows.{Kept, going_on, going_on_by, opened, records, with_rows}

filled_cut : (kept : Kept) (next : List Row) (fits : Bool) →
    IsCut kept.rows next (if fits then with_rows kept next else record kept { phase = Closed }).rows
filled_cut kept next true = inl (0, refl)
filled_cut kept next false = inr refl

opened_cut : (keep : Keep) (kept : Kept) (next : List Row) → IsCut kept.rows next (opened keep kept next).rows
opened_cut Last kept next = inl (length next - records kept, refl)
opened_cut First kept next = filled_cut kept next (nat_le (length next) (records kept))
opened_cut (From side line) kept next = filled_cut kept next (nat_le (length next) (records kept))

cut_by : (phase : Phase) (kept : Kept) (next : List Row) (told : Told) → IsCut kept.rows next (going_on_by phase kept next told).rows
cut_by Before kept next told = inl (length next - 1, refl)
cut_by Open kept next told = opened_cut kept.keep kept next
cut_by Closed kept next told = inr refl

pub cut : (kept : Kept) (next : List Row) (told : Told) → IsCut kept.rows next (going_on kept next told).rows
cut kept next told = cut_by kept.phase kept next told
