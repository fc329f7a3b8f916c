-- Where there is room for a row, and where there is none.
use Rattle.std.proofs.Common.{◌≡◌, ◌+◌, ◌≤◌, ◌<◌, List, [], ◌∷◌, ◌++◌, length, if◌then◌else◌, ap, arith}
use Rattle.std.proofs.lemmas.Bool.{le-leb, lt-leb}
use Rattle.std.proofs.lemmas.List.{length_push}
use Rattle.ladder.specs.declared.row.Row.{Row}
use Rattle.ladder.specs.declared.rows.Phase.TheVariants.{Closed}
use Rattle.ladder.specs.Rows.{Kept, filling, records, with_rows}

filled : (kept : Kept) (next : List Row) → length next ≤ records kept → filling kept next ≡ with_rows kept next
filled kept next fits = ap (λ b. if b then with_rows kept next else record kept { phase = Closed }) (le-leb (length next) (records kept) fits)

pub fills : (kept : Kept) (row : Row) → length kept.rows < records kept
    → filling kept (kept.rows ++ row ∷ []) ≡ with_rows kept (kept.rows ++ row ∷ [])
fills kept row room =
    let next : List Row = kept.rows ++ row ∷ [] in
    let one_more : length next ≡ length kept.rows + 1 = length_push kept.rows row in
    filled kept next (omega (arith, one_more, room))

pub closes : (kept : Kept) (row : Row) → records kept ≤ length kept.rows → filling kept (kept.rows ++ row ∷ []) ≡ record kept { phase = Closed }
closes kept row full =
    let next : List Row = kept.rows ++ row ∷ [] in
    let one_more : length next ≡ length kept.rows + 1 = length_push kept.rows row in
    ap (λ b. if b then with_rows kept next else record kept { phase = Closed }) (lt-leb (length next) (records kept) (omega (arith, one_more, full)))
