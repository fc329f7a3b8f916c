-- Where records stand.
use Rattle.std.proofs.Common.{◌≡◌, ℕ, ◌-◌, ◌==◌, Bool, true, false, Option, Some, None, nat_lt, if◌then◌else◌}
use Rattle.std.proofs.Common.{List, [], ◌∷◌, ◌++◌, length, take, map, refl, sym, ◌∙◌, ap, ap₂}
use Rattle.std.proofs.lemmas.Grind.{flat_map-append}
use Rattle.std.proofs.lemmas.List.{append-nil, append_assoc}
use Rattle.circular_buffer.specs.Buffer.{last_item}
use Rattle.wire_base.specs.declared.side.Side.{Side}
use Rattle.wire_base.specs.Side.{other_side}
use Rattle.ladder.specs.declared.told.Told.{Told}
use Rattle.ladder.specs.declared.told.What.{What}
use Rattle.ladder.specs.declared.told.What.TheVariants as what
use Rattle.ladder.specs.declared.row.Row.{Row}
use Rattle.ladder.specs.declared.row.Fate.{Fate}
use Rattle.ladder.specs.declared.row.Fate.TheVariants as fate
use Rattle.ladder.specs.Row.{after, fate_after, faces, joined, last_joined, passed, with_record, with_row}
use Rattle.ladder.specs.Places.{Place, place, places, receipt_line, receipt_places, row_places}
use Rattle.ladder.proofs.Arrows.{is_arrow}
use Rattle.ladder.proofs.Lists.{split_last}

-- ---- a row with a receipt

some_line : {x y : ℕ} → Some x ≡ Some y → x ≡ y
some_line e = cc

here : (sender : Side) (f : Fate) (line : ℕ) → receipt_line f ≡ Some line
    → receipt_places sender f ≡ record { side = other_side sender; line = line } ∷ []
here sender (fate.Here receipt) line e = ap (λ n. record { side = other_side sender; line = n } ∷ []) (some_line e)
here sender fate.Open line e = cc
here sender fate.Came line e = cc
here sender fate.Lost line e = cc

none_here : (sender : Side) (f : Fate) → receipt_line f ≡ None → receipt_places sender f ≡ []
none_here sender (fate.Here receipt) e = cc
none_here sender fate.Open e = refl
none_here sender fate.Came e = refl
none_here sender fate.Lost e = refl

pub joined_places : (row : Row) (next : Told) (made : Row) → joined row next ≡ Some made → row_places made ≡ row_places row ++ place next ∷ []
joined_places row next made e =
    let arrow = is_arrow row next made e in
    ap (λ t. place t ∷ receipt_places t.side made.fate) arrow.told
    ∙ ap (λ ps. place row.told ∷ ps) (here row.told.side made.fate next.line arrow.line)
    ∙ ap (λ s. place row.told ∷ record { side = s; line = next.line } ∷ []) (sym arrow.sides)
    ∙ sym (ap (λ ps. (place row.told ∷ ps) ++ place next ∷ []) (none_here row.told.side row.fate arrow.alone))

-- ---- the rows with one more record

places_last : (rows : List Row) (row : Row) → places (rows ++ row ∷ []) ≡ places rows ++ row_places row
places_last rows row = flat_map-append row_places rows (row ∷ []) ∙ ap (λ ps. places rows ++ ps) (append-nil (row_places row))

made_joined : (row next made : Row) (refused : Bool) → (if refused then None else joined row next.told) ≡ Some made → joined row next.told ≡ Some made
made_joined row next made true e = cc
made_joined row next made false e = e

stand_by : (rows : List Row) (next : Row) → receipt_line next.fate ≡ None → (last : Option Row) → last_item rows ≡ last
    → (o : Option Row) → last_joined last next ≡ o → places (with_row rows next o) ≡ places rows ++ place next.told ∷ []
stand_by rows next alone last is None e =
    places_last rows next ∙ ap (λ ps. places rows ++ place next.told ∷ ps) (none_here next.told.side next.fate alone)
stand_by rows next alone None is (Some made) e = cc
stand_by rows next alone (Some row) is (Some made) e =
    let front : List Row = take (length rows - 1) rows in
    let told_last : List Place = place next.told ∷ [] in
    places_last front made
    ∙ ap (λ ps. places front ++ ps) (joined_places row next.told made (made_joined row next made next.refused e))
    ∙ sym (append_assoc (places front) (row_places row) told_last)
    ∙ ap (λ ps. ps ++ told_last) (sym (ap places (split_last rows row is) ∙ places_last front row))

pub stand_once : (rows : List Row) (next : Row) → receipt_line next.fate ≡ None
    → places (with_record rows next) ≡ places rows ++ place next.told ∷ []
stand_once rows next alone = stand_by rows next alone (last_item rows) refl (last_joined (last_item rows) next) refl

-- ---- what becomes of a unit

open_stays : (sender : Side) (hint unit : ℕ) (same below : Bool)
    → receipt_places sender (if same then fate.Came else (if below then fate.Lost else fate.Open)) ≡ []
open_stays sender hint unit true below = refl
open_stays sender hint unit false true = refl
open_stays sender hint unit false false = refl

after_stays : (sender : Side) (hint unit : ℕ) (f : Fate) → receipt_places sender (after hint unit f) ≡ receipt_places sender f
after_stays sender hint unit fate.Open = open_stays sender hint unit (unit == hint) (nat_lt unit hint)
after_stays sender hint unit (fate.Here receipt) = refl
after_stays sender hint unit fate.Came = refl
after_stays sender hint unit fate.Lost = refl

fate_stays : (sender : Side) (w : What) (facing : Bool) (hint : ℕ) (f : Fate)
    → receipt_places sender (fate_after w facing hint f) ≡ receipt_places sender f
fate_stays sender (what.Sent unit said again) true hint f = after_stays sender hint unit f
fate_stays sender (what.Sent unit said again) false hint f = refl
fate_stays sender (what.Came came became said sent) facing hint f = refl
fate_stays sender (what.Noise said) facing hint f = refl
fate_stays sender (what.Composed content) facing hint f = refl
fate_stays sender (what.User entry bytes) facing hint f = refl

pub stay : (rows : List Row) (receiver : Side) (hint : ℕ) → places (map (passed receiver hint) rows) ≡ places rows
stay [] receiver hint = refl
stay (row ∷ rows) receiver hint =
    ap₂ (λ ps rest. (place row.told ∷ ps) ++ rest)
    (fate_stays row.told.side row.told.what (faces row.told.side receiver) hint row.fate)
    (stay rows receiver hint)
