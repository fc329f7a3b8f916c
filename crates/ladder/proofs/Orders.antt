-- What an order keeps.
use Rattle.std.proofs.Common.{◌≡◌, ℕ, ◌+◌, ◌<◌, Bool, true, false, Some, suc, subst, if◌then◌else◌, ◌&&◌, refl, sym, ◌∙◌, ap, arith}
use Rattle.std.proofs.Common.{List, [], ◌∷◌, ◌++◌, length, take, drop, get_or}
use Rattle.std.specs.List.{list_all, remove, slice_get}
use Rattle.std.proofs.lemmas.List.{append-nil, append_assoc, drop_more, take-append-drop, take_more}
use Rattle.std.proofs.lemmas.Option.{get_or_from_slice_get, slice_get_within}
use Rattle.wire_base.specs.declared.side.Side.{Side}
use Rattle.wire_base.specs.declared.side.Side.TheVariants.{A, B}
use Rattle.ladder.specs.declared.row.Row.{Row}
use Rattle.ladder.specs.Order.{IsOrder, MayBeFirst, may_pass, of_side, rests_on}
use Rattle.ladder.specs.Row.{is_side, joined_all, with_record}

-- ---- the records of a side

side_more : (b : Bool) (x : Row) (xs ys zs : List Row) → xs ≡ ys ++ zs → (if b then x ∷ xs else xs) ≡ (if b then x ∷ ys else ys) ++ zs
side_more true x xs ys zs e = ap (λ l. x ∷ l) e
side_more false x xs ys zs e = e

side_append : (side : Side) (xs ys : List Row) → of_side side (xs ++ ys) ≡ of_side side xs ++ of_side side ys
side_append side [] ys = refl
side_append side (x ∷ xs) ys =
    side_more (is_side x.told.side side) x (of_side side (xs ++ ys)) (of_side side xs) (of_side side ys) (side_append side xs ys)

-- ---- a record passes none of its side

and_first : (p q : Bool) → (p && q) ≡ true → p ≡ true
and_first true q e = refl
and_first false q e = cc

and_second : (p q : Bool) → (p && q) ≡ true → q ≡ true
and_second true q e = e
and_second false q e = cc

other_by : (same rests : Bool) → (if same then false else (if rests then false else true)) ≡ true → same ≡ false
other_by true rests e = cc
other_by false rests e = refl

same_side : (one side : Side) → is_side one side ≡ true → one ≡ side
same_side A A e = refl
same_side A B e = cc
same_side B A e = cc
same_side B B e = refl

other_side_of : (row before : Row) (side : Side) → is_side row.told.side side ≡ true → may_pass row before ≡ true
    → is_side before.told.side side ≡ false
other_side_of row before side is pass =
    sym (ap (λ s. is_side before.told.side s) (same_side row.told.side side is))
    ∙ other_by (is_side before.told.side row.told.side) (rests_on row.told.what before.told.what) pass

none_passed : (side : Side) (row : Row) (front : List Row) → is_side row.told.side side ≡ true → list_all (may_pass row) front ≡ true
    → of_side side front ≡ []
none_passed side row [] is pass = refl
none_passed side row (x ∷ front) is pass =
    ap (λ b. if b then x ∷ of_side side front else of_side side front)
    (other_side_of row x side is (and_first (may_pass row x) (list_all (may_pass row) front) pass))
    ∙ none_passed side row front is (and_second (may_pass row x) (list_all (may_pass row) front) pass)

moved_by : (b : Bool) (side : Side) (row : Row) (front rest : List Row) → is_side row.told.side side ≡ b → list_all (may_pass row) front ≡ true
    → of_side side front ++ (if b then row ∷ of_side side rest else of_side side rest)
    ≡ (if b then row ∷ (of_side side front ++ of_side side rest) else of_side side front ++ of_side side rest)
moved_by true side row front rest is pass =
    ap (λ l. l ++ row ∷ of_side side rest) (none_passed side row front is pass)
    ∙ sym (ap (λ l. row ∷ (l ++ of_side side rest)) (none_passed side row front is pass))
moved_by false side row front rest is pass = refl

-- a record goes to the front
moved : (side : Side) (row : Row) (front rest : List Row) → list_all (may_pass row) front ≡ true
    → of_side side (front ++ row ∷ rest) ≡ of_side side (row ∷ (front ++ rest))
moved side row front rest pass =
    side_append side front (row ∷ rest)
    ∙ moved_by (is_side row.told.side side) side row front rest refl pass
    ∙ sym (ap (λ l. if is_side row.told.side side then row ∷ l else l) (side_append side front rest))

-- ---- an order

split_at : (told : List Row) (place : ℕ) (row : Row) → slice_get told place ≡ Some row → told ≡ take place told ++ row ∷ drop (suc place) told
split_at told place row at =
    let below : place < length told = slice_get_within told place row at in
    let next : place + 1 ≡ suc place = omega arith in
    sym (take-append-drop place told)
    ∙ ap (λ l. take place told ++ l) (drop_more told place row below)
    ∙ ap (λ r. take place told ++ r ∷ drop (place + 1) told) (get_or_from_slice_get told place row row at)
    ∙ ap (λ n. take place told ++ row ∷ drop n told) next

pub keeps_sides : (told order : List Row) (side : Side) → IsOrder told order → of_side side order ≡ of_side side told
keeps_sides told [] side none = sym (ap (of_side side) none)
keeps_sides told (row ∷ order) side (place, first, rest) =
    let (at, pass) = first in
    ap (λ l. if is_side row.told.side side then row ∷ l else l) (keeps_sides (remove told place) order side rest)
    ∙ sym (moved side row (take place told) (drop (suc place) told) pass)
    ∙ sym (ap (of_side side) (split_at told place row at))

-- ---- the order that is made, one by one

-- of an order of what is left, behind the front that was made: it is one of all
abbrev pub GoesOn : List Row → List Row → List Row → Type 0
GoesOn told front left = (order : List Row) → IsOrder left order → IsOrder told (front ++ order)

pub goes_on : (told front left : List Row) (place : ℕ) (row : Row) → MayBeFirst left place row → GoesOn told front left
    → GoesOn told (front ++ row ∷ []) (remove left place)
goes_on told front left place row first before order is =
    let all : IsOrder told (front ++ row ∷ order) = before (row ∷ order) (place, first, is) in
    subst (λ l. IsOrder told l) (sym (append_assoc front (row ∷ []) order)) all

-- the same of the lists as a loop has them, which takes this one out
pub one_gone : (told front left lent after pushed : List Row) (place : ℕ) (row taken : Row) → lent ≡ left → MayBeFirst lent place row
    → place < length left → taken ≡ get_or left place taken → after ≡ remove left place → pushed ≡ front ++ taken ∷ []
    → GoesOn told front left → GoesOn told pushed after
one_gone told front left lent after pushed place row taken is first below value gone more before =
    let here : MayBeFirst left place row = subst (λ l. MayBeFirst l place row) is first in
    let same : row ≡ taken = sym (get_or_from_slice_get left place row taken here.0) ∙ sym value in
    let taken_first : MayBeFirst left place taken = subst (λ r. MayBeFirst left place r) same here in
    let next : GoesOn told (front ++ taken ∷ []) (remove left place) = goes_on told front left place taken taken_first before in
    subst (λ l. GoesOn told l after) (sym more) (subst (λ l. GoesOn told (front ++ taken ∷ []) l) (sym gone) next)

pub none_left : (items : List Row) → length items ≡ 0 → items ≡ []
none_left [] e = refl
none_left (x ∷ items) e = absurd (omega arith)

pub all_gone : (told front left : List Row) → GoesOn told front left → left ≡ [] → IsOrder told front
all_gone told front left before none = subst (λ l. IsOrder told l) (append-nil front) (before [] none)

-- ---- one more row

pub row_taken : (rows : List Row) (i : ℕ) (row : Row) → slice_get rows i ≡ Some row → take (i + 1) rows ≡ take i rows ++ row ∷ []
row_taken rows i row at =
    take_more rows i row (slice_get_within rows i row at) ∙ ap (λ r. take i rows ++ r ∷ []) (get_or_from_slice_get rows i row row at)

-- ---- rows joined one by one

pub joined_more : (rows front : List Row) (next : Row) → joined_all rows (front ++ next ∷ []) ≡ with_record (joined_all rows front) next
joined_more rows [] next = refl
joined_more rows (x ∷ front) next = joined_more (with_record rows x) front next

pub joined_taken : (order : List Row) (i : ℕ) (d : Row) → i < length order
    → joined_all [] (take (i + 1) order) ≡ with_record (joined_all [] (take i order)) (get_or order i d)
joined_taken order i d below = ap (joined_all []) (take_more order i d below) ∙ joined_more [] (take i order) (get_or order i d)
