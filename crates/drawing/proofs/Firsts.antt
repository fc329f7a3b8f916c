-- The first records, and one more.
use Rattle.std.proofs.Common.{◌≡◌, ◌≤◌, ◌<◌, ℕ, Bool, true, false, arith}
use Rattle.std.proofs.Common.{List, [], ◌∷◌, ◌++◌, length, map, refl, sym, ◌∙◌, ap, subst}
use Rattle.std.proofs.lemmas.List.{append_assoc, append-nil, map-append}
use Rattle.ladder.specs.Ladder.{LadderView}
use Rattle.ladder.specs.Rows.{Kept, no_rows}
use Rattle.ladder.specs.declared.rows.Keep.TheVariants as keep
use Rattle.pair_judge.specs.Order.{MadeEntry, MadeRecord, TellsNext, record_told}
use Rattle.drawing.specs.declared.begun.Begun.{Begun}
use Rattle.drawing.specs.declared.first.First.{First}
use Rattle.drawing.specs.declared.first.TheConstants.{LATER}
use Rattle.drawing.specs.declared.log.TheConstants.{RECORDS}
use Rattle.drawing.specs.declared.told_record.Later.{Later}
use Rattle.drawing.specs.Telling.{ladder_behind, ladder_told, later_entry, with_no_rows}
use Rattle.drawing.specs.inner.Ending.{IsBegun}
use Rattle.drawing.specs.inner.Kept.{IsFirst, Rest}
use Rattle.drawing.proofs.Told.{order_more}

pub first_none : (first : First) → first.records.items ≡ [] → first.later.items ≡ [] → first.is_all ≡ true → IsFirst first []
first_none first none later all = record {
  later = [];
  rest = [];
  of_order = ap (λ (l : List MadeEntry). map record_told (l ++ []) ++ []) none;
  is_later = later;
  no_later = λ few. refl;
  no_rest = λ few. all;
  whole = subst (λ (is_all : Bool). Rest is_all []) (sym all) refl;
}

not_full : (most now was : ℕ) → now ≡ was → most ≤ was → now < most → ⊥
not_full most now was same full few = omega arith

-- none is left out
no_rest_by : (is_all : Bool) (rest : List MadeRecord) → is_all ≡ true → Rest is_all rest → rest ≡ []
no_rest_by true rest all none = none
no_rest_by false rest all none = cc

some_rest : (rest : List MadeRecord) (next : MadeRecord) → Rest false (rest ++ next ∷ [])
some_rest [] next = (next, [], refl)
some_rest (first ∷ rest) next = (first, rest ++ next ∷ [], refl)

rest_by : (is_all : Bool) (rest : List MadeRecord) (known : Bool) → is_all ≡ known → Rest known rest → Rest is_all rest
rest_by is_all rest known is told = subst (λ (b : Bool). Rest b rest) (sym is) told

-- what was told, where nothing is left out
whole_order : (items later : List MadeEntry) (rest order : List MadeRecord) → rest ≡ [] → map record_told (items ++ later) ++ rest ≡ order
    → map record_told (items ++ later) ≡ order
whole_order items later rest order none is =
    sym (append-nil (map record_told (items ++ later))) ∙ ap (λ (r : List MadeRecord). map record_told (items ++ later) ++ r) (sym none) ∙ is

none_later : (items : List Later) (later : List MadeEntry) → items ≡ map later_entry later → later ≡ [] → length items ≡ 0
none_later items later is none = ap length (is ∙ ap (λ (l : List MadeEntry). map later_entry l) none)

pub first_more : (before after : First) (next : MadeEntry) → length before.records.items < RECORDS
    → after.records.items ≡ before.records.items ++ next ∷ [] → after.later.items ≡ before.later.items → after.is_all ≡ before.is_all
    → TellsNext IsFirst before after (record_told next)
first_more before after next room is same all order told =
    let none : told.later ≡ [] = told.no_later room in
    let no_items : length before.later.items ≡ 0 = none_later before.later.items told.later told.is_later none in
    let few : length before.later.items < LATER = omega arith in
    let is_all : after.is_all ≡ true = all ∙ told.no_rest few in
    let no_rest : told.rest ≡ [] = no_rest_by before.is_all told.rest (told.no_rest few) told.whole in
    let old : map record_told before.records.items ≡ order =
    ap (λ (l : List MadeEntry). map record_told l) (sym (append-nil before.records.items))
    ∙ ap (λ (l : List MadeEntry). map record_told (before.records.items ++ l)) (sym none)
    ∙ whole_order before.records.items told.later told.rest order no_rest told.of_order in
    record {
      later = [];
      rest = [];
      of_order = append-nil (map record_told (after.records.items ++ []))
          ∙ ap (λ (l : List MadeEntry). map record_told l) (append-nil after.records.items ∙ is)
          ∙ order_more [] before.records.items next order old;
      is_later = same ∙ told.is_later ∙ ap (λ (l : List MadeEntry). map later_entry l) none;
      no_later = λ r. refl;
      no_rest = λ r. is_all;
      whole = rest_by after.is_all [] true is_all refl;
    }

pub first_later : (before after : First) (next : MadeEntry) → RECORDS ≤ length before.records.items → length before.later.items < LATER
    → after.records.items ≡ before.records.items → after.later.items ≡ before.later.items ++ later_entry next ∷ []
    → after.is_all ≡ before.is_all → TellsNext IsFirst before after (record_told next)
first_later before after next full room same is all order told =
    let as_many : length after.records.items ≡ length before.records.items = ap length same in
    let is_all : after.is_all ≡ true = all ∙ told.no_rest room in
    let no_rest : told.rest ≡ [] = no_rest_by before.is_all told.rest (told.no_rest room) told.whole in
    let old : map record_told (before.records.items ++ told.later) ≡ order =
    whole_order before.records.items told.later told.rest order no_rest told.of_order in
    record {
      later = told.later ++ next ∷ [];
      rest = [];
      of_order = append-nil (map record_told (after.records.items ++ (told.later ++ next ∷ [])))
          ∙ ap (λ (l : List MadeEntry). map record_told (l ++ (told.later ++ next ∷ []))) same
          ∙ order_more before.records.items told.later next order old;
      is_later = is ∙ ap (λ (l : List Later). l ++ later_entry next ∷ []) told.is_later
          ∙ sym (map-append later_entry told.later (next ∷ []));
      no_later = λ few. absurd (not_full RECORDS (length after.records.items) (length before.records.items) as_many full few);
      no_rest = λ r. is_all;
      whole = rest_by after.is_all [] true is_all refl;
    }

pub first_left : (before after : First) (next : MadeRecord) → RECORDS ≤ length before.records.items → LATER ≤ length before.later.items
    → after.records.items ≡ before.records.items → after.later.items ≡ before.later.items → after.is_all ≡ false
    → TellsNext IsFirst before after next
first_left before after next full full_later same same_later all order told =
    let as_many : length after.records.items ≡ length before.records.items = ap length same in
    let as_many_later : length after.later.items ≡ length before.later.items = ap length same_later in
    record {
      later = told.later;
      rest = told.rest ++ next ∷ [];
      of_order = ap (λ (l : List MadeEntry). map record_told (l ++ told.later) ++ (told.rest ++ next ∷ [])) same
          ∙ sym (append_assoc (map record_told (before.records.items ++ told.later)) told.rest (next ∷ []))
          ∙ ap (λ (o : List MadeRecord). o ++ next ∷ []) told.of_order;
      is_later = same_later ∙ told.is_later;
      no_later = λ few. absurd (not_full RECORDS (length after.records.items) (length before.records.items) as_many full few);
      no_rest = λ few. absurd (not_full LATER (length after.later.items) (length before.later.items) as_many_later full_later few);
      whole = rest_by after.is_all (told.rest ++ next ∷ []) false all (some_rest told.rest next);
    }

-- where one was left out already
pub first_rest : (first : First) (next : MadeRecord) → first.is_all ≡ false → TellsNext IsFirst first first next
first_rest first next all order told = record {
  later = told.later;
  rest = told.rest ++ next ∷ [];
  of_order = sym (append_assoc (map record_told (first.records.items ++ told.later)) told.rest (next ∷ []))
      ∙ ap (λ (o : List MadeRecord). o ++ next ∷ []) told.of_order;
  is_later = told.is_later;
  no_later = told.no_later;
  no_rest = told.no_rest;
  whole = rest_by first.is_all (told.rest ++ next ∷ []) false all (some_rest told.rest next);
}

-- no record of which nothing was told
pub nothing_told : (first : First) (order : List MadeRecord) → first.records.items ≡ [] → IsFirst first order → order ≡ []
nothing_told first order none told =
    let empty : length first.records.items ≡ 0 = ap length none in
    let few : length first.records.items < RECORDS = omega arith in
    let no_later : told.later ≡ [] = told.no_later few in
    let no_items : length first.later.items ≡ 0 = none_later first.later.items told.later told.is_later no_later in
    let few_later : length first.later.items < LATER = omega arith in
    let no_rest : told.rest ≡ [] = no_rest_by first.is_all told.rest (told.no_rest few_later) told.whole in
    sym (whole_order first.records.items told.later told.rest order no_rest told.of_order)
    ∙ ap (λ (l : List MadeEntry). map record_told (l ++ told.later)) none
    ∙ ap (λ (l : List MadeEntry). map record_told l) no_later

-- ---- a ladder that is told of them

same_rows : (rows : ℕ) (start : LadderView) → start.kept ≡ no_rows keep.First rows → with_no_rows keep.First rows start ≡ start
same_rows rows start is = ap (λ (kept : Kept). record start { kept = kept }) (sym is)

pub first_begun : (first : First) (begun : Begun) (rows : ℕ) (start : LadderView) → start.kept ≡ no_rows keep.First rows → start.ended ≡ false
    → start.a.line ≡ 2 → start.b.line ≡ 2 → begun.is_all ≡ first.is_all
    → begun.ladder ≡ ladder_behind (ladder_told start first.records.items) first.later.items
    → (order : List MadeRecord) → IsFirst first order → IsBegun keep.First rows begun order
first_begun first begun rows start kept ended line_a line_b all is order told = (
  told.rest,
  record {
    start = start;
    ended = ended;
    line_a = line_a;
    line_b = line_b;
    gone = [];
    near = [];
    calls = first.records.items;
    later = told.later;
    of_order = told.of_order;
    enough = refl;
    none_near = refl;
    reached = is ∙ ap (λ (l : LadderView). ladder_behind (ladder_told l first.records.items) first.later.items) (sym (same_rows rows start kept))
        ∙ ap (λ (l : List Later). ladder_behind (ladder_told (with_no_rows keep.First rows start) first.records.items) l) told.is_later;
  },
  rest_by begun.is_all told.rest first.is_all all told.whole,
)
