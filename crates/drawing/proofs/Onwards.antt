-- The records from one on, and one more.
use Rattle.std.proofs.Common.{◌≡◌, ℕ, Bool, false, List, [], ◌∷◌, ◌++◌, map, refl, sym, ◌∙◌, ap, subst}
use Rattle.std.proofs.lemmas.List.{append_assoc, append-nil, map-append}
use Rattle.wire_base.specs.declared.side.Side.{Side}
use Rattle.ladder.specs.Ladder.{LadderView}
use Rattle.ladder.specs.declared.rows.Keep.TheVariants as keep
use Rattle.pair_judge.specs.Order.{MadeEntry, MadeRecord, TellsNext, record_told}
use Rattle.drawing.specs.declared.begun.Begun.{Begun}
use Rattle.drawing.specs.declared.first.First.{First}
use Rattle.drawing.specs.declared.recent.Recent.{Recent}
use Rattle.drawing.specs.declared.telling.BothEnds.{BothEnds}
use Rattle.drawing.specs.declared.telling.Onward.{Onward}
use Rattle.drawing.specs.declared.told_record.Later.{Later}
use Rattle.drawing.specs.Telling.{ladder_behind, ladder_knowing, ladder_told, with_no_rows}
use Rattle.drawing.specs.inner.Ending.{IsBegun}
use Rattle.drawing.specs.inner.Kept.{IsEnds, IsFirst, IsOnward, IsRecent, Rest, WasToldOf}
use Rattle.drawing.proofs.Firsts.{first_rest, nothing_told}

pub ends_more : (before after : BothEnds) (next : MadeRecord) → TellsNext IsFirst before.first after.first next
    → TellsNext IsRecent before.recent after.recent next → TellsNext IsEnds before after next
ends_more before after next first recent order was = (first order was.0, recent order was.1)

-- where one was left out of the first already
pub ends_rest : (before after : BothEnds) (next : MadeRecord) → before.first.is_all ≡ false → after.first ≡ before.first
    → TellsNext IsRecent before.recent after.recent next → TellsNext IsEnds before after next
ends_rest before after next left same recent order was = (
  subst (λ (first : First). IsFirst first (order ++ next ∷ [])) (sym same) (first_rest before.first next left order was.0),
  recent order was.1,
)

pub onward_none : (onward : Onward) → IsRecent onward.before [] → IsFirst onward.first [] → IsOnward onward []
onward_none onward before first = record { ahead = []; tail = []; of_order = refl; before = before; first = first }

pub onward_before : (before after : Onward) (next : MadeRecord) → before.first.records.items ≡ []
    → TellsNext IsRecent before.before after.before next → after.first ≡ before.first → TellsNext IsOnward before after next
onward_before before after next none recent same order was =
    let empty : was.tail ≡ [] = nothing_told before.first was.tail none was.first in
    let old : was.ahead ≡ order = sym (append-nil was.ahead) ∙ ap (λ (t : List MadeRecord). was.ahead ++ t) (sym empty) ∙ was.of_order in
    record {
      ahead = was.ahead ++ next ∷ [];
      tail = was.tail;
      of_order = ap (λ (t : List MadeRecord). (was.ahead ++ next ∷ []) ++ t) empty
          ∙ append-nil (was.ahead ++ next ∷ [])
          ∙ ap (λ (o : List MadeRecord). o ++ next ∷ []) old;
      before = recent was.ahead was.before;
      first = subst (λ (first : First). IsFirst first was.tail) (sym same) was.first;
    }

pub onward_more : (before after : Onward) (next : MadeRecord) → after.before ≡ before.before
    → TellsNext IsFirst before.first after.first next → TellsNext IsOnward before after next
onward_more before after next same first order was = record {
  ahead = was.ahead;
  tail = was.tail ++ next ∷ [];
  of_order = sym (append_assoc was.ahead was.tail (next ∷ [])) ∙ ap (λ (o : List MadeRecord). o ++ next ∷ []) was.of_order;
  before = subst (λ (recent : Recent). IsRecent recent was.ahead) (sym same) was.before;
  first = first was.tail was.first;
}

-- ---- a ladder that is told of them

pub onward_begun : (onward : Onward) (begun : Begun) (side : Side) (line rows : ℕ) (known : LadderView)
    → ((ahead : List MadeRecord) → IsRecent onward.before ahead → WasToldOf known ahead) → begun.is_all ≡ onward.first.is_all
    → begun.ladder ≡ ladder_behind (ladder_told (with_no_rows (keep.From side line) rows known) onward.first.records.items) onward.first.later.items
    → (order : List MadeRecord) → IsOnward onward order → IsBegun (keep.From side line) rows begun order
onward_begun onward begun side line rows known knows all is order was =
    let calls : List MadeEntry = onward.first.records.items in
    let later : List MadeEntry = was.first.later in
    let rest : List MadeRecord = was.first.rest in
    let of_known = knows was.ahead was.before in
    let gone : List MadeEntry = of_known.gone in
    let near : List MadeEntry = of_known.near in (
      rest,
      record {
        start = of_known.start;
        ended = of_known.is_new.ended;
        line_a = of_known.is_new.line_a;
        line_b = of_known.is_new.line_b;
        gone = gone;
        near = near;
        calls = calls;
        later = later;
        of_order = ap (λ (l : List MadeEntry). map record_told l ++ rest) (sym (append_assoc gone near (calls ++ later)))
            ∙ ap (λ (o : List MadeRecord). o ++ rest) (map-append record_told (gone ++ near) (calls ++ later))
            ∙ append_assoc (map record_told (gone ++ near)) (map record_told (calls ++ later)) rest
            ∙ ap (λ (o : List MadeRecord). o ++ (map record_told (calls ++ later) ++ rest)) of_known.of_order
            ∙ ap (λ (t : List MadeRecord). was.ahead ++ t) was.first.of_order
            ∙ was.of_order;
        enough = tt;
        none_near = tt;
        reached = is
            ∙ ap (λ (l : LadderView). ladder_behind (ladder_told (with_no_rows (keep.From side line) rows l) calls) onward.first.later.items)
            of_known.reached
            ∙ ap (λ (l : List Later). ladder_behind (ladder_told (with_no_rows (keep.From side line) rows
            (ladder_told (ladder_knowing of_known.start gone) near)) calls) l) was.first.is_later;
      },
      subst (λ (b : Bool). Rest b rest) (sym all) was.first.whole,
    )
