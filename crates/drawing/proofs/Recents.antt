-- The last records, and one more.
use Rattle.std.proofs.Common.{◌≡◌, ◌⊎◌, ◌≤◌, ℕ, ◌+◌, inl, inr, Bool, true, false, arith}
use Rattle.std.proofs.Common.{List, [], ◌∷◌, ◌++◌, length, map, refl, sym, ◌∙◌, ap, ap₂, subst}
use Rattle.std.proofs.lemmas.List.{append_assoc, append-nil, length-append}
use Rattle.std.proofs.lemmas.List.Sums.{fold-append}
use Rattle.ladder.specs.Ladder.{LadderView}
use Rattle.ladder.specs.declared.rows.Keep.TheVariants.{Last}
use Rattle.pair_judge.specs.Order.{MadeEntry, MadeRecord, TellsNext, record_told}
use Rattle.drawing.specs.declared.begun.Begun.{Begun}
use Rattle.drawing.specs.declared.recent.Recent.{Recent}
use Rattle.drawing.specs.declared.log.TheConstants.{RECORDS}
use Rattle.drawing.specs.Telling.{knows, ladder_knowing, ladder_told, takes, with_no_rows}
use Rattle.drawing.specs.inner.Ending.{IsBegun}
use Rattle.drawing.specs.inner.Kept.{IsRecent, Rest, WasToldOf}
use Rattle.drawing.proofs.Told.{order_more}

pub recent_none : (recent : Recent) → recent.before.ended ≡ false → recent.before.a.line ≡ 2 → recent.before.b.line ≡ 2
    → recent.older ≡ [] → recent.newer ≡ [] → IsRecent recent []
recent_none recent ended line_a line_b no_older no_newer = record {
  start = recent.before;
  is_new = record { ended = ended; line_a = line_a; line_b = line_b };
  gone = [];
  of_order = ap₂ (λ (older newer : List MadeEntry). map record_told (older ++ newer)) no_older no_newer;
  before = refl;
  enough = inl refl;
}

-- one record more, where what it stood on was the same record
pub recent_made : (before mid after : Recent) (next : MadeEntry)
    → ((order : List MadeRecord) → IsRecent before order → IsRecent mid order) → after.before ≡ mid.before → after.older ≡ mid.older
    → after.newer ≡ mid.newer ++ next ∷ [] → TellsNext IsRecent before after (record_told next)
recent_made before mid after next kept same same_older is order was =
    let told = kept order was in
    record {
      start = told.start;
      is_new = told.is_new;
      gone = told.gone;
      of_order = ap₂ (λ (older newer : List MadeEntry). map record_told (told.gone ++ (older ++ newer))) same_older is
          ∙ ap (λ (l : List MadeEntry). map record_told (told.gone ++ l)) (sym (append_assoc mid.older mid.newer (next ∷ [])))
          ∙ order_more told.gone (mid.older ++ mid.newer) next order told.of_order;
      before = same ∙ told.before;
      enough = subst (λ (older : List MadeEntry). (told.gone ≡ []) ⊎ (RECORDS ≤ length older)) (sym same_older) told.enough;
    }

-- the older records are known, and the newer ones are the older ones now
pub turned : (before after : Recent) → after.before ≡ ladder_knowing before.before before.older → after.older ≡ before.newer
    → after.newer ≡ [] → RECORDS ≤ length before.newer → (order : List MadeRecord) → IsRecent before order → IsRecent after order
turned before after learns same none enough order told = record {
  start = told.start;
  is_new = told.is_new;
  gone = told.gone ++ before.older;
  of_order = ap₂ (λ (older newer : List MadeEntry). map record_told ((told.gone ++ before.older) ++ (older ++ newer))) same none
      ∙ ap (λ (l : List MadeEntry). map record_told ((told.gone ++ before.older) ++ l)) (append-nil before.newer)
      ∙ ap (λ (l : List MadeEntry). map record_told l) (append_assoc told.gone before.older before.newer)
      ∙ told.of_order;
  before = learns ∙ ap (λ (l : LadderView). ladder_knowing l before.older) told.before ∙ sym (fold-append knows told.start told.gone before.older);
  enough = inr (subst (λ (older : List MadeEntry). RECORDS ≤ length older) (sym same) enough);
}

-- ---- a ladder that is told of them

pub recent_known : (recent : Recent) (mid ladder : LadderView) → mid ≡ ladder_told recent.before recent.older
    → ladder ≡ ladder_told mid recent.newer → (order : List MadeRecord) → IsRecent recent order → WasToldOf ladder order
recent_known recent mid ladder half is order told = record {
  start = told.start;
  is_new = told.is_new;
  gone = told.gone;
  near = recent.older ++ recent.newer;
  of_order = told.of_order;
  reached = is ∙ ap (λ (l : LadderView). ladder_told l recent.newer) half ∙ sym (fold-append takes recent.before recent.older recent.newer)
      ∙ ap (λ (l : LadderView). ladder_told l (recent.older ++ recent.newer)) told.before;
}

all_told : (is_all : Bool) → is_all ≡ true → Rest is_all []
all_told is_all all = subst (λ (b : Bool). Rest b []) (sym all) refl

enough_of_both : (gone older newer : List MadeEntry) → (gone ≡ []) ⊎ (RECORDS ≤ length older) → (gone ≡ []) ⊎ (RECORDS ≤ length (older ++ newer))
enough_of_both gone older newer (inl none) = inl none
enough_of_both gone older newer (inr enough) =
    let longer : length (older ++ newer) ≡ length older + length newer = length-append older newer in
    inr (omega arith)

pub recent_begun : (recent : Recent) (begun : Begun) (rows : ℕ) (mid : LadderView) → begun.is_all ≡ true
    → mid ≡ ladder_told (with_no_rows Last rows recent.before) recent.older → begun.ladder ≡ ladder_told mid recent.newer
    → (order : List MadeRecord) → IsRecent recent order → IsBegun Last rows begun order
recent_begun recent begun rows mid all half is order told =
    let calls : List MadeEntry = recent.older ++ recent.newer in (
      [],
      record {
        start = told.start;
        ended = told.is_new.ended;
        line_a = told.is_new.line_a;
        line_b = told.is_new.line_b;
        gone = told.gone;
        near = [];
        calls = calls;
        later = [];
        of_order = append-nil (map record_told (told.gone ++ (calls ++ [])))
            ∙ ap (λ (l : List MadeEntry). map record_told (told.gone ++ l)) (append-nil calls) ∙ told.of_order;
        enough = enough_of_both told.gone recent.older recent.newer told.enough;
        none_near = refl;
        reached = is ∙ ap (λ (l : LadderView). ladder_told l recent.newer) half
            ∙ sym (fold-append takes (with_no_rows Last rows recent.before) recent.older recent.newer)
            ∙ ap (λ (l : LadderView). ladder_told (with_no_rows Last rows l) calls) told.before;
      },
      all_told begun.is_all all,
    )
