-- A ladder that is told one more record.
use Rattle.std.proofs.Common.{◌≡◌, ◌<◌, ℕ, ◌+◌, true, inl, inr, List, [], ◌∷◌, ◌++◌, get_or, length, map, refl, sym, ◌∙◌, ap, take}
use Rattle.std.specs.Prelude.{fold}
use Rattle.std.proofs.lemmas.List.{append_assoc, map-append, take_more}
use Rattle.std.proofs.lemmas.List.Sums.{fold-append}
use Rattle.ladder.specs.Ladder.{LadderView, follows, learned, made}
use Rattle.pair_judge.specs.Order.{MadeEntry, MadeRecord, record_told}
use Rattle.capture_record.specs.declared.entry.Entry.{Entry}
use Rattle.wire_base.specs.declared.side.Side.{Side}
use Rattle.drawing.specs.declared.told_record.Later.{Later}
use Rattle.drawing.specs.Drawing.{Followed}
use Rattle.drawing.specs.Telling.{WereFollowed, knows, ladder_behind, ladder_knowing, ladder_told, passes, takes}

-- ---- one more

taken : {X : Type 0} → (records : List X) (i : ℕ) (next : X) → i < length records → next ≡ get_or records i next
    → take (i + 1) records ≡ take i records ++ next ∷ []
taken {X} records i next within at = take_more records i next within ∙ ap (λ (x : X). take i records ++ x ∷ []) (sym at)

one_more : {X : Type 0} → (tells : LadderView → X → LadderView) (ladder : LadderView) (records : List X) (i : ℕ) (next : X) → i < length records
    → next ≡ get_or records i next → fold tells ladder (take (i + 1) records) ≡ tells (fold tells ladder (take i records)) next
one_more {X} tells ladder records i next within at =
    ap (λ (l : List X). fold tells ladder l) (taken records i next within at) ∙ fold-append tells ladder (take i records) (next ∷ [])

pub known_one_more : (ladder : LadderView) (records : List MadeEntry) (i : ℕ) (next : MadeEntry) → i < length records
    → next ≡ get_or records i next
    → ladder_knowing ladder (take (i + 1) records) ≡ learned (ladder_knowing ladder (take i records)) next.side next.entry next.bytes
known_one_more = one_more knows

pub told_one_more : (ladder : LadderView) (records : List MadeEntry) (i : ℕ) (next : MadeEntry) → i < length records
    → next ≡ get_or records i next
    → ladder_told ladder (take (i + 1) records) ≡ made (ladder_told ladder (take i records)) next.side next.entry next.bytes
told_one_more = one_more takes

pub followed_one_more : (ladder : LadderView) (records : List Later) (i : ℕ) (next : Later) → i < length records
    → next ≡ get_or records i next
    → ladder_behind ladder (take (i + 1) records) ≡ follows (ladder_behind ladder (take i records)) next.side next.entry
followed_one_more = one_more passes

pub order_more : (gone items : List MadeEntry) (next : MadeEntry) (order : List MadeRecord) → map record_told (gone ++ items) ≡ order
    → map record_told (gone ++ (items ++ next ∷ [])) ≡ order ++ record_told next ∷ []
order_more gone items next order is =
    ap (λ (l : List MadeEntry). map record_told l) (sym (append_assoc gone items (next ∷ [])))
    ∙ map-append record_told (gone ++ items) (next ∷ [])
    ∙ ap (λ (o : List MadeRecord). o ++ record_told next ∷ []) is

-- ---- those behind a refused record

pub followed_none : (ladder : LadderView) → WereFollowed ladder ladder
followed_none ladder = ([], refl)

pub followed_one : (before after : LadderView) (side : Side) (entry : Entry) → after ≡ follows before side entry → WereFollowed before after
followed_one before after side entry is =
    let next : Later = record { side = side; entry = entry } in
    (next ∷ [], is)

pub followed_on : (before between after : LadderView) → WereFollowed before between → WereFollowed between after → WereFollowed before after
followed_on before between after (first, reached) (second, ended) =
    (first ++ second, ended ∙ ap (λ l. ladder_behind l second) reached ∙ sym (fold-append passes before first second))

pub followed_all : (before one two : LadderView) → WereFollowed before one → WereFollowed one two → Followed before two
followed_all before one two first second = (two, followed_on before one two first second, inl refl)

pub followed_ended : (before one two after : LadderView) → WereFollowed before one → WereFollowed one two → after ≡ record two { ended = true }
    → Followed before after
followed_ended before one two after first second is = (two, followed_on before one two first second, inr is)
