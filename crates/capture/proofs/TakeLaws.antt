-- One record's turn, and the head's.
use Rattle.std.proofs.Common.{◌≡◌, ℕ, ◌+◌, ◌-◌, ◌<◌, ◌≤◌, Bool, true, false, cond, leb, List, [], ◌∷◌, ◌++◌, length, take, drop, Option, Some, None}
use Rattle.std.proofs.Common.{Result, Ok, Err, sym, ap, subst, ◌∙◌, inr, arith}
use Rattle.std.specs.Prelude.{IfSome}
use Rattle.std.specs.Io.KnownBytes.{prepend_known, Consumes, Keeps}
use Rattle.std.proofs.KnownBytes.{prepend_known-nil}
use Rattle.std.proofs.lemmas.List.{append_assoc}
use Rattle.capture.specs.declared.limit.TheConstants.{MAX_RECORDS}
use Rattle.capture.specs.declared.fault.Departure.{Departure}
use Rattle.capture.specs.declared.fault.Departure.TheVariants.{Syntax, TooLong, TooMany, Part}
use Rattle.capture.specs.declared.hint.HintForm.{HintForm}
use Rattle.capture_record.specs.declared.record.Record.{Record}
use Rattle.capture.specs.Text.{record_text, ended}
use Rattle.capture_record.specs.Range.{IsRecord, record_bytes, most_bytes}
use Rattle.capture.specs.Range.{FormFits, IsInForm}
use Rattle.capture.specs.Departing.{first_line, IsWhole, WordsDepart, RecordDeparts, HeadWordsDepart}
use Rattle.capture.specs.Opening.{EitherHeadDeparts}
use Rattle.capture.specs.Reading.{is_wide, record_at, head_at, part_head_at}
use Rattle.capture.proofs.BytesLaws.{limited}
use Rattle.capture.proofs.LineLaws.{line-split, line-append, if_known}
use Rattle.capture.proofs.RecordLaws.{IsRecordOf, IsLongRecordOf, allowed_in, record_shows, record_again}
use Rattle.capture.proofs.HeadLaws.{head_again}
use Rattle.capture.proofs.PartHead.{part_head_again}
use Rattle.capture.proofs.Shown.{Shows}

-- ---- the line that was found

pub line_is : (unread : List ℕ) (len : ℕ) → IsWhole unread → len ≡ length (first_line unread) → take len unread ≡ first_line unread
line_is unread len whole e = ap (λ (k : ℕ). take k unread) e ∙ sym (line-split unread whole.ended).1

-- it was the first of what was to come, and what stands behind it is to come now
pub line_consumed : (unread : List ℕ) (len : ℕ) (before after : Option (List ℕ)) (text : List ℕ)
    → IsWhole unread → len ≡ length (first_line unread) → take len unread ≡ text → Keeps before (prepend_known unread after)
    → Consumes before (prepend_known (drop (len + 1) unread) after) (ended text)
line_consumed unread len None after text whole e words kept = tt
line_consumed unread len (Some xs) None text whole e words kept = absurd kept
line_consumed unread len (Some xs) (Some rest) text whole e words kept =
    let split : unread ≡ ended text ++ drop (len + 1) unread =
    (line-split unread whole.ended).0 ∙ ap (λ (k : ℕ). first_line unread ++ 10 ∷ drop (k + 1) unread) (sym e)
    ∙ ap (λ (t : List ℕ). t ++ 10 ∷ drop (len + 1) unread) (sym (line_is unread len whole e) ∙ words)
    ∙ sym (append_assoc text (10 ∷ []) (drop (len + 1) unread)) in
    sym kept ∙ ap (λ (t : List ℕ). t ++ rest) split ∙ append_assoc (ended text) (drop (len + 1) unread) rest

-- a whole line stays as it is, whatever follows
pub whole-append : (unread rest : List ℕ) → IsWhole unread → IsWhole (unread ++ rest) × (first_line (unread ++ rest) ≡ first_line unread)
whole-append unread rest whole =
    let same = line-append unread rest whole.ended in
    (record { short = rw same.0 whole.short; ended = same.1 }, same.0)

-- ---- its words

abbrev ShowsIn : HintForm → List ℕ → Result Record Departure → Type 0
ShowsIn form text read = Shows (IsRecordOf (is_wide form) form text) (IsLongRecordOf (is_wide form) form text) read

record_from : (form : HintForm) (text : List ℕ) (r : Record) → IsRecordOf (is_wide form) form text r →
    IsRecord r × (text ≡ record_text form r) × IsInForm form r
record_from form text r h = (record { spelling = record { numbers = h.1; bytes = h.2 }; short = h.3 }, h.0, allowed_in form r h.4)

pub record_ok : (form : HintForm) (text : List ℕ) (r : Record) → FormFits form → record_at form text ≡ Ok r →
    IsRecord r × (text ≡ record_text form r) × IsInForm form r
record_ok form text r fits e = record_from form text r (subst (ShowsIn form text) e (record_shows (is_wide form) form text fits))

-- neither `Ok` nor `TooLong` is `Syntax`
limited_apart : (most : ℕ) (bytes : List ℕ) (r : Record) → limited most bytes r ≡ Err Syntax → ⊥
limited_apart most bytes r e = by_test (leb (length bytes) most) e
  where
    by_test : (t : Bool) → ◌≡◌ {A = Result Record Departure} (cond t (Ok r) (Err TooLong)) (Err Syntax) → ⊥
    by_test true h = cc
    by_test false h = cc

pub words_depart : (form : HintForm) (kind : Departure) (text : List ℕ) → FormFits form → record_at form text ≡ Err kind → WordsDepart form kind text
words_depart form Syntax text fits e =
    λ r h spelled has. limited_apart (most_bytes r) (record_bytes r) r
    (sym (record_again form r fits h has) ∙ ap (record_at form) (sym spelled) ∙ e)
words_depart form TooLong text fits e =
    let shown = subst (ShowsIn form text) e (record_shows (is_wide form) form text fits) in
    long_from shown.0 shown.1
  where
    long_from : (r : Record) → IsLongRecordOf (is_wide form) form text r → WordsDepart form TooLong text
    long_from r h = (
      r,
      record { numbers = h.1; bytes = h.2 },
      (λ short. let long = h.3 in absurd (omega arith)),
      h.0,
      allowed_in form r h.4,
    )
words_depart form TooMany text fits e = subst (ShowsIn form text) e (record_shows (is_wide form) form text fits)
words_depart form Part text fits e = subst (ShowsIn form text) e (record_shows (is_wide form) form text fits)

-- ---- departures of what was to come

pub record_departs : (form : HintForm) (kind : Departure) (unread : List ℕ) (len taken : ℕ) (before after : Option (List ℕ)) → FormFits form →
    taken < MAX_RECORDS + 1 → 1 ≤ taken → IsWhole unread → len ≡ length (first_line unread)
    → Keeps before (prepend_known unread after) → record_at form (take len unread) ≡ Err kind → IfSome before (RecordDeparts form (taken - 1) kind)
record_departs form kind unread len taken before after fits lt some whole e kept read =
    let departs = words_depart form kind (first_line unread) fits (ap (record_at form) (sym (line_is unread len whole e)) ∙ read) in
    if_known before after unread (RecordDeparts form (taken - 1) kind) kept (λ rest.
    let same = whole-append unread rest whole in
    inr (omega arith, same.0, subst (WordsDepart form kind) (sym same.1) departs))

-- ---- the head

pub no_head : (unread : List ℕ) (len : ℕ) (before after : Option (List ℕ)) → IsWhole unread → len ≡ length (first_line unread) →
    Keeps before (prepend_known unread after)
    → head_at (take len unread) ≡ None → part_head_at (take len unread) ≡ None → IfSome before (EitherHeadDeparts Syntax)
no_head unread len before after whole e kept read read_part =
    let none : head_at (first_line unread) ≡ None = ap head_at (sym (line_is unread len whole e)) ∙ read in
    let none_part : part_head_at (first_line unread) ≡ None = ap part_head_at (sym (line_is unread len whole e)) ∙ read_part in
    let departs : HeadWordsDepart Syntax (first_line unread) = (
      λ format own peer p q spelled. absurd
          (let some : None ≡ Some (format, own, peer) = sym none ∙ ap head_at spelled ∙ head_again format own peer p q in cc),
      λ part. absurd
          (let some : None ≡ Some (part.own, part.peer) =
          sym none_part ∙ ap part_head_at part.spelled ∙ part_head_again part.own part.peer part.own_fits part.peer_fits in
          cc),
    ) in
    if_known before after unread (EitherHeadDeparts Syntax) kept (λ rest.
    let same = whole-append unread rest whole in
    inr (same.0, subst (HeadWordsDepart Syntax) (sym same.1) departs))

-- nothing was read ahead
pub start_kept : (unread : List ℕ) (before after : Option (List ℕ)) → unread ≡ [] → Keeps (prepend_known unread before) after → Keeps before after
start_kept unread before after e h =
    subst (λ (a : Option (List ℕ)). Keeps a after) (ap (λ (t : List ℕ). prepend_known t before) e ∙ prepend_known-nil before) h
