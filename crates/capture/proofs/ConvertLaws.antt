-- What was converted of a text, from one record to the next.
use Rattle.std.proofs.Common.{◌≡◌, ℕ, ◌+◌, ◌<◌, ◌≤◌, inr, List, [], ◌∷◌, ◌++◌, length, take, Option, Some, None, Ok, Err, refl}
use Rattle.std.proofs.Common.{sym, ap, subst, ◌∙◌, arith, length-append, append-nil, append_assoc, lit<}
use Rattle.std.specs.Prelude.{codes}
use Rattle.std.specs.Option.{IfSome}
use Rattle.std.specs.List.{AllByRecursion}
use Rattle.std.specs.Io.KnownBytes.{Appends, IsAtEnd}
use Rattle.std.proofs.KnownBytes.{Appends-trans}
use Rattle.std.proofs.Math.Seq.{take-append-add}
use Rattle.std.proofs.lemmas.Option.{same_Some}
use Rattle.wire_base.specs.Tally.{AppendsBeginning}
use Rattle.capture.specs.declared.fault.CaptureFault.{CaptureFault}
use Rattle.capture.specs.declared.fault.CaptureFault.TheVariants.{Departs, Read, OutOfMemory, Failed}
use Rattle.capture_record.specs.declared.fate.Fate.{Fate}
use Rattle.capture_record.specs.declared.fate.Fate.TheVariants.{NotKept, Kept, Dropped}
use Rattle.capture.specs.declared.fault.ConvertFault.TheVariants.{NotInFormat, Write}
use Rattle.capture.specs.declared.format.Format.{Format}
use Rattle.capture.specs.declared.hint.HintForm.{HintForm}
use Rattle.capture_record.specs.declared.limit.TheConstants.{MAX_HINT}
use Rattle.capture.specs.declared.limit.TheConstants.{MAX_LINE}
use Rattle.capture.specs.declared.phase.Phase.TheVariants.{Reading}
use Rattle.capture_record.specs.declared.record.Record.{Record}
use Rattle.capture_record.specs.declared.record.Record.TheVariants.{Received}
use Rattle.capture.specs.Converting.{Converts, ConvertsWholeLines, IsConvertible, convert_fault, devices, text_of}
use Rattle.capture.specs.Departing.{RecordDeparts}
use Rattle.capture.specs.Faulty.{is_read_fault}
use Rattle.capture.specs.Lines.{IsCutBehind, to_come}
use Rattle.capture.specs.Paged.{HandsOver}
use Rattle.capture_record.specs.Range.{IsRecord}
use Rattle.capture.specs.Range.{FormFits, IsInFormat, IsText, IsTextIn}
use Rattle.capture.specs.Reader.{CaptureState, FaultShows, NextGives, Opens, WhereReadFails}
use Rattle.capture.specs.Reading.{cut_at}
use Rattle.capture.specs.SoFar.{Behind, GoesOnBy, ReadSoFar, ToCome, TheEnd, so_far, IsReadSoFar}
use Rattle.capture.specs.Text.{bytes_text, capture_text, first_form, form_after, form_behind, head_line, hint_text, record_line, record_text, spaced}
use Rattle.capture.proofs.HintLaws.{hint_lacks}
use Rattle.capture.proofs.LackLaws.{record_short}
use Rattle.capture.proofs.PartLaws.{cut_again, cut_takes}
use Rattle.capture.proofs.SoFarLaws.{All-push, form_behind-push, form_marked, goes_on, text-push, ended, one_more, opened}

-- ---- one line

pub cut_long : (mark : ℕ) (text a b : List ℕ) → Some (a, b) ≡ cut_at mark text → length text ≡ length a + length b + 1
cut_long mark text a b e = omega (arith, ap length (cut_takes mark text (a, b) (sym e)), length-append a (mark ∷ b))

pieces : (p a h t : List ℕ) → (((((p ++ a) ++ 32 ∷ []) ++ h) ++ 32 ∷ []) ++ t) ++ 10 ∷ [] ≡ p ++ ((a ++ 32 ∷ (h ++ 32 ∷ t)) ++ 10 ∷ [])
pieces p a h t =
    append_assoc ((((p ++ a) ++ 32 ∷ []) ++ h) ++ 32 ∷ []) t (10 ∷ [])
    ∙ append_assoc (((p ++ a) ++ 32 ∷ []) ++ h) (32 ∷ []) (t ++ 10 ∷ [])
    ∙ append_assoc ((p ++ a) ++ 32 ∷ []) h (32 ∷ (t ++ 10 ∷ []))
    ∙ append_assoc (p ++ a) (32 ∷ []) (h ++ 32 ∷ (t ++ 10 ∷ []))
    ∙ append_assoc p a (32 ∷ (h ++ 32 ∷ (t ++ 10 ∷ [])))
    ∙ ap (λ (x : List ℕ). p ++ x)
    (sym (append_assoc a (32 ∷ (h ++ 32 ∷ t)) (10 ∷ []) ∙ ap (λ (x : List ℕ). a ++ 32 ∷ x) (append_assoc h (32 ∷ t) (10 ∷ []))))

-- the words of a receipt, cut at both spaces
parted : (from : HintForm) (hint : ℕ) (bytes line letter rest number text : List ℕ) (a : List ℕ) → FormFits from → hint ≤ MAX_HINT →
    cut_at 32 line ≡ Some (a, spaced (hint_text from hint) (bytes_text bytes))
    → Some (letter, rest) ≡ cut_at 32 line → Some (number, text) ≡ cut_at 32 rest → (letter ≡ a) × (text ≡ bytes_text bytes)
parted from hint bytes line letter rest number text a fits small first e f =
    let one : ◌≡◌ {A = List ℕ × List ℕ} (letter, rest) (a, spaced (hint_text from hint) (bytes_text bytes)) = same_Some _ _ (e ∙ first) in
    let behind : rest ≡ spaced (hint_text from hint) (bytes_text bytes) = ap (λ (z : List ℕ × List ℕ). z.1) one in
    let two : ◌≡◌ {A = List ℕ × List ℕ} (number, text) (hint_text from hint, bytes_text bytes) =
    same_Some _ _ (f ∙ ap (cut_at 32) behind ∙ cut_again 32 (hint_text from hint) (bytes_text bytes) (hint_lacks from 32 hint (lit< tt) fits small))
    in
    (ap (λ (z : List ℕ × List ℕ). z.0) one, ap (λ (z : List ℕ × List ℕ). z.1) two)

pub receipt_line : (to from : HintForm) (hint : ℕ) (fate : Fate) (bytes line letter rest number text page : List ℕ) →
    Some (letter, rest) ≡ cut_at 32 line → Some (number, text) ≡ cut_at 32 rest
    → FormFits from → hint ≤ MAX_HINT → line ≡ record_text from (Received hint fate bytes)
    → (((((page ++ letter) ++ 32 ∷ []) ++ hint_text to hint) ++ 32 ∷ []) ++ text) ++ 10 ∷ [] ≡ page ++ record_line to (Received hint fate bytes)
receipt_line to from hint NotKept bytes line letter rest number text page e f fits small is =
    let p = parted from hint bytes line letter rest number text (codes "r") fits small
    (ap (cut_at 32) is ∙ cut_again 32 (codes "r") (spaced (hint_text from hint) (bytes_text bytes)) ((λ h. absurd (omega arith)), tt)) e f in
    rw (p.0, p.1) (pieces page (codes "r") (hint_text to hint) (bytes_text bytes))
receipt_line to from hint Kept bytes line letter rest number text page e f fits small is =
    let p = parted from hint bytes line letter rest number text (codes "k") fits small
    (ap (cut_at 32) is ∙ cut_again 32 (codes "k") (spaced (hint_text from hint) (bytes_text bytes)) ((λ h. absurd (omega arith)), tt)) e f in
    rw (p.0, p.1) (pieces page (codes "k") (hint_text to hint) (bytes_text bytes))
receipt_line to from hint Dropped bytes line letter rest number text page e f fits small is =
    let p = parted from hint bytes line letter rest number text (codes "d") fits small
    (ap (cut_at 32) is ∙ cut_again 32 (codes "d") (spaced (hint_text from hint) (bytes_text bytes)) ((λ h. absurd (omega arith)), tt)) e f in
    rw (p.0, p.1) (pieces page (codes "d") (hint_text to hint) (bytes_text bytes))

-- a receipt has two spaces
pub has_space : (from : HintForm) (hint : ℕ) (fate : Fate) (bytes : List ℕ) → cut_at 32 (record_text from (Received hint fate bytes)) ≡ Some
    (take 1 (record_text from (Received hint fate bytes)), spaced (hint_text from hint) (bytes_text bytes))
has_space from hint NotKept bytes = cut_again 32 (codes "r") (spaced (hint_text from hint) (bytes_text bytes)) ((λ h. absurd (omega arith)), tt)
has_space from hint Kept bytes = cut_again 32 (codes "k") (spaced (hint_text from hint) (bytes_text bytes)) ((λ h. absurd (omega arith)), tt)
has_space from hint Dropped bytes = cut_again 32 (codes "d") (spaced (hint_text from hint) (bytes_text bytes)) ((λ h. absurd (omega arith)), tt)

-- there is a second space
pub second_space : (from : HintForm) (hint : ℕ) (fate : Fate) (bytes line letter rest : List ℕ) → Some (letter, rest) ≡ cut_at 32 line →
    None ≡ cut_at 32 rest → FormFits from → hint ≤ MAX_HINT → line ≡ record_text from (Received hint fate bytes) → ⊥
second_space from hint fate bytes line letter rest e none fits small is =
    let one : ◌≡◌ {A = List ℕ × List ℕ} (letter, rest)
    (take 1 (record_text from (Received hint fate bytes)), spaced (hint_text from hint) (bytes_text bytes)) =
    same_Some _ _ (e ∙ ap (cut_at 32) is ∙ has_space from hint fate bytes) in
    let behind : rest ≡ spaced (hint_text from hint) (bytes_text bytes) = ap (λ (z : List ℕ × List ℕ). z.1) one in
    let found : ◌≡◌ {A = Option (List ℕ × List ℕ)} None (Some (hint_text from hint, bytes_text bytes)) =
    none ∙ ap (cut_at 32) behind ∙ cut_again 32 (hint_text from hint) (bytes_text bytes) (hint_lacks from 32 hint (lit< tt) fits small) in
    cc

pub line_short : (text : Option (List ℕ)) (read : ReadSoFar) (r : Record) (line : List ℕ) → IsReadSoFar text read → IsRecord r →
    line ≡ record_text read.form r → length line ≤ MAX_LINE
line_short text read r line h is_record is = omega (arith, record_short read.form r (form_marked text read h) is_record, ap length is)

-- ---- before the first record

pub no_head_written : (to : Format) (text left old later : Option (List ℕ)) (state : CaptureState) → Opens text left (Ok state) →
    AppendsBeginning old later (head_line to state.own state.peer) → Converts to text old later (Err Write)
no_head_written to text left old later state opens some = (
  so_far state.form state.own state.peer [] (ToCome (to_come state.unread left)),
  record { from = opened text left state opens; lines = tt },
  subst (AppendsBeginning old later) (sym (append-nil (head_line to state.own state.peer))) some,
)

-- ---- between two records

-- what the reader and the page are, and what the writer has taken
pub record Place : Type 0 where
  pub capture : CaptureState
  pub come : Option (List ℕ)
  pub form : HintForm
  pub count : ℕ
  pub page : List ℕ
  pub taken : Option (List ℕ)

abbrev pub place : CaptureState → Option (List ℕ) → HintForm → ℕ → List ℕ → Option (List ℕ) → Place
place capture come form count page taken = record { capture = capture; come = come; form = form; count = count; page = page; taken = taken }

-- so many records were read of the text; a part of their text was written, and the rest is on the page
pub record IsUnderWay (to : Format) (text old : Option (List ℕ)) (at : Place) : Type 0 where
  pub records : List Record
  pub read : IsReadSoFar text (so_far at.capture.form at.capture.own at.capture.peer records (ToCome at.come))
  pub lines : AllByRecursion (IsInFormat to) records
  pub count : length records ≡ at.count
  pub counted : at.capture.records ≡ at.count
  pub reading : at.capture.phase ≡ Reading
  pub form_is : at.form ≡ form_behind (first_form to) records
  pub written : List ℕ
  pub text_is : capture_text to at.capture.own at.capture.peer records ≡ written ++ at.page
  pub taken : Appends old at.taken written

module _ (to : Format) (text old : Option (List ℕ)) (at : Place) (h : IsUnderWay to text old at) where
  -- one more record was read, and its line put on the page
  pub line_on : (new : Place) (kept : List ℕ) (r : Record) → new.capture.own ≡ at.capture.own → new.capture.peer ≡ at.capture.peer →
      NextGives at.capture new.capture at.come new.come (Ok (Some r))
      → HandsOver at.page kept at.taken new.taken → new.page ≡ kept ++ record_line at.form r → new.form ≡ form_after at.form r →
      new.count ≡ at.count + 1 → IsInFormat to r → IsUnderWay to text old new
  line_on new kept r own peer gives over put form count has =
      let few = gives.1 in
      let same = h.count in
      let counted = h.counted in
      let line = record_line at.form r in
      let lines : capture_text to at.capture.own at.capture.peer (h.records ++ r ∷ []) ≡ (h.written ++ over.written) ++ new.page =
      text-push to at.capture.own at.capture.peer h.records r
      ∙ ap (λ (f : HintForm). capture_text to at.capture.own at.capture.peer h.records ++ record_line f r) (sym h.form_is)
      ∙ ap (λ (x : List ℕ). x ++ line) (h.text_is ∙ ap (λ (x : List ℕ). h.written ++ x) over.parts ∙ sym (append_assoc h.written over.written kept))
      ∙ append_assoc (h.written ++ over.written) kept line ∙ ap (λ (x : List ℕ). (h.written ++ over.written) ++ x) (sym put) in
      record {
        records = h.records ++ r ∷ [];
        read = rw (own, peer, gives.5)
            (one_more text at.come new.come at.capture.form at.capture.own at.capture.peer h.records r h.read (omega arith) gives.0 gives.4 gives.6);
        lines = All-push (IsInFormat to) h.records r h.lines has;
        count = omega (arith, length-append h.records (r ∷ []));
        counted = omega (arith, gives.2);
        reading = gives.3;
        form_is = form ∙ ap (λ (f : HintForm). form_after f r) h.form_is ∙ sym (form_behind-push (first_form to) h.records r);
        written = h.written ++ over.written;
        text_is = rw (own, peer) lines;
        taken = Appends-trans old at.taken new.taken h.written over.written h.taken over.taken;
      }

  -- what was read by then
  abbrev pub by_then : ReadSoFar
  by_then = so_far at.capture.form at.capture.own at.capture.peer h.records (ToCome at.come)

  can_convert : IsConvertible to text by_then
  can_convert = record { from = h.read; lines = h.lines }

  -- the page was written
  pub all_taken : (rest : List ℕ) (later : Option (List ℕ)) → HandsOver at.page rest at.taken later → rest ≡ [] →
      Appends old later (capture_text to at.capture.own at.capture.peer h.records)
  all_taken rest later over none =
      subst (Appends old later)
      (sym (h.text_is ∙ ap (λ (x : List ℕ). h.written ++ x) (over.parts ∙ ap (λ (x : List ℕ). over.written ++ x) none ∙ append-nil over.written)))
      (Appends-trans old at.taken later h.written over.written h.taken over.taken)

  -- a beginning of it was written
  pub some_taken : (later : Option (List ℕ)) → AppendsBeginning at.taken later at.page → (read : ReadSoFar) × IsConvertible to text read ×
      AppendsBeginning old later (text_of to read)
  some_taken later some =
      let taken = some.0 in
      let within : taken < length at.page = some.1 in
      let all : AppendsBeginning old later (h.written ++ at.page) = (
        length h.written + taken,
        omega (arith, length-append h.written at.page),
        subst (Appends old later) (sym (take-append-add h.written at.page taken))
            (Appends-trans old at.taken later h.written (take taken at.page) h.taken some.2),
      ) in
      (by_then, can_convert, subst (AppendsBeginning old later) (sym h.text_is) all)

  -- the text has ended
  pub finished : (later : Option (List ℕ)) (rest : List ℕ) → IsAtEnd at.come → HandsOver at.page rest at.taken later → rest ≡ [] →
      Converts to text old later (Ok at.count)
  finished later rest end over none = (
    so_far at.capture.form at.capture.own at.capture.peer h.records TheEnd,
    record {
      of = record { from = ended text at.come at.capture.form at.capture.own at.capture.peer h.records h.read end; lines = h.lines };
      taken = all_taken rest later over none;
    },
    refl,
    sym h.count,
  )

  -- or its next record is not known
  pub stopped : (fault : CaptureFault) (later : Option (List ℕ)) (rest : List ℕ) → (fault ≡ OutOfMemory → ⊥) →
      FaultShows (RecordDeparts at.capture.form at.capture.records) (at.capture.records + 2) at.come fault
      → HandsOver at.page rest at.taken later → rest ≡ [] → Converts to text old later (Err (convert_fault fault))
  stopped (Departs kind line) later rest memory shows over none =
      let same = h.counted ∙ sym h.count in
      inr (
        by_then,
        record { of = can_convert; taken = all_taken rest later over none },
        record {
          departs = subst (λ (n : ℕ). IfSome at.come (RecordDeparts at.capture.form n kind)) same shows.1;
          line_is = shows.0 ∙ ap (λ n. n + 2) same;
        },
      )
  stopped Read later rest memory shows over none = inr (by_then, record { of = can_convert; taken = all_taken rest later over none })
  stopped OutOfMemory later rest memory shows over none = absurd (memory refl)
  stopped Failed later rest memory shows over none = absurd shows

  -- or the format has no line for its next record
  pub not_in_format : (new : CaptureState) (come later : Option (List ℕ)) (rest : List ℕ) (r : Record) (line : ℕ) →
      NextGives at.capture new at.come come (Ok (Some r)) → ¬ (IsInFormat to r)
      → HandsOver at.page rest at.taken later → rest ≡ [] → line ≡ at.count + 2 → Converts to text old later (Err (NotInFormat line))
  not_in_format new come later rest r line gives lacks over none is =
      let few = gives.1 in
      let same = h.count in
      let counted = h.counted in (
        by_then,
        record { of = can_convert; taken = all_taken rest later over none },
        record {
          next = r;
          rest = come;
          from = one_more text at.come come at.capture.form at.capture.own at.capture.peer h.records r h.read (omega arith) gives.0 gives.4 gives.6;
          lacks = lacks;
          line_is = omega arith;
        },
      )

  -- where that is a failed read, each whole line was read and written
  pub lines_at_fault : (fault : CaptureFault) (left later : Option (List ℕ)) (rest : List ℕ) →
      WhereReadFails (is_read_fault fault) (IsCutBehind at.come left) → HandsOver at.page rest at.taken later → rest ≡ []
      → ConvertsWholeLines to (devices text left old later) (Err (convert_fault fault))
  lines_at_fault (Departs kind line) left later rest cut over none = tt
  lines_at_fault Read left later rest cut over none = inr (by_then, record { of = can_convert; taken = all_taken rest later over none }, cut)
  lines_at_fault OutOfMemory left later rest cut over none = tt
  lines_at_fault Failed left later rest cut over none = tt

-- ---- whole texts

same_records : (behind : Behind) (read all : List Record) → behind ≡ TheEnd → GoesOnBy behind read all → all ≡ read
same_records (ToCome bytes) read all e h = absurd cc
same_records TheEnd read all e h = h

pub converted_is_same : (to : Format) (bytes made : List ℕ) (own peer : ℕ) (rs : List Record) (count : ℕ) → IsText own peer rs bytes →
    Converts to (Some bytes) (Some []) (Some made) (Ok count) → IsTextIn to own peer rs made × (count ≡ length rs)
converted_is_same to bytes made own peer rs count is_text h =
    let read = h.0 in
    let goes = goes_on bytes own peer rs read is_text h.1.of.from in
    let all : rs ≡ read.records = same_records read.behind read.records rs h.2 goes.2 in
    let text : made ≡ capture_text to read.own read.peer read.records = h.1.taken in (
      record {
        fits = is_text.is_text.fits;
        lines = subst (AllByRecursion (IsInFormat to)) (sym all) h.1.of.lines;
        spelled = text ∙ rw (goes.0, goes.1, all) refl;
      },
      h.3 ∙ ap length (sym all),
    )

pub converted_back : (from to : Format) (bytes made back : List ℕ) (own peer : ℕ) (rs : List Record) (count again : ℕ) →
    IsTextIn from own peer rs bytes
    → Converts to (Some bytes) (Some []) (Some made) (Ok count) → Converts from (Some made) (Some []) (Some back) (Ok again) → back ≡ bytes
converted_back from to bytes made back own peer rs count again is_text there here =
    let first = converted_is_same to bytes made own peer rs count (record { format = from; is_text = is_text }) there in
    let second = converted_is_same from made back own peer rs again (record { format = to; is_text = first.0 }) here in
    second.0.spelled ∙ sym is_text.spelled
