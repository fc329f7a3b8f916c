-- A text as far as it was read: how it grows, and what it is of a capture's text.
use Rattle.std.proofs.Common.{◌≡◌, ℕ, ◌+◌, ◌<◌, ◌≤◌, List, [], ◌∷◌, ◌++◌, length, Option, Some, None, Ok, refl, sym, ap, subst, ◌∙◌, arith}
use Rattle.std.proofs.Common.{length-append, append-nil, append_assoc}
use Rattle.std.specs.List.{AllByRecursion}
use Rattle.std.specs.Io.KnownBytes.{Consumes, IsAtEnd}
use Rattle.std.proofs.KnownBytes.{Consumes-trans}
use Rattle.capture.specs.declared.limit.TheConstants.{MAX_RECORDS}
use Rattle.capture.specs.declared.fault.Departure.{Departure}
use Rattle.capture_record.specs.declared.record.Record.{Record}
use Rattle.capture.specs.declared.hint.HintForm.{HintForm}
use Rattle.capture.specs.declared.hint.HintForm.TheVariants.{Number, Distance, Wide, Part}
use Rattle.capture.specs.declared.format.Format.{Format}
use Rattle.capture.specs.Text.{head_line, record_line, record_lines, capture_text, first_form, form_after, form_behind, format_of}
use Rattle.capture_record.specs.Range.{IsRecord}
use Rattle.capture.specs.Range.{FormFits, IsInForm, IsInFormat, IsCapture, IsText, IsTextIn}
use Rattle.capture.specs.Departing.{HeadDeparts, RecordDeparts}
use Rattle.capture.specs.Lines.{to_come}
use Rattle.capture.specs.Reader.{CaptureState, Opens}
use Rattle.capture.specs.SoFar.{Behind, ToCome, TheEnd, ReadSoFar, so_far, IsReadSoFar, GoesOn, DepartsBehind, HeadDepartsAt}
use Rattle.capture.proofs.TextLaws.{one_head_line, begun_lines, first_fits, nothing_more, no_departure, no_end_departure, no_head_departure}
use Rattle.capture.proofs.HintLaws.{form_fits}

-- ---- lists of records

pub All-push : {X : Type 0} (P : X → Type 0) (xs : List X) (x : X) → AllByRecursion P xs → P x → AllByRecursion P (xs ++ x ∷ [])
All-push P [] x all last = (last, tt)
All-push P (y ∷ ys) x all last = (all.0, All-push P ys x all.1 last)

pub All-behind : {X : Type 0} (P : X → Type 0) (xs ys : List X) → AllByRecursion P (xs ++ ys) → AllByRecursion P ys
All-behind P [] ys all = all
All-behind P (x ∷ xs) ys all = All-behind P xs ys all.1

pub record_lines-push : (form : HintForm) (rs : List Record) (r : Record) → record_lines form (rs ++ r ∷ []) ≡ record_lines form rs ++
    record_line (form_behind form rs) r
record_lines-push form [] r = append-nil (record_line form r)
record_lines-push form (s ∷ rs) r =
    ap (λ bytes. record_line form s ++ bytes) (record_lines-push (form_after form s) rs r)
    ∙ sym (append_assoc (record_line form s) (record_lines (form_after form s) rs) (record_line (form_behind (form_after form s) rs) r))

-- ---- the form of the hints

pub form_behind-push : (form : HintForm) (rs : List Record) (r : Record) → form_behind form (rs ++ r ∷ []) ≡ form_after (form_behind form rs) r
form_behind-push form [] r = refl
form_behind-push form (s ∷ rs) r = form_behind-push (form_after form s) rs r

format_stays : (form : HintForm) (r : Record) → format_of (form_after form r) ≡ format_of form
format_stays Number r = refl
format_stays (Distance mark) r = refl
format_stays Wide r = refl
format_stays Part r = refl

behind_fits : (form : HintForm) (rs : List Record) → FormFits form → AllByRecursion IsRecord rs → FormFits (form_behind form rs)
behind_fits form [] fits each = fits
behind_fits form (r ∷ rs) fits each = behind_fits (form_after form r) rs (form_fits form r fits each.0.spelling.numbers) each.1

-- the text of one more record
pub text-push : (format : Format) (own peer : ℕ) (rs : List Record) (r : Record) → capture_text format own peer (rs ++ r ∷ []) ≡ capture_text format
    own peer rs ++ record_line (form_behind (first_form format) rs) r
text-push format own peer rs r =
    ap (λ bytes. head_line format own peer ++ bytes) (record_lines-push (first_form format) rs r)
    ∙ sym (append_assoc (head_line format own peer) (record_lines (first_form format) rs) (record_line (form_behind (first_form format) rs) r))

-- ---- how it grows

pub opened : (text left : Option (List ℕ)) (state : CaptureState) → Opens text left (Ok state) →
    IsReadSoFar text (so_far state.form state.own state.peer [] (ToCome (to_come state.unread left)))
opened text left state opens = record {
  fits = record { own_fits = opens.0; peer_fits = opens.1; each = tt; few = omega arith };
  lines = tt;
  begins = subst (Consumes text (to_come state.unread left)) (sym (append-nil (head_line (format_of state.form) state.own state.peer))) opens.4;
  form_is = opens.5;
}

module _ (text before after : Option (List ℕ)) (form : HintForm) (own peer : ℕ) (rs : List Record) (r : Record)
    (h : IsReadSoFar text (so_far form own peer rs (ToCome before))) where
  lines_on : (format : Format) → form ≡ form_behind (first_form format) rs → capture_text format own peer rs ++ record_line form r ≡ capture_text
      format own peer (rs ++ r ∷ [])
  lines_on format is = ap (λ (f : HintForm). capture_text format own peer rs ++ record_line f r) is ∙ sym (text-push format own peer rs r)

  form_on : (format : Format) → form ≡ form_behind (first_form format) rs → form_after form r ≡ form_behind (first_form format) (rs ++ r ∷ [])
  form_on format is = ap (λ (f : HintForm). form_after f r) is ∙ sym (form_behind-push (first_form format) rs r)

  pub one_more : length rs < MAX_RECORDS → IsRecord r → Consumes before after (record_line form r) → IsInForm form r →
      IsReadSoFar text (so_far (form_after form r) own peer (rs ++ r ∷ []) (ToCome after))
  one_more few is_record consumes in_form =
      let format = format_of form in
      let same : format ≡ format_of (form_after form r) = sym (format_stays form r) in
      let all = subst (Consumes text after) (lines_on format h.form_is)
      (Consumes-trans text before after (capture_text format own peer rs) (record_line form r) h.begins consumes) in
      record {
        fits = record {
          own_fits = h.fits.own_fits;
          peer_fits = h.fits.peer_fits;
          each = All-push IsRecord rs r h.fits.each is_record;
          few = omega (arith, length-append rs (r ∷ []));
        };
        lines = subst (λ (f : Format). AllByRecursion (IsInFormat f) (rs ++ r ∷ [])) same (All-push (IsInForm form) rs r h.lines in_form);
        begins = subst (λ (f : Format). Consumes text after (capture_text f own peer (rs ++ r ∷ []))) same all;
        form_is = form_on format h.form_is ∙ ap (λ (f : Format). form_behind (first_form f) (rs ++ r ∷ [])) same;
      }

-- nothing is left behind a beginning
pub consumes_all : (text come : Option (List ℕ)) (read : List ℕ) → Consumes text come read → IsAtEnd come → Consumes text (Some []) read
consumes_all None come read first end = tt
consumes_all (Some t) None read first end = absurd first
consumes_all (Some t) (Some bs) read first end = first ∙ ap (λ xs. read ++ xs) end

pub ended : (text before : Option (List ℕ)) (form : HintForm) (own peer : ℕ) (rs : List Record) →
    IsReadSoFar text (so_far form own peer rs (ToCome before)) → IsAtEnd before → IsReadSoFar text (so_far form own peer rs TheEnd)
ended text before form own peer rs h end = record {
  fits = h.fits;
  lines = h.lines;
  begins = consumes_all text before _ h.begins end;
  form_is = h.form_is;
}

-- ---- whole texts

pub whole_in : (bytes : List ℕ) (form : HintForm) (own peer : ℕ) (rs : List Record) → IsReadSoFar (Some bytes) (so_far form own peer rs TheEnd) →
    IsTextIn (format_of form) own peer rs bytes
whole_in bytes form own peer rs h = record {
  fits = h.fits;
  lines = h.lines;
  spelled = h.begins ∙ append-nil (capture_text (format_of form) own peer rs);
}

pub whole : (bytes : List ℕ) (form : HintForm) (own peer : ℕ) (rs : List Record) → IsReadSoFar (Some bytes) (so_far form own peer rs TheEnd) →
    IsText own peer rs bytes
whole bytes form own peer rs h = record { format = format_of form; is_text = whole_in bytes form own peer rs h }

-- a capture whose text begins so begins so, and the rest of its text is that of its further records
record IsBegun (left : List ℕ) (own peer : ℕ) (rs : List Record) (read : ReadSoFar) : Type 0 where
  same_own : own ≡ read.own
  same_peer : peer ≡ read.peer
  lines : AllByRecursion (IsInForm read.form) rs
  more : List Record
  all : rs ≡ read.records ++ more
  rest : left ≡ record_lines read.form more

begun : (bytes left : List ℕ) (own peer : ℕ) (rs : List Record) (read : ReadSoFar) → IsText own peer rs bytes →
    IsCapture read.own read.peer read.records → bytes ≡ capture_text (format_of read.form) read.own read.peer read.records ++ left
    → read.form ≡ form_behind (first_form (format_of read.form)) read.records → IsBegun left own peer rs read
begun bytes left own peer rs read is_text fits begins form_is =
    let text = is_text.is_text in
    let format = format_of read.form in
    let same : capture_text is_text.format own peer rs ≡ head_line format read.own read.peer ++
    (record_lines (first_form format) read.records ++ left) =
    sym text.spelled ∙ begins ∙ append_assoc (head_line format read.own read.peer) (record_lines (first_form format) read.records) left in
    let heads = one_head_line is_text.format format own peer read.own read.peer (record_lines (first_form is_text.format) rs)
    (record_lines (first_form format) read.records ++ left) text.fits.own_fits text.fits.peer_fits fits.own_fits fits.peer_fits same in
    let tails = ap (λ (f : Format). record_lines (first_form f) rs) (sym heads.0) ∙ heads.3 in
    let lines = begun_lines (first_form format) read.records rs left (first_fits format) fits.each text.fits.each tails in
    record {
      same_own = heads.1;
      same_peer = heads.2;
      lines = subst (λ (f : Format). AllByRecursion (IsInFormat f) rs) heads.0 text.lines;
      more = lines.0;
      all = lines.1;
      rest =
          lines.2 ∙ ap (λ (f : HintForm). record_lines f lines.0) (sym form_is);
    }

goes_by : (behind : Behind) (bytes : List ℕ) (own peer : ℕ) (rs : List Record) (form : HintForm) (own' peer' : ℕ) (ss : List Record) →
    IsText own peer rs bytes → IsReadSoFar (Some bytes) (so_far form own' peer' ss behind)
    → (own ≡ own') × (peer ≡ peer') × GoesOn (so_far form own' peer' ss behind) rs
goes_by (ToCome None) bytes own peer rs form own' peer' ss is_text h = absurd h.begins
goes_by (ToCome (Some left)) bytes own peer rs form own' peer' ss is_text h =
    let b = begun bytes left own peer rs (so_far form own' peer' ss (ToCome (Some left))) is_text h.fits h.begins h.form_is in
    (b.same_own, b.same_peer, (b.more, b.all))
goes_by TheEnd bytes own peer rs form own' peer' ss is_text h =
    let b = begun bytes [] own peer rs (so_far form own' peer' ss TheEnd) is_text h.fits h.begins h.form_is in
    (b.same_own, b.same_peer, b.all ∙ ap (λ (t : List Record). ss ++ t) (nothing_more form b.more b.rest) ∙ append-nil ss)

pub goes_on : (bytes : List ℕ) (own peer : ℕ) (rs : List Record) (read : ReadSoFar) → IsText own peer rs bytes → IsReadSoFar (Some bytes) read →
    (own ≡ read.own) × (peer ≡ read.peer) × GoesOn read rs
goes_on bytes own peer rs read is_text h = goes_by read.behind bytes own peer rs read.form read.own read.peer read.records is_text h

-- the records that may still come
pub room : (rs ss more : List Record) → length rs ≤ MAX_RECORDS → rs ≡ ss ++ more → length ss + length more ≤ MAX_RECORDS
room rs ss more few all = omega (arith, length-append ss more, ap length all)

no_line : (bytes left : List ℕ) (own peer : ℕ) (rs : List Record) (read : ReadSoFar) (kind : Departure) → IsText own peer rs bytes →
    FormFits read.form → IsBegun left own peer rs read → RecordDeparts read.form (length read.records) kind left → ⊥
no_line bytes left own peer rs read kind is_text marked b departs =
    by_more b.more b.all (subst (RecordDeparts read.form (length read.records) kind) b.rest departs)
  where
    by_more : (more : List Record) → rs ≡ read.records ++ more → RecordDeparts read.form (length read.records) kind (record_lines read.form more) → ⊥
    by_more [] all d = no_end_departure read.form (length read.records) kind d
    by_more (r ∷ more) all d =
        let each = All-behind IsRecord read.records (r ∷ more) (subst (AllByRecursion IsRecord) all is_text.is_text.fits.each) in
        let few = room rs read.records (r ∷ more) is_text.is_text.fits.few all in
        let lines = All-behind (IsInForm read.form) read.records (r ∷ more) (subst (AllByRecursion (IsInForm read.form)) all b.lines) in
        no_departure read.form kind r (record_lines (form_after read.form r) more) (length read.records) marked each.0 (omega arith) lines.0 d

pub form_marked : (text : Option (List ℕ)) (read : ReadSoFar) → IsReadSoFar text read → FormFits read.form
form_marked text read h =
    subst FormFits (sym h.form_is) (behind_fits (first_form (format_of read.form)) read.records (first_fits (format_of read.form)) h.fits.each)

no_line_by : (behind : Behind) (bytes : List ℕ) (own peer : ℕ) (rs : List Record) (form : HintForm) (own' peer' : ℕ) (ss : List Record)
    (kind : Departure) (line : ℕ) → IsText own peer rs bytes → IsReadSoFar (Some bytes) (so_far form own' peer' ss behind)
    → DepartsBehind (so_far form own' peer' ss behind) kind line → ⊥
no_line_by (ToCome None) bytes own peer rs form own' peer' ss kind line is_text h d = absurd h.begins
no_line_by (ToCome (Some left)) bytes own peer rs form own' peer' ss kind line is_text h d =
    let read = so_far form own' peer' ss (ToCome (Some left)) in
    no_line bytes left own peer rs read kind is_text (form_marked (Some bytes) read h)
    (begun bytes left own peer rs read is_text h.fits h.begins h.form_is) d.departs
no_line_by TheEnd bytes own peer rs form own' peer' ss kind line is_text h d = no_end_departure form (length ss) kind d.departs

pub departs_nowhere : (bytes : List ℕ) (own peer : ℕ) (rs : List Record) (read : ReadSoFar) (kind : Departure) (line : ℕ) → IsText own peer rs bytes →
    IsReadSoFar (Some bytes) read → DepartsBehind read kind line → ⊥
departs_nowhere bytes own peer rs read kind line is_text h d =
    no_line_by read.behind bytes own peer rs read.form read.own read.peer read.records kind line is_text h d

pub head_stands : (bytes : List ℕ) (own peer : ℕ) (rs : List Record) (kind : Departure) (line : ℕ) → IsText own peer rs bytes →
    HeadDepartsAt (Some bytes) kind line → ⊥
head_stands bytes own peer rs kind line is_text d =
    let text = is_text.is_text in
    no_head_departure kind is_text.format own peer (record_lines (first_form is_text.format) rs) text.fits.own_fits text.fits.peer_fits
    (subst (HeadDeparts kind) text.spelled d.departs)
