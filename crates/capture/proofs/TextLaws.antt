-- A text is read in one way alone.
use Rattle.std.proofs.Common.{◌≡◌, ℕ, ◌<◌, true, List, [], ◌∷◌, ◌++◌, length, Option, Some, Result, Ok, Err, refl, sym, ap, subst, ◌∙◌, inl, inr}
use Rattle.std.proofs.Common.{arith}
use Rattle.std.specs.List.{AllByRecursion}
use Rattle.std.proofs.lemmas.Option.{same_Some}
use Rattle.std.proofs.lemmas.List.{append_assoc, append-nil, append_cancel_left}
use Rattle.capture.specs.declared.limit.TheConstants.{MAX_RECORDS}
use Rattle.capture.specs.declared.fault.Departure.{Departure}
use Rattle.capture.specs.declared.fault.Departure.TheVariants.{Syntax, TooLong, TooMany, Part}
use Rattle.capture.specs.declared.hint.HintForm.{HintForm}
use Rattle.capture.specs.declared.format.Format.{Format}
use Rattle.capture.specs.declared.format.Format.TheVariants.{One, Two, Three}
use Rattle.capture_record.specs.declared.record.Record.{Record}
use Rattle.capture.specs.Text.{record_text, record_line, record_lines, head_text, head_line, ended, first_form, form_after, form_behind}
use Rattle.capture_record.specs.Range.{IsRecord}
use Rattle.capture.specs.Range.{FormFits, IsInForm, IsNode, IsText, IsTextIn}
use Rattle.capture.specs.Departing.{first_line, has_lf, IsWhole, LineDeparts, WordsDepart, RecordDeparts, HeadWordsDepart, HeadDeparts}
use Rattle.capture.specs.Reading.{line_at, record_at, head_at}
use Rattle.capture.proofs.PartLaws.{HasNo}
use Rattle.capture.proofs.LineLaws.{line-ended}
use Rattle.capture.proofs.RecordLaws.{any_read, record_read, record_too_long}
use Rattle.capture.proofs.HeadLaws.{head_again}
use Rattle.capture.proofs.PartHead.{heads_apart}
use Rattle.capture.proofs.HintLaws.{form_fits}
use Rattle.capture.proofs.LackLaws.{record_lacks, head_lacks, record_short, head_short}

-- a text without LF, ended, and what follows
ended-append : (text rest : List ℕ) → ended text ++ rest ≡ text ++ 10 ∷ rest
ended-append text rest = append_assoc text (10 ∷ []) rest

pub ended_first : (text rest : List ℕ) → HasNo 10 text → (first_line (ended text ++ rest) ≡ text) × (has_lf (ended text ++ rest) ≡ true)
ended_first text rest h = rw (ended-append text rest) (line-ended text rest h)

-- neither of two such lines begins the other
pub same_ended : (a b x y : List ℕ) → HasNo 10 a → HasNo 10 b → ended a ++ x ≡ ended b ++ y → (a ≡ b) × (x ≡ y)
same_ended a b x y p q e =
    let same : a ≡ b = sym (ended_first a x p).0 ∙ ap first_line e ∙ (ended_first b y q).0 in
    (same, append_cancel_left (ended b) x y (ap (λ (t : List ℕ). ended t ++ x) (sym same) ∙ e))

same_read : (form : HintForm) (r s : Record) → FormFits form → IsRecord r → IsRecord s → record_text form r ≡ record_text form s → r ≡ s
same_read form r s fits p q e =
    let both : ◌≡◌ {A = Result Record Departure} (Ok r) (Ok s) = sym (any_read form r fits p) ∙ ap (line_at true form) e ∙ any_read form s fits q in
    cc

pub one_record_line : (form : HintForm) (r s : Record) (x y : List ℕ) → FormFits form → IsRecord r → IsRecord s →
    record_line form r ++ x ≡ record_line form s ++ y → (r ≡ s) × (x ≡ y)
one_record_line form r s x y fits p q e =
    let same = same_ended (record_text form r) (record_text form s) x y (record_lacks form r fits p.spelling) (record_lacks form s fits q.spelling)
    e in
    (same_read form r s fits p q same.0, same.1)

pub one_head_line : (format format' : Format) (own peer own' peer' : ℕ) (x y : List ℕ) → IsNode own → IsNode peer → IsNode own' → IsNode peer' →
    head_line format own peer ++ x ≡ head_line format' own' peer' ++ y
    → (format ≡ format') × (own ≡ own') × (peer ≡ peer') × (x ≡ y)
one_head_line format format' own peer own' peer' x y p q p' q' e =
    let same = same_ended (head_text format own peer) (head_text format' own' peer') x y (head_lacks format own peer p q)
    (head_lacks format' own' peer' p' q') e in
    let both : ◌≡◌ {A = Option (Format × ℕ × ℕ)} (Some (format, own, peer)) (Some (format', own', peer')) =
    sym (head_again format own peer p q) ∙ ap head_at same.0 ∙ head_again format' own' peer' p' q' in
    let parts : ◌≡◌ {A = Format × ℕ × ℕ} (format, own, peer) (format', own', peer') = same_Some _ _ both in
    (ap (λ (z : Format × ℕ × ℕ). z.0) parts, ap (λ (z : Format × ℕ × ℕ). z.1) parts, ap (λ (z : Format × ℕ × ℕ). z.2) parts, same.1)

-- a line is not empty
pub line_some : (text rest : List ℕ) → ended text ++ rest ≡ [] → ⊥
line_some [] rest e = cc
line_some (b ∷ text) rest e = cc

-- a list of records whose lines begin with these begins with these
pub begun_lines : (form : HintForm) (ps rs : List Record) (rest : List ℕ) → FormFits form → AllByRecursion IsRecord ps → AllByRecursion IsRecord rs →
    record_lines form rs ≡ record_lines form ps ++ rest
    → (more : List Record) × (rs ≡ ps ++ more) × (rest ≡ record_lines (form_behind form ps) more)
begun_lines form [] rs rest fits p q e = (rs, refl, sym e)
begun_lines form (r ∷ ps) [] rest fits p q e =
    absurd (line_some (record_text form r) (record_lines (form_after form r) ps ++ rest)
    (sym (e ∙ append_assoc (record_line form r) (record_lines (form_after form r) ps) rest)))
begun_lines form (r ∷ ps) (s ∷ rs) rest fits p q e =
    let one = one_record_line form s r (record_lines (form_after form s) rs) (record_lines (form_after form r) ps ++ rest) fits q.0 p.0
    (e ∙ append_assoc (record_line form r) (record_lines (form_after form r) ps) rest) in
    let head : s ≡ r = one.0 in
    let later : record_lines (form_after form r) rs ≡ record_lines (form_after form r) ps ++ rest =
    ap (λ (t : Record). record_lines (form_after form t) rs) (sym head) ∙ one.1 in
    let ih = begun_lines (form_after form r) ps rs rest (form_fits form r fits p.0.spelling.numbers) p.1 q.1 later in
    let tail : rs ≡ ps ++ ih.0 = ih.1 in
    (ih.0, cc, ih.2)

pub nothing_more : (form : HintForm) (rs : List Record) → [] ≡ record_lines form rs → rs ≡ []
nothing_more form [] e = refl
nothing_more form (r ∷ rs) e = absurd (line_some (record_text form r) (record_lines (form_after form r) rs) (sym e))

pub one_list : (form : HintForm) (rs ss : List Record) → FormFits form → AllByRecursion IsRecord rs → AllByRecursion IsRecord ss →
    record_lines form rs ≡ record_lines form ss → rs ≡ ss
one_list form rs ss fits p q e =
    let begun = begun_lines form ss rs [] fits q p (e ∙ sym (append-nil (record_lines form ss))) in
    begun.1 ∙ ap (λ (t : List Record). ss ++ t) (nothing_more (form_behind form ss) begun.0 begun.2) ∙ append-nil ss

pub first_fits : (format : Format) → FormFits (first_form format)
first_fits One = tt
first_fits Two = omega arith
first_fits Three = tt

pub one_text : (format format' : Format) (own peer own' peer' : ℕ) (rs ss : List Record) (bytes : List ℕ) → IsTextIn format own peer rs bytes →
    IsTextIn format' own' peer' ss bytes
    → (format ≡ format') × (own ≡ own') × (peer ≡ peer') × (rs ≡ ss)
one_text format format' own peer own' peer' rs ss bytes a b =
    let one = one_head_line format format' own peer own' peer' (record_lines (first_form format) rs) (record_lines (first_form format') ss)
    a.fits.own_fits a.fits.peer_fits b.fits.own_fits b.fits.peer_fits (sym a.spelled ∙ b.spelled) in
    let lines = one.3 ∙ ap (λ (f : Format). record_lines (first_form f) ss) (sym one.0) in
    (one.0, one.1, one.2, one_list (first_form format) rs ss (first_fits format) a.fits.each b.fits.each lines)

pub one_of_texts : (own peer own' peer' : ℕ) (rs ss : List Record) (bytes : List ℕ) → IsText own peer rs bytes → IsText own' peer' ss bytes →
    (own ≡ own') × (peer ≡ peer') × (rs ≡ ss)
one_of_texts own peer own' peer' rs ss bytes a b =
    let one = one_text a.format b.format own peer own' peer' rs ss bytes a.is_text b.is_text in
    (one.1, one.2, one.3)

-- ---- departures

words_fit : (form : HintForm) (kind : Departure) (r : Record) → FormFits form → IsRecord r → IsInForm form r →
    WordsDepart form kind (record_text form r) → ⊥
words_fit form Syntax r fits h has d = d r h.spelling refl has
words_fit form TooMany r fits h has d = d
words_fit form Part r fits h has d = d
words_fit form TooLong r fits h has d =
    let both : ◌≡◌ {A = Result Record Departure} (Ok r) (Err TooLong) = sym (record_read form r fits h has) ∙ ap (record_at form) d.3 ∙
    record_too_long form d.0 fits d.1 d.2 d.4 in
    cc

-- where a record's line comes first, and may come, nothing departs
pub no_departure : (form : HintForm) (kind : Departure) (r : Record) (rest : List ℕ) (records : ℕ) → FormFits form → IsRecord r →
    records < MAX_RECORDS → IsInForm form r → RecordDeparts form records kind (record_line form r ++ rest) → ⊥
no_departure form kind r rest records fits h few has (inl d) = by_kind kind d
  where
    first : (first_line (record_line form r ++ rest) ≡ record_text form r) × (has_lf (record_line form r ++ rest) ≡ true)
    first = ended_first (record_text form r) rest (record_lacks form r fits h.spelling)

    by_kind : (k : Departure) → LineDeparts MAX_RECORDS records k (record_line form r ++ rest) → ⊥
    by_kind TooMany d = let le = d.0 in omega arith
    by_kind TooLong d = let long = d.1 in let short = record_short form r fits h in omega (arith, ap length first.0)
    by_kind Syntax d = let open_line = d.3 in let ended_line = first.1 in cc
    by_kind Part d = d
no_departure form kind r rest records fits h few has (inr d) =
    let first = ended_first (record_text form r) rest (record_lacks form r fits h.spelling) in
    words_fit form kind r fits h has (subst (WordsDepart form kind) first.0 d.2)

-- ---- one departure

pub line_once : (most taken : ℕ) (bytes : List ℕ) (a b : Departure) → LineDeparts most taken a bytes → LineDeparts most taken b bytes → a ≡ b
line_once most taken bytes Syntax Syntax p q = refl
line_once most taken bytes TooLong TooLong p q = refl
line_once most taken bytes TooMany TooMany p q = refl
line_once most taken bytes Part b p q = absurd p
line_once most taken bytes a Part p q = absurd q
line_once most taken bytes Syntax TooLong p q = let short = p.2 in let long = q.1 in absurd (omega arith)
line_once most taken bytes Syntax TooMany p q = let lt = p.0 in let le = q.0 in absurd (omega arith)
line_once most taken bytes TooLong Syntax p q = let long = p.1 in let short = q.2 in absurd (omega arith)
line_once most taken bytes TooLong TooMany p q = let lt = p.0 in let le = q.0 in absurd (omega arith)
line_once most taken bytes TooMany Syntax p q = let le = p.0 in let lt = q.0 in absurd (omega arith)
line_once most taken bytes TooMany TooLong p q = let le = p.0 in let lt = q.0 in absurd (omega arith)

words_once : (form : HintForm) (line : List ℕ) (a b : Departure) → WordsDepart form a line → WordsDepart form b line → a ≡ b
words_once form line Syntax Syntax p q = refl
words_once form line TooLong TooLong p q = refl
words_once form line TooMany b p q = absurd p
words_once form line a TooMany p q = absurd q
words_once form line Part b p q = absurd p
words_once form line a Part p q = absurd q
words_once form line Syntax TooLong p q = absurd (p q.0 q.1 q.3 q.4)
words_once form line TooLong Syntax p q = absurd (q p.0 p.1 p.3 p.4)

pub whole_or_not : (most taken : ℕ) (bytes : List ℕ) (a : Departure) → LineDeparts most taken a bytes → taken < most → IsWhole bytes → ⊥
whole_or_not most taken bytes Syntax p lt whole = let open_line = p.3 in let ended_line = whole.ended in cc
whole_or_not most taken bytes TooLong p lt whole = let long = p.1 in let short = whole.short in omega arith
whole_or_not most taken bytes TooMany p lt whole = let le = p.0 in omega arith
whole_or_not most taken bytes Part p lt whole = p

pub departs_once : (form : HintForm) (records : ℕ) (bytes : List ℕ) (a b : Departure) → RecordDeparts form records a bytes →
    RecordDeparts form records b bytes → a ≡ b
departs_once form records bytes a b (inl p) (inl q) = line_once MAX_RECORDS records bytes a b p q
departs_once form records bytes a b (inr p) (inr q) = words_once form (first_line bytes) a b p.2 q.2
departs_once form records bytes a b (inl p) (inr q) = absurd (whole_or_not MAX_RECORDS records bytes a p q.0 q.1)
departs_once form records bytes a b (inr p) (inl q) = absurd (whole_or_not MAX_RECORDS records bytes b q p.0 p.1)

pub no_end_departure : (form : HintForm) (records : ℕ) (kind : Departure) → RecordDeparts form records kind [] → ⊥
no_end_departure form records Syntax (inl d) = d.1 refl
no_end_departure form records TooLong (inl d) = let long = d.1 in omega arith
no_end_departure form records TooMany (inl d) = d.1 refl
no_end_departure form records Part (inl d) = d
no_end_departure form records kind (inr d) = let ended_line = d.1.ended in cc

-- ---- departures of a head

head_words_fit : (format : Format) (own peer : ℕ) → IsNode own → IsNode peer → HeadWordsDepart Syntax (head_text format own peer) → ⊥
head_words_fit format own peer p q d = d.0 format own peer p q refl

-- where a head's line comes first, nothing departs
pub no_head_departure : (kind : Departure) (format : Format) (own peer : ℕ) (rest : List ℕ) → IsNode own → IsNode peer →
    HeadDeparts kind (head_line format own peer ++ rest) → ⊥
no_head_departure TooMany format own peer rest p q d = d
no_head_departure TooLong format own peer rest p q d =
    let first = ended_first (head_text format own peer) rest (head_lacks format own peer p q) in
    let short = head_short format own peer p q in
    omega (arith, ap length first.0)
no_head_departure Syntax format own peer rest p q (inl d) =
    let first = ended_first (head_text format own peer) rest (head_lacks format own peer p q) in
    let open_line = d.1 in
    let ended_line = first.1 in
    cc
no_head_departure Syntax format own peer rest p q (inr d) =
    let first = ended_first (head_text format own peer) rest (head_lacks format own peer p q) in
    head_words_fit format own peer p q (subst (HeadWordsDepart Syntax) first.0 d.1)
no_head_departure Part format own peer rest p q d =
    let first = ended_first (head_text format own peer) rest (head_lacks format own peer p q) in
    heads_apart format own peer p q (subst (HeadWordsDepart Part) first.0 d.1)

pub head_departs_once : (bytes : List ℕ) (a b : Departure) → HeadDeparts a bytes → HeadDeparts b bytes → a ≡ b
head_departs_once bytes Syntax Syntax p q = refl
head_departs_once bytes TooLong TooLong p q = refl
head_departs_once bytes TooMany b p q = absurd p
head_departs_once bytes a TooMany p q = absurd q
head_departs_once bytes Part Part p q = refl
head_departs_once bytes Part TooLong p q = let short = p.0.short in absurd (omega arith)
head_departs_once bytes TooLong Part p q = let short = q.0.short in absurd (omega arith)
head_departs_once bytes Part Syntax p (inl q) = let ended_line = p.0.ended in let open_line = q.1 in absurd cc
head_departs_once bytes Part Syntax p (inr q) = absurd (q.1.1 p.1)
head_departs_once bytes Syntax Part (inl p) q = let ended_line = q.0.ended in let open_line = p.1 in absurd cc
head_departs_once bytes Syntax Part (inr p) q = absurd (p.1.1 q.1)
head_departs_once bytes Syntax TooLong (inl p) q = let short = p.0 in absurd (omega arith)
head_departs_once bytes Syntax TooLong (inr p) q = let short = p.0.short in absurd (omega arith)
head_departs_once bytes TooLong Syntax p (inl q) = let short = q.0 in absurd (omega arith)
head_departs_once bytes TooLong Syntax p (inr q) = let short = q.0.short in absurd (omega arith)
