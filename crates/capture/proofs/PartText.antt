-- The text of a part of a run: it is read in one way alone, and how what was read of it grows.
use Rattle.std.proofs.Common.{◌≡◌, ℕ, ◌+◌, ◌<◌, ◌≤◌, true, List, [], ◌∷◌, ◌++◌, length, Option, Some, None, Ok, Err, refl, sym, ap, subst, ◌∙◌}
use Rattle.std.proofs.Common.{inl, inr, arith, length-append, append-nil, append_assoc}
use Rattle.std.specs.List.{AllByRecursion}
use Rattle.std.specs.Prelude.{IfSome}
use Rattle.std.specs.Io.KnownBytes.{Consumes, IsAtEnd}
use Rattle.std.proofs.KnownBytes.{Consumes-trans}
use Rattle.std.proofs.lemmas.Option.{same_Some}
use Rattle.capture.specs.declared.limit.TheConstants.{MAX_RECORDS}
use Rattle.capture.specs.declared.fault.Departure.{Departure}
use Rattle.capture.specs.declared.fault.Departure.TheVariants as kinds
use Rattle.capture.specs.declared.hint.HintForm.{HintForm}
use Rattle.capture.specs.declared.hint.HintForm.TheVariants.{Part}
use Rattle.capture_record.specs.declared.record.Record.{Record}
use Rattle.capture_record.specs.Range.{IsRecord}
use Rattle.capture.specs.Text.{head_line, head_text, part_head_line, part_head_text, part_text, record_line, record_lines, first_form, form_behind}
use Rattle.capture.specs.Range.{IsNode, IsPartText, IsText}
use Rattle.capture.specs.Departing.{first_line, has_lf, IsPartHead, IsWhole, HeadDeparts, RecordDeparts}
use Rattle.capture.specs.Reading.{head_at, part_head_at}
use Rattle.capture.specs.Lines.{to_come}
use Rattle.capture.specs.Opening.{EitherHeadDeparts}
use Rattle.capture.specs.Reader.{CaptureState, OpensPart}
use Rattle.capture.specs.SoFar.{Behind, ToCome, TheEnd, ReadSoFar, so_far, coming, IsPartSoFar, GoesOn, DepartsBehind}
use Rattle.capture.proofs.LackLaws.{head_lacks}
use Rattle.capture.proofs.HeadLaws.{head_again}
use Rattle.capture.proofs.PartHead.{heads_apart, part_head_again, part_head_lacks, part_head_short}
use Rattle.capture.proofs.TextLaws.{begun_lines, ended_first, no_departure, no_end_departure, nothing_more, one_list, same_ended}
use Rattle.capture.proofs.SoFarLaws.{All-behind, All-push, consumes_all, record_lines-push, room}

-- the form of the hints stays
pub form_stays : (rs : List Record) → form_behind Part rs ≡ Part
form_stays [] = refl
form_stays (r ∷ rs) = form_stays rs

-- ---- one head, and one list

one_head : (own peer own' peer' : ℕ) (x y : List ℕ) → IsNode own → IsNode peer → IsNode own' → IsNode peer' →
    part_head_line own peer ++ x ≡ part_head_line own' peer' ++ y → (own ≡ own') × (peer ≡ peer') × (x ≡ y)
one_head own peer own' peer' x y p q p' q' e =
    let same = same_ended (part_head_text own peer) (part_head_text own' peer') x y (part_head_lacks own peer p q)
    (part_head_lacks own' peer' p' q') e in
    let both : ◌≡◌ {A = Option (ℕ × ℕ)} (Some (own, peer)) (Some (own', peer')) =
    sym (part_head_again own peer p q) ∙ ap part_head_at same.0 ∙ part_head_again own' peer' p' q' in
    let parts : ◌≡◌ {A = ℕ × ℕ} (own, peer) (own', peer') = same_Some _ _ both in
    (ap (λ (z : ℕ × ℕ). z.0) parts, ap (λ (z : ℕ × ℕ). z.1) parts, same.1)

pub one_part : (own peer own' peer' : ℕ) (rs ss : List Record) (bytes : List ℕ) → IsPartText own peer rs bytes → IsPartText own' peer' ss bytes →
    (own ≡ own') × (peer ≡ peer') × (rs ≡ ss)
one_part own peer own' peer' rs ss bytes a b =
    let heads = one_head own peer own' peer' (record_lines Part rs) (record_lines Part ss) a.fits.own_fits a.fits.peer_fits b.fits.own_fits
    b.fits.peer_fits (sym a.spelled ∙ b.spelled) in
    (heads.0, heads.1, one_list Part rs ss tt a.fits.each b.fits.each heads.2)

pub apart : (own peer own' peer' : ℕ) (rs ss : List Record) (bytes : List ℕ) → IsPartText own peer rs bytes → IsText own' peer' ss bytes → ⊥
apart own peer own' peer' rs ss bytes a b =
    let text = b.is_text in
    let same = same_ended (part_head_text own peer) (head_text b.format own' peer') (record_lines Part rs) (record_lines (first_form b.format) ss)
    (part_head_lacks own peer a.fits.own_fits a.fits.peer_fits) (head_lacks b.format own' peer' text.fits.own_fits text.fits.peer_fits)
    (sym a.spelled ∙ text.spelled) in
    heads_apart b.format own' peer' text.fits.own_fits text.fits.peer_fits (record {
      own = own;
      peer = peer;
      own_fits = a.fits.own_fits;
      peer_fits = a.fits.peer_fits;
      spelled = sym same.0;
    })

-- ---- how it grows

pub opened : (text left : Option (List ℕ)) (state : CaptureState) → OpensPart text left state →
    IsPartSoFar text (so_far state.form state.own state.peer [] (ToCome (to_come state.unread left)))
opened text left state opens = record {
  fits = record { own_fits = opens.0; peer_fits = opens.1; each = tt; few = omega arith };
  begins = subst (Consumes text (to_come state.unread left)) (sym (append-nil (part_head_line state.own state.peer))) opens.4;
  form_is = opens.5;
}

text-push : (own peer : ℕ) (rs : List Record) (r : Record) → part_text own peer rs ++ record_line Part r ≡ part_text own peer (rs ++ r ∷ [])
text-push own peer rs r =
    append_assoc (part_head_line own peer) (record_lines Part rs) (record_line Part r)
    ∙ ap (λ (f : HintForm). part_head_line own peer ++ (record_lines Part rs ++ record_line f r)) (sym (form_stays rs))
    ∙ ap (λ (t : List ℕ). part_head_line own peer ++ t) (sym (record_lines-push Part rs r))

pub one_more : (text before after : Option (List ℕ)) (own peer : ℕ) (rs : List Record) (r : Record) →
    IsPartSoFar text (so_far Part own peer rs (ToCome before)) → length rs < MAX_RECORDS → IsRecord r → Consumes before after (record_line Part r) →
    IsPartSoFar text (so_far Part own peer (rs ++ r ∷ []) (ToCome after))
one_more text before after own peer rs r h few is_record consumes = record {
  fits = record {
    own_fits = h.fits.own_fits;
    peer_fits = h.fits.peer_fits;
    each = All-push IsRecord rs r h.fits.each is_record;
    few = omega (arith, length-append rs (r ∷ []));
  };
  begins = subst (Consumes text after) (text-push own peer rs r)
      (Consumes-trans text before after (part_text own peer rs) (record_line Part r) h.begins consumes);
  form_is = refl;
}

pub ended : (text before : Option (List ℕ)) (own peer : ℕ) (rs : List Record) → IsPartSoFar text (so_far Part own peer rs (ToCome before)) →
    IsAtEnd before → IsPartSoFar text (so_far Part own peer rs TheEnd)
ended text before own peer rs h end = record { fits = h.fits; begins = consumes_all text before _ h.begins end; form_is = refl }

-- ---- whole texts

pub whole : (bytes : List ℕ) (own peer : ℕ) (rs : List Record) → IsPartSoFar (Some bytes) (so_far Part own peer rs TheEnd) →
    IsPartText own peer rs bytes
whole bytes own peer rs h = record { fits = h.fits; spelled = h.begins ∙ append-nil (part_text own peer rs) }

-- a part whose text begins so begins so, and the rest of its text is that of its further records
record IsBegun (left : List ℕ) (own peer : ℕ) (rs : List Record) (read : ReadSoFar) : Type 0 where
  same_own : own ≡ read.own
  same_peer : peer ≡ read.peer
  more : List Record
  all : rs ≡ read.records ++ more
  rest : left ≡ record_lines Part more

begun : (bytes left : List ℕ) (own peer : ℕ) (rs : List Record) (read : ReadSoFar) → IsPartText own peer rs bytes →
    IsPartSoFar (Some bytes) read → coming read.behind ≡ Some left → IsBegun left own peer rs read
begun bytes left own peer rs read is_text h comes =
    let begins : bytes ≡ part_text read.own read.peer read.records ++ left =
    subst (λ (come : Option (List ℕ)). Consumes (Some bytes) come (part_text read.own read.peer read.records)) comes h.begins in
    let same : part_text own peer rs ≡ part_head_line read.own read.peer ++ (record_lines Part read.records ++ left) =
    sym is_text.spelled ∙ begins ∙ append_assoc (part_head_line read.own read.peer) (record_lines Part read.records) left in
    let heads = one_head own peer read.own read.peer (record_lines Part rs) (record_lines Part read.records ++ left) is_text.fits.own_fits
    is_text.fits.peer_fits h.fits.own_fits h.fits.peer_fits same in
    let lines = begun_lines Part read.records rs left tt h.fits.each is_text.fits.each heads.2 in
    record {
      same_own = heads.0;
      same_peer = heads.1;
      more = lines.0;
      all = lines.1;
      rest = lines.2 ∙ ap (λ (f : HintForm). record_lines f lines.0) (form_stays read.records);
    }

goes_by : (behind : Behind) (bytes : List ℕ) (own peer : ℕ) (rs : List Record) (form : HintForm) (own' peer' : ℕ) (ss : List Record) →
    IsPartText own peer rs bytes → IsPartSoFar (Some bytes) (so_far form own' peer' ss behind) →
    (own ≡ own') × (peer ≡ peer') × GoesOn (so_far form own' peer' ss behind) rs
goes_by (ToCome None) bytes own peer rs form own' peer' ss is_text h = absurd h.begins
goes_by (ToCome (Some left)) bytes own peer rs form own' peer' ss is_text h =
    let b = begun bytes left own peer rs (so_far form own' peer' ss (ToCome (Some left))) is_text h refl in
    (b.same_own, b.same_peer, (b.more, b.all))
goes_by TheEnd bytes own peer rs form own' peer' ss is_text h =
    let b = begun bytes [] own peer rs (so_far form own' peer' ss TheEnd) is_text h refl in
    (b.same_own, b.same_peer, b.all ∙ ap (λ (t : List Record). ss ++ t) (nothing_more Part b.more b.rest) ∙ append-nil ss)

pub goes_on : (bytes : List ℕ) (own peer : ℕ) (rs : List Record) (read : ReadSoFar) → IsPartText own peer rs bytes →
    IsPartSoFar (Some bytes) read → (own ≡ read.own) × (peer ≡ read.peer) × GoesOn read rs
goes_on bytes own peer rs read is_text h = goes_by read.behind bytes own peer rs read.form read.own read.peer read.records is_text h

no_line : (left : List ℕ) (own peer : ℕ) (rs ss more : List Record) (kind : Departure) → AllByRecursion IsRecord rs → length rs ≤ MAX_RECORDS →
    rs ≡ ss ++ more → RecordDeparts Part (length ss) kind (record_lines Part more) → ⊥
no_line left own peer rs ss [] kind each few all d = no_end_departure Part (length ss) kind d
no_line left own peer rs ss (r ∷ more) kind each few all d =
    let behind = All-behind IsRecord ss (r ∷ more) (subst (AllByRecursion IsRecord) all each) in
    let fewer = room rs ss (r ∷ more) few all in
    no_departure Part kind r (record_lines Part more) (length ss) tt behind.0 (omega arith) tt d

no_line_by : (behind : Behind) (bytes : List ℕ) (own peer : ℕ) (rs : List Record) (own' peer' : ℕ) (ss : List Record) (kind : Departure) (line : ℕ) →
    IsPartText own peer rs bytes → IsPartSoFar (Some bytes) (so_far Part own' peer' ss behind) →
    DepartsBehind (so_far Part own' peer' ss behind) kind line → ⊥
no_line_by (ToCome None) bytes own peer rs own' peer' ss kind line is_text h d = absurd h.begins
no_line_by (ToCome (Some left)) bytes own peer rs own' peer' ss kind line is_text h d =
    let b = begun bytes left own peer rs (so_far Part own' peer' ss (ToCome (Some left))) is_text h refl in
    no_line left own peer rs ss b.more kind is_text.fits.each is_text.fits.few b.all
    (subst (RecordDeparts Part (length ss) kind) b.rest d.departs)
no_line_by TheEnd bytes own peer rs own' peer' ss kind line is_text h d = no_end_departure Part (length ss) kind d.departs

pub departs_nowhere : (bytes : List ℕ) (own peer : ℕ) (rs : List Record) (read : ReadSoFar) (kind : Departure) (line : ℕ) →
    IsPartText own peer rs bytes → IsPartSoFar (Some bytes) read → DepartsBehind read kind line → ⊥
departs_nowhere bytes own peer rs read kind line is_text h d =
    no_line_by read.behind bytes own peer rs read.own read.peer read.records kind line is_text
    (subst (λ (f : HintForm). IsPartSoFar (Some bytes) (so_far f read.own read.peer read.records read.behind)) h.form_is h)
    (subst (λ (f : HintForm). DepartsBehind (so_far f read.own read.peer read.records read.behind) kind line) h.form_is d)

-- ---- where the head of a part comes first

head_first : (own peer : ℕ) (rest : List ℕ) → IsNode own → IsNode peer →
    (first_line (part_head_line own peer ++ rest) ≡ part_head_text own peer) × (has_lf (part_head_line own peer ++ rest) ≡ true)
head_first own peer rest p q = ended_first (part_head_text own peer) rest (part_head_lacks own peer p q)

-- it departs as such from that of a whole capture
pub part_departs : (own peer : ℕ) (rest : List ℕ) → IsNode own → IsNode peer → HeadDeparts kinds.Part (part_head_line own peer ++ rest)
part_departs own peer rest p q =
    let first = head_first own peer rest p q in (
      record { short = omega (arith, ap length first.0, part_head_short own peer p q); ended = first.1 },
      record { own = own; peer = peer; own_fits = p; peer_fits = q; spelled = first.0 },
    )

-- so where it was read
pub departs_as_part : (before after : Option (List ℕ)) (state : CaptureState) → OpensPart before after state → IfSome before (HeadDeparts kinds.Part)
departs_as_part None after state h = tt
departs_as_part (Some text) None state h = absurd h.4
departs_as_part (Some text) (Some rest) state h =
    subst (HeadDeparts kinds.Part) (sym h.4) (part_departs state.own state.peer (state.unread ++ rest) h.0 h.1)

-- and not from both
not_from_both : (kind : Departure) (own peer : ℕ) (rest : List ℕ) → IsNode own → IsNode peer →
    EitherHeadDeparts kind (part_head_line own peer ++ rest) → ⊥
not_from_both kinds.TooMany own peer rest p q d = d
not_from_both kinds.Part own peer rest p q d = d
not_from_both kinds.TooLong own peer rest p q d =
    let first = head_first own peer rest p q in
    let short = part_head_short own peer p q in
    omega (arith, ap length first.0)
not_from_both kinds.Syntax own peer rest p q (inl d) =
    let open_line = d.1 in
    let ended_line = (head_first own peer rest p q).1 in
    cc
not_from_both kinds.Syntax own peer rest p q (inr d) = d.1.1 (part_departs own peer rest p q).1

pub head_stands : (bytes : List ℕ) (own peer : ℕ) (rs : List Record) (kind : Departure) → IsPartText own peer rs bytes →
    EitherHeadDeparts kind bytes → ⊥
head_stands bytes own peer rs kind is_text d =
    not_from_both kind own peer (record_lines Part rs) is_text.fits.own_fits is_text.fits.peer_fits (subst (EitherHeadDeparts kind) is_text.spelled d)
