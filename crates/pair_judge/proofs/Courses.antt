-- How what was read of a text grows with a side's next record.
use Rattle.std.proofs.Common.{◌≡◌, ℕ, ◌+◌, ◌<◌, List, [], ◌∷◌, ◌++◌, length, Option, Some, None, Ok, refl, sym, ap, ap₂, ◌∙◌, arith}
use Rattle.std.proofs.Common.{length-append, append-nil}
use Rattle.std.specs.Io.KnownBytes.{Consumes, IsAtEnd}
use Rattle.capture.specs.declared.limit.TheConstants.{MAX_RECORDS}
use Rattle.capture_record.specs.declared.record.Record.{Record}
use Rattle.capture_record.specs.declared.entry.Entry.{Entry}
use Rattle.capture_record.specs.Entries.{record_with}
use Rattle.capture.specs.declared.hint.HintForm.{HintForm}
use Rattle.capture.specs.Text.{form_after, record_line}
use Rattle.capture_record.specs.Range.{IsRecord}
use Rattle.capture.specs.Range.{IsInForm}
use Rattle.capture.specs.Reader.{CaptureState, NextGives, Opens}
use Rattle.capture.specs.Lines.{to_come}
use Rattle.capture.specs.SoFar.{ToCome, TheEnd, so_far, IsReadSoFar}
use Rattle.dna_station.specs.declared.head.Head.{Head}
use Rattle.pair_judge.specs.declared.course.Ahead.TheVariants.{Unread, Waits, Ended}
use Rattle.pair_judge.specs.declared.course.Course.{Course}
use Rattle.pair_judge.specs.declared.end.End.{End}
use Rattle.pair_judge.specs.inner.Course.{IsRead, along}

-- ---- what was read, by what comes next

module _ (text : Option (List ℕ)) (course : Course) (come : Option (List ℕ)) (made : List Record) where
  -- with what the end of the judge has
  pub read_unread : course.ahead ≡ Unread → IsRead (along text course come made)
      → IsReadSoFar text (so_far course.capture.form course.capture.own course.capture.peer made (ToCome come)) ×
      (course.capture.records ≡ length made)
  read_unread is h = ((rw (is, append-nil made) at h.so_far), (rw (is, append-nil made) at h.count))

  pub from_unread : course.ahead ≡ Unread → IsReadSoFar text (so_far course.capture.form course.capture.own course.capture.peer made (ToCome come)) →
      course.capture.records ≡ length made
      → course.end.head ≡ record { own = course.capture.own; peer = course.capture.peer } → IsRead (along text course come made)
  from_unread is so count head = record { so_far = rw (is, append-nil made) so; count = rw (is, append-nil made) count; head = head }

  pub from_waits : (entry : Entry) → course.ahead ≡ Waits entry →
      IsReadSoFar text (so_far course.capture.form course.capture.own course.capture.peer (made ++ record_with entry course.capture.bytes ∷ [])
      (ToCome come)) → course.capture.records ≡ length (made ++ record_with entry course.capture.bytes ∷ [])
      → course.end.head ≡ record { own = course.capture.own; peer = course.capture.peer } → IsRead (along text course come made)
  from_waits entry is so count head = record { so_far = rw is so; count = rw is count; head = head }

  pub from_ended : course.ahead ≡ Ended → IsReadSoFar text (so_far course.capture.form course.capture.own course.capture.peer made TheEnd) →
      course.capture.records ≡ length made
      → course.end.head ≡ record { own = course.capture.own; peer = course.capture.peer } → IsRead (along text course come made)
  from_ended is so count head = record { so_far = rw (is, append-nil made) so; count = rw (is, append-nil made) count; head = head }

-- ---- the next record

-- a record that was read goes on as one that waits
pub put_back : (text : Option (List ℕ)) (course : Course) (come : Option (List ℕ)) (made : List Record) (entry : Entry) → course.ahead ≡ Unread
    → IsRead (along text course come (made ++ record_with entry course.capture.bytes ∷ [])) →
    IsRead (along text (record course { ahead = Waits entry }) come made)
put_back text course come made entry is h =
    let read = read_unread text course come (made ++ record_with entry course.capture.bytes ∷ []) is h in
    from_waits text (record course { ahead = Waits entry }) come made entry refl read.0 read.1 h.head

-- what was read of a text that is read on
pub record GrowingLaws : Type 0 where
  pub opened : (text left : Option (List ℕ)) (state : CaptureState) → Opens text left (Ok state) →
      IsReadSoFar text (so_far state.form state.own state.peer [] (ToCome (to_come state.unread left)))
  pub one_more : (text before after : Option (List ℕ)) (form : HintForm) (own peer : ℕ) (rs : List Record) (r : Record) →
      IsReadSoFar text (so_far form own peer rs (ToCome before)) → length rs < MAX_RECORDS → IsRecord r → Consumes before after (record_line form r) →
      IsInForm form r → IsReadSoFar text (so_far (form_after form r) own peer (rs ++ r ∷ []) (ToCome after))
  pub ended : (text before : Option (List ℕ)) (form : HintForm) (own peer : ℕ) (rs : List Record) →
      IsReadSoFar text (so_far form own peer rs (ToCome before)) → IsAtEnd before → IsReadSoFar text (so_far form own peer rs TheEnd)

-- the head stays
same_head : (old new : CaptureState) → new.own ≡ old.own → new.peer ≡ old.peer → ◌≡◌ {A = Head} (record { own = old.own; peer = old.peer })
    (record { own = new.own; peer = new.peer })
same_head old new own peer = ap₂ (λ (o p : ℕ). record { own = o; peer = p }) (sym own) (sym peer)

module _ (laws : GrowingLaws) (text : Option (List ℕ)) (old new : Course) (before after : Option (List ℕ)) (made : List Record)
    (unread : old.ahead ≡ Unread) (same_end : new.end ≡ old.end) (own : new.capture.own ≡ old.capture.own)
    (peer : new.capture.peer ≡ old.capture.peer) (h : IsRead (along text old before made)) where
  head_on : new.end.head ≡ record { own = new.capture.own; peer = new.capture.peer }
  head_on = ap (λ (e : End). e.head) same_end ∙ h.head ∙ same_head old.capture new.capture own peer

  -- one more record was read
  pub read_on : (r : Record) → new.ahead ≡ Unread → NextGives old.capture new.capture before after (Ok (Some r)) →
      IsRead (along text new after (made ++ r ∷ []))
  read_on r is gives =
      let read = read_unread text old before made unread h in
      let few = gives.1 in
      let count = read.1 in
      let so = laws.one_more text before after old.capture.form old.capture.own old.capture.peer made r read.0 (omega arith) gives.0 gives.4
      gives.6 in
      from_unread text new after (made ++ r ∷ []) is (rw (own, peer, gives.5) so)
      (gives.2 ∙ ap (λ n. n + 1) read.1 ∙ sym (length-append made (r ∷ []))) head_on

  -- the end was found
  pub ended : new.ahead ≡ Ended → NextGives old.capture new.capture before after (Ok None) → IsRead (along text new after made)
  ended is gives =
      let read = read_unread text old before made unread h in
      from_ended text new after made is
      (rw (own, peer, gives.3) (laws.ended text before old.capture.form old.capture.own old.capture.peer made read.0 gives.0)) (gives.1 ∙ read.1)
      head_on
