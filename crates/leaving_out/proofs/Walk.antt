-- From one record of a text to the next.
use Rattle.std.proofs.Common.{◌≡◌, ℕ, ◌+◌, ◌≤◌, List, [], ◌∷◌, ◌++◌, length, Option, Some, Ok, refl, subst, arith, length-append}
use Rattle.std.specs.Option.{IfSome}
use Rattle.std.specs.Io.KnownBytes.{IsAtEnd}
use Rattle.capture.specs.declared.fault.CaptureFault.TheVariants.{Departs}
use Rattle.capture.specs.declared.fault.Departure.{Departure}
use Rattle.capture.specs.declared.limit.TheConstants.{MAX_RECORDS}
use Rattle.capture.specs.declared.phase.Phase.TheVariants.{Reading}
use Rattle.capture_record.specs.declared.record.Record.{Record}
use Rattle.capture.specs.Departing.{RecordDeparts}
use Rattle.capture.specs.Lines.{to_come}
use Rattle.capture.specs.Reader.{CaptureState, FaultShows, NextGives, Opens}
use Rattle.capture.specs.SoFar.{DepartsBehind, IsReadSoFar, ReadSoFar, TheEnd, ToCome, read_on, so_far}
use Rattle.capture.proofs.SoFarLaws.{ended, one_more, opened}

-- these records were read of the text, and no more
pub record IsAt (text : Option (List ℕ)) (capture : CaptureState) (come : Option (List ℕ)) (count : ℕ) (records : List Record) : Type 0 where
  pub count_is : length records ≡ count
  pub read : IsReadSoFar text (so_far capture.form capture.own capture.peer records (ToCome come))
  pub counted : capture.records ≡ length records
  pub reading : capture.phase ≡ Reading

-- what was read by then
abbrev pub by_then : CaptureState → Option (List ℕ) → List Record → ReadSoFar
by_then capture come records = so_far capture.form capture.own capture.peer records (ToCome come)

pub at_start : (text left : Option (List ℕ)) (state : CaptureState) → Opens text left (Ok state) → IsAt text state (to_come state.unread left) 0 []
at_start text left state opens = record { count_is = refl; read = opened text left state opens; counted = opens.2; reading = opens.3 }

module _ (text : Option (List ℕ)) (capture : CaptureState) (come : Option (List ℕ)) (count : ℕ) (rs : List Record)
    (h : IsAt text capture come count rs) where
  pub at_next : (new : CaptureState) (after : Option (List ℕ)) (r : Record) → new.own ≡ capture.own → new.peer ≡ capture.peer →
      NextGives capture new come after (Ok (Some r)) → IsAt text new after (count + 1) (rs ++ r ∷ [])
  at_next new after r own peer gives =
      let counted = h.counted in
      let same = h.count_is in
      record {
        count_is = omega (arith, length-append rs (r ∷ []));
        read = rw (own, peer, gives.5)
            (one_more text come after capture.form capture.own capture.peer rs r h.read (omega (arith, gives.1)) gives.0 gives.4 gives.6);
        counted = omega (arith, gives.2, length-append rs (r ∷ []));
        reading = gives.3;
      }

  pub at_end : IsAtEnd come → IsReadSoFar text (so_far capture.form capture.own capture.peer rs TheEnd)
  at_end end = ended text come capture.form capture.own capture.peer rs h.read end

  pub at_departure : (kind : Departure) (line : ℕ) →
      FaultShows (RecordDeparts capture.form capture.records) (capture.records + 2) come (Departs kind line) →
      DepartsBehind (by_then capture come rs) kind (length rs + 2)
  at_departure kind line shows = record {
    departs = subst (λ (n : ℕ). IfSome come (RecordDeparts capture.form n kind)) h.counted shows.1;
    line_is = refl;
  }

  -- so never more than a text may have
  pub few : count ≤ MAX_RECORDS
  few = subst (λ (n : ℕ). n ≤ MAX_RECORDS) h.count_is h.read.fits.few

  -- with its next record
  pub next_read : (new : CaptureState) (after : Option (List ℕ)) (r : Record) → NextGives capture new come after (Ok (Some r)) →
      IsReadSoFar text (read_on (by_then capture come rs) r after)
  next_read new after r gives =
      let counted = h.counted in
      one_more text come after capture.form capture.own capture.peer rs r h.read (omega (arith, gives.1)) gives.0 gives.4 gives.6
