-- How the units of a capture are counted, record by record.
use Rattle.std.proofs.Common.{◌≡◌, ℕ, ◌+◌, ◌<◌, List, [], ◌∷◌, ◌++◌, length, Option, Some, Ok, refl}
use Rattle.std.proofs.Common.{◌∙◌, arith, length-append}
use Rattle.capture.specs.declared.limit.TheConstants.{MAX_RECORDS}
use Rattle.capture.specs.declared.phase.Phase.TheVariants.{Reading}
use Rattle.capture_record.specs.declared.record.Record.{Record}
use Rattle.capture_record.specs.declared.record.Record.TheVariants.{Sent, Received, Noise, User}
use Rattle.capture.specs.Lines.{to_come}
use Rattle.capture.specs.Reader.{CaptureState, NextGives, Opens}
use Rattle.capture.specs.SoFar.{IsReadSoFar, ToCome, so_far}
use Rattle.capture.proofs.SoFarLaws.{one_more, opened}
use Rattle.placing.specs.Placed.{units_sent}
use Rattle.tap_answer.specs.Before.{HasBefore}

-- so many records were read, of which so many are units that were sent
pub record IsCounting (text come : Option (List ℕ)) (state : CaptureState) (place units : ℕ) : Type 0 where
  pub records : List Record
  pub read : IsReadSoFar text (so_far state.form state.own state.peer records (ToCome come))
  pub place_is : length records ≡ place
  pub units_are : length (units_sent records) ≡ units
  pub counted : state.records ≡ place
  pub reading : state.phase ≡ Reading

pub counting_begins : (text left : Option (List ℕ)) (state : CaptureState) → Opens text left (Ok state) →
    IsCounting text (to_come state.unread left) state 0 0
counting_begins text left state opens = record {
  records = [];
  read = opened text left state opens;
  place_is = refl;
  units_are = refl;
  counted = opens.2;
  reading = opens.3;
}

sent_push : (rs : List Record) (r : Record) → length (units_sent (rs ++ r ∷ [])) ≡ length (units_sent rs) + length (units_sent (r ∷ []))
sent_push [] r = omega arith
sent_push (Sent bytes ∷ rs) r = let more = sent_push rs r in omega arith
sent_push (Received hint fate bytes ∷ rs) r = sent_push rs r
sent_push (Noise bytes ∷ rs) r = sent_push rs r
sent_push (User event ∷ rs) r = sent_push rs r

module _ (text come after : Option (List ℕ)) (state new : CaptureState) (place units : ℕ) (h : IsCounting text come state place units) where
  pub counting_on : (r : Record) (more : ℕ) → length (units_sent (r ∷ [])) ≡ more → NextGives state new come after (Ok (Some r)) →
      new.own ≡ state.own → new.peer ≡ state.peer → IsCounting text after new (place + 1) (units + more)
  counting_on r more sent gives own peer = record {
    records = h.records ++ r ∷ [];
    read = rw (gives.5, own, peer) (one_more text come after state.form state.own state.peer h.records r h.read (rw h.place_is few) gives.0 gives.4
        gives.6);
    place_is = omega (arith, length-append h.records (r ∷ []), h.place_is);
    units_are = omega (arith, sent_push h.records r, h.units_are, sent);
    counted = omega (arith, gives.2, h.counted);
    reading = gives.3;
  }
    where
      few : place < MAX_RECORDS
      few = let counted = h.counted in let less = gives.1 in omega arith

-- so many records, which are as many as were asked for
pub counting_done : (text come : Option (List ℕ)) (state : CaptureState) (at place units : ℕ) → IsCounting text come state at units → at ≡ place →
    HasBefore text place units
counting_done text come state at place units h same = record {
  read = so_far state.form state.own state.peer h.records (ToCome come);
  begins = h.read;
  place_is = h.place_is ∙ same;
  units_are = h.units_are;
}
