-- Bytes that nobody sent: an end of the player hears them exactly where a block check shows that they are damaged.
use Rattle.dna_play.proofs.Prelude.{MAX_UNIT, Noise, ReadingValue, reading, le-leb, ◌≡◌, ℕ, List, length, refl, sym, ap, ◌∙◌, inl, inr, false}
use Rattle.dna_play.proofs.Prelude.{IsRecord, StoredStation, arrival_debt, end_step, IsNoise, after_arrival, Made, advance}
use Rattle.capture_record.specs.declared.record.Record.TheVariants as recorded
use Rattle.ddcmp_msg.specs.Reading as read_as
use Rattle.dna_play.proofs.Ends.DamagedUnits.{ShownDamage, OfHeader, OfData, read_of, arrival_of}
use Rattle.dna_play.proofs.{Ends.Stage.station_stage, Ends.Stage.with_station, Played.Runs.line_makes, Stored.Now.StoredNow, Stored.Now.facts_of}
use Rattle.dna_play.proofs.{Played.PlayLines.line_tested, Stored.Stations.station_came}
use Rattle.dna_play.proofs.Ends.StationStage.{came_stage, came_packets, ComesHurt}
use Rattle.dna_play.proofs.Played.Steps.{PlayHalf, Nothing, First}
use Rattle.dna_play.specs.StoredPlay as keeping
use Rattle.dna_play.specs.Script.{Noise}
use Rattle.dna_play.proofs.Stored.Right.{IsRight, kept_right, never_full}
use Rattle.dna_play.proofs.Ends.TrueEnd.{stored, End, variables_of, station_of, after_record, owing_more}

-- the half that damage leaves: its front stays
abbrev damage_left : PlayHalf → ShownDamage → PlayHalf
damage_left own d = with_station own (after_arrival (station_of own) (arrival_of d) false)

damage_heard : (own other : PlayHalf) (d : ShownDamage) (bytes : List ℕ) → reading bytes ≡ read_of d →
    advance end_step own other (Noise bytes) ≡ Made (damage_left own d)
unfolding end_step
damage_heard own other OfHeader bytes e = rw e refl
damage_heard own other OfData bytes e = rw e refl

-- ---- the end after it

module _ (own other : End) (now : StoredNow own other) (bytes : List ℕ) (lined : IsRecord (recorded.Noise bytes)) where
  as_heard : (d : ShownDamage) → reading bytes ≡ read_of d → IsNoise bytes →
      IsRight own other (Noise bytes) (keeping.heard (stored own) bytes (read_of d))
  as_heard d e noise =
      let half = damage_left own.half d in
      let station = station_of own.half in
      let ordered = (facts_of now).known.bounded.ordered in
      kept_right own other (Noise bytes) (owing_more (arrival_debt (variables_of own.half) (read_of d) false) (after_record own half own.links))
      (First (line_makes own.half other.half (recorded.Noise bytes) half (line_tested _ lined) (damage_heard own.half other.half d bytes e)) Nothing)
      (ap (λ (station : StoredStation). record (stored own) { station = station }) (station_came station ordered own.owed (ComesHurt d) false)) refl
      (station_stage own now.stage _ _ _ _ _ (came_stage station own.owed now.stage.pays ordered (ComesHurt d) false)
      (came_packets station (arrival_of d) false now.stage.packets) now.stage.ahead) noise (never_full own other (Noise bytes) refl)

  pub noise_right : IsRight own other (Noise bytes) (keeping.hears (stored own) bytes (reading bytes))
  noise_right = rw (le-leb (length bytes) MAX_UNIT lined.short) (go (reading bytes) refl)
    where
      go : (r : ReadingValue) → reading bytes ≡ r → IsRight own other (Noise bytes) (keeping.hears_as (stored own) bytes r)
      go read_as.HeaderBad e = as_heard OfHeader e (inl e)
      go read_as.DataBad e = as_heard OfData e (inr e)
      go r e = λ asks. elim asks [ inl f ↦ absurd (let g = sym e ∙ f in cc) | inr f ↦ absurd (let g = sym e ∙ f in cc) ]
