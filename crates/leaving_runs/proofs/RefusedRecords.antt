-- A judged unit that comes, and that the links refuse, is refused for the same reason; and so any record.
use Rattle.leaving_runs.proofs.Prelude.{◌≡◌, ℕ, ◌+◌, Bool, true, false, cond, nat_lt, Option, Some, None, Result, Ok, Err, List, refl, ap, ◌∙◌}
use Rattle.leaving_runs.proofs.Prelude.{arith, ltb-false, slice_get, bytes_eq, bytes_eq-Decides, Half, Outcome, answered, concluded, read, advance}
use Rattle.leaving_runs.proofs.Prelude.{Refused, ReadingValue, reading, is_kept, Fate, Record, Sent, Received, Noise, User, StationRefusal}
use Rattle.leaving_runs.proofs.Prelude.{StepRefusal, HintOrder, LinkRefusal, Station, Sound, arrival_refusal, after_arrival, coming, coming_by}
use Rattle.leaving_runs.proofs.Prelude.{damage, does, met, comes, receives, noise_step, step, unless_refused, Queues, of_partner, Links}
use Rattle.leaving_runs.proofs.Prelude.{links_arrived, SentMessage, judged_by, Layers, LayersNode, LayersUnit, with_links, keeps, meets_on}
use Rattle.leaving_runs.proofs.Prelude.{layers_machine, side_of, HasItsMessage, Keeps, Judged, other_out, other_judged, message_left, SideRight}
use Rattle.leaving_runs.proofs.Prelude.{refused_next, station_left, bytes_left, Leaves, other_leaves, half_left, layers_left, record_left}
use Rattle.leaving_runs.proofs.Prelude.{PacketsFit, RecordFits, of_carried, of_unit, of_record, IsJudged}
use Rattle.ddcmp_msg.specs.Reading as read_as
use Rattle.capture_record.specs.declared.fate.Fate.TheVariants as fates
use Rattle.dna_station.specs.declared.refusal.StepRefusal.TheVariants.{Links as OfLinks}
use Rattle.dna_leaving.specs.Left.{truth_left as link_truth_left}
use Rattle.leaving_runs.proofs.Receipts.{sound_left, fate_is}
use Rattle.leaving_runs.proofs.Steps.{AreKnown}
use Rattle.leaving_runs.proofs.Refused.{event_refused, sent_refused}

module _ (queues : Queues) (leaves : Leaves) (judged : Judged) (own other : Half LayersNode LayersUnit)
    (mine : SideRight leaves.out judged (side_of own 0) (side_of other 0))
    (theirs : SideRight (other_out leaves.out) (other_judged judged) (side_of other 0) (side_of own 0))
    (fits : PacketsFit leaves.out own.state.station.links.node own.state.station.links.peer leaves.packets.own) (z : LinkRefusal) where
  abbrev s : Layers
  s = own.state.station

  abbrev t : Layers
  t = layers_left leaves judged s

  abbrev own_left : Half LayersNode LayersUnit
  own_left = half_left leaves judged own

  abbrev other_left : Half LayersNode LayersUnit
  other_left = half_left (other_leaves leaves) (other_judged judged) other

  abbrev refused : Outcome LayersNode LayersUnit StepRefusal
  refused = Refused (OfLinks z)

  abbrev advances : Record → Outcome LayersNode LayersUnit StepRefusal
  advances r = advance (step (layers_machine (judged_by queues))) own_left other_left (record_left leaves r)

  abbrev comes_to : Result Layers StepRefusal → Outcome LayersNode LayersUnit StepRefusal
  comes_to o = answered own_left other_left (does own_left.state o)

  -- ---- a unit that came

  module _ (hint : ℕ) (bytes : List ℕ) where
    module _ (unit : LayersUnit) (there : slice_get other.sent hint ≡ Some unit) (in_order : nat_lt hint own.state.front ≡ false)
        (front : ℕ) (reads : reading unit.bytes ≡ read_as.Sound unit.message)
        (kept : arrival_refusal (judged_by queues).periods s.station (Sound unit.message unit.known.station) true ≡ None →
        HasItsMessage other front unit) where
      module _ (same : bytes ≡ unit.bytes) (allowed : arrival_refusal (judged_by queues).periods s.station
          (Sound unit.message unit.known.station) true ≡ None) where
        abbrev taken : Station
        taken = after_arrival s.station (Sound unit.message unit.known.station) true

        abbrev kept_left : Result Links LinkRefusal → Outcome LayersNode LayersUnit StepRefusal
        kept_left o = concluded own_left (met own_left.state (hint + 1) (with_links (record t { station = station_left leaves.packets taken }) o))

        abbrev carried_left : Option SentMessage → Outcome LayersNode LayersUnit StepRefusal
        carried_left carried =
            concluded own_left (met own_left.state (hint + 1)
            (keeps (judged_by queues) (record t { station = station_left leaves.packets taken }) carried))

        kept_message : (message : SentMessage) → unit.known.carried ≡ Some message → IsJudged leaves.out (Keeps message.packet message.truth) →
            (o : Result Links LinkRefusal) → links_arrived queues of_partner s.links message.packet message.truth ≡ o →
            concluded own (met own.state (hint + 1) (with_links (record s { station = taken }) o)) ≡ refused →
            advances (Received hint fates.Kept bytes) ≡ refused
        kept_message message is here (Ok links) done made = absurd cc
        kept_message message is here (Err x) done made =
            ap (λ (fate : Fate). advance (step (layers_machine (judged_by queues))) own_left other_left
            (Received hint fate (bytes_left leaves.packets.far bytes)))
            (fate_is queues leaves judged own other mine theirs hint bytes own unit there in_order same front allowed has reads (Some message) is
            ∙ ap (λ (b : Bool). cond b fates.Dropped fates.Kept) here)
            ∙ sound_left queues leaves judged own other mine theirs hint bytes own unit there in_order same fates.Kept allowed
            ∙ ap (λ (carried : Option SentMessage). carried_left (message_left (other_out leaves.out) (other_judged judged) carried)) is
            ∙ ap (λ (b : Bool). carried_left (cond b None
            (Some (record message { truth = link_truth_left judged.there judged.here message.truth }))))
            ((theirs.sent unit.known.station.place message (has.told ∙ ap Some is)).stays here)
            ∙ ap kept_left
            (refused_next queues leaves.out judged (side_of own 0) (side_of other 0) mine theirs (Keeps message.packet message.truth)
            (unit.known.station.place, omega arith, has.told ∙ ap Some is) here x done)
            ∙ made
          where
            has : HasItsMessage other front unit
            has = kept allowed

        kept_carried : (carried : Option SentMessage) → unit.known.carried ≡ carried → IsJudged leaves.out (of_carried fates.Kept carried) →
            concluded own (met own.state (hint + 1) (keeps (judged_by queues) (record s { station = taken }) carried)) ≡ refused →
            advances (Received hint fates.Kept bytes) ≡ refused
        kept_carried (Some message) is here made = kept_message message is here _ refl made
        kept_carried None is here made = absurd cc

      sound_refused : bytes ≡ unit.bytes → (fate : Fate) (o : Option StationRefusal) →
          arrival_refusal (judged_by queues).periods s.station (Sound unit.message unit.known.station) (is_kept fate) ≡ o →
          IsJudged leaves.out (of_carried fate unit.known.carried) →
          concluded own (met own.state (hint + 1)
          (meets_on (judged_by queues) s (Sound unit.message unit.known) fate
          (unless_refused o (after_arrival s.station (Sound unit.message unit.known.station) (is_kept fate))))) ≡ refused →
          advances (Received hint fate bytes) ≡ refused
      sound_refused same fates.Kept None allowed here made = kept_carried same allowed unit.known.carried refl here made
      sound_refused same fates.Dropped None allowed here made = absurd cc
      sound_refused same fates.NotKept None allowed here made = absurd cc
      sound_refused same fate (Some refusal) allowed here made = absurd cc

      damage_apart : (fate : Fate) (r : ReadingValue) →
          concluded own (comes (layers_machine (judged_by queues)) own.state (hint + 1) fate (damage r)) ≡ refused →
          advances (Received hint fate bytes) ≡ refused
      damage_apart fates.Kept read_as.HeaderBad made = absurd cc
      damage_apart fates.Dropped read_as.HeaderBad made = absurd cc
      damage_apart fates.NotKept read_as.HeaderBad made = absurd cc
      damage_apart fates.Kept read_as.DataBad made = absurd cc
      damage_apart fates.Dropped read_as.DataBad made = absurd cc
      damage_apart fates.NotKept read_as.DataBad made = absurd cc
      damage_apart fate (read_as.Sound m) made = absurd cc
      damage_apart fate (read_as.Malformed departure) made = absurd cc

      coming_refused : (fate : Fate) (same : Bool) → bytes_eq bytes unit.bytes ≡ same → (r : ReadingValue) →
          IsJudged leaves.out (of_carried fate unit.known.carried) →
          concluded own (comes (layers_machine (judged_by queues)) own.state (hint + 1) fate (coming_by same unit r)) ≡ refused →
          advances (Received hint fate bytes) ≡ refused
      coming_refused fate true same r here made = sound_refused ((bytes_eq-Decides bytes unit.bytes).0 same) fate _ refl here made
      coming_refused fate false same r here made = damage_apart fate r made

    received_refused : (fate : Fate) (front : ℕ) → AreKnown queues leaves.packets.far own other front → (o : Option LayersUnit) →
        slice_get other.sent hint ≡ o → IsJudged leaves.out (of_unit fate o) →
        read own (receives (layers_machine (judged_by queues)) own.state hint fate bytes) o ≡ refused → advances (Received hint fate bytes) ≡ refused
    received_refused fate front known None there here made = absurd cc
    received_refused fate front known (Some unit) there here made = at (nat_lt hint own.state.front) refl made
      where
        at : (b : Bool) → nat_lt hint own.state.front ≡ b →
            concluded own (cond b (Err HintOrder) (comes (layers_machine (judged_by queues)) own.state (hint + 1) fate (coming unit bytes))) ≡
            refused →
            advances (Received hint fate bytes) ≡ refused
        at true order made = absurd cc
        at false order made =
            coming_refused unit there order front (known.reads hint unit there)
            (known.kept hint unit there (ltb-false hint own.state.front order)) fate (bytes_eq bytes unit.bytes) refl (reading bytes) here made

  noise_apart : (bytes : List ℕ) (r : ReadingValue) → answered own other (noise_step (layers_machine (judged_by queues)) own.state r) ≡ refused →
      advances (Noise bytes) ≡ refused
  noise_apart bytes read_as.HeaderBad made = absurd cc
  noise_apart bytes read_as.DataBad made = absurd cc
  noise_apart bytes (read_as.Sound m) made = absurd cc
  noise_apart bytes (read_as.Malformed departure) made = absurd cc

  pub record_refused : (front : ℕ) → AreKnown queues leaves.packets.far own other front → (r : Record) → RecordFits leaves.out r →
      IsJudged leaves.out (of_record own other r) → advance (step (layers_machine (judged_by queues))) own other r ≡ refused → advances r ≡ refused
  record_refused front known (Sent bytes) is here made =
      sent_refused queues leaves judged own other mine theirs fits z bytes is.0.spelling.bytes (reading bytes) refl here made
  record_refused front known (Received hint fate bytes) is here made =
      received_refused hint bytes fate front known (slice_get other.sent hint) refl here made
  record_refused front known (Noise bytes) is here made = noise_apart bytes (reading bytes) made
  record_refused front known (User event) is here made = event_refused queues leaves judged own other mine theirs fits z event is.0 is.1 here made
