-- What is left of a unit that came, and of noise.
use Rattle.leaving_runs.proofs.Prelude.{◌≡◌, ℕ, ◌+◌, ◌≤◌, Bool, true, false, cond, nat_lt, ltb-false, Option, Some, None, Result, Ok, Err, List}
use Rattle.leaving_runs.proofs.Prelude.{refl, sym, ap, ap₂, ◌∙◌, option_map, arith, slice_get, bytes_eq, slice_get-map, bytes_eq-Decides, Half}
use Rattle.leaving_runs.proofs.Prelude.{Outcome, concluded, read, advance, Made, HeaderCheck, DataCheck, ReadingValue, reading, Fate, is_kept}
use Rattle.leaving_runs.proofs.Prelude.{Received, StationRefusal, StepRefusal, HintOrder, LinkRefusal, counts_damage, Station, Truth, ArrivalValue}
use Rattle.leaving_runs.proofs.Prelude.{Sound, HeaderBad, DataBad, arrival_refusal, after_arrival, coming, coming_by, damage, met, comes, receives}
use Rattle.leaving_runs.proofs.Prelude.{step, unless_refused, Queues, of_partner, Numbers, Links, links_arrived, SentMessage, judged_by, Layers}
use Rattle.leaving_runs.proofs.Prelude.{LayersNode, LayersUnit, with_links, keeps, meets_on, layers_machine, side_of, HasItsMessage, packet_in}
use Rattle.leaving_runs.proofs.Prelude.{message_within, packet_of, LinkRecord, OfNoLink, Keeps, is_out, Judged, other_out, other_judged}
use Rattle.leaving_runs.proofs.Prelude.{message_left, SideRight, RecordRight, unit_right, unseen, keeps_left, arrived_left, bytes_left}
use Rattle.leaving_runs.proofs.Prelude.{bytes_left_by, station_left, Leaves, other_leaves, half_left, layers_left, unit_left, fate_left, met_if}
use Rattle.leaving_runs.proofs.Prelude.{of_carried, of_unit}
use Rattle.ddcmp_msg.specs.Reading as read_as
use Rattle.capture_record.specs.declared.fate.Fate.TheVariants as fates
use Rattle.dna_leaving.specs.Left.{truth_left as link_truth_left}
use Rattle.leaving_runs.proofs.Stations.{arrival_left, refusal_left, counted_left}
use Rattle.leaving_runs.proofs.Bytes.{message_of_packet, within_data, not_damaged, not_data_bad}
use Rattle.leaving_runs.proofs.Along.{AreMarked, both_right, Along, along_at, along_station, station_half, links_half, made_left}

module _ (queues : Queues) (leaves : Leaves) (judged : Judged) (own other : Half LayersNode LayersUnit)
    (mine : SideRight leaves.out judged (side_of own 0) (side_of other 0))
    (theirs : SideRight (other_out leaves.out) (other_judged judged) (side_of other 0) (side_of own 0)) where
  abbrev s : Layers
  s = own.state.station

  abbrev t : Layers
  t = layers_left leaves judged s

  abbrev own_left : Half LayersNode LayersUnit
  own_left = half_left leaves judged own

  abbrev other_left : Half LayersNode LayersUnit
  other_left = half_left (other_leaves leaves) (other_judged judged) other

  abbrev unit_cut : LayersUnit → LayersUnit
  unit_cut unit = unit_left (other_leaves leaves) (other_judged judged) unit

  abbrev after_left : ArrivalValue Truth → Bool → Station
  after_left arrival kept = station_left leaves.packets (after_arrival s.station arrival kept)

  module _ (hint : ℕ) (bytes : List ℕ) (h : Half LayersNode LayersUnit) where
    abbrev Goes : Fate → LinkRecord Numbers → Half LayersNode LayersUnit → Type 0
    Goes fate one g = Along queues leaves judged own other mine theirs (Received hint fate bytes) one g

    abbrev left_bytes : List ℕ
    left_bytes = bytes_left leaves.packets.far bytes

    abbrev comes_to : Result Layers StepRefusal → Outcome LayersNode LayersUnit StepRefusal
    comes_to o = concluded own_left (met own_left.state (hint + 1) o)

    -- the record at what is left
    abbrev advances : Fate → Outcome LayersNode LayersUnit StepRefusal
    advances fate = advance (step (layers_machine (judged_by queues))) own_left other_left (Received hint fate left_bytes)

    module _ (unit : LayersUnit) (there : slice_get other.sent hint ≡ Some unit) (in_order : nat_lt hint own.state.front ≡ false) where
      came_left : (fate : Fate) (same : Bool) → bytes_eq left_bytes (unit_cut unit).bytes ≡ same → (r : ReadingValue) → reading left_bytes ≡ r →
          advances fate ≡ concluded own_left
          (comes (layers_machine (judged_by queues)) own_left.state (hint + 1) fate (coming_by same (unit_cut unit) r))
      came_left fate same is r e =
          ap (read own_left (receives (layers_machine (judged_by queues)) own_left.state hint fate left_bytes))
          (slice_get-map unit_cut other.sent hint ∙ ap (option_map unit_cut) there)
          ∙ ap (λ (b : Bool). concluded own_left (cond b (Err HintOrder)
          (comes (layers_machine (judged_by queues)) own_left.state (hint + 1) fate (coming (unit_cut unit) left_bytes)))) in_order
          ∙ ap₂ (λ (b : Bool) (x : ReadingValue). concluded own_left
          (comes (layers_machine (judged_by queues)) own_left.state (hint + 1) fate (coming_by b (unit_cut unit) x))) is e

      -- ---- damage

      module _ (still : reading (unit_cut unit).bytes ≡ read_as.Sound (unit_cut unit).message) where
        apart : (r : ReadingValue) → reading bytes ≡ r → (r ≡ read_as.Sound (unit_cut unit).message → false ≡ true) → left_bytes ≡ bytes →
            bytes_eq left_bytes (unit_cut unit).bytes ≡ false
        apart r e differs stays = at (bytes_eq left_bytes (unit_cut unit).bytes) refl
          where
            at : (b : Bool) → bytes_eq left_bytes (unit_cut unit).bytes ≡ b → bytes_eq left_bytes (unit_cut unit).bytes ≡ false
            at true same =
                let equal = (bytes_eq-Decides left_bytes (unit_cut unit).bytes).0 same in
                let never = differs (sym e ∙ ap reading (sym stays ∙ equal) ∙ still) in absurd cc
            at false same = same

        by_damage : (fate : Fate) (r : ReadingValue) → reading bytes ≡ r →
            concluded own (comes (layers_machine (judged_by queues)) own.state (hint + 1) fate (damage r)) ≡ Made h →
            Goes fate (of_carried fate unit.known.carried) h
        by_damage fates.Kept read_as.HeaderBad e made = absurd cc
        by_damage fates.Dropped read_as.HeaderBad e made = absurd cc
        by_damage fates.NotKept read_as.HeaderBad e made =
            let stays : left_bytes ≡ bytes = ap (bytes_left_by leaves.packets.far bytes) e in
            along_at queues leaves judged own other mine theirs (Received hint fates.NotKept bytes) OfNoLink _ h made
            (along_station queues leaves judged own other mine theirs (Received hint fates.NotKept bytes) (after_arrival s.station HeaderBad false)
            (hint + 1)
            (came_left fates.NotKept false (apart read_as.HeaderBad e (not_damaged (unit_cut unit).message) stays) read_as.HeaderBad
            (ap reading stays ∙ e)
            ∙ ap (λ (station : Station). comes_to (Ok (record t { station = station })))
            (counted_left leaves.packets HeaderCheck s.station (counts_damage s.station.state))))
        by_damage fates.Kept read_as.DataBad e made = absurd cc
        by_damage fates.Dropped read_as.DataBad e made = absurd cc
        by_damage fates.NotKept read_as.DataBad e made =
            let stays : left_bytes ≡ bytes = ap (bytes_left_by leaves.packets.far bytes) e in
            along_at queues leaves judged own other mine theirs (Received hint fates.NotKept bytes) OfNoLink _ h made
            (along_station queues leaves judged own other mine theirs (Received hint fates.NotKept bytes) (after_arrival s.station DataBad false)
            (hint + 1)
            (came_left fates.NotKept false (apart read_as.DataBad e (not_data_bad (unit_cut unit).message) stays) read_as.DataBad
            (ap reading stays ∙ e)
            ∙ ap (λ (station : Station). comes_to (Ok (record t { station = station })))
            (counted_left leaves.packets DataCheck s.station (counts_damage s.station.state))))
        by_damage fate (read_as.Sound m) e made = absurd cc
        by_damage fate (read_as.Malformed departure) e made = absurd cc

      -- ---- the unit itself

      module _ (same : bytes ≡ unit.bytes) where
        abbrev arrival : ArrivalValue Truth
        arrival = Sound unit.message unit.known.station

        abbrev meets_left : Fate → Option StationRefusal → Outcome LayersNode LayersUnit StepRefusal
        meets_left fate o =
            comes_to (meets_on (judged_by queues) t (Sound (unit_cut unit).message (unit_cut unit).known) fate
            (unless_refused o (after_left arrival (is_kept fate))))

        pub sound_left : (fate : Fate) → arrival_refusal (judged_by queues).periods s.station arrival (is_kept fate) ≡ None →
            advances fate ≡ meets_left fate None
        sound_left fate allowed =
            came_left fate true ((bytes_eq-Decides left_bytes (unit_cut unit).bytes).1 (ap (bytes_left leaves.packets.far) same))
            (reading left_bytes) refl
            ∙ ap₂ (λ (o : Option StationRefusal) (station : Station).
            comes_to (meets_on (judged_by queues) t (Sound (unit_cut unit).message (unit_cut unit).known) fate (unless_refused o station)))
            (refusal_left leaves.packets unit.message unit.known.station (is_kept fate) (judged_by queues).periods s.station ∙ allowed)
            (arrival_left leaves.packets unit.message unit.known.station (is_kept fate) s.station)

        -- ---- its packet is kept

        module _ (front : ℕ) (allowed : arrival_refusal (judged_by queues).periods s.station arrival true ≡ None)
            (has : HasItsMessage other front unit)
            (reads : reading unit.bytes ≡ read_as.Sound unit.message) where
          pub fate_is : (carried : Option SentMessage) → unit.known.carried ≡ carried →
              fate_left leaves.out fates.Kept bytes ≡ met_if leaves.out (message_of_packet (packet_in carried))
          fate_is carried is =
              ap (λ (r : ReadingValue). met_if leaves.out (message_within (packet_of r))) (ap reading same ∙ reads)
              ∙ ap (met_if leaves.out) (within_data unit.message (packet_in unit.known.carried) has.packet has.read
              ∙ ap (λ (c : Option SentMessage). message_of_packet (packet_in c)) is)

          abbrev kept_left : Option SentMessage → Outcome LayersNode LayersUnit StepRefusal
          kept_left carried = comes_to (keeps (judged_by queues) (record t { station = after_left arrival true }) carried)

          abbrev carried_left : Option SentMessage → Option SentMessage
          carried_left carried = message_left (other_out leaves.out) (other_judged judged) carried

          none_along : unit.known.carried ≡ None →
              ◌≡◌ {A = Outcome LayersNode LayersUnit StepRefusal}
              (Made (station_half queues leaves judged own other mine theirs (after_arrival s.station arrival true) (hint + 1))) (Made h) →
              Goes fates.Kept OfNoLink h
          none_along is made =
              along_at queues leaves judged own other mine theirs (Received hint fates.Kept bytes) OfNoLink _ h made
              (along_station queues leaves judged own other mine theirs (Received hint fates.Kept bytes) (after_arrival s.station arrival true)
              (hint + 1)
              (ap advances (fate_is None is) ∙ sound_left fates.Kept allowed
              ∙ ap (λ (carried : Option SentMessage). kept_left (carried_left carried)) is))

          by_kept : (message : SentMessage) → unit.known.carried ≡ Some message → (o : Result Links LinkRefusal) →
              links_arrived queues of_partner s.links message.packet message.truth ≡ o →
              concluded own (met own.state (hint + 1) (with_links (record s { station = after_arrival s.station arrival true }) o)) ≡ Made h →
              Goes fates.Kept (Keeps message.packet message.truth) h
          by_kept message is (Ok links) done made =
              along_at queues leaves judged own other mine theirs (Received hint fates.Kept bytes) one g h made (record {
                made_is = done;
                right = right;
                sides = λ marks. let next = keeps_left queues leaves.out judged (side_of own 0) (side_of other 0) mine theirs place message links
                    (omega arith) told done marks in
                    both_right queues leaves judged own other mine theirs g (place + 1) next.here next.there;
                left = λ marks. at marks (is_out leaves.out one) refl;
              })
            where
              one : LinkRecord Numbers
              one = Keeps message.packet message.truth

              place : ℕ
              place = unit.known.station.place

              told : slice_get other.state.station.messages place ≡ Some (Some message)
              told = has.told ∙ ap Some is

              right : RecordRight queues leaves.out judged (side_of own 0) (side_of other 0) mine theirs one
              right = unit_right queues leaves.out judged (side_of own 0) (side_of other 0) mine theirs message
                  (theirs.sent place message told)

              g : Half LayersNode LayersUnit
              g = links_half queues leaves judged own other mine theirs (after_arrival s.station arrival true) links (hint + 1)

              at : AreMarked queues leaves judged own other mine theirs one g → (b : Bool) → is_out leaves.out one ≡ b →
                  made_left queues leaves judged own other mine theirs (Received hint fates.Kept bytes) g
              at marks true out =
                  ap advances (fate_is (Some message) is ∙ ap (λ (b : Bool). cond b fates.Dropped fates.Kept) out)
                  ∙ sound_left fates.Dropped allowed
                  ∙ ap (λ (left : Links). comes_to (Ok (record t { station = after_left arrival true; links = left })))
                  (unseen queues leaves.out judged (side_of own 0) (side_of other 0) mine theirs one right links done marks out)
              at marks false out =
                  ap advances (fate_is (Some message) is ∙ ap (λ (b : Bool). cond b fates.Dropped fates.Kept) out)
                  ∙ sound_left fates.Kept allowed
                  ∙ ap (λ (carried : Option SentMessage). kept_left (carried_left carried)) is
                  ∙ ap (λ (b : Bool). kept_left (cond b None
                  (Some (record message { truth = link_truth_left judged.there judged.here message.truth }))))
                  ((theirs.sent place message told).stays out)
                  ∙ ap (λ (o : Result Links LinkRefusal). comes_to (with_links (record t { station = after_left arrival true }) o))
                  (arrived_left queues leaves.out judged (side_of own 0) (side_of other 0) mine theirs place message links (omega arith) told
                  done marks out)
          by_kept message is (Err refusal) done made = absurd cc

          by_carried : (carried : Option SentMessage) → unit.known.carried ≡ carried →
              concluded own (met own.state (hint + 1)
              (keeps (judged_by queues) (record s { station = after_arrival s.station arrival true }) carried))
              ≡ Made h →
              Goes fates.Kept (of_carried fates.Kept carried) h
          by_carried (Some message) is made = by_kept message is _ refl made
          by_carried None is made = none_along is made

        -- by what became of its packet
        by_sound : (reads : reading unit.bytes ≡ read_as.Sound unit.message) (front : ℕ)
            (kept : arrival_refusal (judged_by queues).periods s.station arrival true ≡ None → HasItsMessage other front unit) (fate : Fate)
            (o : Option StationRefusal) → arrival_refusal (judged_by queues).periods s.station arrival (is_kept fate) ≡ o →
            concluded own (met own.state (hint + 1)
            (meets_on (judged_by queues) s (Sound unit.message unit.known) fate (unless_refused o (after_arrival s.station arrival (is_kept fate)))))
            ≡ Made h →
            Goes fate (of_carried fate unit.known.carried) h
        by_sound reads front kept fates.Kept None allowed made = by_carried front allowed (kept allowed) reads unit.known.carried refl made
        by_sound reads front kept fates.Dropped None allowed made =
            along_at queues leaves judged own other mine theirs (Received hint fates.Dropped bytes) OfNoLink _ h made
            (along_station queues leaves judged own other mine theirs (Received hint fates.Dropped bytes) (after_arrival s.station arrival true)
            (hint + 1)
            (sound_left fates.Dropped allowed))
        by_sound reads front kept fates.NotKept None allowed made =
            along_at queues leaves judged own other mine theirs (Received hint fates.NotKept bytes) OfNoLink _ h made
            (along_station queues leaves judged own other mine theirs (Received hint fates.NotKept bytes)
            (after_arrival s.station arrival false) (hint + 1)
            (sound_left fates.NotKept allowed))
        by_sound reads front kept fate (Some refusal) allowed made = absurd cc

      by_coming : (reads : reading unit.bytes ≡ read_as.Sound unit.message)
          (still : reading (unit_cut unit).bytes ≡ read_as.Sound (unit_cut unit).message)
          (front : ℕ) (kept : arrival_refusal (judged_by queues).periods s.station (Sound unit.message unit.known.station) true ≡ None →
          HasItsMessage other front unit) (fate : Fate) (same : Bool) → bytes_eq bytes unit.bytes ≡ same → (r : ReadingValue) → reading bytes ≡ r →
          concluded own (comes (layers_machine (judged_by queues)) own.state (hint + 1) fate (coming_by same unit r)) ≡ Made h →
          Goes fate (of_carried fate unit.known.carried) h
      by_coming reads still front kept fate true same r e made =
          by_sound ((bytes_eq-Decides bytes unit.bytes).0 same) reads front kept fate _ refl made
      by_coming reads still front kept fate false same r e made = by_damage still fate r e made

    pub received_along : (fate : Fate) (front : ℕ)
        (reads : (unit : LayersUnit) → slice_get other.sent hint ≡ Some unit → reading unit.bytes ≡ read_as.Sound unit.message)
        (still : (unit : LayersUnit) → slice_get other.sent hint ≡ Some unit → reading (unit_cut unit).bytes ≡ read_as.Sound (unit_cut unit).message)
        (kept : (unit : LayersUnit) → slice_get other.sent hint ≡ Some unit → own.state.front ≤ hint →
        arrival_refusal (judged_by queues).periods s.station (Sound unit.message unit.known.station) true ≡ None → HasItsMessage other front unit)
        (o : Option LayersUnit) → slice_get other.sent hint ≡ o →
        read own (receives (layers_machine (judged_by queues)) own.state hint fate bytes) o ≡ Made h → Goes fate (of_unit fate o) h
    received_along fate front reads still kept None there made = absurd cc
    received_along fate front reads still kept (Some unit) there made = at (nat_lt hint own.state.front) refl made
      where
        at : (b : Bool) → nat_lt hint own.state.front ≡ b →
            concluded own (cond b (Err HintOrder) (comes (layers_machine (judged_by queues)) own.state (hint + 1) fate (coming unit bytes))) ≡
            Made h →
            Goes fate (of_unit fate (Some unit)) h
        at true order made = absurd cc
        at false order made =
            by_coming unit there order (reads unit there) (still unit there) front (kept unit there (ltb-false hint own.state.front order)) fate
            (bytes_eq bytes unit.bytes) refl (reading bytes) refl made
