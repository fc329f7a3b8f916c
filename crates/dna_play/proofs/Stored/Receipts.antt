-- What comes to an end of the player: a unit as it was sent, with a buffer or without one, or damaged; with what its user gets then.
use Rattle.dna_play.proofs.Prelude.{◌≡◌, ℕ, ◌+◌, Bool, true, false, ◌&&◌, cond, Option, Some, None, List, [], ◌∷◌, Ok, Err, refl, sym, ap, ◌∙◌}
use Rattle.dna_play.proofs.Prelude.{subst, le-leb, length, length-set, arith, ◌≤◌, slice_get, ReadingValue, reading, NspValue, MAX_HINT, MAX_UNIT}
use Rattle.dna_play.proofs.Prelude.{Fate, NotKept, Kept, Dropped, is_kept, is_met, Received, ArrivalValue, Sound, Station, after_arrival}
use Rattle.dna_play.proofs.Prelude.{StationVariables, Links, SentMessage, side_of, LayersUnit, Layers, keeps, with_links, Owed, arrival_debt}
use Rattle.dna_play.proofs.Prelude.{can_take, with_debt, Deliver, Refuse, Drop, Damage, StepValue, makes, BadStep, carried, is_damage, damaged}
use Rattle.dna_play.proofs.Prelude.{StoredEnd, StoredStation, can_keep, Delivering, arrived, if_so, kept_or_not}
use Rattle.dna_play.proofs.Prelude.{with_next, checked, anyone_same, by_bytes, has_line, Truth, gives_address, IsHurt, and_parts, same_Some}
use Rattle.ddcmp_msg.specs.Reading as read_as
use Rattle.dna_play.proofs.Ends.TrueEnd as true_end
use Rattle.dna_play.specs.StoredPlay as keeping
use Rattle.dna_play.proofs.{Played.Steps.Nothing, Played.Steps.First, Played.Order.quiet, Played.Facts.Facts, Ends.ReceiptStage.ends_hold}
use Rattle.dna_play.proofs.{Played.Runs.line_makes, Stored.Now.StoredNow, Stored.Now.facts_of, Stored.Stations.station_came, Bytes.bytes_tested}
use Rattle.dna_play.proofs.{Bytes.damaged_bytes}
use Rattle.dna_play.proofs.Ends.DamagedUnits.{Damaged, damage_is_seen, ShownDamage, OfHeader, OfData, read_of, arrival_of, damage_of, hurt_of}
use Rattle.dna_play.proofs.Ends.DamagedUnits.{is_hurt}
use Rattle.dna_play.proofs.Ends.ReceiptMakes.{damage_made, judged_takes, links_take, taken_is_data, within, unit_made}
use Rattle.dna_play.proofs.Ends.StationStage.{left_owed, came_stage, Comes, ComesSound, ComesHurt, came_packets}
use Rattle.dna_play.proofs.Stored.Segments.{left_half, Got, nothing_got, message_got}
use Rattle.dna_play.proofs.Stored.Right.{IsAsked, IsRight, kept_right, never_full, so_right, unit_right, next_is}
use Rattle.dna_play.proofs.Ends.TrueEnd.{End, links_of, station_of, stored, coming}

kept_is : (kept : Bool) → is_kept (kept_or_not kept) ≡ kept
kept_is true = refl
kept_is false = refl

module _ (own other : End) (now : StoredNow own other) where
  abbrev s : Links
  s = links_of own.half

  abbrev station : Station
  station = station_of own.half

  abbrev k : StationVariables (Unit {0})
  k = true_end.variables_of own.half

  facts : Facts own other
  facts = facts_of now

  -- ---- a receipt that is made, with what the user gets

  -- what the station owes then
  abbrev owed_then : Station → ReadingValue → Bool → Owed
  owed_then left read kept = with_debt (arrival_debt k read kept) (left_owed station left own.owed)

  -- this arrival, which is read so, is received: the node makes it, and the user gets what is whole then
  record IsReceived (bytes : List ℕ) (arrival : ArrivalValue Truth) (read : ReadingValue) (fate : Fate) : Type 0 where
    links : Links
    makes_it : makes own.half other.half (Received own.passed fate bytes)
        ≡ Some (left_half own (after_arrival station arrival (is_kept fate)) links)
    comes : Comes station arrival read
    got : Got own other now (after_arrival station arrival (is_kept fate)) links (carried (is_met fate) read)

  module _ (bytes : List ℕ) (arrival : ArrivalValue Truth) (read : ReadingValue) (fate : Fate) (x : IsReceived bytes arrival read fate) where
    abbrev left : Station
    left = after_arrival station arrival (is_kept fate)

    abbrev delivering : Delivering
    delivering = arrived (carried (is_met fate) read) own.links

    abbrev comes_to : StoredStation → StoredEnd
    comes_to after = record (stored own) { station = after; links = delivering.links; passed = own.passed + 1 }

    receipt_right : (value : StepValue) → IsAsked own other value → gives_address value ≡ false →
        IsRight own other value (keeping.receives (stored own) bytes read fate)
    receipt_right value asks no_address = rw (le-leb own.passed MAX_HINT now.few, x.got.short) (kept_right own other value (record own {
      half = left_half own left x.got.final;
      owed = owed_then left read (is_kept fate);
      links = delivering.links;
      passed = own.passed + 1;
    })
        (First x.makes_it x.got.gets) (ap comes_to (station_came station facts.known.bounded.ordered own.owed x.comes (is_kept fate))) refl
        (record {
          pays = came_stage station own.owed now.stage.pays facts.known.bounded.ordered x.comes (is_kept fate);
          packets = came_packets station arrival (is_kept fate) now.stage.packets;
          links = x.got.holds;
          plain = now.stage.plain;
          few = now.stage.few;
          ahead = omega arith;
        }) asks (never_full own other value no_address))

  -- ---- a unit that is on the line

  module _ (unit : LayersUnit) (there : slice_get other.half.sent own.passed ≡ Some unit) where
    told : reading unit.bytes ≡ read_as.Sound unit.message
    told = facts.reads own.passed unit there

    abbrev arrival : ArrivalValue Truth
    arrival = Sound unit.message unit.known.station

    abbrev after : Fate → Station
    after fate = after_arrival station arrival (is_kept fate)

    abbrev met : Fate → Layers
    met fate = record own.half.state.station { station = after fate }

    -- these links are left, and the user gets what is whole of this message then
    received_with : (fate : Fate) → (is_kept fate ≡ true → can_take k unit.message ≡ true) → (links : Links) (message : Option NspValue) →
        carried (is_met fate) (read_as.Sound unit.message) ≡ message →
        cond (is_met fate) (keeps by_bytes (met fate) unit.known.carried) (Ok (met fate)) ≡ Ok (record (met fate) { links = links }) →
        (Facts (record own { half = left_half own (after fate) links }) other → Got own other now (after fate) links message) →
        IsReceived unit.bytes arrival (read_as.Sound unit.message) fate
    received_with fate can links message is kept_it got =
        let r = Received own.passed fate unit.bytes in
        let half = left_half own (after fate) links in
        let line = facts.lined own.passed unit there in
        let makes_it = line_makes own.half other.half r half
        (rw (le-leb own.passed MAX_HINT now.few, bytes_tested unit.bytes line.spelling.bytes, le-leb (length unit.bytes) MAX_UNIT line.short) refl)
        (unit_made own other facts now.stage.ahead unit there fate can links kept_it) in
        record {
          links = links;
          makes_it = makes_it;
          comes = ComesSound unit.message unit.known.station (within own other facts now.stage.ahead unit there);
          got = rw is (got (now.later (record own { half = half }) (r ∷ []) (First makes_it Nothing) (quiet own r refl refl)));
        }

    none_received : (fate : Fate) → (is_kept fate ≡ true → can_take k unit.message ≡ true) →
        carried (is_met fate) (read_as.Sound unit.message) ≡ None →
        cond (is_met fate) (keeps by_bytes (met fate) unit.known.carried) (Ok (met fate)) ≡ Ok (met fate) →
        IsReceived unit.bytes arrival (read_as.Sound unit.message) fate
    none_received fate can is kept_it =
        received_with fate can s None is kept_it (λ later. nothing_got own other now (after fate) s 0 own.links now.stage.links)

    unit_received : (fate : Fate) → (is_kept fate ≡ true → can_take k unit.message ≡ true) → (o : Option SentMessage) → unit.known.carried ≡ o →
        IsReceived unit.bytes arrival (read_as.Sound unit.message) fate
    unit_received NotKept can o is = none_received NotKept can refl refl
    unit_received Dropped can o is = none_received Dropped can refl refl
    unit_received Kept can None is = none_received Kept can
        (rw (facts.packets own.passed unit there (taken_is_data k unit.message (can refl)), is) refl) (rw is refl)
    unit_received Kept can (Some u) is =
        let ready = facts.known.ready in
        let place = unit.known.station.place in
        let is_data = taken_is_data k unit.message (can refl) in
        let at = ready.told.told own.passed unit there is_data ∙ ap Some is in
        let from = facts.from place u at in
        let takes = links_take s u from.0 from.1 in
        let told = ready.other_addressed.told place u at in
        let same = anyone_same (side_of own.half ready.front) (side_of other.half ready.of_other) ready.most ready.most_of_other ready.addressed
        ready.other_addressed u told in
        received_with Kept can takes.0 (Some u.packet.message) (rw (facts.packets own.passed unit there is_data, is) refl)
        (ap (keeps by_bytes (met Kept)) is ∙ ap (with_links (met Kept)) takes.1)
        (λ later. message_got own other now (after Kept) u.truth takes.0 u.packet.message (now.theirs.plain place u at)
        (ends_hold own other now.stage now.theirs facts.known u.packet.message u.truth.tag told)
        (facts.near own.passed unit there now.stage.ahead (judged_takes own other facts now.stage.ahead unit there (can refl)) u is)
        (checked _ _ _ takes.0 (sym same ∙ takes.1)).1 later.known.addressed.distinct (later.whole u.packet.message))

    unit_right_by : (value : StepValue) (buffer : Bool) → IsAsked own other value → gives_address value ≡ false →
        IsRight own other value (keeping.comes (stored own) buffer unit.bytes)
    unit_right_by value buffer asks no_address =
        let kept = buffer && can_take k unit.message in let fate = kept_or_not kept in
        rw told (receipt_right unit.bytes arrival (read_as.Sound unit.message) fate
        (unit_received fate (λ e. (and_parts buffer (can_take k unit.message) (sym (kept_is kept) ∙ e)).1) unit.known.carried refl) value asks
        no_address)

    -- its packet is lost before the links, where it can be taken
    lost_right : IsRight own other Drop (keeping.drops (stored own) unit.bytes)
    lost_right = subst (λ (r : ReadingValue).
        IsRight own other Drop (if_so (can_keep r (stored own).station) (keeping.receives (stored own) unit.bytes r Dropped))) (sym told)
        (so_right own other Drop (can_take k unit.message) (keeping.receives (stored own) unit.bytes (read_as.Sound unit.message) Dropped) asked
        (λ can. receipt_right unit.bytes arrival (read_as.Sound unit.message) Dropped
        (unit_received Dropped (λ e. can) unit.known.carried refl) Drop
        (unit.bytes, next_is own other unit there, ap (λ (r : ReadingValue). can_keep r (stored own).station) told ∙ can) refl))
      where
        asked : IsAsked own other Drop → can_take k unit.message ≡ true
        asked asks =
            let same : asks.0 ≡ unit.bytes = same_Some asks.0 unit.bytes (sym asks.1 ∙ next_is own other unit there) in
            ap (λ (r : ReadingValue). can_keep r (stored own).station) (sym told)
            ∙ subst (λ (bytes : List ℕ). can_keep (reading bytes) (stored own).station ≡ true) same asks.2

    -- ---- it comes damaged

    module _ (place value : ℕ) (is : is_damage place value unit.bytes ≡ true) where
      abbrev hurt : List ℕ
      hurt = damaged place value unit.bytes

      differs : Damaged place value unit.bytes
      differs = damage_is_seen unit.message unit.bytes place value (bytes_tested unit.bytes
          (facts.lined own.passed unit there).spelling.bytes) told is

      line : has_line (Received own.passed NotKept hurt) ≡ true
      line =
          let l = facts.lined own.passed unit there in
          let most = (hurt_of place value unit.bytes is).most in
          let same : length hurt ≡ length unit.bytes = length-set unit.bytes place _ in
          let short : length unit.bytes ≤ MAX_UNIT = l.short in
          rw (
            le-leb own.passed MAX_HINT now.few,
            damaged_bytes place value unit.bytes (omega arith) (bytes_tested unit.bytes l.spelling.bytes),
            le-leb (length hurt) MAX_UNIT (omega arith),
          ) refl

      bad_received : (d : ShownDamage) → reading hurt ≡ read_of d → IsReceived hurt (arrival_of d) (read_of d) NotKept
      bad_received d e =
          let after = after_arrival station (arrival_of d) false in
          record {
            links = s;
            makes_it = line_makes own.half other.half (Received own.passed NotKept hurt) (left_half own after s) line
                (damage_made own other facts now.stage.ahead unit there d hurt differs.differs e);
            comes = ComesHurt d;
            got = nothing_got own other now after s 0 own.links now.stage.links;
          }

      comes_hurt : (d : ShownDamage) → reading hurt ≡ read_of d → IsAsked own other (Damage place value) →
          IsRight own other (Damage place value) (keeping.comes (stored own) true hurt)
      comes_hurt OfHeader e asks =
          rw e (receipt_right hurt (arrival_of OfHeader) read_as.HeaderBad NotKept (bad_received OfHeader e) (Damage place value) asks refl)
      comes_hurt OfData e asks =
          rw e (receipt_right hurt (arrival_of OfData) read_as.DataBad NotKept (bad_received OfData e) (Damage place value) asks refl)

  -- ---- the steps

  pub deliver_right : IsRight own other Deliver (with_next (coming own other.half) (keeping.comes (stored own) true))
  deliver_right = unit_right own other now Deliver (keeping.comes (stored own) true) (λ asks. asks)
      (λ unit there. unit_right_by unit there Deliver true (unit.bytes, next_is own other unit there) refl)

  pub refuse_right : IsRight own other Refuse (with_next (coming own other.half) (keeping.comes (stored own) false))
  refuse_right = unit_right own other now Refuse (keeping.comes (stored own) false) (λ asks. asks)
      (λ unit there. unit_right_by unit there Refuse false (unit.bytes, next_is own other unit there) refl)

  pub drop_right : IsRight own other Drop (with_next (coming own other.half) (keeping.drops (stored own)))
  drop_right = unit_right own other now Drop (keeping.drops (stored own)) (λ asks. (asks.0, asks.1)) lost_right

  pub damage_right : (place value : ℕ) →
      IsRight own other (Damage place value) (with_next (coming own other.half) (keeping.comes_damaged (stored own) place value))
  damage_right place value = unit_right own other now (Damage place value) (keeping.comes_damaged (stored own) place value)
      (λ asks. (asks.0, asks.1)) (λ unit there. go unit there (is_damage place value unit.bytes) refl)
    where
      go : (unit : LayersUnit) → slice_get other.half.sent own.passed ≡ Some unit → (b : Bool) → is_damage place value unit.bytes ≡ b →
          IsRight own other (Damage place value) (cond b (keeping.comes (stored own) true (damaged place value unit.bytes)) (Err BadStep))
      go unit there true is =
          let hurt = differs unit there place value is in
          let d = damage_of (damaged place value unit.bytes) hurt.shows in
          comes_hurt unit there place value is d.0 d.1 (unit.bytes, next_is own other unit there, hurt_of place value unit.bytes is)
      go unit there false whole = λ asks.
          let same : asks.0 ≡ unit.bytes = same_Some asks.0 unit.bytes (sym asks.1 ∙ next_is own other unit there) in
          let e = sym (is_hurt place value unit.bytes (subst (IsHurt place value) same asks.2)) ∙ whole in cc
