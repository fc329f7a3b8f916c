-- What a record that is made does, whatever the record is.
use Rattle.std.proofs.Common.{◌≡◌, ℕ, ◌+◌, ◌≤◌, Bool, true, false, cond, nat_lt, ltb-false, Option, Some, None, Ok, Err, List, refl, subst}
use Rattle.std.specs.Prelude.{slice_get, bytes_eq}
use Rattle.std.proofs.lemmas.Slice.Eq.{bytes_eq-Decides}
use Rattle.two_nodes.specs.Nodes.{Half, Outcome, answered, concluded, read, stepped, stepped_sending, advance}
use Rattle.two_nodes.specs.Nodes.Outcome.{Made}
use Rattle.two_nodes.proofs.Order.{one_half}
use Rattle.ddcmp_msg.specs.declared.nak_reason.NakReason.{NakReason}
use Rattle.ddcmp_msg.specs.declared.nak_reason.NakReason.TheVariants.{HeaderCheck, DataCheck}
use Rattle.ddcmp_msg.specs.Message.{MessageValue}
use Rattle.ddcmp_msg.specs.Reading.{ReadingValue, reading}
use Rattle.ddcmp_msg.specs.Reading as read_as
use Rattle.capture_record.specs.declared.fate.Fate.{Fate}
use Rattle.capture_record.specs.Fates.{is_kept}
use Rattle.capture_record.specs.declared.record.Record.{Record}
use Rattle.capture_record.specs.declared.record.Record.TheVariants.{Sent, Received, Noise, User}
use Rattle.capture_record.specs.declared.event.Event.{Event}
use Rattle.capture_record.specs.declared.event.Event.TheVariants as events
use Rattle.dna_station.specs.declared.state.StationEvent.{StationEvent}
use Rattle.dna_station.specs.declared.state.StationEvent.TheVariants.{Start, Halt}
use Rattle.dna_station.specs.declared.refusal.StationRefusal.{StationRefusal}
use Rattle.dna_station.specs.declared.refusal.StepRefusal.{StepRefusal}
use Rattle.dna_station.specs.declared.refusal.StepRefusal.TheVariants.{HintOrder}
use Rattle.dna_station.specs.Table.{user_refusal, counts_damage}
use Rattle.dna_station.specs.PeriodRule.{PeriodRule}
use Rattle.dna_station.specs.Station.{after_event}
use Rattle.dna_station.specs.Delivery.{begins}
use Rattle.dna_station.specs.Truth.{Truth}
use Rattle.dna_station.specs.Book.{ArrivalValue, Sound, HeaderBad, DataBad}
use Rattle.dna_station.specs.StationBook.{station_book, sending_refusal, after_sending, truth_of, arrival_refusal, after_arrival}
use Rattle.dna_station.specs.Line.{SentUnit, damage, coming_by, coming}
use Rattle.dna_station.specs.Machine.{does, user_step, sends, sent_step, met, comes, receives, noise_step, unless_refused}
use Rattle.dna_station.specs.Node.{Node, station_machine, step}

-- what comes of a unit with these bytes: its message with its truth, where they are the unit's; or damage
pub data ComesOf (unit : SentUnit) (bytes : List ℕ) : ArrivalValue Truth → Type 0 where
  Itself : bytes ≡ unit.bytes → ComesOf unit bytes (Sound unit.message unit.known)
  BadHeader : ComesOf unit bytes HeaderBad
  BadData : ComesOf unit bytes DataBad

abbrev pub event_of : StationEvent → Event
event_of Start = events.Start
event_of Halt = events.Halt

-- the half that a record leaves. Noise is one more cause, or nothing
pub data Happens (rule : PeriodRule) (own other : Half Node SentUnit) : Record → Half Node SentUnit → Type 0 where
  Nothing : (event : Event) → begins event ≡ false → Happens rule own other (User event) (stepped own own.state)
  UserEvent : (event : StationEvent) → user_refusal own.state.station.state event ≡ None →
      Happens rule own other (User (event_of event)) (stepped own (record own.state { station = after_event own.state.station event }))
  Sending : (bytes : List ℕ) (m : MessageValue) → reading bytes ≡ read_as.Sound m → sending_refusal own.state.station m ≡ None →
      Happens rule own other (Sent bytes)
      (stepped_sending own (record own.state { station = after_sending own.state.station m })
      (record { bytes = bytes; message = m; known = truth_of own.state.station m }))
  Receipt : (hint : ℕ) (fate : Fate) (bytes : List ℕ) (unit : SentUnit) (arrival : ArrivalValue Truth) → slice_get other.sent hint ≡ Some unit →
      own.state.front ≤ hint → ComesOf unit bytes arrival →
      arrival_refusal rule own.state.station arrival (is_kept fate) ≡ None →
      Happens rule own other (Received hint fate bytes)
      (stepped own (record own.state { station = after_arrival own.state.station arrival (is_kept fate); front = hint + 1 }))
  Boots : Happens rule own other (User events.Boot) (stepped own (record own.state { station = after_event own.state.station Halt }))
  Counted : (bytes : List ℕ) (reason : NakReason) →
      Happens rule own other (Noise bytes) (stepped own (record own.state { station = station_book.counts reason own.state.station }))
  Unheard : (bytes : List ℕ) → Happens rule own other (Noise bytes) (stepped own own.state)

module _ (rule : PeriodRule) (own other h : Half Node SentUnit) where
  left : (r : Record) (g : Half Node SentUnit) → Happens rule own other r g → ◌≡◌ {A = Outcome Node SentUnit StepRefusal} (Made g) (Made h) →
      Happens rule own other r h
  left r g p e = subst (λ x. Happens rule own other r x) (one_half {Z = StepRefusal} g h e) p

  event_happens : (event : Event) → answered own other (user_step (station_machine rule) own.state event) ≡ Made h →
      Happens rule own other (User event) h
  event_happens events.Start made = go Start _ refl made
    where
      go : (event : StationEvent) (o : Option StationRefusal) → user_refusal own.state.station.state event ≡ o →
          answered own other (does own.state (unless_refused o (after_event own.state.station event))) ≡ Made h →
          Happens rule own other (User (event_of event)) h
      go event None allowed made = left _ _ (UserEvent event allowed) made
      go event (Some refusal) allowed made = absurd cc
  event_happens events.Halt made = left _ _ (UserEvent Halt refl) made
  event_happens events.Boot made = left _ _ Boots made
  event_happens event made = left _ _ (Nothing event refl) made

  sends_happens : (bytes : List ℕ) (m : MessageValue) (o : Option StationRefusal) → reading bytes ≡ read_as.Sound m →
      sending_refusal own.state.station m ≡ o →
      answered own other (sends own.state bytes m (unless_refused o (after_sending own.state.station m, truth_of own.state.station m))) ≡ Made h →
      Happens rule own other (Sent bytes) h
  sends_happens bytes m None read allowed made = left _ _ (Sending bytes m read allowed) made
  sends_happens bytes m (Some refusal) read allowed made = absurd cc

  sent_happens : (bytes : List ℕ) (r : ReadingValue) → reading bytes ≡ r →
      answered own other (sent_step (station_machine rule) own.state bytes r) ≡ Made h → Happens rule own other (Sent bytes) h
  sent_happens bytes (read_as.Sound m) read made = sends_happens bytes m _ read refl made
  sent_happens bytes r read made = absurd cc

  module _ (hint : ℕ) (fate : Fate) (bytes : List ℕ) (unit : SentUnit) (there : slice_get other.sent hint ≡ Some unit)
      (ahead : own.state.front ≤ hint) where
    met_happens : (arrival : ArrivalValue Truth) → ComesOf unit bytes arrival → (o : Option StationRefusal) →
        arrival_refusal rule own.state.station arrival (is_kept fate) ≡ o →
        concluded own (met own.state (hint + 1) (unless_refused o (after_arrival own.state.station arrival (is_kept fate)))) ≡ Made h →
        Happens rule own other (Received hint fate bytes) h
    met_happens arrival of_unit None allowed made = left _ _ (Receipt hint fate bytes unit arrival there ahead of_unit allowed) made
    met_happens arrival of_unit (Some refusal) allowed made = absurd cc

    damage_happens : (r : ReadingValue) → concluded own (comes (station_machine rule) own.state (hint + 1) fate (damage r)) ≡ Made h →
        Happens rule own other (Received hint fate bytes) h
    damage_happens read_as.HeaderBad made = met_happens HeaderBad BadHeader _ refl made
    damage_happens read_as.DataBad made = met_happens DataBad BadData _ refl made
    damage_happens r made = absurd cc

    comes_happens : (same : Bool) (r : ReadingValue) → bytes_eq bytes unit.bytes ≡ same →
        concluded own (comes (station_machine rule) own.state (hint + 1) fate (coming_by same unit r)) ≡ Made h →
        Happens rule own other (Received hint fate bytes) h
    comes_happens true r same made = met_happens (Sound unit.message unit.known) (Itself ((bytes_eq-Decides bytes unit.bytes).0 same)) _ refl made
    comes_happens false r same made = damage_happens r made

  read_happens : (hint : ℕ) (fate : Fate) (bytes : List ℕ) (o : Option SentUnit) → slice_get other.sent hint ≡ o →
      read own (receives (station_machine rule) own.state hint fate bytes) o ≡ Made h → Happens rule own other (Received hint fate bytes) h
  read_happens hint fate bytes None there made = absurd cc
  read_happens hint fate bytes (Some unit) there made = go (nat_lt hint own.state.front) refl made
    where
      go : (b : Bool) → nat_lt hint own.state.front ≡ b →
          concluded own (cond b (Err HintOrder) (comes (station_machine rule) own.state (hint + 1) fate (coming unit bytes))) ≡ Made h →
          Happens rule own other (Received hint fate bytes) h
      go true e made = absurd cc
      go false e made = comes_happens hint fate bytes unit there (ltb-false hint own.state.front e) (bytes_eq bytes unit.bytes) (reading bytes) refl
          made

  counted_happens : (bytes : List ℕ) (reason : NakReason) (b : Bool) →
      answered own other (does own.state (Ok (cond b (station_book.counts reason own.state.station) own.state.station))) ≡ Made h →
      Happens rule own other (Noise bytes) h
  counted_happens bytes reason true made = left _ _ (Counted bytes reason) made
  counted_happens bytes reason false made = left _ _ (Unheard bytes) made

  noise_happens : (bytes : List ℕ) (r : ReadingValue) → answered own other (noise_step (station_machine rule) own.state r) ≡ Made h →
      Happens rule own other (Noise bytes) h
  noise_happens bytes read_as.HeaderBad made = counted_happens bytes HeaderCheck (counts_damage own.state.station.state) made
  noise_happens bytes read_as.DataBad made = counted_happens bytes DataCheck (counts_damage own.state.station.state) made
  noise_happens bytes r made = absurd cc

  pub happens : (r : Record) → advance (step rule) own other r ≡ Made h → Happens rule own other r h
  happens (Sent bytes) made = sent_happens bytes (reading bytes) refl made
  happens (Received hint fate bytes) made = read_happens hint fate bytes (slice_get other.sent hint) refl made
  happens (Noise bytes) made = noise_happens bytes (reading bytes) made
  happens (User event) made = event_happens event made
