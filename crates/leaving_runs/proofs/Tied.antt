-- What the program makes of records is what is left of them.
use Rattle.leaving_runs.proofs.Prelude.{◌≡◌, ℕ, Bool, cond, Option, Some, None, List, [], ◌∷◌, map, refl, ap, ap₂, ◌∙◌, AllByRecursion, Side}
use Rattle.leaving_runs.proofs.Prelude.{other_side, ReadingValue, reading, Malformed, IsRecord, Event, Fate, NotKept, Kept, Dropped, Record, Sent}
use Rattle.leaving_runs.proofs.Prelude.{Received, Noise, User, NspValue, Leaving, is_left, own, at_receiver, about_at_receiver, message_in_unit}
use Rattle.leaving_runs.proofs.Prelude.{packet_left, unit_left_by, dropped_if_left, bytes_left, bytes_left_by, Leaves, met_if, fate_left}
use Rattle.leaving_runs.proofs.Prelude.{event_left, record_left, RecordBinds, RecordFits, leaves_at, RecordAlike, AreAlike}
use Rattle.ddcmp_msg.specs.Message as messages
use Rattle.ddcmp_msg.specs.Reading.{Sound, HeaderBad, DataBad}
use Rattle.capture_record.specs.declared.event.Event.TheVariants as events
use Rattle.leaving_out.specs.Messages as program
use Rattle.leaving_out.specs.Packets.{unit_left}
use Rattle.leaving_out.specs.Records as program_records
use Rattle.leaving_runs.proofs.Packets.{kept_same}

unit_same : (leaving : Leaving) (side : Side) (unit : List ℕ) → unit_left leaving side unit ≡ bytes_left (packet_left leaving side) unit
unit_same leaving side unit = go (reading unit)
  where
    go : (r : ReadingValue) → unit_left_by leaving side unit r ≡ bytes_left_by (packet_left leaving side) unit r
    go (Sound (messages.Data flags resp num body)) = refl
    go (Sound (messages.Ack flags resp)) = refl
    go (Sound (messages.Nak flags reason resp)) = refl
    go (Sound (messages.Rep flags num)) = refl
    go (Sound (messages.Strt flags)) = refl
    go (Sound (messages.Stack flags)) = refl
    go HeaderBad = refl
    go DataBad = refl
    go (Malformed departure) = refl

module _ (leaving : Leaving) (side other : Side) (across : other_side side ≡ other) (back : other_side other ≡ side) where
  abbrev leaves : Leaves
  leaves = leaves_at leaving side other

  met_same : (m : Option NspValue) → dropped_if_left leaving (about_at_receiver (other_side side) m) ≡ met_if leaves.out m
  met_same None = refl
  met_same (Some m) =
      ap (λ (sender : Side). cond (is_left leaving (at_receiver sender (program.source_of m) (program.destination_of m))) Dropped Kept) across
      ∙ ap (λ (b : Bool). cond b Dropped Kept) (kept_same leaving other side back m)

  fate_same : (fate : Fate) (unit : List ℕ) → program_records.fate_left leaving side fate unit ≡ fate_left leaves.out fate unit
  fate_same NotKept unit = refl
  fate_same Kept unit = met_same (message_in_unit unit)
  fate_same Dropped unit = refl

  event_same : (event : Event) → program_records.event_left leaving side event ≡ event_left leaves event
  event_same events.Start = refl
  event_same events.Halt = refl
  event_same (events.Open link) = refl
  event_same (events.Accept partner link) = refl
  event_same (events.Reject partner link) = refl
  event_same (events.In link bytes) = refl
  event_same (events.Up link bytes) = refl
  event_same (events.Close link) = refl
  event_same events.Boot = refl
  event_same (events.Abort link) = refl
  event_same (events.Composed packet) = refl
  event_same (events.Interrupt link bytes) = refl
  event_same (events.Interrupted link bytes) = refl

  pub one_same : (r : Record) → program_records.record_left leaving side r ≡ record_left leaves r
  one_same (Sent unit) = ap Sent (unit_same leaving side unit)
  one_same (Received hint fate unit) =
      ap₂ (λ (f : Fate) (bytes : List ℕ). Received hint f bytes) (fate_same fate unit)
      (ap (λ (sender : Side). unit_left leaving sender unit) across ∙ unit_same leaving other unit)
  one_same (Noise bytes) = refl
  one_same (User event) = ap User (event_same event)

  pub records_same : (records : List Record) → program_records.records_left leaving side records ≡ map (record_left leaves) records
  records_same [] = refl
  records_same (r ∷ records) = ap₂ (λ (x : Record) (xs : List Record). x ∷ xs) (one_same r) (records_same records)

  -- ---- bindings

  binds : (r : Record) → RecordAlike leaving side r → RecordBinds leaves.out r
  binds (Sent unit) alike = tt
  binds (Received hint fate unit) alike = tt
  binds (Noise bytes) alike = tt
  binds (User (events.Accept partner link)) alike = alike ∙ ap (λ (far : Side). is_left leaving (own far partner)) across
  binds (User (events.Reject partner link)) alike = alike ∙ ap (λ (far : Side). is_left leaving (own far partner)) across
  binds (User events.Start) alike = tt
  binds (User events.Halt) alike = tt
  binds (User (events.Open link)) alike = tt
  binds (User (events.In link bytes)) alike = tt
  binds (User (events.Up link bytes)) alike = tt
  binds (User (events.Close link)) alike = tt
  binds (User events.Boot) alike = tt
  binds (User (events.Abort link)) alike = tt
  binds (User (events.Composed packet)) alike = tt
  binds (User (events.Interrupt link bytes)) alike = tt
  binds (User (events.Interrupted link bytes)) alike = tt

  pub all_fit : (records : List Record) → AllByRecursion IsRecord records → AreAlike leaving side records →
      AllByRecursion (RecordFits leaves.out) records
  all_fit [] is alike = tt
  all_fit (r ∷ records) is alike = ((is.0, binds r alike.0), all_fit records is.1 alike.1)
