-- What one side of a line may have done while these units passed, as the records of its capture would tell it. A side for which no such records
-- exist has a wrong station: that is all that is ever said against it.
use Rattle.std.specs.Prelude.{◌≡◌, ℕ, ◌+◌, ◌⊎◌, Result, Ok, List, [], ◌∷◌, ◌++◌, length}
use Rattle.ddcmp_msg.specs.Message.{MessageValue, IsBytes}
use Rattle.ddcmp_msg.specs.Reading.{ReadingValue, reading, Malformed}
use Rattle.ddcmp_msg.specs.Reading as read
use Rattle.capture_record.specs.declared.fate.Fate.{Fate}
use Rattle.capture_record.specs.declared.fate.Fate.TheVariants.{NotKept}
use Rattle.capture_record.specs.declared.record.Record.{Record}
use Rattle.capture_record.specs.declared.record.Record.TheVariants.{Sent, Received, Noise, User}
use Rattle.capture_record.specs.declared.event.Event.{Event}
use Rattle.dna_station.specs.declared.tag.Tag.{Tag}
use Rattle.dna_station.specs.declared.refusal.StepRefusal.{StepRefusal}
use Rattle.dna_station.specs.PeriodRule.{of_any_period}
use Rattle.dna_station.specs.Book.{Sound, HeaderBad, DataBad}
use Rattle.dna_station.specs.Machine.{Machine}
use Rattle.dna_station.specs.WireStation.{WireStation, new_wire_station}
use Rattle.dna_station.specs.WireNode.{wire_machine}

-- A unit that passed on the line: of the side that is judged, or of the other one
pub data Passed : Type 0 where
  Own : (unit : List ℕ) → Passed
  Other : (unit : List ℕ) → Passed

-- a block check shows that these bytes are damaged
abbrev pub IsDamage : ReadingValue → Type 0
IsDamage read.HeaderBad = Unit {0}
IsDamage read.DataBad = Unit {0}
IsDamage other = ⊥

-- Whatever the node keeps, and whatever it may know of a unit beside its bytes
module _ {S K : Type 0} (machine : Machine S K) where
  -- What the node makes of bytes that come. Bytes with good checks that are no message change nothing: the other side may be wrong, and this one is
  -- right
  abbrev pub comes : S → K → Fate → ReadingValue → Result S StepRefusal
  comes s tag fate (read.Sound m) = machine.arrives s (Sound m tag) fate
  comes s tag fate read.HeaderBad = machine.arrives s HeaderBad fate
  comes s tag fate read.DataBad = machine.arrives s DataBad fate
  comes s tag fate (Malformed departure) = Ok s

  -- From this state, where the other side's units from this number on are coming (they passed, and may still come, in this order), the records
  -- may have been made while the units passed
  pub data IsPlacedFrom : S → (front : ℕ) → (coming : List (List ℕ)) → List Passed → List Record → Type 0 where
    -- nothing more passed
    Ends : {s : S} {front : ℕ} {coming : List (List ℕ)} → IsPlacedFrom s front coming [] []
    -- a unit of the other side passed
    Passes : {s : S} {front : ℕ} {coming : List (List ℕ)} {unit : List ℕ} {passed : List Passed} {records : List Record} →
        IsPlacedFrom s front (coming ++ unit ∷ []) passed records → IsPlacedFrom s front coming (Other unit ∷ passed) records
    -- the node sent a message, and its unit passed
    Sends : {s : S} {front : ℕ} {coming : List (List ℕ)} {unit : List ℕ} {passed : List Passed} {records : List Record} →
        (message : MessageValue) (after : S) (known : K) → reading unit ≡ read.Sound message →
        machine.sends s message ≡ Ok (after, known) →
        IsPlacedFrom after front coming passed records → IsPlacedFrom s front coming (Own unit ∷ passed) (Sent unit ∷ records)
    -- a unit that is coming came, as it passed or damaged; those before it are lost
    Hears : {s : S} {front : ℕ} {coming : List (List ℕ)} {passed : List Passed} {records : List Record} →
        (lost : List (List ℕ)) (unit : List ℕ) (later : List (List ℕ)) → coming ≡ lost ++ unit ∷ later →
        (hint : ℕ) → hint ≡ front + length lost → (bytes : List ℕ) → IsBytes bytes → (bytes ≡ unit) ⊎ IsDamage (reading bytes) →
        (tag : K) (fate : Fate) (after : S) → comes s tag fate (reading bytes) ≡ Ok after →
        IsPlacedFrom after (hint + 1) later passed records → IsPlacedFrom s front coming passed (Received hint fate bytes ∷ records)
    -- noise came: damaged bytes that nobody sent
    HearsNoise : {s : S} {front : ℕ} {coming : List (List ℕ)} {passed : List Passed} {records : List Record} →
        (bytes : List ℕ) → IsDamage (reading bytes) →
        (tag : K) (after : S) → comes s tag NotKept (reading bytes) ≡ Ok after →
        IsPlacedFrom after front coming passed records → IsPlacedFrom s front coming passed (Noise bytes ∷ records)
    -- the user did something, or a link
    Acts : {s : S} {front : ℕ} {coming : List (List ℕ)} {passed : List Passed} {records : List Record} →
        (event : Event) (after : S) → machine.user s event ≡ Ok after →
        IsPlacedFrom after front coming passed records → IsPlacedFrom s front coming passed (User event ∷ records)

-- The station as a node keeps it (`Table`), of whose rules that on periods is left out, since no byte tells a period. What a node has on top,
-- links with queues or without, makes no record possible that its station can't make; so every node is meant
abbrev pub machine : {L : Type 0} → Machine (WireStation L) Tag
machine = wire_machine of_any_period

-- From before any record; `L` is what a node puts beside packets
abbrev pub IsPlacing : (L : Type 0) → List Passed → List Record → Type 0
IsPlacing L passed records = IsPlacedFrom (machine {L = L}) new_wire_station 0 [] passed records
