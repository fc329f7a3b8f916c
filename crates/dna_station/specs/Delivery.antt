-- What each period of a station took, beside what its partner period gave.
use Rattle.std.specs.Prelude.{◌≡◌, ℕ, Bool, true, false, Option, Some, None, List, [], ◌∷◌, ◌++◌, slice_get, map, flat_map, fold}
use Rattle.ddcmp_msg.specs.Message.{MessageValue, Data}
use Rattle.ddcmp_msg.specs.Reading.{ReadingValue, reading, Sound}
use Rattle.capture_record.specs.Fates.{is_kept}
use Rattle.capture_record.specs.declared.record.Record.{Record}
use Rattle.capture_record.specs.declared.record.Record.TheVariants.{Sent, Received, Noise, User}
use Rattle.capture_record.specs.declared.event.Event.{Event}
use Rattle.capture_record.specs.declared.event.Event.TheVariants.{Start}
use Rattle.two_nodes.specs.Beginning.{BeginsWith}
use Rattle.dna_station.specs.Station.{Station, PastPeriod, past}
use Rattle.dna_station.specs.Truth.{Truth}

-- all periods of a station in order, the present one last; period 0 is before the first start
abbrev pub periods : Station → List PastPeriod
periods s = s.earlier ++ past s ∷ []

-- what was taken with this partner is a beginning of what the partner's period gave; without a partner it is nothing
abbrev pub IsDelivered : Option ℕ → List (List ℕ) → List PastPeriod → Type 0
IsDelivered None taken of_other = taken ≡ []
IsDelivered (Some partner) taken of_other = (there : PastPeriod) × (slice_get of_other partner ≡ Some there) × BeginsWith there.given taken

-- in every period of this station
abbrev pub DeliversFrom : Station → Station → Type 0
DeliversFrom own other = (q : ℕ) (period : PastPeriod) → slice_get (periods own) q ≡ Some period →
    IsDelivered period.partner period.taken (periods other)

-- what each period took
abbrev pub taken_by_period : Station → List (List (List ℕ))
taken_by_period s = map (λ (period : PastPeriod). period.taken) (periods s)

-- ---- off a capture

-- whether a period begins
abbrev pub begins : Event → Bool
begins Start = true
begins event = false

-- the packet of a data message
abbrev pub packet_in : ReadingValue → List (List ℕ)
packet_in (Sound (Data flags resp num body)) = body ∷ []
packet_in read = []

-- more packets in the last period
abbrev pub in_last : List (List ℕ) → List (List (List ℕ)) → List (List (List ℕ))
in_last packets [] = packets ∷ []
in_last packets (period ∷ []) = (period ++ packets) ∷ []
in_last packets (period ∷ next ∷ periods) = period ∷ in_last packets (next ∷ periods)

-- of a receipt whose packet was kept
abbrev pub with_packets : (kept : Bool) → List (List ℕ) → List (List (List ℕ)) → List (List (List ℕ))
with_packets true packets periods = in_last packets periods
with_packets false packets periods = periods

abbrev pub with_period : Bool → List (List (List ℕ)) → List (List (List ℕ))
with_period true periods = periods ++ [] ∷ []
with_period false periods = periods

abbrev pub delivered_by : List (List (List ℕ)) → Record → List (List (List ℕ))
delivered_by periods (Received hint fate bytes) = with_packets (is_kept fate) (packet_in (reading bytes)) periods
delivered_by periods (Noise bytes) = periods
delivered_by periods (User event) = with_period (begins event) periods
delivered_by periods (Sent bytes) = periods

-- the data of the kept receipts of each period, in order, period 0 first
abbrev pub delivered : List Record → List (List (List ℕ))
delivered records = fold delivered_by ([] ∷ []) records

-- ---- over all periods

-- the first packets are among the second ones, in order
pub data AreAmong : List (List ℕ) → List (List ℕ) → Type 0 where
  NoMore : {ys : List (List ℕ)} → AreAmong [] ys
  Next : {y : List ℕ} {xs ys : List (List ℕ)} → AreAmong xs ys → AreAmong (y ∷ xs) (y ∷ ys)
  Skipped : {y : List ℕ} {xs ys : List (List ℕ)} → AreAmong xs ys → AreAmong xs (y ∷ ys)

-- all packets that a station ever took, in order
abbrev pub all_taken : Station → List (List ℕ)
all_taken s = flat_map (λ (period : PastPeriod). period.taken) (periods s)

-- a data message carries the packet at its place among these
abbrev pub CarriesItsPacket : List (List ℕ) → MessageValue → Truth → Type 0
CarriesItsPacket packets (Data flags resp num body) u = slice_get packets u.place ≡ Some body
CarriesItsPacket packets m u = Unit {0}
