-- What each period was offered, off the capture, and what was delivered of it.
use Rattle.std.specs.Prelude.{◌≡◌, ℕ, ◌+◌, ◌==◌, if◌then◌else◌, Option, Some, None, List, [], ◌∷◌, length, get_or, map, flat_map, fold}
use Rattle.ddcmp_msg.specs.Message.{Data}
use Rattle.ddcmp_msg.specs.Reading.{ReadingValue, reading, Sound}
use Rattle.capture_record.specs.declared.record.Record.{Record}
use Rattle.capture_record.specs.declared.record.Record.TheVariants.{Sent, Received, Noise, User}
use Rattle.dna_station.specs.Station.{Station, PastPeriod, wire}
use Rattle.dna_station.specs.Delivery.{AreAmong, begins, delivered, in_last, periods, with_period}
use Rattle.two_nodes.specs.Beginning.{BeginsWith}

-- What a unit that is sent offers after these packets of its period: a data message with the number after theirs is a new one, and any
-- other number is that of a packet that is sent again, since no more than 255 are outstanding
abbrev pub offers : ReadingValue → List (List ℕ) → List (List ℕ)
offers (Sound (Data flags resp num body)) packets = if num == wire (length packets + 1) then body ∷ [] else []
offers read packets = []

-- the packets of the last period
abbrev pub present : List (List (List ℕ)) → List (List ℕ)
present [] = []
present (period ∷ []) = period
present (period ∷ next ∷ periods) = present (next ∷ periods)

abbrev pub offered_by : List (List (List ℕ)) → Record → List (List (List ℕ))
offered_by periods (Sent bytes) = in_last (offers (reading bytes) (present periods)) periods
offered_by periods (Received hint fate bytes) = periods
offered_by periods (Noise bytes) = periods
offered_by periods (User event) = with_period (begins event) periods

-- the data of the units sent with a new number in each period, in order, period 0 first
abbrev pub offered : List Record → List (List (List ℕ))
offered records = fold offered_by ([] ∷ []) records

-- ---- beside the run

-- what each period of a station gave
abbrev pub given_by_period : Station → List (List (List ℕ))
given_by_period s = map (λ (period : PastPeriod). period.given) (periods s)

-- the other side's period that each period of a station went with
abbrev pub partners : Station → List (Option ℕ)
partners s = map (λ (period : PastPeriod). period.partner) (periods s)

-- what was delivered with this partner is a beginning of what the partner was offered; without a partner it is nothing
abbrev pub IsBeginning : Option ℕ → List (List ℕ) → List (List (List ℕ)) → Type 0
IsBeginning None taken of_other = taken ≡ []
IsBeginning (Some partner) taken of_other = BeginsWith (get_or of_other partner []) taken

-- all packets of all periods, in order
abbrev pub all_of : List (List (List ℕ)) → List (List ℕ)
all_of periods = flat_map (λ (packets : List (List ℕ)). packets) periods

-- What a station was delivered in a run, where these are the records of its own capture and of the other side's. Which period goes with
-- which is the run's
pub record Delivers (own : Station) (of_own of_other : List Record) : Type 0 where
  -- in every period a beginning of what its partner period was offered, and nothing where it has no partner
  pub in_order : (q : ℕ) → IsBeginning (get_or (partners own) q None) (get_or (delivered of_own) q []) (offered of_other)
  -- over all periods it is, in order, among all that the other side was ever offered
  pub among : AreAmong (all_of (delivered of_own)) (all_of (offered of_other))
