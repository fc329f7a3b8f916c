-- Which check the refused record does not pass, with what is seen there and what is allowed: read off that record and both ends where the judge
-- stops, or off one end alone. What each check sees and allows has a row in `FailedCheck`, in `Failed` of `ddcmp_station` and in `FailedSending`,
-- `FailedArrival` and `FailedEvent` of `nsp_link`.
use Rattle.std.specs.Prelude.{◌≡◌, ℕ, ◌⊎◌, option_map, IfSome, Option, Some, None}
use Rattle.std.specs.Prelude.{List, [], ◌∷◌}
use Rattle.wire_base.specs.Side.{other_side}
use Rattle.wire_base.specs.declared.side.Side.{Side}
use Rattle.capture_record.specs.declared.record.Record.{Record}
use Rattle.capture_record.specs.declared.record.Record.TheVariants.{Sent, Received, Noise, User}
use Rattle.ddcmp_msg.specs.Message.{Data}
use Rattle.ddcmp_msg.specs.Reading.{ReadingValue, reading, Sound, Malformed}
use Rattle.ddcmp_station.specs.declared.failed.FailedArrival.TheVariants.{Keep}
use Rattle.dna_links.specs.declared.queue.Queues.{Queues}
use Rattle.dna_node.specs.WireLayers.{WireLayers, WireLayersUnit}
use Rattle.pair_judge.specs.declared.failed_check.Awaited.{Awaited}
use Rattle.pair_judge.specs.declared.failed_check.FailedCheck.{FailedCheck}
use Rattle.pair_judge.specs.declared.failed_check.FailedCheck.TheVariants as failed
use Rattle.pair_judge.specs.declared.failed_check.NotSound.TheVariants as not_sound
use Rattle.pair_judge.specs.declared.reason.Reason.{Reason}
use Rattle.pair_judge.specs.declared.verdict.Verdict.{Verdict}
use Rattle.pair_judge.specs.declared.verdict.Verdict.TheVariants.{Accepted, Refused}
use Rattle.pair_judge.specs.Ends.{ShownEnd, ShownEnds, to_side}
use Rattle.pair_judge.specs.FailedCheck.{failed_packet, failed_record, reason_of_failed}
use Rattle.pair_judge.specs.Finding.{of_side}

-- ---- the first one of a reason

abbrev pub IsOf : Reason → Option FailedCheck → Type 0
IsOf reason None = ⊥
IsOf reason (Some check) = reason_of_failed check ≡ reason

-- the first of these checks that is of this reason, if one is
abbrev pub IsFirstOf : Reason → List (Option FailedCheck) → Option FailedCheck → Type 0
IsFirstOf reason [] named = named ≡ None
IsFirstOf reason (check ∷ checks) named = (IsOf reason check × (named ≡ check)) ⊎ ((¬ IsOf reason check) × IsFirstOf reason checks named)

-- ---- of a pair

abbrev pub hint_of : Option Record → Option ℕ
hint_of (Some (Received hint fate bytes)) = Some hint
hint_of (Some (Sent bytes)) = None
hint_of (Some (Noise bytes)) = None
hint_of (Some (User event)) = None
hint_of None = None

-- the receipt ahead: the unit that its hint names, and how many the other side sent
abbrev pub awaited : (own other : ShownEnd) → Option Awaited
awaited own other = option_map (λ (hint : ℕ). record { hint = hint; sent = other.sent }) (hint_of own.ahead)

-- both sides wait
abbrev pub both_await : (own other : Option Awaited) → Option FailedCheck
both_await (Some own) (Some other) = Some (failed.NoOrder own other)
both_await (Some own) None = None
both_await None other = None

module _ (queues : Queues) where
  -- The checks of a record in their order, where these units of the other side may still come
  abbrev pub failed_ahead : ShownEnd → List WireLayersUnit → Option Record → Option FailedCheck
  failed_ahead end units None = None
  failed_ahead end units (Some r) = failed_record queues end.layers end.front units r

  abbrev pub checks_by : (own other : ShownEnd) → List WireLayersUnit → List (Option FailedCheck)
  checks_by own other units =
      failed_ahead own units own.ahead
      ∷ option_map failed.NoSuchUnit (awaited own other)
      ∷ both_await (awaited own other) (awaited other own)
      ∷ []

  -- all that may fail at a side
  abbrev pub checks_at : Side → ShownEnds → List (Option FailedCheck)
  checks_at side ends = checks_by (of_side side ends.a ends.b) (of_side (other_side side) ends.a ends.b) (to_side side ends)

  -- What is named of a verdict: of a refusal its side, and the first of these checks that is of its reason
  abbrev pub IsNamedBy : ShownEnds → Verdict → Option (Side × FailedCheck) → Type 0
  IsNamedBy ends (Accepted summary) named = named ≡ None
  IsNamedBy ends (Refused side place reason) named =
      IfSome named (λ failed. failed.0 ≡ side) × IsFirstOf reason (checks_at side ends) (option_map (λ (failed : Side × FailedCheck). failed.1) named)

  abbrev pub IsFailedIn : ShownEnds → Option (Side × FailedCheck) → Type 0
  IsFailedIn ends named = IsNamedBy ends ends.verdict named

  -- where a record is refused, one of these checks is of the reason
  abbrev pub NamesOneBy : ShownEnds → Verdict → Type 0
  NamesOneBy ends (Accepted summary) = Unit {0}
  NamesOneBy ends (Refused side place reason) = ¬ IsFirstOf reason (checks_at side ends) None

  abbrev pub NamesOne : ShownEnds → Type 0
  NamesOne ends = NamesOneBy ends ends.verdict

-- ---- of one end alone

-- what bytes that came show by themselves
abbrev pub failed_bytes : ReadingValue → Option FailedCheck
failed_bytes (Malformed departure) = Some (failed.Message (not_sound.Malformed departure))
failed_bytes (Sound (Data flags resp num body)) = failed_packet (λ packet. None) body
failed_bytes read = None

-- Of a receipt its hint, a packet that is not taken, and its bytes; of another record those of a pair, for which nothing is asked of the line
abbrev pub checks_alone : Queues → WireLayers → (front : ℕ) → Option Record → List (Option FailedCheck)
checks_alone queues s front (Some (Received hint fate bytes)) =
    Some (failed.HintOrder hint front) ∷ Some (failed.StationArrival Keep) ∷ failed_bytes (reading bytes) ∷ []
checks_alone queues s front (Some (Sent bytes)) = failed_record queues s front [] (Sent bytes) ∷ []
checks_alone queues s front (Some (Noise bytes)) = failed_record queues s front [] (Noise bytes) ∷ []
checks_alone queues s front (Some (User event)) = failed_record queues s front [] (User event) ∷ []
checks_alone queues s front None = []

abbrev pub IsFailedAlone : Queues → ShownEnd → Reason → Option FailedCheck → Type 0
IsFailedAlone queues end reason named = IsFirstOf reason (checks_alone queues end.layers end.front end.ahead) named
