-- What a step makes of an end that is in its ranges: an end that is, records that have lines, and units that do.
use Rattle.std.proofs.Common.{◌≡◌, ℕ, ◌+◌, Bool, true, false, ◌&&◌, nat_lt, nat_le, Option, Some, None, List, [], ◌∷◌, length, Result, Err}
use Rattle.std.proofs.Common.{length-set, refl, subst, arith, ltb-true, leb-true}
use Rattle.std.specs.Prelude.{slice_get}
use Rattle.std.specs.List.{AllByRecursion}
use Rattle.std.specs.Option.{IfSome}
use Rattle.std.proofs.lemmas.Bool.{and_parts}
use Rattle.ddcmp_msg.specs.Message.{MessageValue}
use Rattle.ddcmp_msg.specs.Reading.{ReadingValue, reading, HeaderBad, DataBad}
use Rattle.ddcmp_msg.specs.Spelling.{spelling}
use Rattle.capture_record.specs.declared.limit.TheConstants.{MAX_HINT, MAX_LINK, MAX_UNIT, MAX_MESSAGE}
use Rattle.capture_record.specs.declared.event.Event.{Event}
use Rattle.capture_record.specs.declared.event.Event.TheVariants as events
use Rattle.capture_record.specs.declared.fate.Fate.{Fate}
use Rattle.capture_record.specs.declared.fate.Fate.TheVariants.{Dropped}
use Rattle.capture_record.specs.Fates.{is_kept, is_met}
use Rattle.capture_record.specs.declared.record.Record.TheVariants.{Sent, Received, User}
use Rattle.capture_record.specs.declared.record.Record.TheVariants as recorded
use Rattle.capture_record.specs.Range.{IsLink, IsRecord}
use Rattle.dna_station.specs.declared.state.StationEvent.TheVariants as station_events
use Rattle.dna_links.specs.declared.port.LinkTest.TheVariants.{CalledBy, LiveAt}
use Rattle.dna_links.specs.declared.port.Phase.TheVariants.{Confirming, Disconnecting}
use Rattle.dna_station.specs.Table.{user_refusal}
use Rattle.dna_play.specs.HasLine.{are_bytes}
use Rattle.dna_links.specs.LookUps.{is_calling, is_connected, takes_messages}
use Rattle.dna_play.specs.Script.{StepValue, Start, Halt, Boot, Timer, Send, Deliver, Refuse, Drop, Lose, Damage, Noise, Open, Accept, Reject, In}
use Rattle.dna_play.specs.Script.{Close, Abort, Retry}
use Rattle.dna_play.specs.ScriptText.{NumbersFit, most_bytes, step_bytes}
use Rattle.dna_play.specs.Owed.{Debt, OwesStrt, timer_debt}
use Rattle.dna_play.specs.LinkOwed.{LinkOwed, ConfirmDuty, DisconnectDuty, retried}
use Rattle.dna_play.specs.NextSent.{Choice, LinkEnd, choice, link_choice}
use Rattle.dna_play.specs.Compose.{message_of}
use Rattle.dna_play.specs.Receipt.{carried, damaged, is_damage}
use Rattle.dna_play.specs.Stop.{Stop, BadStep, Full}
use Rattle.dna_play.specs.StoredEnd.{StoredEnd, StoredLinks, StoredStation, no_stored_links}
use Rattle.dna_play.specs.StoredLinks.{answered, begun, changed, closed, ended, handed, opened}
use Rattle.dna_play.specs.StoredStation as stations
use Rattle.dna_play.specs.StoredPlay.{StoredStepped, aborts, all_short, answers, arrived, comes, comes_damaged, closes, drops, giving, hands_in}
use Rattle.dna_play.specs.StoredPlay.{heard, hears_as, kept_or_not, stored_plays, loses, made, receives, retrying, sends_choice, sends_message}
use Rattle.dna_play.specs.StoredPlay.{silent, timed, up_address, with_links, with_next}
use Rattle.dna_play.proofs.EachElement.{without_all}
use Rattle.dna_play.proofs.Ends.UnitLines.{IsOfBytes, unit_line}
use Rattle.dna_play.proofs.Links.Looked.{looked}
use Rattle.dna_play.proofs.Played.Walk.{IfMade, so_case, test_case, unless_case}
use Rattle.dna_play.proofs.Bytes.{HasBytes, damaged_bytes}
use Rattle.pair_player.proofs.Carried.{SegmentBytes, carried_bytes}
use Rattle.pair_player.proofs.FitLinks.{AllFit, LinkFits, begins, changes, fits_at, gets, new_fits}
use Rattle.pair_player.proofs.FitStation.{StationFits, after_reading, after_sent, after_user}
use Rattle.pair_player.proofs.FitMessages.{choice_sent, message_fits}
use Rattle.pair_player.proofs.FitRecords.{EndFits, StepFits, UnitFits, lined, no_bytes, handed_link, ups_lined}

-- ---- one end

module _ (e : StoredEnd) (h : EndFits e) where
  abbrev Fits : Result StoredStepped Stop → Type 0
  Fits result = IfMade StepFits result

  -- a record of the user, behind which the links are these
  by_user : (event : Event) (station : StoredStation) (links : StoredLinks) (addresses : ℕ) → IsRecord (User event) → StationFits station.variables →
      AllFit links.links → Fits (made event (record e { station = station; links = links; addresses = addresses }))
  by_user event station links addresses line fits l = record { end = record { station = fits; links = l }; sent = tt; records = (line, tt) }

  -- no record
  by_none : (station : StoredStation) (links : StoredLinks) (passed : ℕ) → StationFits station.variables → AllFit links.links →
      Fits (silent (record e { station = station; links = links; passed = passed }))
  by_none station links passed fits l = record { end = record { station = fits; links = l }; sent = tt; records = tt }

  -- ---- the user

  -- an address that is given
  given : (next : StoredEnd → ℕ → Result StoredStepped Stop) →
      (IsLink (e.addresses + 1) → Fits (next (record e { addresses = e.addresses + 1 }) (e.addresses + 1))) → Fits (giving e next)
  given next all = test_case StepFits (nat_lt e.addresses MAX_LINK) _ Full
      (λ less. let l = ltb-true e.addresses MAX_LINK less in all (record { least = omega arith; most = omega arith }))

  -- it changes the links, and no more
  by_change : (event : Event) (place : ℕ) (after : LinkEnd) → IsRecord (User event) → LinkFits after →
      Fits (made event (with_links (changed place after e.links) e))
  by_change event place after line fits =
      by_user event e.station (changed place after e.links) e.addresses line h.station (changes e.links h.links place after fits)

  answers_fits : (partner : ℕ) (change : ℕ → LinkEnd → LinkEnd) (event : ℕ → Event) →
      ((link : LinkEnd) → IsLink (e.addresses + 1) → LinkFits link → LinkFits (change (e.addresses + 1) link)) →
      (IsLink (e.addresses + 1) → IsRecord (User (event (e.addresses + 1)))) → Fits (answers e partner change event)
  answers_fits partner change event fits line = looked Fits (CalledBy partner) e.links (Err BadStep) _ tt (λ place link at passed.
      given (λ end address. made (event address) (with_links (changed place (change address link) e.links) end)) (λ given_link.
      by_user (event (e.addresses + 1)) e.station _ (e.addresses + 1) (line given_link) h.station
      (changes e.links h.links place (change (e.addresses + 1) link) (fits link given_link (fits_at e.links h.links place link at)))))

  handed_fits : (own : ℕ) (message : List ℕ) → IsLink own → HasBytes MAX_MESSAGE message → Fits (hands_in e own message)
  handed_fits own message link bytes = looked Fits (LiveAt own) e.links (Err BadStep) _ tt (λ place found at passed.
      so_case StepFits (takes_messages found.port.phase && nat_le (length message) MAX_MESSAGE) _
      (by_change (events.In own message) place (handed message found) (lined (User (events.In own message)) link bytes)
      (handed_link message found bytes.are (fits_at e.links h.links place found at))))

  closes_fits : (own : ℕ) → IsLink own → Fits (closes e own)
  closes_fits own link = looked Fits (LiveAt own) e.links (Err BadStep) _ tt (λ place found at passed.
      so_case StepFits (is_connected found.port.phase) _
      (by_change (events.Close own) place (closed found) (lined (User (events.Close own)) link no_bytes)
      (fits_at e.links h.links place found at)))

  aborts_fits : (own : ℕ) → IsLink own → Fits (aborts e own)
  aborts_fits own link = looked Fits (LiveAt own) e.links (Err BadStep) _ tt (λ place found at passed.
      so_case StepFits (is_calling found.port.phase) _
      (by_user (events.Abort own) e.station (ended place e.links) e.addresses (lined (User (events.Abort own)) link no_bytes) h.station
      (without_all LinkFits e.links.links place h.links)))

  -- ---- timers

  timed_fits : (o : Option Debt) → Fits (timed e o)
  timed_fits None = tt
  timed_fits (Some debt) = by_none (stations.owing (Some debt) e.station) e.links e.passed h.station h.links

  retried_fits : (place : ℕ) (link : LinkEnd) (o : Option (LinkOwed → LinkOwed)) → slice_get e.links.links place ≡ Some link →
      Fits (retrying e place link o)
  retried_fits place link None at = tt
  retried_fits place link (Some change) at = by_none e.station _ e.passed h.station
      (changes e.links h.links place (record link { owed = change link.owed }) (fits_at e.links h.links place link at))

  -- ---- sending

  unit_fits : (m : MessageValue) → IsOfBytes m → UnitFits (spelling m)
  unit_fits m fits =
      let p = and_parts (are_bytes (spelling m)) (nat_le (length (spelling m)) MAX_UNIT) (unit_line m fits) in
      record { are = p.0; few = leb-true (length (spelling m)) MAX_UNIT p.1 }

  message_sent : (next : Choice) (o : Option MessageValue) → IfSome o IsOfBytes → Fits (sends_message e next o)
  message_sent next None fits = tt
  message_sent next (Some m) fits =
      let unit = unit_fits m fits in
      record {
        end = record { station = after_sent m e.station.variables fits h.station; links = choice_sent e.links h.links next };
        sent = (unit, tt);
        records = (lined (Sent (spelling m)) tt unit, tt);
      }

  chosen_sent : (o : Option Choice) → Fits (sends_choice e o)
  chosen_sent None = tt
  chosen_sent (Some next) =
      message_sent next (message_of next e.head e.station.variables e.links.links)
      (message_fits e.station.variables h.station next e.head e.links.links h.links)

  -- ---- what comes

  received_fits : (unit : List ℕ) (read : ReadingValue) (fate : Fate) → UnitFits unit → reading unit ≡ read → Fits (receives e unit read fate)
  received_fits unit read fate fits is = test_case StepFits (nat_le e.passed MAX_HINT) _ BadStep (λ hint.
      let message = carried (is_met fate) read in
      test_case StepFits (all_short (arrived message e.links).messages) _ BadStep (λ short.
      let got = gets e.links h.links message
      (subst (λ (r : ReadingValue). IfSome (carried (is_met fate) r) SegmentBytes) is (carried_bytes (is_met fate) unit fits.are)) in
      record {
        end = record { station = after_reading read (is_kept fate) e.station.variables h.station; links = got.fits };
        sent = tt;
        records = (
          lined (Received e.passed fate unit) (leb-true e.passed MAX_HINT hint) fits,
          ups_lined (up_address message) _ short got.messages,
        );
      }))

  comes_fits : (buffer : Bool) (unit : List ℕ) → UnitFits unit → Fits (comes e buffer unit)
  comes_fits buffer unit fits = received_fits unit (reading unit) (kept_or_not (stations.keeps buffer (reading unit) e.station)) fits refl

  drops_fits : (unit : List ℕ) → UnitFits unit → Fits (drops e unit)
  drops_fits unit fits =
      so_case StepFits (stations.can_keep (reading unit) e.station) _ (received_fits unit (reading unit) Dropped fits refl)

  hurt_fits : (place value : ℕ) (unit : List ℕ) → UnitFits unit → Fits (comes_damaged e place value unit)
  hurt_fits place value unit fits = test_case StepFits (is_damage place value unit) _ BadStep (λ is.
      let p = and_parts (nat_lt place (length unit)) (nat_le 1 value && nat_le value 255) is in
      let most = leb-true value 255 (and_parts (nat_le 1 value) (nat_le value 255) p.1).1 in
      let same_length : length (damaged place value unit) ≡ length unit = length-set unit place _ in
      let few = fits.few in
      comes_fits true (damaged place value unit) (record { are = damaged_bytes place value unit (omega arith) fits.are; few = omega arith }))

  heard_fits : (bytes : List ℕ) (read : ReadingValue) → UnitFits bytes → Fits (heard e bytes read)
  heard_fits bytes read fits = record {
    end = record { station = after_reading read false e.station.variables h.station; links = h.links };
    sent = tt;
    records = (lined (recorded.Noise bytes) tt fits, tt);
  }

  noise_fits : (bytes : List ℕ) → UnitFits bytes → (read : ReadingValue) → Fits (hears_as e bytes read)
  noise_fits bytes fits HeaderBad = heard_fits bytes HeaderBad fits
  noise_fits bytes fits DataBad = heard_fits bytes DataBad fits
  noise_fits bytes fits read = tt

  -- ---- the steps

  next_fits : (coming : List (List ℕ)) (next : List ℕ → Result StoredStepped Stop) → AllByRecursion UnitFits coming →
      ((unit : List ℕ) → UnitFits unit → Fits (next unit)) → Fits (with_next coming next)
  next_fits [] next units all = tt
  next_fits (unit ∷ later) next units all = all unit units.0

  module _ (coming : List (List ℕ)) (units : AllByRecursion UnitFits coming) where
    pub plays_fit : (step : StepValue) → NumbersFit step → HasBytes (most_bytes step) (step_bytes step) → Fits (stored_plays e coming step)
    unfolding stored_plays
    plays_fit Start numbers bytes = unless_case StepFits (user_refusal e.station.variables.state station_events.Start) _
        (by_user events.Start (stations.owing (Some OwesStrt) (stations.after_event station_events.Start e.station)) e.links e.addresses
        (lined (User events.Start) tt no_bytes) (after_user station_events.Start e.station.variables h.station) h.links)
    plays_fit Halt numbers bytes = by_user events.Halt (stations.after_event station_events.Halt e.station) e.links e.addresses
        (lined (User events.Halt) tt no_bytes) (after_user station_events.Halt e.station.variables h.station) h.links
    plays_fit Boot numbers bytes = by_user events.Boot (stations.after_event station_events.Halt e.station) no_stored_links 0
        (lined (User events.Boot) tt no_bytes) (after_user station_events.Halt e.station.variables h.station) tt
    plays_fit Timer numbers bytes = timed_fits (timer_debt e.station.variables.state e.station.variables)
    plays_fit Send numbers bytes = chosen_sent (choice e.station.variables e.station.owed (link_choice e.links.confirms e.links.links))
    plays_fit Deliver numbers bytes = next_fits coming (comes e true) units (comes_fits true)
    plays_fit Refuse numbers bytes = next_fits coming (comes e false) units (comes_fits false)
    plays_fit Drop numbers bytes = next_fits coming (drops e) units drops_fits
    plays_fit Lose numbers bytes = next_fits coming (λ unit. loses e) units (λ unit fits.
        test_case StepFits (nat_le e.passed MAX_HINT) _ BadStep (λ hint. by_none e.station e.links (e.passed + 1) h.station h.links))
    plays_fit (Damage place value) numbers bytes = next_fits coming (comes_damaged e place value) units (hurt_fits place value)
    plays_fit (Noise noise) numbers bytes = so_case StepFits (nat_le (length noise) MAX_UNIT) _ (noise_fits noise bytes (reading noise))
    plays_fit Open numbers bytes = given (λ end address. made (events.Open address) (with_links (begun (opened address) e.links) end)) (λ link.
        by_user (events.Open (e.addresses + 1)) e.station _ (e.addresses + 1)
        (lined (User (events.Open (e.addresses + 1))) link no_bytes) h.station
        (begins e.links h.links (opened (e.addresses + 1)) (new_fits (Some (e.addresses + 1)) link)))
    plays_fit (Accept partner) numbers bytes =
        answers_fits partner (answered Confirming ConfirmDuty) (events.Accept partner)
        (λ link given_link fits. record { own_fits = given_link; segments = fits.segments })
        (λ given_link. lined (User (events.Accept partner (e.addresses + 1))) (numbers, given_link) no_bytes)
    plays_fit (Reject partner) numbers bytes =
        answers_fits partner (answered Disconnecting DisconnectDuty) (events.Reject partner)
        (λ link given_link fits. record { own_fits = given_link; segments = fits.segments })
        (λ given_link. lined (User (events.Reject partner (e.addresses + 1))) (numbers, given_link) no_bytes)
    plays_fit (In link message) numbers bytes = handed_fits link message numbers bytes
    plays_fit (Close link) numbers bytes = closes_fits link numbers
    plays_fit (Abort link) numbers bytes = aborts_fits link numbers
    plays_fit (Retry link) numbers bytes = looked Fits (LiveAt link) e.links (Err BadStep) _ tt
        (λ place found at passed. retried_fits place found (retried found.port.phase) at)
