-- Format 1 has a line for each record of a step that needs no other format.
use Rattle.std.proofs.Common.{◌≡◌, ℕ, ◌+◌, Bool, true, false, nat_lt, nat_le, ◌&&◌, ◌||◌, Option, Some, None, List, [], ◌∷◌, length, Result, Err}
use Rattle.std.proofs.Common.{refl}
use Rattle.std.specs.List.{AllByRecursion}
use Rattle.ddcmp_msg.specs.Message.{MessageValue}
use Rattle.ddcmp_msg.specs.Reading.{ReadingValue, HeaderBad, DataBad, reading}
use Rattle.capture_record.specs.declared.event.Event.{Event}
use Rattle.capture_record.specs.declared.event.Event.TheVariants as events
use Rattle.capture_record.specs.Fates.{is_met}
use Rattle.capture.specs.declared.format.Format.TheVariants.{One}
use Rattle.capture_record.specs.declared.limit.TheConstants.{MAX_HINT, MAX_LINK, MAX_MESSAGE, MAX_UNIT}
use Rattle.capture_record.specs.declared.record.Record.TheVariants.{Received, User}
use Rattle.capture.specs.Range.{IsInFormat}
use Rattle.dna_station.specs.declared.state.StationEvent.TheVariants as station_events
use Rattle.dna_station.specs.Table.{user_refusal}
use Rattle.dna_links.specs.declared.port.LinkTest.TheVariants.{CalledBy, LiveAt}
use Rattle.dna_links.specs.LookUps.{is_connected, takes_messages}
use Rattle.dna_links.specs.declared.port.Phase.TheVariants.{Confirming, Disconnecting}
use Rattle.dna_play.specs.Script.{StepValue, ScriptStep, Start, Halt, Timer, Send, Deliver, Refuse, Lose, Damage, Noise, Open, Accept, Reject, In}
use Rattle.dna_play.specs.Script.{Close, Retry, has_of_three, is_of_three}
use Rattle.dna_play.specs.LinkOwed.{LinkOwed, ConfirmDuty, DisconnectDuty, retried}
use Rattle.dna_play.specs.NextSent.{Choice, LinkEnd, choice, link_choice}
use Rattle.dna_play.specs.Compose.{message_of}
use Rattle.dna_play.specs.Owed.{Debt, timer_debt}
use Rattle.dna_play.specs.Receipt.{carried, damaged, is_damage}
use Rattle.dna_play.specs.Stop.{Stop, BadStep, Full}
use Rattle.dna_play.specs.StoredEnd.{StoredEnd}
use Rattle.dna_play.specs.StoredLinks.{answered}
use Rattle.dna_play.specs.StoredPlay.{StoredStepped, all_short, answers, arrived, comes, comes_damaged, hears_as, kept_or_not, retrying}
use Rattle.dna_play.specs.StoredPlay.{sends_choice, sends_message, stored_plays, timed, up_address, ups, with_next}
use Rattle.dna_play.specs.StoredStation as stations
use Rattle.dna_play.proofs.Links.Looked.{looked}
use Rattle.dna_play.proofs.Played.Walk.{IfMade, so_case, test_case, unless_case}

abbrev pub InOne : StoredStepped → Type 0
InOne made = AllByRecursion (IsInFormat One) made.records

ups_one : (own : ℕ) (messages : List (List ℕ)) → AllByRecursion (IsInFormat One) (ups own messages)
ups_one own [] = tt
ups_one own (message ∷ later) = (refl, ups_one own later)

kept_one : (hint : ℕ) (kept : Bool) (bytes : List ℕ) → IsInFormat One (Received hint (kept_or_not kept) bytes)
kept_one hint true bytes = refl
kept_one hint false bytes = refl

module _ (e : StoredEnd) where
  timed_one : (o : Option Debt) → IfMade InOne (timed e o)
  timed_one None = tt
  timed_one (Some debt) = tt

  retried_one : (place : ℕ) (link : LinkEnd) (o : Option (LinkOwed → LinkOwed)) → IfMade InOne (retrying e place link o)
  retried_one place link None = tt
  retried_one place link (Some change) = tt

  message_one : (next : Choice) (o : Option MessageValue) → IfMade InOne (sends_message e next o)
  message_one next None = tt
  message_one next (Some m) = (refl, tt)

  choice_one : (o : Option Choice) → IfMade InOne (sends_choice e o)
  choice_one None = tt
  choice_one (Some next) = message_one next (message_of next e.head e.station.variables e.links.links)

  answers_one : (partner : ℕ) (change : ℕ → LinkEnd → LinkEnd) (event : ℕ → Event) → IsInFormat One (User (event (e.addresses + 1))) →
      IfMade InOne (answers e partner change event)
  answers_one partner change event is = looked (IfMade InOne) (CalledBy partner) e.links (Err BadStep) _ tt
      (λ place link at passed. test_case InOne (nat_lt e.addresses MAX_LINK) _ Full (λ less. (is, tt)))

  comes_one : (buffer : Bool) (bytes : List ℕ) → IfMade InOne (comes e buffer bytes)
  comes_one buffer bytes =
      let kept = stations.keeps buffer (reading bytes) e.station in
      let message = carried (is_met (kept_or_not kept)) (reading bytes) in
      let messages = (arrived message e.links).messages in
      test_case InOne (nat_le e.passed MAX_HINT) _ BadStep (λ hint.
      test_case InOne (all_short messages) _ BadStep
      (λ short. (kept_one e.passed kept bytes, ups_one (up_address message) messages)))

  noise_one : (bytes : List ℕ) (read : ReadingValue) → IfMade InOne (hears_as e bytes read)
  noise_one bytes HeaderBad = (refl, tt)
  noise_one bytes DataBad = (refl, tt)
  noise_one bytes read = tt

  next_one : (coming : List (List ℕ)) (next : List ℕ → Result StoredStepped Stop) → ((bytes : List ℕ) → IfMade InOne (next bytes)) →
      IfMade InOne (with_next coming next)
  next_one [] next all = tt
  next_one (bytes ∷ later) next all = all bytes

  pub plays_one : (coming : List (List ℕ)) (step : StepValue) → is_of_three step ≡ false → IfMade InOne (stored_plays e coming step)
  unfolding stored_plays
  plays_one coming Start one = unless_case InOne (user_refusal e.station.variables.state station_events.Start) _ (refl, tt)
  plays_one coming Halt one = (refl, tt)
  plays_one coming Timer one = timed_one (timer_debt e.station.variables.state e.station.variables)
  plays_one coming Send one = choice_one (choice e.station.variables e.station.owed (link_choice e.links.confirms e.links.links))
  plays_one coming Deliver one = next_one coming (comes e true) (comes_one true)
  plays_one coming Refuse one = next_one coming (comes e false) (comes_one false)
  plays_one coming Lose one = next_one coming _ (λ bytes. test_case InOne (nat_le e.passed MAX_HINT) _ BadStep (λ hint. tt))
  plays_one coming (Damage place value) one = next_one coming (comes_damaged e place value)
      (λ bytes. test_case InOne (is_damage place value bytes) _ BadStep (λ is. comes_one true (damaged place value bytes)))
  plays_one coming (Noise bytes) one = so_case InOne (nat_le (length bytes) MAX_UNIT) _ (noise_one bytes (reading bytes))
  plays_one coming Open one = test_case InOne (nat_lt e.addresses MAX_LINK) _ Full (λ less. (refl, tt))
  plays_one coming (Accept partner) one = answers_one partner (answered Confirming ConfirmDuty) (events.Accept partner) refl
  plays_one coming (Reject partner) one = answers_one partner (answered Disconnecting DisconnectDuty) (events.Reject partner) refl
  plays_one coming (In own message) one = looked (IfMade InOne) (LiveAt own) e.links (Err BadStep) _ tt (λ place link at passed.
      so_case InOne (takes_messages link.port.phase && nat_le (length message) MAX_MESSAGE) _ (refl, tt))
  plays_one coming (Close own) one = looked (IfMade InOne) (LiveAt own) e.links (Err BadStep) _ tt
      (λ place link at passed. so_case InOne (is_connected link.port.phase) _ (refl, tt))
  plays_one coming (Retry own) one = looked (IfMade InOne) (LiveAt own) e.links (Err BadStep) _ tt
      (λ place link at passed. retried_one place link (retried link.port.phase))
  plays_one coming step one = absurd cc

-- ---- steps of which none needs another

abbrev pub NeedsOne : Bool → ScriptStep → Type 0
NeedsOne three step = three ≡ false → is_of_three step.step ≡ false

-- where this tells whether any does
pub each_one : (steps : List ScriptStep) (three : Bool) → (three ≡ false → has_of_three steps ≡ false) → AllByRecursion (NeedsOne three) steps
each_one [] three none = tt
each_one (step ∷ later) three none = (
  λ e. (go (is_of_three step.step) (has_of_three later) (none e)).0,
  each_one later three (λ e. (go (is_of_three step.step) (has_of_three later) (none e)).1),
)
  where
    go : (b c : Bool) → (b || c) ≡ false → (b ≡ false) × (c ≡ false)
    go false false e = (refl, refl)
    go b c e = absurd cc
