-- What any step of a script leaves that is made, whatever the end: the one walk over all kinds of step.
use Rattle.dna_play.proofs.Prelude.{◌≡◌, ℕ, ◌+◌, ◌≤◌, Bool, true, false, cond, nat_lt, nat_le, Option, Some, None, List, [], ◌∷◌, length, Result}
use Rattle.dna_play.proofs.Prelude.{Ok, Err, refl, subst, arith, slice_get, if◌then◌else◌, ◌&&◌, length-map, MessageValue, ReadingValue, HeaderBad}
use Rattle.dna_play.proofs.Prelude.{DataBad, reading, spelling, Event, Fate, Dropped, is_met, MAX_LINK, MAX_HINT, MAX_UNIT, MAX_MESSAGE, Record}
use Rattle.dna_play.proofs.Prelude.{Sent, Noise, User, StationRefusal, user_refusal, Confirming, Disconnecting, LiveAt, CalledBy, is_calling}
use Rattle.dna_play.proofs.Prelude.{is_connected, takes_messages, StepValue, starts_now, Debt, timer_debt, LinkOwed, ConfirmDuty, DisconnectDuty}
use Rattle.dna_play.proofs.Prelude.{retried, LinkEnd, Choice, choice, link_choice, message_of, Stop, BadStep, Full, carried, is_damage, damaged}
use Rattle.dna_play.proofs.Prelude.{StoredEnd, StoredStepped, unless_refused, if_so, timed, retrying, sends_message, sends_choice, all_short}
use Rattle.dna_play.proofs.Prelude.{up_address, arrived, kept_or_not, receives, hears_as, with_next, stored_plays, is_of_line}
use Rattle.capture_record.specs.declared.event.Event.TheVariants as events
use Rattle.dna_station.specs.declared.state.StationEvent.TheVariants as station_events
use Rattle.dna_play.specs.Script as script
use Rattle.dna_play.specs.StoredStation as stations
use Rattle.dna_play.specs.StoredLinks.{answered, opened}
use Rattle.dna_play.specs.StoredPlay.{answers}
use Rattle.dna_play.proofs.{Links.Looked.looked, Played.Order.InOrder, Played.Order.ups_in_order}
use Rattle.dna_play.proofs.Links.Waiting.{NoMore, arrived_waits, begun_waits, changed_waits, choice_waits, fewer_wait, wait, waiting}

-- how many units a step takes off the line
abbrev pub off_line : StepValue → ℕ
off_line step = if is_of_line step then 1 else 0

pub one_off : (step : StepValue) → off_line step ≤ 1
one_off step = go (is_of_line step)
  where
    go : (b : Bool) → cond b 1 0 ≤ 1
    go true = omega arith
    go false = omega arith

-- a step that starts its end so often, and takes so many units off the line, leaves this
pub record LeavesSo (e : StoredEnd) (coming : List (List ℕ)) (starts units : ℕ) (made : StoredStepped) : Type 0 where
  pub order : starts ≤ 1 → InOrder e.addresses starts made.records made.end.addresses
  pub passed : made.end.passed ≡ e.passed + units
  pub there : units ≤ length coming
  -- its records, with the pieces that wait behind it, are at most two more than those that waited
  pub few : length made.records + waiting made.end.links.links ≤ waiting e.links.links + 2

abbrev pub Leaves : (e : StoredEnd) (coming : List (List ℕ)) → StepValue → StoredStepped → Type 0
Leaves e coming step made = LeavesSo e coming (starts_now step) (off_line step) made

-- ---- what is left, if anything is made

abbrev pub IfMade : {X E : Type 0} → (X → Type 0) → Result X E → Type 0
IfMade P (Ok made) = P made
IfMade P (Err stop) = Unit {0}

module _ (P : StoredStepped → Type 0) where
  pub unless_case : (o : Option StationRefusal) (next : Result StoredStepped Stop) → IfMade P next → IfMade P (unless_refused o next)
  unless_case None next p = p
  unless_case (Some refusal) next p = tt

  pub so_case : (b : Bool) (next : Result StoredStepped Stop) → IfMade P next → IfMade P (if_so b next)
  so_case true next p = p
  so_case false next p = tt

  pub test_case : (b : Bool) (next : Result StoredStepped Stop) (stop : Stop) → (b ≡ true → IfMade P next) → IfMade P (cond b next (Err stop))
  test_case true next stop p = p refl
  test_case false next stop p = tt

-- ---- the walk

module _ (e : StoredEnd) (coming : List (List ℕ)) where
  -- ---- nothing passes

  abbrev Stays : StoredStepped → Type 0
  Stays = LeavesSo e coming 0 0

  record_leaves : (starts : ℕ) (end : StoredEnd) (sent : List (List ℕ)) (r : Record) → InOrder e.addresses starts (r ∷ []) end.addresses →
      end.passed ≡ e.passed → NoMore e.links end.links → LeavesSo e coming starts 0 (record { end = end; sent = sent; records = r ∷ [] })
  record_leaves starts end sent r order same few = record { order = λ once. order; passed = omega arith; there = omega arith; few = omega arith }

  silent_leaves : (end : StoredEnd) (units : ℕ) → end.addresses ≡ e.addresses → end.passed ≡ e.passed + units → units ≤ length coming →
      NoMore e.links end.links → LeavesSo e coming 0 units (record { end = end; sent = []; records = [] })
  silent_leaves end units stays passed there few =
      record { order = λ once. record { counted = refl; rise = tt; top = omega arith }; passed = passed; there = there; few = omega arith }

  debt_leaves : (o : Option Debt) → IfMade Stays (timed e o)
  debt_leaves None = tt
  debt_leaves (Some debt) = silent_leaves _ 0 refl (omega arith) (omega arith) (omega arith)

  retry_leaves : (place : ℕ) (link : LinkEnd) (o : Option (LinkOwed → LinkOwed)) → slice_get e.links.links place ≡ Some link →
      IfMade Stays (retrying e place link o)
  retry_leaves place link None at = tt
  retry_leaves place link (Some change) at =
      silent_leaves _ 0 refl (omega arith) (omega arith) (changed_waits e.links place link _ at refl)

  message_leaves : (next : Choice) (o : Option MessageValue) → IfMade Stays (sends_message e next o)
  message_leaves next None = tt
  message_leaves next (Some m) =
      record_leaves 0 _ _ (Sent (spelling m)) (record { counted = refl; rise = tt; top = refl }) refl (choice_waits e.links next)

  choice_leaves : (o : Option Choice) → IfMade Stays (sends_choice e o)
  choice_leaves None = tt
  choice_leaves (Some next) = message_leaves next (message_of next e.head e.station.variables e.links.links)

  noise_leaves : (bytes : List ℕ) (read : ReadingValue) → IfMade Stays (hears_as e bytes read)
  noise_leaves bytes HeaderBad = record_leaves 0 _ _ (Noise bytes) (record { counted = refl; rise = tt; top = refl }) refl (omega arith)
  noise_leaves bytes DataBad = record_leaves 0 _ _ (Noise bytes) (record { counted = refl; rise = tt; top = refl }) refl (omega arith)
  noise_leaves bytes read = tt

  answer_leaves : (partner : ℕ) (change : ℕ → LinkEnd → LinkEnd) (event : ℕ → Event) →
      InOrder e.addresses 0 (User (event (e.addresses + 1)) ∷ []) (e.addresses + 1) →
      ((link : LinkEnd) → wait (change (e.addresses + 1) link) ≡ wait link) → IfMade Stays (answers e partner change event)
  answer_leaves partner change event order same = looked (IfMade Stays) (CalledBy partner) e.links (Err BadStep) _ tt (λ place link at passed.
      test_case Stays (nat_lt e.addresses MAX_LINK) _ Full (λ less. record_leaves 0 _ [] (User (event (e.addresses + 1))) order refl
      (changed_waits e.links place link _ at (same link))))

  -- ---- a unit passes

  abbrev Passes : StoredStepped → Type 0
  Passes = LeavesSo e coming 0 1

  unit_case : (next : List ℕ → Result StoredStepped Stop) → (1 ≤ length coming → (bytes : List ℕ) → IfMade Passes (next bytes)) →
      IfMade Passes (with_next coming next)
  unit_case next all = go coming (λ more. all more)
    where
      go : (line : List (List ℕ)) → (1 ≤ length line → (bytes : List ℕ) → IfMade Passes (next bytes)) → IfMade Passes (with_next line next)
      go [] all = tt
      go (bytes ∷ later) all = all (omega arith) bytes

  receives_leaves : 1 ≤ length coming → (bytes : List ℕ) (read : ReadingValue) (fate : Fate) → IfMade Passes (receives e bytes read fate)
  receives_leaves there bytes read fate =
      let message = carried (is_met fate) read in
      let address = up_address message in let messages = (arrived message e.links).messages in
      let rest = ups_in_order e.addresses address messages in let c = rest.counted in
      let n = length-map messages (λ (message : List ℕ). User (events.Up address message)) in
      let more = arrived_waits e.links message in
      test_case Passes (nat_le e.passed MAX_HINT) _ BadStep (λ hint. test_case Passes (all_short messages) _ BadStep (λ short. record {
        order = λ once. record { counted = omega arith; rise = rest.rise; top = rest.top };
        passed = refl;
        there = there;
        few = omega arith;
      }))

  -- ---- the steps

  pub plays_leave : (step : StepValue) → IfMade (Leaves e coming step) (stored_plays e coming step)
  unfolding stored_plays
  plays_leave script.Start = unless_case (LeavesSo e coming 1 0) (user_refusal e.station.variables.state station_events.Start) _
      (record_leaves 1 _ [] (User events.Start) (record { counted = refl; rise = tt; top = refl }) refl (omega arith))
  plays_leave script.Halt = record_leaves 0 _ [] (User events.Halt) (record { counted = refl; rise = tt; top = refl }) refl (omega arith)
  plays_leave script.Boot =
      record { order = λ once. absurd (omega arith); passed = omega arith; there = omega arith; few = omega arith }
  plays_leave script.Timer = debt_leaves (timer_debt e.station.variables.state e.station.variables)
  plays_leave script.Send = choice_leaves (choice e.station.variables e.station.owed (link_choice e.links.confirms e.links.links))
  plays_leave script.Deliver =
      unit_case _ (λ there bytes. receives_leaves there bytes (reading bytes) (kept_or_not (stations.keeps true (reading bytes) e.station)))
  plays_leave script.Refuse =
      unit_case _ (λ there bytes. receives_leaves there bytes (reading bytes) (kept_or_not (stations.keeps false (reading bytes) e.station)))
  plays_leave script.Drop = unit_case _ (λ there bytes.
      so_case Passes (stations.can_keep (reading bytes) e.station) _ (receives_leaves there bytes (reading bytes) Dropped))
  plays_leave script.Lose =
      unit_case _ (λ there bytes. test_case Passes (nat_le e.passed MAX_HINT) _ BadStep (λ hint. silent_leaves _ 1 refl refl there (omega arith)))
  plays_leave (script.Damage place value) = unit_case _ (λ there bytes. let hurt = damaged place value bytes in
      test_case Passes (is_damage place value bytes) _ BadStep
      (λ is. receives_leaves there hurt (reading hurt) (kept_or_not (stations.keeps true (reading hurt) e.station))))
  plays_leave (script.Noise bytes) = so_case Stays (nat_le (length bytes) MAX_UNIT) _ (noise_leaves bytes (reading bytes))
  plays_leave script.Open = test_case Stays (nat_lt e.addresses MAX_LINK) _ Full (λ less.
      record_leaves 0 _ [] (User (events.Open (e.addresses + 1))) (record { counted = refl; rise = (omega arith, tt); top = refl }) refl
      (begun_waits e.links.links (opened (e.addresses + 1)) refl))
  plays_leave (script.Accept partner) = answer_leaves partner (answered Confirming ConfirmDuty) (events.Accept partner)
      (record { counted = refl; rise = (omega arith, tt); top = refl }) (λ link. refl)
  plays_leave (script.Reject partner) = answer_leaves partner (answered Disconnecting DisconnectDuty) (events.Reject partner)
      (record { counted = refl; rise = (omega arith, tt); top = refl }) (λ link. refl)
  plays_leave (script.In own message) = looked (IfMade Stays) (LiveAt own) e.links (Err BadStep) _ tt (λ place link at passed.
      so_case Stays (takes_messages link.port.phase && nat_le (length message) MAX_MESSAGE) _
      (record_leaves 0 _ [] (User (events.In own message)) (record { counted = refl; rise = (tt, tt); top = refl }) refl
      (changed_waits e.links place link _ at refl)))
  plays_leave (script.Close own) = looked (IfMade Stays) (LiveAt own) e.links (Err BadStep) _ tt (λ place link at passed.
      so_case Stays (is_connected link.port.phase) _
      (record_leaves 0 _ [] (User (events.Close own)) (record { counted = refl; rise = (tt, tt); top = refl }) refl
      (changed_waits e.links place link _ at refl)))
  plays_leave (script.Abort own) = looked (IfMade Stays) (LiveAt own) e.links (Err BadStep) _ tt (λ place link at passed.
      so_case Stays (is_calling link.port.phase) _
      (record_leaves 0 _ [] (User (events.Abort own)) (record { counted = refl; rise = (tt, tt); top = refl }) refl
      (fewer_wait e.links.links place)))
  plays_leave (script.Retry own) = looked (IfMade Stays) (LiveAt own) e.links (Err BadStep) _ tt
      (λ place link at passed. retry_leaves place link (retried link.port.phase) at)

  pub stored_leaves : (step : StepValue) (made : StoredStepped) → stored_plays e coming step ≡ Ok made → Leaves e coming step made
  stored_leaves step made is = subst (IfMade (Leaves e coming step)) is (plays_leave step)
