-- The rule of each step of a script: what it asks of its end, and of the line to it. A step that breaks its rule is a bad step; one that keeps
-- it, but needs a new link address where all of the end are given, is full; every other step can be made.
use Rattle.std.specs.Prelude.{◌≡◌, ℕ, ◌<◌, ◌≤◌, ◌⊎◌, Bool, true, false, Some, List, [], ◌∷◌, ◌++◌, length, slice_get, Result, Ok, Err}
use Rattle.ddcmp_msg.specs.Reading.{reading, HeaderBad, DataBad}
use Rattle.capture_record.specs.declared.limit.TheConstants.{MAX_LINK}
use Rattle.dna_station.specs.declared.state.State.TheVariants.{Halted}
use Rattle.dna_links.specs.declared.port.Phase.{Phase}
use Rattle.dna_links.specs.declared.port.Phase.TheVariants.{Calling, Called, Confirming, Running, Disconnecting}
use Rattle.dna_play.specs.Script.{StepValue, Start, Halt, Boot, Timer, Send, Deliver, Refuse, Drop, Lose, Damage, Noise, Open, Accept, Reject, In}
use Rattle.dna_play.specs.Script.{Close, Abort, Retry, ScriptStep, Script}
use Rattle.dna_play.specs.NextSent.{LinkEnd, Choice, choice, link_choice}
use Rattle.dna_play.specs.StoredEnd.{StoredEnd}
use Rattle.dna_play.specs.StoredStation.{can_keep}
use Rattle.dna_play.specs.StoredPlayed.{StoredPair, own_side}
use Rattle.dna_play.specs.Stop.{Stop, BadStep, Full, Stopped}
use Rattle.dna_play.specs.Played.{Played}

-- ---- what a step may ask

-- the station is halted
abbrev pub IsHalted : StoredEnd → Type 0
IsHalted own = own.station.variables.state ≡ Halted

-- the end has something to send
abbrev pub HasUnit : StoredEnd → Type 0
HasUnit own = (next : Choice) × (choice own.station.variables own.station.owed (link_choice own.links.confirms own.links.links) ≡ Some next)

-- a unit is on the line to the end, and this is the next one
abbrev pub IsNext : (coming : List (List ℕ)) → List ℕ → Type 0
IsNext coming bytes = slice_get coming 0 ≡ Some bytes

abbrev pub HasNext : (coming : List (List ℕ)) → Type 0
HasNext coming = (bytes : List ℕ) × IsNext coming bytes

-- the byte lies inside the unit, and is changed
pub record IsHurt (place value : ℕ) (bytes : List ℕ) : Type 0 where
  pub inside : place < length bytes
  pub least : 1 ≤ value
  pub most : value ≤ 255

-- a block check shows that these bytes are damaged
abbrev pub IsNoise : List ℕ → Type 0
IsNoise bytes = (reading bytes ≡ HeaderBad) ⊎ (reading bytes ≡ DataBad)

abbrev pub IsOneOf : List Phase → Phase → Type 0
IsOneOf [] phase = ⊥
IsOneOf (one ∷ others) phase = (phase ≡ one) ⊎ IsOneOf others phase

-- a link of the end has this address, and is in one of these phases
pub record HasLink (own : StoredEnd) (address : ℕ) (phases : List Phase) : Type 0 where
  pub place : ℕ
  pub link : LinkEnd
  pub there : slice_get own.links.links place ≡ Some link
  pub owns : link.port.own ≡ Some address
  pub phase : IsOneOf phases link.port.phase

-- a link of the end in Called has this far address
pub record IsCalled (own : StoredEnd) (partner : ℕ) : Type 0 where
  pub place : ℕ
  pub link : LinkEnd
  pub there : slice_get own.links.links place ≡ Some link
  pub far : link.port.far ≡ Some partner
  pub phase : link.port.phase ≡ Called

-- ---- the rule of each step

abbrev pub Asks : StoredEnd → (coming : List (List ℕ)) → StepValue → Type 0
-- start: in HALTED; halt and boot: always; timer: not in HALTED
Asks own coming Start = IsHalted own
Asks own coming Halt = Unit {0}
Asks own coming Boot = Unit {0}
Asks own coming Timer = ¬ (IsHalted own)
-- send: something to send
Asks own coming Send = HasUnit own
-- the line: a unit on it; drop: one whose packet can be taken
Asks own coming Deliver = HasNext coming
Asks own coming Refuse = HasNext coming
Asks own coming Drop = (bytes : List ℕ) × IsNext coming bytes × (can_keep (reading bytes) own.station ≡ true)
Asks own coming Lose = HasNext coming
Asks own coming (Damage place value) = (bytes : List ℕ) × IsNext coming bytes × IsHurt place value bytes
-- noise: bytes that are damaged
Asks own coming (Noise bytes) = IsNoise bytes
-- the links
Asks own coming Open = Unit {0}
Asks own coming (Accept partner) = IsCalled own partner
Asks own coming (Reject partner) = IsCalled own partner
Asks own coming (In link message) = HasLink own link (Calling ∷ Confirming ∷ Running ∷ [])
Asks own coming (Close link) = HasLink own link (Confirming ∷ Running ∷ [])
Asks own coming (Abort link) = HasLink own link (Calling ∷ [])
Asks own coming (Retry link) = HasLink own link (Calling ∷ Confirming ∷ Disconnecting ∷ Running ∷ [])

-- whether it gives a link its address
abbrev pub gives_address : StepValue → Bool
gives_address Open = true
gives_address (Accept partner) = true
gives_address (Reject partner) = true
gives_address step = false

-- it needs one, and all 65,535 are given
pub record IsFull (own : StoredEnd) (step : StepValue) : Type 0 where
  pub gives : gives_address step ≡ true
  pub used : MAX_LINK ≤ own.addresses

-- what comes of a step goes by its rule
abbrev pub GoesByRule : {X : Type 0} → StoredEnd → (coming : List (List ℕ)) → StepValue → Result X Stop → Type 0
GoesByRule own coming step (Ok made) = Asks own coming step × ¬ (IsFull own step)
GoesByRule own coming step (Err BadStep) = ¬ (Asks own coming step)
GoesByRule own coming step (Err Full) = Asks own coming step × IsFull own step

-- ---- in a script

-- of the end that the step is of, beside the line to it
abbrev pub StepsByRule : {X : Type 0} → StoredPair → ScriptStep → Result X Stop → Type 0
StepsByRule pair step result = let own = own_side step.side pair in GoesByRule own.end own.coming step.step result

-- a script with one step more
abbrev pub and_then : Script → ScriptStep → Script
and_then script step = record script { steps = script.steps ++ step ∷ [] }

-- the step that stops a script is the one after those that were made, and stops it by its rule
pub record StopsByRule (script : Script) (stopped : Stopped Played) : Type 0 where
  pub step : ScriptStep
  pub there : slice_get script.steps stopped.steps ≡ Some step
  pub rule : StepsByRule {X = Played} stopped.so_far.ends.pair step (Err stopped.stop)
