-- The text of a script, and how a text departs from it. Lines, numbers, addresses and BYTES are those of a capture.
use Rattle.std.specs.Prelude.{◌≡◌, ℕ, ◌≤◌, List, [], ◌++◌, codes, length}
use Rattle.std.specs.Fmt.{decimal}
use Rattle.ddcmp_msg.specs.Message.{IsBytes}
use Rattle.wire_base.specs.Side.{side_letter}
use Rattle.capture_record.specs.declared.limit.TheConstants.{MAX_HINT, MAX_UNIT, MAX_MESSAGE}
use Rattle.capture.specs.declared.fault.Departure.{Departure}
use Rattle.capture.specs.declared.fault.Departure.TheVariants.{Syntax, TooLong, TooMany, Part}
use Rattle.capture.specs.Text.{bytes_text, spaced}
use Rattle.capture_record.specs.Range.{IsLink}
use Rattle.capture.specs.Listed.{Listed, ListForm, item_line, IsList, BeginsWithList, ItemDeparts, ListHeadDeparts}
use Rattle.dna_play.specs.Script.{StepValue, ScriptStep, Script, Start, Halt, Boot, Timer, Send, Deliver, Refuse, Drop, Lose, Damage, Noise, Open}
use Rattle.dna_play.specs.Script.{Accept, Reject, In, Close, Abort, Retry}

-- how many steps a script may have
abbrev pub MAX_STEPS : ℕ
MAX_STEPS = 100000000

-- ---- steps

-- the line after the letter of its side
abbrev pub step_text : StepValue → List ℕ
step_text Start = codes "start"
step_text Halt = codes "halt"
step_text Boot = codes "boot"
step_text Timer = codes "timer"
step_text Send = codes "send"
step_text Deliver = codes "deliver"
step_text Refuse = codes "refuse"
step_text Drop = codes "drop"
step_text Lose = codes "lose"
step_text (Damage place value) = codes "damage " ++ spaced (decimal place) (decimal value)
step_text (Noise bytes) = codes "noise " ++ bytes_text bytes
step_text Open = codes "open"
step_text (Accept partner) = codes "accept " ++ decimal partner
step_text (Reject partner) = codes "reject " ++ decimal partner
step_text (In link message) = codes "in " ++ spaced (decimal link) (bytes_text message)
step_text (Close link) = codes "close " ++ decimal link
step_text (Abort link) = codes "abort " ++ decimal link
step_text (Retry link) = codes "retry " ++ decimal link

-- a step's line, without its LF
abbrev pub line_text : ScriptStep → List ℕ
line_text step = spaced (side_letter step.side) (step_text step.step)

-- ---- the ranges

-- the numbers of a step are in their ranges
abbrev pub NumbersFit : StepValue → Type 0
NumbersFit (Damage place value) = (place ≤ MAX_HINT) × (value ≤ MAX_HINT)
NumbersFit (Accept partner) = IsLink partner
NumbersFit (Reject partner) = IsLink partner
NumbersFit (In link message) = IsLink link
NumbersFit (Close link) = IsLink link
NumbersFit (Abort link) = IsLink link
NumbersFit (Retry link) = IsLink link
NumbersFit step = Unit {0}

-- the noise or the message of a step
abbrev pub step_bytes : StepValue → List ℕ
step_bytes (Noise bytes) = bytes
step_bytes (In link message) = message
step_bytes step = []

-- how many bytes the line of a step may hold
abbrev pub most_bytes : StepValue → ℕ
most_bytes (Noise bytes) = MAX_UNIT
most_bytes step = MAX_MESSAGE

-- a step that a line could spell, were BYTES of any length allowed
pub record HasSpelling (step : ScriptStep) : Type 0 where
  pub numbers : NumbersFit step.step
  pub bytes : IsBytes (step_bytes step.step)

-- its BYTES is no longer than allowed
abbrev pub IsShort : ScriptStep → Type 0
IsShort step = length (step_bytes step.step) ≤ most_bytes step.step

-- a step that has a line
pub record IsStep (step : ScriptStep) : Type 0 where
  pub spelling : HasSpelling step
  pub short : IsShort step

-- ---- departures

-- The words of a line depart: they are no step's, of any length of BYTES; or they are a step's, except that BYTES is too long
abbrev pub WordsDepart : Departure → List ℕ → Type 0
WordsDepart TooMany line = ⊥
WordsDepart TooLong line = (step : ScriptStep) × HasSpelling step × ¬ (IsShort step) × (line ≡ line_text step)
WordsDepart Syntax line = (step : ScriptStep) → HasSpelling step → line ≡ line_text step → ⊥
WordsDepart Part line = ⊥

-- ---- the text

abbrev pub script_form : ListForm ScriptStep
script_form = record {
  first_words = codes "ddplay 1 ";
  line = line_text;
  HasLine = IsStep;
  most = MAX_STEPS;
  WordsDepart = WordsDepart;
}

-- its steps are the items
abbrev pub listed : Script → Listed ScriptStep
listed script = record { node_a = script.node_a; node_b = script.node_b; items = script.steps }

abbrev pub script_line : ScriptStep → List ℕ
script_line step = item_line script_form step

-- addresses and steps that a text may hold
abbrev pub IsScript : Script → Type 0
IsScript script = IsList script_form (listed script)

-- the text begins with this script, and goes on with these bytes
abbrev pub BeginsWithScript : (text : List ℕ) (script : Script) (rest : List ℕ) → Type 0
BeginsWithScript text script rest = BeginsWithList script_form text (listed script) rest

abbrev pub IsScriptText : Script → List ℕ → Type 0
IsScriptText script text = BeginsWithScript text script []

-- The first line of what is to come departs, after this many steps
abbrev pub StepDeparts : ℕ → Departure → List ℕ → Type 0
StepDeparts steps kind bytes = ItemDeparts script_form steps kind bytes

-- The first line of a text departs from a head
abbrev pub ScriptHeadDeparts : Departure → List ℕ → Type 0
ScriptHeadDeparts kind text = ListHeadDeparts script_form.first_words kind text
