-- A script: the addresses of both nodes, and what each end of the line does, step by step. What a step makes of its end is in `StoredPlay`.
use Rattle.std.specs.Prelude.{ℕ, Bool, true, false, ◌||◌, if◌then◌else◌, List, [], ◌∷◌}
use Rattle.wire_base.specs.declared.side.Side.{Side}
use Rattle.capture.specs.declared.format.Format.{Format}
use Rattle.capture.specs.declared.format.Format.TheVariants.{One, Three}

-- a step without where its message lies in memory
pub data StepValue : Type 0 where
  -- the user starts the station, or halts it
  Start : StepValue
  Halt : StepValue
  -- the node starts anew
  Boot : StepValue
  -- the station's timer runs out
  Timer : StepValue
  -- the end sends one unit
  Send : StepValue
  -- the next unit on the line comes; no buffer is there for its packet; its packet is kept, and lost before the links; the unit is lost; it comes
  -- with this byte, counted from 0, changed by exclusive or with that value
  Deliver : StepValue
  Refuse : StepValue
  Drop : StepValue
  Lose : StepValue
  Damage : (place value : ℕ) → StepValue
  -- bytes come that nobody sent; the next unit stays on the line
  Noise : (bytes : List ℕ) → StepValue
  -- the user opens a link; accepts or rejects the call of the other side's link; hands a message in; closes a link; gives its own call up
  Open : StepValue
  Accept : (partner : ℕ) → StepValue
  Reject : (partner : ℕ) → StepValue
  In : (link : ℕ) (message : List ℕ) → StepValue
  Close : (link : ℕ) → StepValue
  Abort : (link : ℕ) → StepValue
  -- the link's timer runs out
  Retry : (link : ℕ) → StepValue

pub record ScriptStep : Type 0 where
  pub side : Side
  pub step : StepValue

pub record Script : Type 0 where
  pub node_a : ℕ
  pub node_b : ℕ
  pub steps : List ScriptStep

-- ---- the format of the captures

-- whether formats 1 and 2 have no line for the record of a step
abbrev pub is_of_three : StepValue → Bool
is_of_three Boot = true
is_of_three Drop = true
is_of_three (Abort link) = true
is_of_three step = false

abbrev pub has_of_three : List ScriptStep → Bool
has_of_three [] = false
has_of_three (step ∷ later) = is_of_three step.step || has_of_three later

-- format 1, where it has a line for each record
abbrev pub format_of : List ScriptStep → Format
format_of steps = if has_of_three steps then Three else One
