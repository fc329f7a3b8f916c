-- Reading the words of a script's line from left to right, with the first departure that is met.
use Rattle.std.specs.Prelude.{ℕ, if◌then◌else◌, List, codes, Option, Some, None, Result, Ok, Err}
use Rattle.std.specs.Str.{bytes_eq}
use Rattle.capture_record.specs.declared.limit.TheConstants.{MAX_HINT, MAX_LINK, MAX_UNIT}
use Rattle.capture.specs.declared.fault.Departure.{Departure}
use Rattle.capture.specs.declared.fault.Departure.TheVariants.{Syntax}
use Rattle.capture.specs.Reading.{◌>>=◌, must, after, cut_at, or_else, number_at, positive_at, bytes_at, message_at}
use Rattle.capture.specs.Sided.{side_at}
use Rattle.dna_play.specs.Script.{StepValue, ScriptStep, Start, Halt, Boot, Timer, Send, Deliver, Refuse, Drop, Lose, Damage, Noise, Open, Accept}
use Rattle.dna_play.specs.Script.{Reject, In, Close, Abort, Retry}

-- a step of one word
unfoldable pub plain_at : List ℕ → Option StepValue
plain_at text =
    if bytes_eq text (codes "start") then Some Start
    else if bytes_eq text (codes "halt") then Some Halt
    else if bytes_eq text (codes "boot") then Some Boot
    else if bytes_eq text (codes "timer") then Some Timer
    else if bytes_eq text (codes "send") then Some Send
    else if bytes_eq text (codes "deliver") then Some Deliver
    else if bytes_eq text (codes "refuse") then Some Refuse
    else if bytes_eq text (codes "drop") then Some Drop
    else if bytes_eq text (codes "lose") then Some Lose
    else if bytes_eq text (codes "open") then Some Open
    else None

-- the place of a byte, and what it is changed with
unfoldable pub damage_at : List ℕ → Result (ℕ × ℕ) Departure
damage_at text = do
  parts ← must (cut_at 32 text)
  place ← must (number_at MAX_HINT parts.0)
  value ← must (number_at MAX_HINT parts.1)
  Ok (place, value)

-- a step of a link that has no message
unfoldable pub link_step_at : List ℕ → Result StepValue Departure
link_step_at text =
    or_else (after (codes "accept ") text) (λ rest. must (positive_at MAX_LINK rest) >>= λ partner. Ok (Accept partner))
    (or_else (after (codes "reject ") text) (λ rest. must (positive_at MAX_LINK rest) >>= λ partner. Ok (Reject partner))
    (or_else (after (codes "close ") text) (λ rest. must (positive_at MAX_LINK rest) >>= λ link. Ok (Close link))
    (or_else (after (codes "abort ") text) (λ rest. must (positive_at MAX_LINK rest) >>= λ link. Ok (Abort link))
    (or_else (after (codes "retry ") text) (λ rest. must (positive_at MAX_LINK rest) >>= λ link. Ok (Retry link))
    (Err Syntax)))))

-- the line after the letter of its side
unfoldable pub step_at : List ℕ → Result StepValue Departure
step_at text =
    or_else (plain_at text) (λ step. Ok step)
    (or_else (after (codes "in ") text) (λ rest. message_at rest >>= λ m. Ok (In m.0 m.1))
    (or_else (after (codes "noise ") text) (λ rest. bytes_at MAX_UNIT rest >>= λ bytes. Ok (Noise bytes))
    (or_else (after (codes "damage ") text) (λ rest. damage_at rest >>= λ m. Ok (Damage m.0 m.1))
    (link_step_at text))))

-- a step's line
unfoldable pub line_at : List ℕ → Result ScriptStep Departure
line_at line = do
  parts ← must (side_at line)
  step ← step_at parts.1
  Ok (record { side = parts.0; step = step })
