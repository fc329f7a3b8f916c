-- How the worked rows of the player are stated: a script over nodes 1.1 and 1.2, and what becomes of it, by its ends alone and with their nodes.
use Rattle.dna_rows.proofs.Prelude.{◌≡◌, ℕ, ◌+◌, ◌%◌, zero, suc, List, [], ◌∷◌, ◌++◌, Result, Ok, Err, A, B, spelling, NotKept, Kept, Dropped}
use Rattle.dna_rows.proofs.Prelude.{Record, Sent, Received, StepValue, ScriptStep, Script, Send, Deliver, Open, Accept, Reject, Stop, BadStep}
use Rattle.dna_rows.proofs.Prelude.{end_step, Played, plays_step, play, ends_of, stored_plays, StoredPlayed, stored_plays_step, stored_plays_on}
use Rattle.dna_rows.proofs.Prelude.{stored_play, Stopped, plays_all}
use Rattle.capture_record.specs.declared.record.Record.TheVariants.{Noise}
use Rattle.dna_play.specs.Script.{Start}
use Rattle.dna_rows.proofs.Units.{computing, hex}

-- what the computation of a script opens
unfoldable pub playing : Unit {0}
unfolding computing spelling end_step plays_step stored_plays stored_plays_step
playing = tt

abbrev pub a : StepValue → ScriptStep
a step = record { side = A; step = step }

abbrev pub b : StepValue → ScriptStep
b step = record { side = B; step = step }

abbrev pub script_between : (node_a node_b : ℕ) → List ScriptStep → Script
script_between node_a node_b steps = record { node_a = node_a; node_b = node_b; steps = steps }

abbrev pub script : List ScriptStep → Script
script steps = script_between 0x0401 0x0402 steps

-- ---- records, with bytes in hexadecimal

abbrev pub s : List ℕ → Record
s digits = Sent (hex digits)

abbrev pub r : ℕ → List ℕ → Record
r hint digits = Received hint NotKept (hex digits)

abbrev pub k : ℕ → List ℕ → Record
k hint digits = Received hint Kept (hex digits)

abbrev pub d : ℕ → List ℕ → Record
d hint digits = Received hint Dropped (hex digits)

abbrev pub n : List ℕ → Record
n digits = Noise (hex digits)

-- ---- what becomes of a script

-- its captures; or how many of its steps are made, why the next one is not, and the captures of those before it
pub data Becomes : Type 0 where
  Captures : (of_a of_b : List Record) → Becomes
  StopsAt : (steps : ℕ) → Stop → (of_a of_b : List Record) → Becomes

abbrev pub becomes : Result StoredPlayed (Stopped StoredPlayed) → Becomes
becomes (Ok end) = Captures end.of_a end.of_b
becomes (Err stopped) = StopsAt stopped.steps stopped.stop stopped.so_far.of_a stopped.so_far.of_b

-- what these steps add behind those
abbrev behind : Result StoredPlayed (Stopped StoredPlayed) → List ScriptStep → Result StoredPlayed (Stopped StoredPlayed)
behind (Ok end) steps = plays_all stored_plays_on 0 (record end { of_a = []; of_b = [] }) steps
behind (Err stopped) steps = Err stopped

-- the same with their nodes
abbrev behind_with_nodes : Result Played (Stopped Played) → List ScriptStep → Result Played (Stopped Played)
behind_with_nodes (Ok end) steps = plays_all plays_step 0 (record end { ends = record end.ends { of_a = []; of_b = [] } }) steps
behind_with_nodes (Err stopped) steps = Err stopped

-- ---- a row is of both

abbrev pub PlaysBetween : (node_a node_b : ℕ) → List ScriptStep → Becomes → Type 0
PlaysBetween node_a node_b steps made =
    (becomes (ends_of (play (script_between node_a node_b steps))) ≡ made) × (becomes (stored_play (script_between node_a node_b steps)) ≡ made)

abbrev pub Plays : List ScriptStep → Becomes → Type 0
Plays steps made = PlaysBetween 0x0401 0x0402 steps made

abbrev pub Adds : (first steps : List ScriptStep) → Becomes → Type 0
Adds first steps made = (becomes (ends_of (behind_with_nodes (play (script first)) steps)) ≡ made) ×
    (becomes (behind (stored_play (script first)) steps) ≡ made)

abbrev pub ASends : (first : List ScriptStep) → (digits : List ℕ) → Type 0
ASends first digits = Adds first (a Send ∷ []) (Captures (s digits ∷ []) [])

abbrev pub BSends : (first : List ScriptStep) → (digits : List ℕ) → Type 0
BSends first digits = Adds first (b Send ∷ []) (Captures [] (s digits ∷ []))

-- it sends this, and nothing behind it
abbrev pub ASendsOne : (first : List ScriptStep) → (digits : List ℕ) → Type 0
ASendsOne first digits = Adds first (a Send ∷ a Send ∷ []) (StopsAt 1 BadStep (s digits ∷ []) [])

abbrev pub BSendsOne : (first : List ScriptStep) → (digits : List ℕ) → Type 0
BSendsOne first digits = Adds first (b Send ∷ b Send ∷ []) (StopsAt 1 BadStep [] (s digits ∷ []))

-- this step can't be made behind those
abbrev pub IsBad : (first : List ScriptStep) → ScriptStep → Type 0
IsBad first step = Adds first (step ∷ []) (StopsAt 0 BadStep [] [])

-- ---- what scripts begin with

-- both stations are in RUNNING and owe nothing
abbrev pub running : List ScriptStep
running = a Start ∷ b Start ∷ a Send ∷ b Deliver ∷ b Send ∷ a Deliver ∷ a Send ∷ b Deliver ∷ []

-- a has opened link 1, and b is called
abbrev pub called : List ScriptStep
called = running ++ a Open ∷ a Send ∷ b Deliver ∷ []

-- b has accepted with link 1, and its CC is on the line; then a has it
abbrev pub accepted : List ScriptStep
accepted = called ++ b (Accept 1) ∷ b Send ∷ []

abbrev pub confirmed : List ScriptStep
confirmed = accepted ++ a Deliver ∷ []

-- both ends of the link are in RUN
abbrev pub linked : List ScriptStep
linked = confirmed ++ a Send ∷ b Deliver ∷ []

-- b has rejected with link 1, and its DI is on the line
abbrev pub rejected : List ScriptStep
rejected = called ++ b (Reject 1) ∷ b Send ∷ []

-- so many bytes, counted up from this one, and behind 250 from 0 again
abbrev pub counted : (byte count : ℕ) → List ℕ
counted byte zero = []
counted byte (suc count) = byte ∷ counted ((byte + 1) % 251) count
