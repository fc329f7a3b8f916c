-- One side of the judge beside the half of a run that it stands for, and what became of one record there.
use Rattle.std.specs.Prelude.{◌≡◌, ◌+◌, ◌≤◌, Bool, true, false}
use Rattle.two_nodes.specs.Nodes.{advance}
use Rattle.two_nodes.specs.Nodes as any
use Rattle.capture_record.specs.declared.record.Record.{Record}
use Rattle.capture_record.specs.declared.entry.Entry.{Entry}
use Rattle.capture_record.specs.declared.entry.Entry.TheVariants.{Sent, Received, Noise, Interrupt, Interrupted}
use Rattle.dna_station.specs.WireStation.{load}
use Rattle.pair_judge.specs.declared.line.Line.{Line}
use Rattle.pair_judge.specs.declared.end.End.{End}
use Rattle.pair_judge.specs.declared.making.Made.{Made}
use Rattle.pair_judge.specs.declared.making.Made.TheVariants.{Done, Waits, Fails}
use Rattle.pair_judge.specs.inner.Lines.{Shows}
use Rattle.pair_judge.specs.Summary.{counted}
use Rattle.pair_judge.specs.inner.Wire.{judge_step, JudgeHalf, JudgeTop}

-- an entry of the user, and not of what was sent or came
abbrev pub IsEvent : Entry → Type 0
IsEvent Sent = ⊥
IsEvent (Received fate hint) = ⊥
IsEvent Noise = ⊥
IsEvent entry = Unit {0}

-- one that is carried, and not judged
abbrev pub IsCarriedEntry : Entry → Type 0
IsCarriedEntry (Interrupt link) = Unit {0}
IsCarriedEntry (Interrupted link) = Unit {0}
IsCarriedEntry entry = ⊥

abbrev pub is_receipt : Entry → Bool
is_receipt (Received fate hint) = true
is_receipt entry = false

-- this end of the judge, with the line from the other side, stands for that half of the run
pub record StandsFor (own : End) (incoming : Line) (half : JudgeHalf) : Type 0 where
  pub head : half.state.head ≡ own.head
  pub layers : half.state.station ≡ own.layers
  pub front : half.state.front ≡ incoming.gone
  pub sent : Shows own.line half.sent

-- An end before and after one record, and the line that leads to it
pub record Move : Type 0 where
  pub old : End
  pub new : End
  pub before : Line
  pub after : Line

abbrev pub move : End → End → Line → Line → Move
move old new before after = record { old = old; new = new; before = before; after = after }

module _ (top : JudgeTop) where
  -- the record is made, and the end stands for the half after it
  pub record IsMade (m : Move) (r : Record) (own other : JudgeHalf) : Type 0 where
    pub next : JudgeHalf
    pub step_is : advance (judge_step top) own other r ≡ any.Made next
    pub stands : StandsFor m.new m.after next
    pub incoming : Shows m.after other.sent
    pub same_head : m.new.head ≡ m.old.head
    pub same_front : m.new.line.gone ≡ m.old.line.gone
    pub counts : m.new.counts ≡ counted m.old.counts r
    pub load : load m.new.layers.station ≤ load m.old.layers.station + 1

  abbrev pub MadeIs : Made → Move → Record → JudgeHalf → JudgeHalf → Type 0
  MadeIs (Done sound) m r own other = IsMade m r own other
  -- the unit that the record names is not sent yet
  MadeIs Waits m r own other = advance (judge_step top) own other r ≡ any.Waits
  MadeIs (Fails refusal) m r own other = advance (judge_step top) own other r ≡ any.Refused refusal

-- a record that waits leaves all as it was
abbrev pub LeavesWaiting : Made → Move → Type 0
LeavesWaiting (Done sound) m = Unit {0}
LeavesWaiting Waits m = (m.new ≡ m.old) × (m.after ≡ m.before)
LeavesWaiting (Fails refusal) m = Unit {0}

abbrev pub NeverWaits : Made → Type 0
NeverWaits (Done sound) = Unit {0}
NeverWaits Waits = ⊥
NeverWaits (Fails refusal) = Unit {0}

-- a fact of a record that can't be made
abbrev pub IfFails : Made → Type 0 → Type 0
IfFails (Done sound) P = Unit {0}
IfFails Waits P = Unit {0}
IfFails (Fails refusal) P = P

-- a fact of a record that is said to be made of a sound unit
abbrev pub IfSound : Made → Type 0 → Type 0
IfSound (Done sound) P = sound ≡ true → P
IfSound Waits P = Unit {0}
IfSound (Fails refusal) P = Unit {0}
