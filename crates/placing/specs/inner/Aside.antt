-- Lines of no unit.
use Rattle.capture_record.specs.declared.entry.Entry.{Entry}
use Rattle.capture_record.specs.declared.entry.Entry.TheVariants.{Sent, Received, Noise, Start, Halt, Open, Accept, Reject, In, Up, Close, Boot}
use Rattle.capture_record.specs.declared.entry.Entry.TheVariants.{Abort, Composed, Interrupt, Interrupted}

-- it says of no unit that it was sent or came
abbrev pub IsOfNoUnit : Entry → Type 0
IsOfNoUnit Sent = ⊥
IsOfNoUnit (Received fate hint) = ⊥
IsOfNoUnit Noise = Unit {0}
IsOfNoUnit Start = Unit {0}
IsOfNoUnit Halt = Unit {0}
IsOfNoUnit (Open link) = Unit {0}
IsOfNoUnit (Accept partner link) = Unit {0}
IsOfNoUnit (Reject partner link) = Unit {0}
IsOfNoUnit (In link) = Unit {0}
IsOfNoUnit (Up link) = Unit {0}
IsOfNoUnit (Close link) = Unit {0}
IsOfNoUnit Boot = Unit {0}
IsOfNoUnit (Abort link) = Unit {0}
IsOfNoUnit Composed = Unit {0}
IsOfNoUnit (Interrupt link) = Unit {0}
IsOfNoUnit (Interrupted link) = Unit {0}
