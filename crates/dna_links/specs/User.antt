-- What the user of a node's links does, or gets (NSP 4.0, session control interface).
use Rattle.std.specs.Prelude.{ℕ, List, ◌≤◌, length}
use Rattle.capture_record.specs.declared.limit.TheConstants.{MAX_MESSAGE}
use Rattle.dna_links.specs.declared.event.LinkEvent.{LinkEvent}
use Rattle.dna_links.specs.declared.event.LinkEvent.TheVariants as rust

-- an event without where its message lies in memory
pub data LinkEventValue : Type 0 where
  Open : (link : ℕ) → LinkEventValue
  Accept : (partner link : ℕ) → LinkEventValue
  Reject : (partner link : ℕ) → LinkEventValue
  In : (link : ℕ) (message : List ℕ) → LinkEventValue
  Up : (link : ℕ) (message : List ℕ) → LinkEventValue
  Close : (link : ℕ) → LinkEventValue
  Abort : (link : ℕ) → LinkEventValue
  Boot : LinkEventValue

abbrev pub view : LinkEvent → LinkEventValue
view (rust.Open link) = Open link
view (rust.Accept partner link) = Accept partner link
view (rust.Reject partner link) = Reject partner link
view (rust.In link message) = In link message.now
view (rust.Up link message) = Up link message.now
view (rust.Close link) = Close link
view (rust.Abort link) = Abort link
view rust.Boot = Boot

-- The limits beyond those of the fields' types: addresses are from 1, and a message has a line in a capture
abbrev pub IsInRange : LinkEventValue → Type 0
IsInRange (Open link) = 1 ≤ link
IsInRange (Accept partner link) = (1 ≤ partner) × (1 ≤ link)
IsInRange (Reject partner link) = (1 ≤ partner) × (1 ≤ link)
IsInRange (In link message) = (1 ≤ link) × (length message ≤ MAX_MESSAGE)
IsInRange (Up link message) = (1 ≤ link) × (length message ≤ MAX_MESSAGE)
IsInRange (Close link) = 1 ≤ link
IsInRange (Abort link) = 1 ≤ link
IsInRange Boot = Unit {0}
