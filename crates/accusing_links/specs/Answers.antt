-- What is known of a side by the units that passed, and what it means that a unit is wrong.
use Rattle.std.specs.Prelude.{◌≡◌, ℕ, List}
use Rattle.capture_record.specs.declared.record.Record.{Record}
use Rattle.dna_station.specs.declared.head.Head.{Head}
use Rattle.dna_links.specs.declared.queue.Queues.{Queues}
use Rattle.accusing.specs.Placing.{Passed}
use Rattle.accusing_links.specs.Placing.{IsNodePlacing}
use Rattle.accusing_links.specs.Segments.{has}
use Rattle.accusing_links.specs.Heard.{Heard, heard}

-- No right node with this head, with queues or without, can have sent its units among these, whatever it heard of the others, whatever was lost or
-- damaged, whatever noise there was and whatever its user did
abbrev pub IsWrong : Head → List Passed → Type 0
IsWrong head passed = (queues : Queues) (records : List Record) → IsNodePlacing queues head passed records → ⊥

-- the node's addresses, and what passed of the other side: data segments, and by their links CIs, CCs and messages of RUN
pub record Sight : Type 0 where
  pub head : Head
  pub segments : List (ℕ × ℕ × ℕ)
  pub connects : List (ℕ × ℕ × ℕ)

-- by what is known
abbrev pub heard_by : Sight → Heard
heard_by sight = record { segments = has sight.segments; connects = has sight.connects }

-- these are known after these units
pub record IsAfter (sight : Sight) (passed : List Passed) : Type 0 where
  pub segments : (own far number : ℕ) → (heard_by sight).segments own far number ≡ (heard passed).segments own far number
  pub connects : (msgflg own far : ℕ) → (heard_by sight).connects msgflg own far ≡ (heard passed).connects msgflg own far
