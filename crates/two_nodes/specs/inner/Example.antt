-- A pair of nodes to try the laws on: each counts, tells the other its count, and adds what it hears
use Rattle.std.specs.Prelude.{◌≤◌, ◌+◌, ◌==◌, if◌then◌else◌, ℕ, zero, suc, Bool, true, false, Option, Some, None, Result, Ok, Err, List, length, refl}
use Rattle.two_nodes.specs.Nodes.{Answer, Nodes, World}
use Rattle.two_nodes.specs.Nodes.Answer.{Refuses, Goes, Sends, Reads}
use Rattle.two_nodes.specs.Past.{BothTell, Tells}

-- What a counter may do. It hears unit k of the other side as this number
pub data Event : Type 0 where
  Count : Event
  Tell : Event
  Hear : (k : ℕ) → (number : ℕ) → Event

-- Why it may not: the unit is another number, or it tells before it has counted
pub data Fault : Type 0 where
  Misheard : Fault
  NothingToTell : Fault

abbrev pub heard : ℕ → ℕ → ℕ → Result ℕ Fault
heard count number unit = if unit == number then Ok (count + number) else Err Misheard

abbrev pub told : ℕ → Answer ℕ ℕ Fault
told zero = Refuses NothingToTell
told (suc count) = Sends (suc count) (suc count)

abbrev pub counter : ℕ → Event → Answer ℕ ℕ Fault
counter count Count = Goes (count + 1)
counter count Tell = told count
counter count (Hear k number) = Reads k (heard count number)

abbrev pub unit_named : Event → Option ℕ
unit_named Count = None
unit_named Tell = None
unit_named (Hear k number) = Some k

abbrev pub is_telling : Event → Bool
is_telling Count = false
is_telling Tell = true
is_telling (Hear k number) = false

abbrev pub counters : Nodes ℕ Event ℕ Fault
counters = record { node_a = counter; node_b = counter; named = unit_named; sends = is_telling }

pub counter_tells : Tells counter unit_named is_telling
counter_tells count Count = (refl, refl)
counter_tells zero Tell = refl
counter_tells (suc count) Tell = (refl, refl)
counter_tells count (Hear k number) = (refl, refl)

pub counters_tell : BothTell counters
counters_tell = record { of_a = counter_tells; of_b = counter_tells }

-- A side has sent no more units than it made records
pub record SentWithin (w : World ℕ ℕ) (made_a made_b : List Event) : Type 0 where
  pub of_a : length w.a.sent ≤ length made_a
  pub of_b : length w.b.sent ≤ length made_b
