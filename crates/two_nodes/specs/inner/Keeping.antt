-- A counter that keeps how often it told, and two of them seen as the counters of `Example`
use Rattle.std.specs.Prelude.{◌+◌, ◌==◌, if◌then◌else◌, ℕ, zero, suc, Result, Ok, Err, List}
use Rattle.two_nodes.specs.Cutting.{Cut}
use Rattle.two_nodes.specs.inner.Example.{Event, Fault, is_telling, unit_named}
use Rattle.two_nodes.specs.inner.Example.Event.{Count, Tell, Hear}
use Rattle.two_nodes.specs.inner.Example.Fault.{Misheard, NothingToTell}
use Rattle.two_nodes.specs.Nodes.{Answer, Nodes, World}
use Rattle.two_nodes.specs.Nodes.Answer.{Refuses, Goes, Sends, Reads}

pub record Keeper : Type 0 where
  pub count : ℕ
  pub told : ℕ

abbrev pub new_keeper : Keeper
new_keeper = record { count = 0; told = 0 }

abbrev pub keeper_heard : Keeper → ℕ → ℕ → Result Keeper Fault
keeper_heard s number unit = if unit == number then Ok (record { count = s.count + number; told = s.told }) else Err Misheard

abbrev pub keeper_told : (count told : ℕ) → Answer Keeper ℕ Fault
keeper_told zero told = Refuses NothingToTell
keeper_told (suc count) told = Sends (record { count = suc count; told = told + 1 }) (suc count)

abbrev pub keeper : Keeper → Event → Answer Keeper ℕ Fault
keeper s Count = Goes (record { count = s.count + 1; told = s.told })
keeper s Tell = keeper_told s.count s.told
keeper s (Hear k number) = Reads k (keeper_heard s number)

abbrev pub keepers : Nodes Keeper Event ℕ Fault
keepers = record { node_a = keeper; node_b = keeper; named = unit_named; sends = is_telling }

-- the others see the count alone, and each unit as it is
abbrev pub counts_of : Cut Keeper ℕ ℕ ℕ
counts_of = record { of_state = λ s. s.count; of_unit = λ unit. unit }

abbrev pub any_world : World Keeper ℕ → List Event → List Event → Type 0
any_world w made_a made_b = Unit {0}
