-- How large numbers are, so that they fit a machine's.
use Rattle.std.specs.Prelude.{ℕ, ◌+◌, ◌<◌, ◌≤◌, Option, Some, None}
use Rattle.dna_station.specs.declared.tag.Tag.{Tag}
use Rattle.dna_station.specs.Book.{ArrivalValue, Sound, HeaderBad, DataBad, resp_of}
use Rattle.dna_station.specs.WireStation.{load}
use Rattle.part_station.specs.declared.numbers.Numbers.{Numbers}
use Rattle.part_station.specs.Open.{Open}
use Rattle.part_station.specs.Cases.{Known, Cases}

abbrev pub NextIsLow : ℕ → Option ℕ → Type 0
NextIsLow bound None = Unit {0}
NextIsLow bound (Some next) = next ≤ bound + 1

-- all are at most the bound, T one more
pub record IsLow (bound : ℕ) (n : Numbers) : Type 0 where
  pub least_acknowledged : n.least_acknowledged ≤ bound
  pub most_acknowledged : n.most_acknowledged ≤ bound
  pub least_given : n.least_given ≤ bound
  pub most_given : n.most_given ≤ bound
  pub next : NextIsLow bound n.next

abbrev pub AreLow : ℕ → Option Numbers → Type 0
AreLow bound None = Unit {0}
AreLow bound (Some n) = IsLow bound n

-- A, N and T, if there is one and they are known
abbrev pub OpenIsLow : ℕ → Option Open → Type 0
OpenIsLow bound None = Unit {0}
OpenIsLow bound (Some o) = AreLow bound o.numbers

-- its counts, if there is one
abbrev pub KnownIsLow : ℕ → Option Known → Type 0
KnownIsLow bound None = Unit {0}
KnownIsLow bound (Some w) = load w < bound

-- those of all cases
pub record AreAllLow (bound : ℕ) (c : Cases) : Type 0 where
  pub istrt : KnownIsLow bound c.istrt
  pub astrt : KnownIsLow bound c.astrt
  pub running : OpenIsLow bound c.running
  pub ahead : OpenIsLow bound c.ahead

-- RESP of what comes is a byte
abbrev pub IsByteOf : ArrivalValue Tag → Type 0
IsByteOf (Sound m tag) = resp_of m < 256
IsByteOf HeaderBad = Unit {0}
IsByteOf DataBad = Unit {0}
