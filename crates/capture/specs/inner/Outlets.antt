-- The texts of both captures on the way to their writers.
use Rattle.std.specs.Prelude.{◌≡◌, ℕ, List, Option, Result, Ok, Err}
use Rattle.wire_base.specs.Tally.{AppendsBeginning, CountedFault}
use Rattle.wire_base.specs.declared.side.Side.{Side}
use Rattle.wire_base.specs.declared.side.Side.TheVariants.{A, B}
use Rattle.capture.specs.Paged.{HandsOver}
use Rattle.capture.specs.Passing.{AppendsSome}

-- one side's: the bytes that wait, what its writer holds, where it tells it, and how many of its calls failed
pub record Outlet : Type 0 where
  pub text : List ℕ
  pub held : Option (List ℕ)
  pub faults : ℕ

abbrev pub outlet : List ℕ → Option (List ℕ) → ℕ → Outlet
outlet text held faults = record { text = text; held = held; faults = faults }

-- the writer took the first of the bytes that waited, and no call failed
pub record Passes (old new : Outlet) : Type 0 where
  pub over : HandsOver old.text new.text old.held new.held
  pub faults : new.faults ≡ old.faults

-- the writer took some of the bytes that waited, and no call failed
pub record PassesSome (old new : Outlet) : Type 0 where
  pub some : AppendsSome old.held new.held old.text
  pub faults : new.faults ≡ old.faults

-- a call failed, and the writer took a beginning that is not all
pub record Fails (old new : Outlet) : Type 0 where
  pub some : AppendsBeginning old.held new.held old.text
  pub faults : CountedFault old.faults new.faults

-- where the writer of one side failed
abbrev pub FailsAt : Side → (old new : Outlet × Outlet) → Type 0
FailsAt A old new = Fails old.0 new.0 × PassesSome old.1 new.1
FailsAt B old new = PassesSome old.0 new.0 × Fails old.1 new.1

-- both sides', a's first
abbrev pub PassBoth : (old new : Outlet × Outlet) → Result (Unit {0}) Side → Type 0
PassBoth old new (Ok x) = Passes old.0 new.0 × Passes old.1 new.1
PassBoth old new (Err side) = FailsAt side old new
