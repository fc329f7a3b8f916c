-- What a fault of writing a line says; without one no call failed.
use Rattle.std.specs.Prelude.{◌≡◌, ℕ, List, Option, Result, Ok, Err}
use Rattle.std.specs.Io.KnownBytes.{Keeps}
use Rattle.wire_base.specs.Tally.{AppendsBeginning, CountedFault}
use Rattle.capture.specs.declared.fault.WriteFault.{WriteFault}
use Rattle.capture.specs.declared.fault.WriteFault.TheVariants.{Write, OutOfMemory}

-- After `Write` the writer has a beginning of the line that is not all of it, and its count rose, or was already
-- at its last value. After `OutOfMemory` it has what it had, and its count is the same.
abbrev pub FaultMeans : Option (List ℕ) → Option (List ℕ) → ℕ → ℕ → List ℕ → WriteFault → Type 0
FaultMeans old new faults faults' line Write = AppendsBeginning old new line × CountedFault faults faults'
FaultMeans old new faults faults' line OutOfMemory = Keeps old new × (faults' ≡ faults)

abbrev pub WriteMeans : {A : Type 0} → Option (List ℕ) → Option (List ℕ) → ℕ → ℕ → List ℕ → Result A WriteFault → Type 0
WriteMeans old new faults faults' line (Ok x) = faults' ≡ faults
WriteMeans old new faults faults' line (Err fault) = FaultMeans old new faults faults' line fault
