-- What a contract sees of a counted reader or writer, and how a call moves the count.
use Rattle.std.specs.Prelude.{◌≡◌, ℕ, ◌+◌, ◌-◌, ◌^◌, ◌<◌, min, Bool, true, ◌&&◌, ◌==◌, nat_lt, if◌then◌else◌, ◌⊎◌, List, length, take, Option, Result}
use Rattle.std.specs.Prelude.{Ok, Err}
use Rattle.std.specs.Io.KnownBytes.{Appends}
use Rattle.wire_base.specs.declared.tally.Tally.{Tally}

-- the reader or writer that is lent
abbrev pub tally_lent : {T : Type 0} → Tally T → T
tally_lent tally = tally.lent

-- how many of its calls failed
abbrev pub tally_faults : {T : Type 0} → Tally T → ℕ
tally_faults tally = tally.faults

-- the count after a call: one more where the call failed, except that the last count of a u64 stays
abbrev pub faults_after : ℕ → Bool → ℕ
faults_after faults failed = if failed then min (faults + 1) (2 ^ 64 - 1) else faults

-- a write failed: it answered an error, or took no byte of a piece that has some
abbrev pub write_failed : {E : Type 0} → Result ℕ E → List ℕ → Bool
write_failed (Ok taken) piece = taken == 0 && nat_lt 0 (length piece)
write_failed (Err e) piece = true

-- a call failed in between: the count rose, or was already at its last value
abbrev pub CountedFault : ℕ → ℕ → Type 0
CountedFault old new = (old < new) ⊎ (old ≡ 2 ^ 64 - 1)

-- known bytes grew by a beginning of the piece that is not all of it
abbrev pub AppendsBeginning : Option (List ℕ) → Option (List ℕ) → List ℕ → Type 0
AppendsBeginning old new piece = (taken : ℕ) × (taken < length piece) × Appends old new (take taken piece)
