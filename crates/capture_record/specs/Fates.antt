-- What became of the packet in a unit that came.
use Rattle.std.specs.Prelude.{Bool, true, false}
use Rattle.capture_record.specs.declared.fate.Fate.{Fate}
use Rattle.capture_record.specs.declared.fate.Fate.TheVariants.{NotKept, Kept, Dropped}

-- the station kept it
abbrev pub is_kept : Fate → Bool
is_kept NotKept = false
is_kept Kept = true
is_kept Dropped = true

-- the links met it
abbrev pub is_met : Fate → Bool
is_met NotKept = false
is_met Kept = true
is_met Dropped = false
