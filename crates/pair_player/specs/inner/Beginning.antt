-- What a player has before the first step of a script.
use Rattle.std.specs.Prelude.{◌≡◌, ℕ, Bool, true, false, List, Option, Result, Ok, Err}
use Rattle.capture.specs.declared.format.Format.TheVariants.{One}
use Rattle.capture.specs.Lines.{IsCutBehind}
use Rattle.capture.specs.ListReader.{ListState, Opens}
use Rattle.capture.specs.Text.{head_line}
use Rattle.dna_play.specs.StoredPlayed.{new_pair}
use Rattle.dna_play.specs.ScriptText.{script_form}
use Rattle.pair_player.specs.declared.fault.PlayFault.{PlayFault}
use Rattle.pair_player.specs.declared.fault.PlayFault.TheVariants as faults
use Rattle.capture.specs.declared.fault.CaptureFault.{CaptureFault}
use Rattle.capture.specs.declared.fault.CaptureFault.TheVariants as of_script
use Rattle.player_end.specs.declared.fault.StepFault.{StepFault}
use Rattle.player_end.specs.declared.fault.StepFault.TheVariants as stops
use Rattle.pair_player.specs.inner.Making.{Standing}
use Rattle.pair_player.specs.Playing.{HeadDepartsAt}

-- ---- faults

-- a fault of the script's reader; one that failed before is not read again
abbrev pub fault_of : CaptureFault → PlayFault
fault_of (of_script.Departs kind line) = faults.Departs kind line
fault_of of_script.Read = faults.Read
fault_of of_script.OutOfMemory = faults.OutOfMemory
fault_of of_script.Failed = faults.Read

-- why the step of a line isn't made
abbrev pub fault_at : ℕ → StepFault → PlayFault
fault_at line stops.BadStep = faults.BadStep line
fault_at line stops.Full = faults.Full line
fault_at line stops.OutOfMemory = faults.OutOfMemory

abbrev pub is_read_fault : PlayFault → Bool
is_read_fault (faults.Departs kind line) = false
is_read_fault (faults.BadStep line) = false
is_read_fault (faults.Full line) = false
is_read_fault faults.Read = true
is_read_fault (faults.Write side) = false
is_read_fault faults.OutOfMemory = false

abbrev pub is_failed_read : {A : Type 0} → Result A PlayFault → Bool
is_failed_read (Ok x) = false
is_failed_read (Err fault) = is_read_fault fault

-- ---- before the first step

-- Where a head was read: its ends are as they are before a step, and the heads of both captures wait
abbrev pub IsBegun : (text left : Option (List ℕ)) → ListState → Standing → Type 0
IsBegun text left lines at =
    Opens script_form.first_words text left (Ok lines) × (at.pair ≡ new_pair lines.node_a lines.node_b)
    × (at.a ≡ head_line One lines.node_a lines.node_b) × (at.b ≡ head_line One lines.node_b lines.node_a) × (at.three ≡ false)
    × (at.is_begun ≡ false)

-- Where no head was read: this text departs from one, or can't be read further after a piece of its first line, or there was not enough memory
abbrev pub HeadFault : (text left : Option (List ℕ)) → PlayFault → Type 0
HeadFault text left (faults.Departs kind line) = HeadDepartsAt text kind line
HeadFault text left (faults.BadStep line) = ⊥
HeadFault text left (faults.Full line) = ⊥
HeadFault text left faults.Read = IsCutBehind text left
HeadFault text left (faults.Write side) = ⊥
HeadFault text left faults.OutOfMemory = Unit {0}
