-- Which refusal a fault is.
use Rattle.std.specs.Prelude.{◌≡◌, Bool, true, IsOk, Result, Err}
use Rattle.dna_station.specs.declared.link_refusal.LinkRefusal.{LinkRefusal}
use Rattle.nsp_link.specs.declared.fault.LinkFault.{LinkFault}
use Rattle.nsp_link.specs.declared.fault.LinkFault.TheVariants.{Refused, OutOfMemory}

-- a call is refused by the table; only where the table allows it, and it may take memory, for want of memory
abbrev pub IsFault : {R : Type 0} → Result R LinkRefusal → (takes_memory : Bool) → LinkFault → Type 0
IsFault step takes_memory (Refused refusal) = step ≡ Err refusal
IsFault step takes_memory OutOfMemory = IsOk step × (takes_memory ≡ true)
