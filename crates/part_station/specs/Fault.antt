-- What a fault says: a refusal is that of the cases, and nothing changes.
use Rattle.std.specs.Prelude.{◌≡◌, Result, Err}
use Rattle.dna_station.specs.declared.refusal.StationRefusal.{StationRefusal}
use Rattle.part_station.specs.declared.fault.PartFault.{PartFault}
use Rattle.part_station.specs.declared.fault.PartFault.TheVariants.{Refused, OutOfMemory}
use Rattle.part_station.specs.Cases.{Cases}

abbrev pub Says : PartFault → Result Cases StationRefusal → (old new : Cases) → Type 0
Says (Refused refusal) made old new = (made ≡ Err refusal) × (new ≡ old)
Says OutOfMemory made old new = Unit {0}
