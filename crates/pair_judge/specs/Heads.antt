-- The head that was read of a text, as its node has it.
use Rattle.capture.specs.SoFar.{ReadSoFar}
use Rattle.dna_station.specs.declared.head.Head.{Head}

abbrev pub head_of : ReadSoFar → Head
head_of read = record { own = read.own; peer = read.peer }
