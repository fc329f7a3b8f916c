-- What a unit says, as far as rows tell it.
use Rattle.ladder.specs.declared.said.Content.TheVariants as content
use Rattle.ladder.specs.declared.said.Said.{Said}
use Rattle.ladder.specs.declared.said.Said.TheVariants as said

-- the same with nothing of the packet
abbrev pub brief : Said → Said
brief (said.Data num resp packet) = said.Data num resp content.Untold
brief other = other
