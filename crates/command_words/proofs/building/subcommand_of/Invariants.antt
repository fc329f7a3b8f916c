use Rattle.std.proofs.Common.{◌≡◌, [], take}
use Rattle.clap.specs.Words.{app_of}
use Rattle.command_words.specs.Taken.{shape_of_parts}
use Rattle.command_words.proofs.building.subcommand_of.Given as goal

abbrev pub invariant-loop-part : goal.invariant-loop-part
invariant-loop-part l = app_of l.command ≡ record { top = shape_of_parts l.word.name.now (take l.part-index l.word.parts.now); subs = [] }
