use Rattle.std.proofs.Common.{◌≡◌, take}
use Rattle.clap.specs.Words.{app_of}
use Rattle.command_words.specs.Taken.{app_of_words}
use Rattle.command_words.proofs.building.command_of.Given as goal

abbrev pub invariant-loop-word : goal.invariant-loop-word
invariant-loop-word l = app_of l.command ≡ app_of_words l.program (take l.word-index l.words)
