-- The most steps of a script, as a number: of the definition, and of the code.
use Rattle.std.proofs.Common.{◌≡◌, refl}
use Rattle.dna_play.specs.ScriptText.{MAX_STEPS}
use Rattle.pair_player.specs.declared.limit.TheConstants.{MAX_STEPS as OF_CODE}

most_steps : MAX_STEPS ≡ 100000000
most_steps = refl

most_steps_of_code : OF_CODE ≡ 100000000
most_steps_of_code = refl
